-- Whether a prim is active.
-- docs/COMPOSITION.md, 'Names and fields'.
use Rattle.std.specs.Prelude.{codes, Bool, true, false, List, []}
use Rattle.spec_properties.specs.Entries.{MetaEntries}
use Rattle.composition.specs.Fields.{is_inactive}
use Rattle.composition.specs.Opinions.{Said}
use Rattle.composition.specs.Texts.{Text}
use Rattle.field_resolve.specs.Folding.{meta_on, children_on}

-- the key of the metadata that can make a prim inactive
unfoldable pub active_key : Text
active_key = codes "active"

-- the metadata says `active = false`
unfoldable pub says_inactive : MetaEntries → Bool
says_inactive meta = is_inactive meta

-- the names of children, unless the prim is inactive
abbrev pub unless_inactive : Bool → List Text → List Text
unless_inactive true names = []
unless_inactive false names = names

-- the names of children that opinions give; none of a prim that is not active
abbrev pub active_names : List Said → List Text
active_names said = unless_inactive (says_inactive (meta_on said)) (children_on said)
