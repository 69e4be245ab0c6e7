-- The innermost owner is over: its spec stands in the table, and the owner round it is the innermost.
use Rattle.std.proofs.Common.{◌≡◌, ap, List, Option, Some}
use Rattle.plain_data.specs.Ends.{last, front}
use Rattle.sdf_paths.specs.declared.element.Element.{Element}
use Rattle.sdf_specs.specs.Layers.{SpecEntries}
use Rattle.usda_drafts.specs.Closed.{with_spec_at}
use Rattle.usda_drafts.specs.Owners.{spec_of}
use Rattle.usda_drafts.specs.Prims.{left, left_for}
use Rattle.usda_drafts.specs.declared.draft.Draft.{Draft}
use Rattle.usda_drafts.specs.declared.owner.Owner.{Owner}

pub left_is : (d : Draft) (outer round inner : Owner) (rest : List Owner) (specs : SpecEntries) (path : List Element) → Some outer ≡ last d.outer → rest ≡ front d.outer → inner ≡ d.owner → round ≡ outer
    → path ≡ d.owner.said.path → specs ≡ with_spec_at path (spec_of inner) d.specs → record d { specs = specs; owner = round; outer = rest } ≡ left d
unfolding left
left_is d outer round inner rest specs path some less over next at put = rw (put, at, over, next, less) (ap (λ (o : Option Owner). left_for o d) some)
