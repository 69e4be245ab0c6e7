-- Where a draft stands between two statements: what was read so far, without what the next words write anew.
use Rattle.std.specs.Prelude.{◌≡◌, Bool, false, List}
use Rattle.sdf_specs.specs.Layers.{SpecEntries}
use Rattle.spec_parts.specs.declared.items.SubLayer.{SubLayer}
use Rattle.usda_fields.specs.declared.owner.OwnerDraft.{OwnerDraft}
use Rattle.usda_statements.specs.OpenValues.{is_open}
use Rattle.usda_statements.specs.PropertyDrafts.{no_property}
use Rattle.usda_drafts.specs.declared.draft.Draft.{Draft}
use Rattle.usda_drafts.specs.declared.owner.Owner.{Owner}

-- the prims that are closed, the owners that are open, and the sublayers
pub record Standing : Type 0 where
  pub specs : SpecEntries
  pub owner : Owner
  pub outer : List Owner
  pub sublayers : List SubLayer
  pub has_sublayers : Bool

-- where a draft stands
abbrev pub standing_of : Draft → Standing
standing_of d = record { specs = d.specs; owner = d.owner; outer = d.outer; sublayers = d.sublayers; has_sublayers = d.has_sublayers }

-- the same with this said of the innermost owner
abbrev pub saying : OwnerDraft → Standing → Standing
saying said s = record s { owner = record s.owner { said = said } }

-- A draft that stands there: no value is open and no property in hand, and the prim that began last is not too deep.
pub record IsAt (s : Standing) (d : Draft) : Type 0 where
  pub stands : standing_of d ≡ s
  pub free : d.property ≡ no_property
  pub shut : is_open d.value ≡ false
  pub shallow : d.opening.is_too_deep ≡ false
