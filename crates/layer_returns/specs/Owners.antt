-- What an owner says behind its statements.
use Rattle.std.specs.Prelude.{◌≡◌, ℕ, suc, true, List, Option, is_some}
use Rattle.sdf_paths.specs.declared.element.Element.{Element}
use Rattle.sdf_paths.specs.declared.element.Element.TheVariants.{Prim, Selection}
use Rattle.sdf_specs.specs.Layers.{SpecEntries}
use Rattle.spec_parts.specs.declared.items.VariantSet.{VariantSet}
use Rattle.spec_parts.specs.declared.items.Specifier.{Specifier}
use Rattle.spec_parts.specs.declared.spec.Spec.{Spec}
use Rattle.usda_writer.specs.Canonical.{spec_below}
use Rattle.usda_drafts.specs.Owners.{spec_of}
use Rattle.usda_drafts.specs.declared.owner.Owner.{Owner}
use Rattle.layer_reads.specs.Standing.{Standing}
use Rattle.layer_reads.specs.Bodies.{inside}
use Rattle.value_texts.specs.Each.{AreAll}
use Rattle.layer_returns.specs.Trees.{behind_body}

-- each variant of the set has a spec below this path
abbrev pub HasVariants : SpecEntries → List Element → VariantSet → Type 0
HasVariants specs path s = AreAll (λ name. is_some (spec_below specs path (Selection s.set name)) ≡ true) s.variants

-- each child and each variant that the spec names has a spec
pub record HasAllBelow (specs : SpecEntries) (path : List Element) (spec : Spec) : Type 0 where
  pub children : AreAll (λ name. is_some (spec_below specs path (Prim name)) ≡ true) spec.body.children
  pub variants : AreAll (HasVariants specs path) spec.body.variant_names

-- An owner that began with a spec's specifier, type and metadata says the spec behind its statements.
abbrev pub OwnersSay : Type 0
OwnersSay =
    (specs : SpecEntries) (levels : ℕ) (path : List Element) (specifier : Specifier) (ty : Option (List ℕ)) (spec : Spec) (round : Owner) (at : Standing) → specifier ≡ spec.body.specifier → ty ≡ spec.body.type_name
    → HasAllBelow specs path spec → spec_of (behind_body specs (suc levels) path specifier spec (inside path specifier ty spec round at)).owner ≡ spec
