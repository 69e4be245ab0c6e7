-- Statements of a prim, a variant or a layer, one behind the other.
use Rattle.std.specs.Prelude.{◌≡◌, ℕ, Bool, true, false, List, [], ◌∷◌, ◌++◌, codes, Option, Some, None, Ok}
use Rattle.std.specs.Str.{is_utf8}
use Rattle.sdf_paths.specs.declared.element.Element.{Element}
use Rattle.sdf_paths.specs.Paths.{plain}
use Rattle.spec_parts.specs.declared.items.Specifier.{Specifier}
use Rattle.spec_parts.specs.declared.items.Specifier.TheVariants.{Over}
use Rattle.spec_parts.specs.declared.spec.Spec.{Spec}
use Rattle.usd_names.specs.Names.{is_identifier, is_variant}
use Rattle.usda_fields.specs.declared.owner.OrderWord.{OrderWord}
use Rattle.usda_fields.specs.declared.owner.OrderWord.TheVariants.{NameChildren, PropertyNames}
use Rattle.usda_fields.specs.declared.owner.OwnerDraft.{OwnerDraft}
use Rattle.usda_grammar.specs.declared.symbols.Symbol.{Symbol}
use Rattle.usda_grammar.specs.declared.symbols.Symbol.TheVariants as symbol
use Rattle.usda_statements.specs.OpenValues.{is_open}
use Rattle.usda_drafts.specs.Closed.{is_closed, with_closed}
use Rattle.usda_drafts.specs.Owners.{owner_of, with_child, with_variant, with_set, has_set}
use Rattle.usda_drafts.specs.Places.{prim_place, variant_place}
use Rattle.usda_drafts.specs.Prims.{with_statement_over}
use Rattle.usda_drafts.specs.declared.draft.Draft.{Draft}
use Rattle.usda_drafts.specs.declared.owner.Owner.{Owner}
use Rattle.value_texts.specs.Cuts.{Said}
use Rattle.value_texts.specs.ValueWords.{close_brace}
use Rattle.value_texts.specs.Each.{AreAll}
use Rattle.layer_texts.specs.LayerWords.{order_words, prim_head_words, variant_head_words, set_head_words}
use Rattle.layer_reads.specs.Items.{AreItems}
use Rattle.layer_reads.specs.Kept.{has_items}
use Rattle.layer_reads.specs.Specs.{IsSpecKept, behind_metadata}
use Rattle.layer_reads.specs.Standing.{Standing, standing_of, saying, IsAt}

-- a draft that stands there between two statements, once the property in hand has gone to its owner
pub record Rests (s : Standing) (d : Draft) : Type 0 where
  pub stands : standing_of (with_statement_over d) ≡ s
  pub shut : is_open d.value ≡ false
  pub shallow : d.opening.is_too_deep ≡ false

-- ---- orders of children and of properties

-- the word of an order
abbrev pub order_name : OrderWord → List ℕ
order_name NameChildren = codes "nameChildren"
order_name PropertyNames = codes "properties"

-- an owner with this order, where `given` tells whether it was said
abbrev pub with_order : OrderWord → List (List ℕ) → Bool → OwnerDraft → OwnerDraft
with_order NameChildren names given s = record s { spec = record s.spec { body = record s.spec.body { child_order = names } }; given = record s.given { child_order = given } }
with_order PropertyNames names given s = record s { spec = record s.spec { body = record s.spec.body { property_order = names } }; given = record s.given { property_order = given } }

-- The words of an order make an owner, of which none is said yet, say it; the order of the root prims is that of the layer's children.
pub record AreOrdersRead : Type 0 where
  pub body : (word : OrderWord) (names : List (List ℕ)) (s : OwnerDraft) (at : Standing) → AreAll (λ t. is_utf8 t ≡ true) names
      → AreItems symbol.PrimBody (order_words (order_name word) names) (Rests (saying (with_order word [] false s) at)) (Rests (saying (with_order word names (has_items names) s) at))
  pub layer : (names : List (List ℕ)) (s : OwnerDraft) (at : Standing) → AreAll (λ t. is_utf8 t ≡ true) names
      → AreItems symbol.RootStatements (order_words (codes "rootPrims") names) (IsAt (saying (with_order NameChildren [] false s) at)) (IsAt (saying (with_order NameChildren names (has_items names) s) at))

-- ---- prims

-- a prim may stand below the innermost owner: its name is one, its path is within the limits, and no spec is there
pub record IsPrimPlace (name : List ℕ) (path : List Element) (at : Standing) : Type 0 where
  pub utf8 : is_utf8 name ≡ true
  pub named : is_identifier name ≡ true
  pub place : prim_place at.owner.said.path name ≡ Ok (Some path)
  pub free : is_closed path at.specs ≡ false

-- inside a prim or a variant of which only the metadata was read, where `owner` is the owner round it from now on
abbrev pub inside : List Element → Specifier → Option (List ℕ) → Spec → Owner → Standing → Standing
inside path specifier type_name spec owner at = record at { owner = record (owner_of path specifier type_name) { said = behind_metadata path specifier spec }; outer = at.outer ++ owner ∷ [] }

-- the same once it is closed
abbrev pub closed : Owner → Standing → Standing → Standing
closed owner at done = record done { specs = with_closed done.owner done.specs; owner = owner; outer = at.outer }

-- A prim with its body: where the words of the body lead from inside the prim to the end of it, the words of the prim lead behind it.
abbrev pub IsPrimRead : Symbol → (Standing → Draft → Type 0) → Type 0
IsPrimRead sym Stands =
    (name : List ℕ) (path : List Element) (spec : Spec) (at done : Standing) (body : List Said) → IsPrimPlace name path at → IsSpecKept (plain path) spec → done.outer ≡ at.outer ++ with_child name at.owner ∷ []
    → AreItems symbol.PrimBody body (Rests (inside path spec.body.specifier spec.body.type_name spec (with_child name at.owner) at)) (Rests done)
    → AreItems sym (prim_head_words name spec ++ body ++ close_brace ∷ []) (Stands at) (Stands (closed (with_child name at.owner) at done))

-- prims below prims and variants, and root prims
pub record ArePrimsRead : Type 0 where
  pub child : IsPrimRead symbol.PrimBody Rests
  pub root : IsPrimRead symbol.RootStatements IsAt

-- ---- variant sets

-- a variant may stand in the set that is read
pub record IsVariantPlace (name : List ℕ) (path : List Element) (at : Standing) : Type 0 where
  pub utf8 : is_utf8 name ≡ true
  pub named : is_variant name ≡ true
  pub place : variant_place at.owner.said.path at.owner.set name ≡ Ok path
  pub free : is_closed path at.specs ≡ false

-- A variant of the set that is read, with its body.
abbrev pub IsVariantRead : Type 0
IsVariantRead =
    (name : List ℕ) (path : List Element) (spec : Spec) (at done : Standing) (body : List Said) → IsVariantPlace name path at → IsSpecKept (plain path) spec → done.outer ≡ at.outer ++ with_variant name at.owner ∷ []
    → AreItems symbol.PrimBody body (Rests (inside path Over None spec (with_variant name at.owner) at)) (Rests done)
    → AreItems symbol.VariantList (variant_head_words name spec ++ body ++ close_brace ∷ []) (IsAt at) (IsAt (closed (with_variant name at.owner) at done))

-- a set of variants that its owner does not have yet, with the words of its variants
abbrev pub IsSetRead : Type 0
IsSetRead =
    (set : List ℕ) (at done : Standing) (variants : List Said) → is_utf8 set ≡ true → is_identifier set ≡ true → has_set set at.owner ≡ false
    → AreItems symbol.VariantList variants (IsAt (record at { owner = with_set set at.owner })) (IsAt done)
    → AreItems symbol.PrimBody (set_head_words set ++ variants ++ close_brace ∷ []) (Rests at) (Rests done)

-- variants and their sets come back from their words
pub record AreVariantsRead : Type 0 where
  pub variant : IsVariantRead
  pub set : IsSetRead
