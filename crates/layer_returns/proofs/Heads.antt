-- The head of a layer whose text is read.
use Rattle.std.proofs.Common.{◌≡◌, ◌∙◌, ℕ, zero, suc, Bool, true, false, List, [], ◌∷◌, ◌++◌, length, Option, Some, None, ap, refl, cond}
use Rattle.std.specs.Prelude.{codes}
use Rattle.std.specs.BTreeMap.{is_at}
use Rattle.std.specs.Map.{lookup, remove_entry}
use Rattle.std.specs.Ordering.{is_eq, match_ordering}
use Rattle.std.specs.declared.cmp.Ordering.{Ordering}
use Rattle.std.specs.declared.cmp.Ordering.TheVariants.{Less, Equal, Greater}
use Rattle.sdf_paths.specs.Order.{text_cmp}
use Rattle.sdf_paths.specs.declared.element.Element.{Element}
use Rattle.sdf_paths.specs.declared.element.Element.TheVariants.{Prim, Selection}
use Rattle.sdf_specs.specs.Layers.{SpecEntries}
use Rattle.sdf_values.specs.declared.value.Value.TheVariants.{Text}
use Rattle.spec_parts.specs.declared.items.Specifier.{Specifier}
use Rattle.spec_parts.specs.declared.items.Specifier.TheVariants.{Over}
use Rattle.spec_parts.specs.declared.items.SubLayer.{SubLayer}
use Rattle.spec_parts.specs.declared.items.VariantSet.{VariantSet}
use Rattle.spec_parts.specs.declared.spec.Head.{Head}
use Rattle.spec_parts.specs.declared.spec.Spec.{Spec}
use Rattle.spec_properties.specs.Entries.{MetaEntries}
use Rattle.spec_properties.specs.declared.property.Property.{Property}
use Rattle.spec_tables.specs.Tables.{at_key, with_key, without_key}
use Rattle.usda_writer.specs.Canonical.{spec_below, with_default_prim}
use Rattle.usda_drafts.specs.Drafts.{head_with, head_from, text_of}
use Rattle.usda_drafts.specs.Owners.{owner_of, spec_of}
use Rattle.layer_reads.specs.Standing.{Standing}
use Rattle.layer_reads.specs.Properties.{with_more, marks_of}
use Rattle.layer_reads.proofs.Hands.{equal_itself}
use Rattle.layer_returns.specs.Heads.{HeadsComeBack}
use Rattle.layer_returns.specs.Layers.{behind_front, behind_layer}
use Rattle.layer_returns.specs.Trees.{behind_properties, behind_child, behind_children, behind_variant, behind_variants, in_set, behind_sets, from_properties, from_sets, from_children, behind_statements, inside_prim, inside_variant, behind_body}
use Rattle.layer_returns.proofs.Owners.{Parts, parts_of, spec_by, children_said}

-- ---- the default prim among the keys

module _ {V : Type 0} where
  -- a key that was not there is found, and without it the entries are as they were
  key_found : (k : List ℕ) (v : V) (es : List (List ℕ × V)) → at_key text_cmp k es ≡ None → at_key text_cmp k (with_key text_cmp k v es) ≡ Some v
  key_found k v [] none = ap (λ o. cond (is_eq o) (Some v) None) (equal_itself k)
  key_found k v (e ∷ es) none = by (text_cmp k e.0) refl none (key_found k v es)
    where
      by : (o : Ordering) → text_cmp k e.0 ≡ o → cond (is_eq o) (Some e.1) (at_key text_cmp k es) ≡ None → (at_key text_cmp k es ≡ None → at_key text_cmp k (with_key text_cmp k v es) ≡ Some v)
          → at_key text_cmp k (match_ordering o ((k, v) ∷ e ∷ es) ((e.0, v) ∷ es) (e ∷ with_key text_cmp k v es)) ≡ Some v
      by Less h none more = ap (λ o. cond (is_eq o) (Some v) (lookup (is_at (text_cmp k)) (e ∷ es))) (equal_itself k)
      by Equal h none more = absurd cc
      by Greater h none more = ap (λ o. cond (is_eq o) (Some e.1) (lookup (is_at (text_cmp k)) (with_key text_cmp k v es))) h ∙ more none

  key_gone : (k : List ℕ) (v : V) (es : List (List ℕ × V)) → at_key text_cmp k es ≡ None → without_key text_cmp k (with_key text_cmp k v es) ≡ es
  key_gone k v [] none = ap (λ o. cond (is_eq o) [] ((k, v) ∷ [])) (equal_itself k)
  key_gone k v (e ∷ es) none = by (text_cmp k e.0) refl none (key_gone k v es)
    where
      by : (o : Ordering) → text_cmp k e.0 ≡ o → cond (is_eq o) (Some e.1) (at_key text_cmp k es) ≡ None → (at_key text_cmp k es ≡ None → without_key text_cmp k (with_key text_cmp k v es) ≡ es)
          → without_key text_cmp k (match_ordering o ((k, v) ∷ e ∷ es) ((e.0, v) ∷ es) (e ∷ with_key text_cmp k v es)) ≡ e ∷ es
      by Less h none more = ap (λ o. cond (is_eq o) (e ∷ es) ((k, v) ∷ remove_entry (is_at (text_cmp k)) (e ∷ es))) (equal_itself k)
      by Equal h none more = absurd cc
      by Greater h none more = ap (λ o. cond (is_eq o) (with_key text_cmp k v es) (e ∷ remove_entry (is_at (text_cmp k)) (with_key text_cmp k v es))) h ∙ ap (λ l. e ∷ l) (more none)

  none_gone : (k : List ℕ) (es : List (List ℕ × V)) → at_key text_cmp k es ≡ None → without_key text_cmp k es ≡ es
  none_gone k [] none = refl
  none_gone k (e ∷ es) none = by (is_eq (text_cmp k e.0)) none (none_gone k es)
    where
      by : (b : Bool) → cond b (Some e.1) (at_key text_cmp k es) ≡ None → (at_key text_cmp k es ≡ None → without_key text_cmp k es ≡ es) → cond b es (e ∷ without_key text_cmp k es) ≡ e ∷ es
      by true none more = absurd cc
      by false none more = ap (λ l. e ∷ l) (more none)

default_found : (name : Option (List ℕ)) (meta : MetaEntries) → at_key text_cmp (codes "defaultPrim") meta ≡ None → text_of (at_key text_cmp (codes "defaultPrim") (with_default_prim name meta)) ≡ name
unfolding text_of
default_found None meta none = ap text_of none
default_found (Some name) meta none = ap text_of (key_found (codes "defaultPrim") (Text name) meta none)

default_gone : (name : Option (List ℕ)) (meta : MetaEntries) → at_key text_cmp (codes "defaultPrim") meta ≡ None → without_key text_cmp (codes "defaultPrim") (with_default_prim name meta) ≡ meta
default_gone None meta none = none_gone (codes "defaultPrim") meta none
default_gone (Some name) meta none = key_gone (codes "defaultPrim") (Text name) meta none

-- ---- the sublayers are as they were

properties_kept : (ps : List Property) (at : Standing) → (behind_properties ps at).sublayers ≡ at.sublayers
properties_kept [] at = refl
properties_kept (p ∷ ps) at = properties_kept ps (with_more p (marks_of p) at)

module _ (specs : SpecEntries) (behind : List Element → Specifier → Spec → Standing → Standing) (kept : (path : List Element) (specifier : Specifier) (spec : Spec) (at : Standing) → (behind path specifier spec at).sublayers ≡ at.sublayers) where
  child_kept : (name : List ℕ) (path : List Element) (o : Option Spec) (at : Standing) → (behind_child specs behind name path o at).sublayers ≡ at.sublayers
  child_kept name path None at = refl
  child_kept name path (Some spec) at = kept path spec.body.specifier spec (inside_prim specs behind name path spec at)

  children_kept : (path : List Element) (names : List (List ℕ)) (at : Standing) → (behind_children specs behind path names at).sublayers ≡ at.sublayers
  children_kept path [] at = refl
  children_kept path (name ∷ names) at =
      children_kept path names (behind_child specs behind name (path ++ Prim name ∷ []) (spec_below specs path (Prim name)) at) ∙ child_kept name (path ++ Prim name ∷ []) (spec_below specs path (Prim name)) at

  variant_kept : (name : List ℕ) (path : List Element) (o : Option Spec) (at : Standing) → (behind_variant specs behind name path o at).sublayers ≡ at.sublayers
  variant_kept name path None at = refl
  variant_kept name path (Some spec) at = kept path Over spec (inside_variant specs behind name path spec at)

  variants_kept : (path : List Element) (set : List ℕ) (names : List (List ℕ)) (at : Standing) → (behind_variants specs behind path set names at).sublayers ≡ at.sublayers
  variants_kept path set [] at = refl
  variants_kept path set (name ∷ names) at =
      variants_kept path set names (behind_variant specs behind name (path ++ Selection set name ∷ []) (spec_below specs path (Selection set name)) at) ∙ variant_kept name (path ++ Selection set name ∷ []) (spec_below specs path (Selection set name)) at

  sets_kept : (path : List Element) (ss : List VariantSet) (at : Standing) → (behind_sets specs behind path ss at).sublayers ≡ at.sublayers
  sets_kept path [] at = refl
  sets_kept path (s ∷ ss) at = sets_kept path ss (behind_variants specs behind path s.set s.variants (in_set specs behind s.set at)) ∙ variants_kept path s.set s.variants (in_set specs behind s.set at)

  statements_kept : (path : List Element) (specifier : Specifier) (spec : Spec) (at : Standing) → (behind_statements specs behind path specifier spec at).sublayers ≡ at.sublayers
  statements_kept path specifier spec at =
      children_kept path spec.body.children (from_children specs behind path specifier spec at) ∙ sets_kept path spec.body.variant_names (from_sets specs behind path specifier spec at)
      ∙ properties_kept spec.body.properties (from_properties specs behind path specifier spec at)

body_kept : (specs : SpecEntries) (levels : ℕ) (path : List Element) (specifier : Specifier) (spec : Spec) (at : Standing) → (behind_body specs levels path specifier spec at).sublayers ≡ at.sublayers
body_kept specs zero path specifier spec at = refl
body_kept specs (suc levels) path specifier spec at = statements_kept specs (behind_body specs levels) (body_kept specs levels) path specifier spec at

-- ---- the head

-- the head by what the owner says and the sublayers
abbrev head_by : Parts → List SubLayer → Head
head_by p sublayers = head_with (codes "defaultPrim") (spec_by p).body sublayers

pub heads_come_back : HeadsComeBack
unfolding owner_of spec_of head_from head_with
heads_come_back layer present free =
    let behind : List Element → Specifier → Spec → Standing → Standing = behind_body layer.specs (length layer.specs) in
    let front : Standing = behind_front layer.head in
    let head : Head = layer.head in
    ap (λ p. head_by p (behind_layer layer).sublayers) (children_said layer.specs behind [] head.root_names front present)
    ∙ ap (λ l. head_by (record (parts_of front) { names = head.root_names }) l) (children_kept layer.specs behind (body_kept layer.specs (length layer.specs)) [] head.root_names front)
    ∙ ap (λ (name : Option (List ℕ)). record head { default_prim = name; meta = without_key text_cmp (codes "defaultPrim") (with_default_prim head.default_prim head.meta) }) (default_found head.default_prim head.meta free)
    ∙ ap (λ (meta : MetaEntries). record head { meta = meta }) (default_gone head.default_prim head.meta free)
