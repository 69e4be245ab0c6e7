-- How the table of specs grows prim by prim.
use Rattle.std.proofs.Common.{◌≡◌, ◌∙◌, ℕ, zero, suc, ◌+◌, List, [], ◌∷◌, Option, Some, None, refl, sym, ap, drop, slice_get, add-one}
use Rattle.prim_view.specs.declared.view.PrimView.{PrimView}
use Rattle.sdf_paths.specs.Order.{path_cmp}
use Rattle.sdf_paths.specs.declared.element.Element.{Element}
use Rattle.sdf_specs.specs.Layers.{LayerTable, SpecEntries, with_spec}
use Rattle.spec_parts.specs.declared.spec.Head.{Head}
use Rattle.spec_parts.specs.declared.spec.Spec.{Spec}
use Rattle.stage_publish.specs.Editions.{item_at}
use Rattle.flatten.specs.Flattened.{Stage, head_of, flat_spec, with_prim, with_item, with_prims, flat_layer}

pub root_kept : (path : List Element) (prim : PrimView) (specs : SpecEntries) → path ≡ [] → specs ≡ with_prim path prim specs
unfolding with_prim
root_kept [] prim specs h = refl
root_kept (e ∷ path) prim specs h = absurd cc

pub prim_put : (path : List Element) (prim : PrimView) (spec : Spec) (specs after : SpecEntries) → (path ≡ [] → ⊥) → spec ≡ flat_spec prim
    → after ≡ with_spec path spec specs → after ≡ with_prim path prim specs
unfolding with_prim
prim_put [] prim spec specs after h is put = absurd (h refl)
prim_put (e ∷ path) prim spec specs after h is put = put ∙ ap (λ (s : Spec). with_spec (e ∷ path) s specs) is

next_suc : {T : Type 0} (xs : List T) (i : ℕ) (x : T) → Some x ≡ slice_get xs i → drop i xs ≡ x ∷ drop (suc i) xs
next_suc [] i x h = absurd cc
next_suc {T} (y ∷ ys) zero x h = let same : x ≡ y = cc in ap (λ (z : T). z ∷ ys) (sym same)
next_suc (y ∷ ys) (suc i) x h = next_suc ys i x h

next : {T : Type 0} (xs : List T) (i : ℕ) (x : T) → Some x ≡ slice_get xs i → drop i xs ≡ x ∷ drop (i + 1) xs
next xs i x h = next_suc xs i x h ∙ ap (λ (n : ℕ). x ∷ drop n xs) (sym (add-one i))

past_suc : {T : Type 0} (xs : List T) (i : ℕ) → None ≡ slice_get xs i → drop (suc i) xs ≡ drop i xs
past_suc [] zero h = refl
past_suc [] (suc i) h = refl
past_suc (y ∷ ys) zero h = absurd cc
past_suc (y ∷ ys) (suc i) h = past_suc ys i h

past : {T : Type 0} (xs : List T) (i : ℕ) → None ≡ slice_get xs i → drop (i + 1) xs ≡ drop i xs
past xs i h = ap (λ (n : ℕ). drop n xs) (add-one i) ∙ past_suc xs i h

-- one more item
pub items_more : (stage : Stage) (i : ℕ) (item : Option (List Element × PrimView)) (specs after whole : SpecEntries) → item ≡ slice_get stage i
    → after ≡ with_item item specs → with_prims (drop i stage) specs ≡ whole → with_prims (drop (i + 1) stage) after ≡ whole
unfolding with_item
items_more stage i None specs after whole at put before =
    ap (λ (s : SpecEntries). with_prims (drop (i + 1) stage) s) put ∙ ap (λ (l : Stage). with_prims l specs) (past stage i at) ∙ before
items_more stage i (Some item) specs after whole at put before =
    ap (λ (s : SpecEntries). with_prims (drop (i + 1) stage) s) put ∙ sym (ap (λ (l : Stage). with_prims l specs) (next stage i item at)) ∙ before

pub no_item : (specs : SpecEntries) → specs ≡ with_item None specs
unfolding with_item
no_item specs = refl

pub item_put : (path : List Element) (prim : PrimView) (specs after : SpecEntries) → after ≡ with_prim path prim specs → after ≡ with_item (Some (path, prim)) specs
unfolding with_item
item_put path prim specs after h = h

pub layer_is : (stage : Stage) (head : Head) (specs : SpecEntries) (layer : LayerTable) → head ≡ head_of (item_at path_cmp [] stage) → specs ≡ with_prims stage []
    → layer ≡ record { head = head; specs = specs } → layer ≡ flat_layer stage
unfolding flat_layer
layer_is stage head specs layer a b h = h ∙ rw (a, b) refl
