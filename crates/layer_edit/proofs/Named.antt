-- Names and sets of variants, as far as a walk has come.
use Rattle.std.proofs.Common.{◌≡◌, ◌∙◌, sym, ap, ℕ, Bool, cond, true, false, not, List, [], ◌∷◌, ◌++◌, map, filter, append-nil}
use Rattle.std.specs.List.{flat_map}
use Rattle.std.proofs.lemmas.Grind.{flat_map-append}
use Rattle.std.proofs.lemmas.List.{map-append}
use Rattle.std.proofs.lemmas.List.Elements.{filter-append}
use Rattle.spec_parts.specs.declared.items.VariantSet.{VariantSet}
use Rattle.spec_properties.specs.Properties.{same_name}
use Rattle.layer_edit.specs.Prims.{without_name, grown, shrunk, without_variant}

pub name_kept : (name x : List ℕ) (xs : List (List ℕ)) → same_name name x ≡ false → without_name name xs ++ x ∷ [] ≡ without_name name (xs ++ x ∷ [])
name_kept name x xs apart =
    sym (filter-append (λ (n : List ℕ). not (same_name name n)) xs (x ∷ [])
    ∙ ap (λ (b : Bool). without_name name xs ++ cond (not b) (x ∷ []) []) apart)

pub name_dropped : (name x : List ℕ) (xs : List (List ℕ)) → same_name name x ≡ true → without_name name xs ≡ without_name name (xs ++ x ∷ [])
name_dropped name x xs same =
    sym (filter-append (λ (n : List ℕ). not (same_name name n)) xs (x ∷ [])
    ∙ ap (λ (b : Bool). without_name name xs ++ cond (not b) (x ∷ []) []) same
    ∙ append-nil (without_name name xs))

pub one_grown : (set variant : List ℕ) (v : VariantSet) (vs : List VariantSet) → map (grown set variant) vs ++ grown set variant v ∷ [] ≡ map (grown set variant) (vs ++ v ∷ [])
one_grown set variant v vs = sym (map-append (grown set variant) vs (v ∷ []))

pub one_shrunk : (set variant : List ℕ) (v : VariantSet) (vs : List VariantSet) → without_variant set variant vs ++ shrunk set variant v ≡ without_variant set variant (vs ++ v ∷ [])
one_shrunk set variant v vs =
    sym (flat_map-append (shrunk set variant) vs (v ∷ []) ∙ ap (λ (xs : List VariantSet). without_variant set variant vs ++ xs) (append-nil (shrunk set variant v)))
