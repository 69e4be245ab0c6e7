-- Lists and their items.
use Rattle.std.proofs.Common.{◌≡◌, ℕ, ◌<◌, ◌^◌, Bool, true, false, List, [], ◌∷◌, ◌++◌, Option, Some, None, refl, subst, arith}
use Rattle.std.specs.Prelude.{codes, ℤ, unsigned_abs}
use Rattle.std.specs.Fmt.{signed_decimal}
use Rattle.std.specs.List.{list_all}
use Rattle.std.proofs.lemmas.Bool.Decides.{nat_tests}
use Rattle.std.proofs.lemmas.Bool.{and_parts}
use Rattle.sdf_paths.specs.Paths.{printed}
use Rattle.sdf_paths.specs.declared.element.Element.{Element}
use Rattle.sdf_values.specs.Print.{asset_text, quoted, whole_text}
use Rattle.sdf_values.specs.Scales.{Offset}
use Rattle.spec_parts.specs.declared.items.RefItem.{RefItem}
use Rattle.spec_parts.specs.declared.items.SubLayer.{SubLayer}
use Rattle.usda_writer.specs.Texts.{more_items, listed, bracketed, explicit_list, path_text, is_identity, unless_identity, offset_text, target_text, reference_text, sublayer_text}
use Rattle.value_texts.specs.Cuts.{Said}
use Rattle.value_texts.specs.Follows.{anything, may_follow, begins_not}
use Rattle.value_texts.specs.ValueWords.{name_said, number_said, string_said, asset_said, path_said, open_paren, semicolon, equals}
use Rattle.value_texts.specs.Writable.{is_writable_asset}
use Rattle.value_texts.proofs.Borders.{border_number, border_string, border_asset}
use Rattle.value_texts.proofs.TokenCuts as cut
use Rattle.value_texts.proofs.WholeLeaves.{small_writable}
use Rattle.layer_texts.specs.Spelled.{IsSpelled}
use Rattle.layer_texts.specs.ListWords.{string_words, path_words, more_words, listed_words, bracketed_words, explicit_words, words_unless_identity, offset_words, target_words, reference_words, sublayer_words}
use Rattle.layer_texts.specs.Writable.{none_or, is_short, is_writable_target, is_writable_offset, is_writable_reference, is_writable_sublayer}
use Rattle.layer_texts.proofs.Keywords.{word_spelled, None_word, offset_word, scale_word}
use Rattle.layer_texts.proofs.Marks.{space_paren, paren_end, bracket, bracket_end, comma_space, semicolon_space, equals_space}
use Rattle.layer_texts.proofs.Spelled.{of_cut, joined, then_more, nothing, weaker}

-- a text between quotes
pub string_spelled : (t : List ℕ) → IsSpelled may_follow (quoted t) (string_words t)
string_spelled t = of_cut may_follow (quoted t) (string_said (quoted t) ∷ []) refl (λ at rest k. cut.string_cut at t rest (border_string rest k))

pub path_spelled : (p : List Element) → is_writable_target p ≡ true → IsSpelled anything (path_text p) (path_words p)
path_spelled p h = of_cut anything (path_text p) (path_said (path_text p) ∷ []) refl (λ at rest k. cut.path_cut at (printed p) rest h)

asset_spelled : (t : List ℕ) → is_writable_asset t ≡ true → IsSpelled (begins_not 64) (asset_text t) (asset_said (asset_text t) ∷ [])
asset_spelled t h = of_cut (begins_not 64) (asset_text t) (asset_said (asset_text t) ∷ []) refl (λ at rest k. cut.asset_cut at t rest h k)

-- a whole number of at most 34 digits
number_spelled : (n : ℤ) → is_short n ≡ true → IsSpelled may_follow (signed_decimal n) (number_said (signed_decimal n) ∷ [])
number_spelled n h =
    let few : unsigned_abs n < 10 ^ 34 = grind (arith, nat_tests) in
    let p = small_writable n few in
    subst (λ t. IsSpelled may_follow t (number_said t ∷ [])) p.1 (of_cut may_follow (whole_text n) (number_said (whole_text n) ∷ []) refl (λ at rest k. cut.whole_cut at n rest p.0 (border_number rest k)))

-- lists of items that are spelled before commas and brackets
module _ {T : Type 0} (f : T → List ℕ) (g : T → List Said) (w : T → Bool) (each : (x : T) → w x ≡ true → IsSpelled may_follow (f x) (g x)) where
  more_follow : (xs : List T) (rest : List ℕ) → may_follow rest ≡ true → may_follow (more_items f xs ++ rest) ≡ true
  more_follow [] rest k = k
  more_follow (x ∷ xs) rest k = refl

  more_spelled : (xs : List T) → list_all w xs ≡ true → IsSpelled may_follow (more_items f xs) (more_words g xs)
  more_spelled [] h = nothing may_follow
  more_spelled (x ∷ xs) h = let p = and_parts (w x) (list_all w xs) h in joined (then_more comma_space (each x p.0)) (more_spelled xs p.1) (more_follow xs)

  listed_spelled : (xs : List T) → list_all w xs ≡ true → IsSpelled may_follow (listed f xs) (listed_words g xs)
  listed_spelled [] h = nothing may_follow
  listed_spelled (x ∷ xs) h = let p = and_parts (w x) (list_all w xs) h in joined (each x p.0) (more_spelled xs p.1) (more_follow xs)

  pub bracketed_spelled : (xs : List T) → list_all w xs ≡ true → IsSpelled anything (bracketed f xs) (bracketed_words g xs)
  bracketed_spelled xs h = joined (then_more bracket (listed_spelled xs h)) bracket_end (λ rest k. refl)

  pub explicit_spelled : (xs : List T) → list_all w xs ≡ true → IsSpelled may_follow (explicit_list f xs) (explicit_words g xs)
  explicit_spelled [] h = word_spelled (codes "None") None_word
  explicit_spelled (x ∷ xs) h = weaker (bracketed_spelled (x ∷ xs) h)

-- an offset, which is not written where it changes no time
offset_start : IsSpelled anything (codes " (offset = ") (open_paren ∷ name_said (codes "offset") ∷ equals ∷ [])
offset_start = joined (then_more space_paren (word_spelled (codes "offset") offset_word)) equals_space (λ rest k. refl)

scale_start : IsSpelled anything (codes "; scale = ") (semicolon ∷ name_said (codes "scale") ∷ equals ∷ [])
scale_start = joined (then_more semicolon_space (word_spelled (codes "scale") scale_word)) equals_space (λ rest k. refl)

offset_said : (b : Bool) (o : Offset) → is_writable_offset o ≡ true → IsSpelled may_follow (unless_identity b o) (words_unless_identity b o)
offset_said true o h = nothing may_follow
offset_said false o h =
    let p = and_parts _ _ h in
    weaker (joined (then_more (joined (then_more offset_start (number_spelled o.offset p.0)) scale_start (λ rest k. refl)) (number_spelled o.scale p.1)) paren_end (λ rest k. refl))

offset_spelled : (o : Offset) → is_writable_offset o ≡ true → IsSpelled may_follow (offset_text o) (offset_words o)
offset_spelled o h = offset_said (is_identity o) o h

-- what follows an asset with an offset ends the asset
offset_follows : (b : Bool) (o : Offset) (rest : List ℕ) → may_follow rest ≡ true → begins_not 64 (unless_identity b o ++ rest) ≡ true
offset_follows true o rest k = border_asset rest k
offset_follows false o rest k = refl

target_spelled : (a : Option (List ℕ)) (p : Option (List Element)) → none_or is_writable_asset a ≡ true → none_or is_writable_target p ≡ true → IsSpelled (begins_not 64) (target_text a p) (target_words a p)
target_spelled None None h k = weaker (of_cut anything (codes "<>") (path_said (codes "<>") ∷ []) refl (λ at rest k. cut.path_cut at [] rest refl))
target_spelled None (Some p) h k = weaker (path_spelled p k)
target_spelled (Some a) None h k = asset_spelled a h
target_spelled (Some a) (Some p) h k = joined (asset_spelled a h) (weaker (path_spelled p k)) (λ rest e. refl)

-- an item of references
pub reference_spelled : (r : RefItem) → is_writable_reference r ≡ true → IsSpelled may_follow (reference_text r) (reference_words r)
reference_spelled r h =
    let p = and_parts _ _ h in let q = and_parts _ _ p.1 in
    joined (target_spelled r.asset r.path p.0 q.0) (offset_spelled r.offset q.1) (offset_follows (is_identity r.offset) r.offset)

pub sublayer_spelled : (s : SubLayer) → is_writable_sublayer s ≡ true → IsSpelled may_follow (sublayer_text s) (sublayer_words s)
sublayer_spelled s h =
    let p = and_parts _ _ h in
    joined (asset_spelled s.asset p.0) (offset_spelled s.offset p.1) (offset_follows (is_identity s.offset) s.offset)
