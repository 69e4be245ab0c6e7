-- The places of the prims and variants of a proper layer.
use Rattle.std.proofs.Common.{◌≡◌, ◌∙◌, ℕ, ◌+◌, ◌≤◌, Bool, true, false, not, ◌||◌, ◌&&◌, if◌then◌else◌, List, [], ◌∷◌, ◌++◌, length, Option, Some, None, Result, Ok, Err, sym, refl, arith, cond}
use Rattle.std.specs.Prelude.{nat_lt}
use Rattle.std.specs.List.{list_all}
use Rattle.std.specs.Str.{is_utf8}
use Rattle.std.proofs.lemmas.Bool.{lt-ltb, le-ltb, or_parts}
use Rattle.std.proofs.lemmas.List.Folds.{list_all-append, list_any-append}
use Rattle.std.proofs.lemmas.List.Sums.{sum_by-append}
use Rattle.plain_data.specs.Exact.{both_true}
use Rattle.sdf_paths.specs.Paths.{depth, is_empty, is_ordered, is_prim_name, is_property, is_property_part, is_well_named, printed}
use Rattle.sdf_paths.specs.declared.element.Element.{Element}
use Rattle.sdf_paths.specs.declared.element.Element.TheVariants.{Prim, Property, Selection}
use Rattle.sdf_values.specs.declared.refusal.RefusalKind.{RefusalKind}
use Rattle.sdf_values.specs.declared.refusal.RefusalKind.TheVariants.{Syntax, TooLong}
use Rattle.usd_names.specs.Names.{is_identifier, is_variant}
use Rattle.usda_fields.specs.Names.{is_long}
use Rattle.usda_drafts.specs.Places.{prim_place, variant_place}
use Rattle.trees_read.specs.Names.{IsPlace}

pub identifier_utf8 : (t : List ℕ) → is_identifier t ≡ true → is_utf8 t ≡ true
unfolding is_identifier
identifier_utf8 t h = (both_true _ _ h).0

pub variant_utf8 : (t : List ℕ) → is_variant t ≡ true → is_utf8 t ≡ true
unfolding is_variant
variant_utf8 t h = (both_true _ _ h).0

-- the element that a place ends with is well named, and its owner is no property
module _ (q : List Element) (e : Element) (place : IsPlace (q ++ e ∷ [])) where
  pub end_named : is_well_named e ≡ true
  end_named =
      let all : list_all is_well_named q && list_all is_well_named (e ∷ []) ≡ true = sym (list_all-append is_well_named q (e ∷ [])) ∙ place.within.well_formed.named in
      let one : is_well_named e && true ≡ true = (both_true (list_all is_well_named q) (list_all is_well_named (e ∷ [])) all).1 in
      (both_true (is_well_named e) true one).0

  owner_unlike : is_property q ≡ false
  owner_unlike = (or_parts (is_property q) (is_property (e ∷ [])) (sym (list_any-append is_property_part q (e ∷ [])) ∙ place.unlike_property)).0

  end_short : is_long (q ++ e ∷ []) ≡ false
  end_short = le-ltb 4096 (length (printed (q ++ e ∷ []))) place.within.short

module _ (q : List Element) where
  prim_taken : (name : List ℕ) (a b c d : Bool) → a ≡ false → b ≡ true → c ≡ false → d ≡ true
      → ◌≡◌ {A = Result (Option (List Element)) RefusalKind} (if a || not b then Err Syntax else if c then Err TooLong else if d then Ok (Some (q ++ Prim name ∷ [])) else Ok None) (Ok (Some (q ++ Prim name ∷ [])))
  prim_taken name true b c d h i j k = absurd cc
  prim_taken name false false c d h i j k = absurd cc
  prim_taken name false true true d h i j k = absurd cc
  prim_taken name false true false false h i j k = absurd cc
  prim_taken name false true false true h i j k = refl

  pub prim_place_is : (name : List ℕ) → IsPlace (q ++ Prim name ∷ []) → prim_place q name ≡ Ok (Some (q ++ Prim name ∷ []))
  unfolding prim_place
  prim_place_is name place =
      let deep : depth (q ++ Prim name ∷ []) ≡ depth q + depth (Prim name ∷ []) = sum_by-append (λ e. cond (is_prim_name e) 1 0) q (Prim name ∷ []) in
      let few : depth (q ++ Prim name ∷ []) ≤ 64 = place.within.well_formed.few in
      prim_taken name (is_property q) (is_identifier name) (is_long (q ++ Prim name ∷ [])) (nat_lt (depth q) 64) (owner_unlike q (Prim name) place) (end_named q (Prim name) place) (end_short q (Prim name) place)
      (lt-ltb (depth q) 64 (omega (arith, deep, few)))

  not_root : (e : Element) → is_ordered false (q ++ e ∷ []) ≡ true → is_prim_name e ≡ false → is_empty q ≡ false
  not_root e ordered other = by q e ordered other
    where
      by : (q : List Element) (e : Element) → is_ordered false (q ++ e ∷ []) ≡ true → is_prim_name e ≡ false → is_empty q ≡ false
      by [] (Prim name) ordered other = absurd cc
      by [] (Property name) ordered other = absurd cc
      by [] (Selection set name) ordered other = absurd cc
      by (x ∷ xs) e ordered other = refl

  variant_taken : (set name : List ℕ) (a b c d : Bool) → a ≡ false → b ≡ false → c ≡ true → d ≡ false
      → ◌≡◌ {A = Result (List Element) RefusalKind} (if (not a && not b) && c then (if d then Err TooLong else Ok (q ++ Selection set name ∷ [])) else Err Syntax) (Ok (q ++ Selection set name ∷ []))
  variant_taken set name true b c d h i j k = absurd cc
  variant_taken set name false true c d h i j k = absurd cc
  variant_taken set name false false false d h i j k = absurd cc
  variant_taken set name false false true true h i j k = absurd cc
  variant_taken set name false false true false h i j k = refl

  pub variant_place_is : (set name : List ℕ) → IsPlace (q ++ Selection set name ∷ []) → variant_place q set name ≡ Ok (q ++ Selection set name ∷ [])
  unfolding variant_place
  variant_place_is set name place =
      variant_taken set name (is_empty q) (is_property q) (is_identifier set && is_variant name) (is_long (q ++ Selection set name ∷ []))
      (not_root (Selection set name) place.within.well_formed.ordered refl) (owner_unlike q (Selection set name) place) (end_named q (Selection set name) place) (end_short q (Selection set name) place)
