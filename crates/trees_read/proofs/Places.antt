-- The paths of prims and variants that begin.
use Rattle.std.proofs.Common.{◌≡◌, ◌∙◌, ℕ, ◌+◌, ◌<◌, ◌≤◌, Bool, true, false, not, ◌&&◌, ◌||◌, List, [], ◌∷◌, ◌++◌, length, Some, None, Result, Ok, Err, ap, sym, refl, arith, nat_lt}
use Rattle.std.specs.List.{list_all}
use Rattle.std.proofs.lemmas.Bool.{ltb-true, ltb-false}
use Rattle.std.specs.Prelude.{if◌then◌else◌}
use Rattle.std.proofs.lemmas.List.Folds.{list_all-append, list_any-append}
use Rattle.std.proofs.lemmas.Option.{same_Some}
use Rattle.sdf_paths.proofs.Shapes.{both_hold, depth_joined, length_printed, path_of, ordered_joined}
use Rattle.sdf_paths.specs.Paths.{IsPath, is_ordered, is_well_named, is_empty, is_property, is_property_part, depth, printed}
use Rattle.sdf_paths.specs.declared.element.Element.{Element}
use Rattle.sdf_paths.specs.declared.element.Element.TheVariants.{Prim, Selection}
use Rattle.sdf_paths.proofs.Sound.{some_push}
use Rattle.sdf_values.specs.declared.refusal.RefusalKind.{RefusalKind}
use Rattle.sdf_values.specs.declared.refusal.RefusalKind.TheVariants.{Syntax, TooLong}
use Rattle.usd_names.specs.Names.{is_identifier, is_variant}
use Rattle.usda_fields.specs.Names.{is_long, prim_below, variant_below}
use Rattle.trees_read.specs.Names.{IsPlace}

-- ---- tests

not_less : (a b : ℕ) → nat_lt a b ≡ false → b ≤ a
not_less a b h = ltb-false a b h

less : (a b : ℕ) → nat_lt a b ≡ true → a < b
less a b h = ltb-true a b h

-- ---- a path with an element more

not_property : (path : List Element) (e : Element) → is_property path ≡ false → is_property_part e ≡ false → is_property (path ++ e ∷ []) ≡ false
not_property path e h one = list_any-append is_property_part path (e ∷ []) ∙ none (is_property path) (is_property_part e) h one
  where
    none : (a b : Bool) → a ≡ false → b ≡ false → (a || (b || false)) ≡ false
    none true b h g = absurd cc
    none false true h g = absurd cc
    none false false h g = refl

-- a path within its limits but for the last element
place_more : (path : List Element) (e : Element) → IsPath path → is_property path ≡ false → is_property_part e ≡ false → is_well_named e ≡ true → is_ordered false (path ++ e ∷ []) ≡ true → depth path + depth (e ∷ []) ≤ 64 → is_long (path ++ e ∷ []) ≡ false
    → IsPlace (path ++ e ∷ [])
place_more path e h prim part named ordered few short = record {
  within = path_of (path ++ e ∷ []) ordered (list_all-append is_well_named path (e ∷ []) ∙ both_hold (list_all is_well_named path) (is_well_named e && true) h.well_formed.named (both_hold (is_well_named e) true named refl))
      (omega (arith, depth_joined path (e ∷ []))) (let l : length (printed (path ++ e ∷ [])) ≤ 4096 = not_less 4096 (length (printed (path ++ e ∷ []))) short in omega (arith, length_printed (path ++ e ∷ [])));
  below_root = some_push path e;
  unlike_property = not_property path e prim part;
}

-- ---- prims

pub record IsPrimPlace (owner : List Element) (name : List ℕ) (path : List Element) : Type 0 where
  pub is : path ≡ owner ++ Prim name ∷ []
  pub place : IsPlace (owner ++ Prim name ∷ [])

ordered_prim : (owner : List Element) (name : List ℕ) → is_ordered false owner ≡ true → is_property owner ≡ false → is_ordered false (owner ++ Prim name ∷ []) ≡ true
ordered_prim [] name h prim = refl
ordered_prim (e ∷ owner) name h prim = ordered_joined (e ∷ owner) (Prim name ∷ []) false h prim refl refl

ok_is : {A E : Type 0} (x y : A) → ◌≡◌ {A = Result A E} (Ok x) (Ok y) → x ≡ y
ok_is x y h = cc

pub prim_placed : (owner : List Element) (name : List ℕ) (path : List Element) → IsPath owner → prim_below owner name ≡ Ok (Some path) → IsPrimPlace owner name path
prim_placed owner name path h made = by (is_property owner) refl (is_identifier name) refl (is_long (owner ++ Prim name ∷ [])) refl (nat_lt (depth owner) 64) refl made
  where
    by : (a : Bool) → is_property owner ≡ a → (b : Bool) → is_identifier name ≡ b → (c : Bool) → is_long (owner ++ Prim name ∷ []) ≡ c → (d : Bool) → nat_lt (depth owner) 64 ≡ d
        → (if a || not b then Err Syntax else if c then Err TooLong else if d then Ok (Some (owner ++ Prim name ∷ [])) else Ok None) ≡ Ok (Some path) → IsPrimPlace owner name path
    by false prim true named false short true few e =
        let is : owner ++ Prim name ∷ [] ≡ path = same_Some (owner ++ Prim name ∷ []) path (ok_is {E = RefusalKind} (Some (owner ++ Prim name ∷ [])) (Some path) e) in
        record {
          is = sym is;
          place = place_more owner (Prim name) h prim refl named (ordered_prim owner name h.well_formed.ordered prim) (let l : depth owner < 64 = less (depth owner) 64 few in omega arith) short;
        }
    by false prim true named false short false few e = absurd cc
    by false prim true named true short d few e = absurd cc
    by false prim false named c short d few e = absurd cc
    by true prim b named c short d few e = absurd cc

-- ---- variants

pub record IsVariantPlace (owner : List Element) (set variant : List ℕ) (path : List Element) : Type 0 where
  pub is : path ≡ owner ++ Selection set variant ∷ []
  pub set_named : is_identifier set ≡ true
  pub place : IsPlace (owner ++ Selection set variant ∷ [])

no_depth : (s v : List ℕ) → depth (Selection s v ∷ []) ≡ 0
no_depth s v = refl

pub variant_placed : (owner : List Element) (set variant : List ℕ) (path : List Element) → IsPath owner → variant_below owner set variant ≡ Ok path → IsVariantPlace owner set variant path
variant_placed owner set variant path h made = by (is_empty owner) refl (is_property owner) refl (is_identifier set) refl (is_variant variant) refl (is_long (owner ++ Selection set variant ∷ [])) refl made
  where
    by : (a : Bool) → is_empty owner ≡ a → (b : Bool) → is_property owner ≡ b → (c : Bool) → is_identifier set ≡ c → (d : Bool) → is_variant variant ≡ d → (l : Bool) → is_long (owner ++ Selection set variant ∷ []) ≡ l
        → (if (not a && not b) && (c && d) then (if l then Err TooLong else Ok (owner ++ Selection set variant ∷ [])) else Err Syntax) ≡ Ok path → IsVariantPlace owner set variant path
    by false some false prim true named true variant_named false short e =
        record {
          is = sym (ok_is {E = RefusalKind} (owner ++ Selection set variant ∷ []) path e);
          set_named = named;
          place =
              place_more owner (Selection set variant) h prim refl (both_hold (is_identifier set) (is_variant variant) named variant_named)
              (ordered_joined owner (Selection set variant ∷ []) false h.well_formed.ordered prim (ap not some) refl) (omega (arith, h.well_formed.few, no_depth set variant)) short;
        }
    by false some false prim true named true variant_named true short e = absurd cc
    by false some false prim true named false variant_named l short e = absurd cc
    by false some false prim false named d variant_named l short e = absurd cc
    by false some true prim c named d variant_named l short e = absurd cc
    by true some b prim c named d variant_named l short e = absurd cc
