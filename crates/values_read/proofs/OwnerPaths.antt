-- The path of a prim or a variant below an owner's path is one.
use Rattle.std.proofs.Common.{◌≡◌, ◌∙◌, ℕ, ◌+◌, ◌<◌, ◌≤◌, ◌&&◌, ◌||◌, not, nat_lt, Bool, true, false, List, [], ◌∷◌, ◌++◌, length, Option, Some, None, Ok, Err, refl, subst, arith}
use Rattle.std.specs.Prelude.{if◌then◌else◌}
use Rattle.std.specs.List.{list_all}
use Rattle.std.proofs.lemmas.Bool.Decides.{nat_tests}
use Rattle.std.proofs.lemmas.List.Folds.{list_all-append}
use Rattle.std.proofs.lemmas.Bool.{and_parts, and_from, not-true}
use Rattle.sdf_paths.specs.Paths.{IsPath, depth, printed, is_ordered, is_well_named, is_property, is_empty}
use Rattle.sdf_paths.specs.declared.element.Element.{Element}
use Rattle.sdf_paths.specs.declared.element.Element.TheVariants.{Prim, Selection}
use Rattle.sdf_paths.proofs.Shapes.{ordered_joined, depth_joined}
use Rattle.sdf_values.specs.declared.refusal.RefusalKind.TheVariants.{Syntax, TooLong}
use Rattle.usd_names.specs.Names.{is_identifier, is_variant}
use Rattle.usda_fields.specs.Names.{is_long, prim_path, variant_path, has_variants}
use Rattle.usda_drafts.specs.Places.{prim_place, variant_place}
use Rattle.path_returns.specs.Returns.{IsPathOrAbsent}

not_long : (path : List Element) → is_long path ≡ false → length (printed path) ≤ 4096
not_long path h = grind (arith, nat_tests)

-- one element more, which goes on with a path
one_more : (path : List Element) (e : Element) → IsPath path → is_ordered false (path ++ e ∷ []) ≡ true → is_well_named e ≡ true → depth path + depth (e ∷ []) ≤ 64 → is_long (path ++ e ∷ []) ≡ false → IsPath (path ++ e ∷ [])
one_more path e is ordered named few short = record {
  well_formed = record {
    ordered = ordered;
    named = list_all-append is_well_named path (e ∷ []) ∙ and_from (list_all is_well_named path) (is_well_named e && true) is.well_formed.named (and_from (is_well_named e) true named refl);
    few = omega (arith, few, depth_joined path (e ∷ []));
  };
  short = not_long (path ++ e ∷ []) short;
}

-- ---- prims

prim_ordered : (path : List Element) (name : List ℕ) → is_ordered false path ≡ true → is_property path ≡ false → is_ordered false (path ++ Prim name ∷ []) ≡ true
prim_ordered [] name h prim = refl
prim_ordered (e ∷ es) name h prim = ordered_joined (e ∷ es) (Prim name ∷ []) false h prim refl refl

either : (a b : Bool) → (a || not b) ≡ false → (a ≡ false) × (b ≡ true)
either true b h = absurd cc
either false true h = (refl, refl)
either false false h = absurd cc

prim_is : (owner : List Element) (name : List ℕ) (path : Option (List Element)) → IsPath owner → is_property owner ≡ false → is_identifier name ≡ true → prim_path owner name ≡ Ok path → IsPathOrAbsent path
prim_is owner name path is prim named h = cases (is_long (owner ++ Prim name ∷ [])) refl (nat_lt (depth owner) 64) refl h
  where
    cases : (a : Bool) → is_long (owner ++ Prim name ∷ []) ≡ a → (b : Bool) → nat_lt (depth owner) 64 ≡ b → (if a then Err TooLong else if b then Ok (Some (owner ++ Prim name ∷ [])) else Ok None) ≡ Ok path → IsPathOrAbsent path
    cases true e b f g = absurd cc
    cases false e true f g =
        let same : Some (owner ++ Prim name ∷ []) ≡ path = cc g in
        let few : depth owner < 64 = grind (arith, nat_tests) in
        subst IsPathOrAbsent same (one_more owner (Prim name) is (prim_ordered owner name is.well_formed.ordered prim) named (omega (arith, few)) e)
    cases false e false f g = (let same : None ≡ path = cc g in subst IsPathOrAbsent same tt)

pub prim_path_is : (owner : List Element) (name : List ℕ) (path : Option (List Element)) → IsPath owner → prim_place owner name ≡ Ok path → IsPathOrAbsent path
unfolding prim_place
prim_path_is owner name path is h = cases (is_property owner || not (is_identifier name)) refl h
  where
    cases : (b : Bool) → (is_property owner || not (is_identifier name)) ≡ b → (if b then Err Syntax else prim_path owner name) ≡ Ok path → IsPathOrAbsent path
    cases true e g = absurd cc
    cases false e g = let p = either (is_property owner) (is_identifier name) e in prim_is owner name path is p.0 p.1 g

-- ---- variants

variant_ordered : (path : List Element) (set variant : List ℕ) → is_ordered false path ≡ true → not (is_empty path) ≡ true → is_property path ≡ false → is_ordered false (path ++ Selection set variant ∷ []) ≡ true
variant_ordered [] set variant h some prim = absurd cc
variant_ordered (e ∷ es) set variant h some prim = ordered_joined (e ∷ es) (Selection set variant ∷ []) false h prim refl refl

variant_is : (owner : List Element) (set variant : List ℕ) (path : List Element) → IsPath owner → has_variants owner ≡ true → (is_identifier set && is_variant variant) ≡ true → variant_path owner set variant ≡ Ok path → IsPath path
variant_is owner set variant path is may named h = cases (is_long (owner ++ Selection set variant ∷ [])) refl h
  where
    cases : (a : Bool) → is_long (owner ++ Selection set variant ∷ []) ≡ a → (if a then Err TooLong else Ok (owner ++ Selection set variant ∷ [])) ≡ Ok path → IsPath path
    cases true e g = absurd cc
    cases false e g =
        let p = and_parts (not (is_empty owner)) (not (is_property owner)) may in
        let same : owner ++ Selection set variant ∷ [] ≡ path = cc g in
        subst IsPath same
        (one_more owner (Selection set variant) is (variant_ordered owner set variant is.well_formed.ordered p.0 (not-true (is_property owner) p.1)) named (let few = is.well_formed.few in omega (arith, few)) e)

pub variant_path_is : (owner : List Element) (set variant : List ℕ) (path : List Element) → IsPath owner → variant_place owner set variant ≡ Ok path → IsPath path
unfolding variant_place
variant_path_is owner set variant path is h = cases (has_variants owner && (is_identifier set && is_variant variant)) refl h
  where
    cases : (b : Bool) → (has_variants owner && (is_identifier set && is_variant variant)) ≡ b → (if b then variant_path owner set variant else Err Syntax) ≡ Ok path → IsPath path
    cases true e g = let p = and_parts (has_variants owner) (is_identifier set && is_variant variant) e in variant_is owner set variant path is p.0 p.1 g
    cases false e g = absurd cc
