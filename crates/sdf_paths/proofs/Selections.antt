-- A path with a selection more, and names of variants.
use Rattle.std.proofs.Common.{◌≡◌, ℕ, ◌+◌, ◌≤◌, Bool, true, false, ◌&&◌, List, [], ◌∷◌, ◌++◌, Option, Some, None, refl, ap, ◌∙◌, arith, length, length-append, not}
use Rattle.std.specs.Prelude.{encode_utf8, ◌==◌, if◌then◌else◌}
use Rattle.std.specs.List.{list_all}
use Rattle.std.specs.Str.{chars, IsUtf8}
use Rattle.std.proofs.lemmas.Bool.{and_from, and_parts}
use Rattle.std.proofs.lemmas.List.Folds.{list_all-append}
use Rattle.std.proofs.lemmas.Str.{chars_past_char, chars-nil}
use Rattle.usd_names.specs.Names.{is_identifier, is_variant, is_variant_character, spells_run}
use Rattle.sdf_paths.specs.Paths.{IsPath, is_empty, is_property, is_well_named, depth, ends_selected, written, written_all}
use Rattle.sdf_paths.specs.Variants.{ends_variant, part_after, run_part, is_whole}
use Rattle.sdf_paths.specs.declared.element.Element.{Element}
use Rattle.sdf_paths.specs.declared.element.Element.TheVariants.{Selection}
use Rattle.sdf_paths.specs.declared.variants.VariantPart.{VariantPart}
use Rattle.sdf_paths.specs.declared.variants.VariantPart.TheVariants.{Start, Dotted, Run}
use Rattle.sdf_paths.proofs.Shapes.{depth_joined, length_joined, length_printed, named_back, ordered_joined, path_of}

-- ---- names of variants

abbrev pub goes_on : Option VariantPart → List ℕ → Bool
goes_on None cs = false
goes_on (Some part) cs = ends_variant part cs

run_on : (b : Bool) (cs : List ℕ) → (b && list_all is_variant_character cs) ≡ goes_on (run_part b) cs
run_on true cs = refl
run_on false cs = refl

dotted : (dot : Bool) (c : ℕ) (cs : List ℕ)
    → (if dot then spells_run cs else spells_run (c ∷ cs)) ≡ goes_on (if dot then Some Dotted else run_part (is_variant_character c)) cs
dotted true c cs = refl
dotted false c cs = run_on (is_variant_character c) cs

one_more : (part : VariantPart) (c : ℕ) (cs : List ℕ) → ends_variant part (c ∷ cs) ≡ goes_on (part_after part c) cs
one_more Start c cs = dotted (c == 46) c cs
one_more Dotted c cs = run_on (is_variant_character c) cs
one_more Run c cs = run_on (is_variant_character c) cs

-- what a character makes of the text before it
pub past : (part : VariantPart) (bs rest : List ℕ) (c : ℕ) → IsUtf8 bs → bs ≡ encode_utf8 c ++ rest → ends_variant part (chars bs) ≡ goes_on (part_after part c) (chars rest)
past part bs rest c utf8 is = ap (ends_variant part) (chars_past_char bs rest c utf8 is) ∙ one_more part c (chars rest)

pub at_end : (part : VariantPart) (bs : List ℕ) → length bs ≡ 0 → ends_variant part (chars bs) ≡ is_whole part
at_end Start [] e = rw chars-nil refl
at_end Dotted [] e = rw chars-nil refl
at_end Run [] e = rw chars-nil refl
at_end part (x ∷ bs) e = absurd (omega arith)

-- ---- paths

written_selection : (a : Bool) (s v : List ℕ) → length (written a (Selection s v)) ≡ 3 + length s + length v
written_selection a s v = omega (arith, length-append (s ++ (61 ∷ v)) (125 ∷ []), length-append s (61 ∷ v))

length_more : (path : List Element) (s v : List ℕ) → length (written_all false (path ++ Selection s v ∷ [])) ≡ length (written_all false path) + (3 + length s + length v)
length_more path s v =
    omega (arith, length_joined path (Selection s v ∷ []) false, length-append (written (ends_selected false path) (Selection s v)) [], written_selection (ends_selected false path) s v)

depth_one : (s v : List ℕ) → depth (Selection s v ∷ []) ≡ 0
depth_one s v = refl

pub select_path : (path : List Element) (s v : List ℕ) → IsPath path → is_property path ≡ false → is_empty path ≡ false → is_identifier s ≡ true → is_variant v ≡ true
    → length (written_all false path) + (3 + length s + length v) ≤ 4096 → IsPath (path ++ Selection s v ∷ [])
select_path path s v h prim some set variant short = path_of (path ++ Selection s v ∷ [])
    (ordered_joined path (Selection s v ∷ []) false h.well_formed.ordered prim (ap not some) refl)
    (list_all-append is_well_named path (Selection s v ∷ []) ∙ and_from _ _ h.well_formed.named (and_from (is_identifier s && is_variant v) true (and_from _ _ set variant) refl))
    (omega (arith, h.well_formed.few, depth_joined path (Selection s v ∷ []), depth_one s v)) (omega (arith, short, length_more path s v))

pub select_some : (path : List Element) (s v : List ℕ) → IsPath (path ++ Selection s v ∷ []) → is_empty path ≡ false
select_some [] s v h = absurd (cc h.well_formed.ordered)
select_some (e ∷ path) s v h = refl

pub select_named : (path : List Element) (s v : List ℕ) → IsPath (path ++ Selection s v ∷ []) → (is_identifier s && is_variant v) ≡ true
select_named path s v h = (and_parts (is_identifier s && is_variant v) true (named_back path (Selection s v ∷ []) h.well_formed.named)).0

pub select_short : (path : List Element) (s v : List ℕ) → IsPath (path ++ Selection s v ∷ []) → length (written_all false path) + (3 + length s + length v) ≤ 4096
select_short path s v h = omega (arith, h.short, length_printed (path ++ Selection s v ∷ []), length_more path s v)

pub some_elements : (path : List Element) → (length path == 0) ≡ false → is_empty path ≡ false
some_elements [] h = absurd cc
some_elements (e ∷ path) h = refl
