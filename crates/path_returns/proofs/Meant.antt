-- The path that a text means, put behind that of its owner, is one.
use Rattle.std.proofs.Common.{◌≡◌, ℕ, zero, suc, ◌≤◌, nat_le, Bool, true, false, List, [], ◌∷◌, ◌++◌, length, take, drop, Option, Some, None, sym, refl, subst, arith}
use Rattle.std.specs.Prelude.{if◌then◌else◌}
use Rattle.std.specs.Str.{chars, IsUtf8}
use Rattle.std.proofs.lemmas.Bool.Decides.{nat_tests}
use Rattle.std.proofs.lemmas.List.{take-append-drop}
use Rattle.std.proofs.lemmas.Str.{IsUtf8-append, IsUtf8-drop}
use Rattle.sdf_paths.specs.Paths.{IsPath, parent, printed}
use Rattle.sdf_paths.specs.Reader.{after}
use Rattle.sdf_paths.specs.declared.element.Element.{Element}
use Rattle.sdf_paths.proofs.ParseExact.{is_read, path_of_read}
use Rattle.sdf_paths.proofs.Shapes.{path_front}
use Rattle.usda_lexer.specs.Blanks.{begins}
use Rattle.usda_values.specs.PathTexts.{begins_up}
use Rattle.usda_values.proofs.Ups.{up_cut}
use Rattle.sdf_paths.specs.Reader.{finished, path_of}
use Rattle.usda_lists.specs.Paths.{joins_directly, text_below, path_below, path_from}
use Rattle.sdf_paths.proofs.PathOf.{ran_to}
use Rattle.path_returns.proofs.Utf8.{path_utf8}
use Rattle.path_returns.specs.Returns.{IsPathOrAbsent}
use Rattle.value_texts.proofs.AsciiTests.{ascii_before}

-- ---- from the root down

-- the text of a path means one
read_path : (text : List ℕ) (path : List Element) → IsUtf8 text → path_of text ≡ Some path → IsPath path
unfolding path_of
read_path text path utf8 h = test (nat_le (length text) 4096) refl h
  where
    test : (b : Bool) → nat_le (length text) 4096 ≡ b → (if b then finished (after (chars text)) else None) ≡ Some path → IsPath path
    test false e g = absurd cc
    test true e g =
        let short : length text ≤ 4096 = grind (arith, nat_tests) in
        path_of_read text path (is_read text path utf8 (ran_to text (after (chars text)) path refl short g))

-- ---- from a prim

parent_path : (prim : List Element) → IsPath prim → IsPathOrAbsent (parent prim)
parent_path [] is = tt
parent_path (e ∷ rest) is = path_front (take (length rest) (e ∷ rest)) (drop (length rest) (e ∷ rest)) (subst IsPath (sym (take-append-drop (length rest) (e ∷ rest))) is)

joined_utf8 : (prim : List Element) (text : List ℕ) → IsPath prim → IsUtf8 text → IsUtf8 (text_below prim text)
joined_utf8 prim text is u = cases (joins_directly prim text)
  where
    cases : (b : Bool) → IsUtf8 (if b then printed prim ++ text else printed prim ++ 47 ∷ text)
    cases true = IsUtf8-append (printed prim) text (path_utf8 prim is) u
    cases false = IsUtf8-append (printed prim) (47 ∷ text) (path_utf8 prim is) (ascii_before 47 text (omega arith) u)

below_path : (taken : ℕ) (o : Option (List Element)) (text : List ℕ) (path : List Element) → IsPathOrAbsent o → IsUtf8 (drop taken text) → path_below taken o text ≡ Some path → IsPath path
below_path taken None text path is u h = absurd cc
below_path zero (Some prim) [] path is u h = absurd cc
below_path (suc taken) (Some prim) [] path is u h = absurd cc
below_path (suc taken) (Some prim) (c ∷ cs) path is u h = below_path taken (Some prim) cs path is u h
below_path zero (Some prim) (c ∷ cs) path is u h = cases (begins_up (c ∷ cs)) refl h (λ v g. below_path 2 (parent prim) cs path (parent_path prim is) v g)
  where
    cases : (b : Bool) → begins_up (c ∷ cs) ≡ b → elim b as (λ _. Option (List Element)) [ true ↦ path_below 2 (parent prim) cs | false ↦ path_of (text_below prim (c ∷ cs)) ] ≡ Some path
        → (IsUtf8 (drop 2 cs) → path_below 2 (parent prim) cs ≡ Some path → IsPath path) → IsPath path
    cases true e g more = more (IsUtf8-drop (c ∷ cs) 3 u (up_cut (c ∷ cs) u e)) g
    cases false e g more = read_path (text_below prim (c ∷ cs)) path (joined_utf8 prim (c ∷ cs) is u) g

-- a text that is UTF-8, read from the path of a prim
pub path_means_one : (base : List Element) (text : List ℕ) (path : List Element) → IsPath base → IsUtf8 text → path_from base text ≡ Some path → IsPath path
unfolding path_from
path_means_one base text path is u h = cases (begins 47 text) h
  where
    cases : (b : Bool) → elim b as (λ _. Option (List Element)) [ true ↦ path_of text | false ↦ path_below 0 (Some base) text ] ≡ Some path → IsPath path
    cases true g = read_path text path u g
    cases false g = below_path 0 (Some base) text path is u g
