-- A text that is read as a path can be written: nothing in it closes it.
use Rattle.std.proofs.Common.{◌≡◌, ◌∙◌, ℕ, zero, suc, ◌<◌, ◌&&◌, ◌||◌, ◌==◌, not, nat_le, Bool, true, false, List, [], ◌∷◌, ◌++◌, length, drop, Option, Some, None, ap, sym, refl, arith, eqb-true}
use Rattle.std.specs.Prelude.{codes}
use Rattle.std.specs.List.{list_any}
use Rattle.std.specs.Str.{chars, is_utf8, IsUtf8, IsAscii}
use Rattle.std.proofs.lemmas.Bool.Decides.{nat_tests}
use Rattle.std.proofs.lemmas.Str.{IsUtf8-from_is_utf8, IsUtf8-from_ascii, IsUtf8-append, IsUtf8-drop}
use Rattle.std.proofs.lemmas.Bool.{and_parts}
use Rattle.unicode_ident.proofs.Computing.{unicode_ident}
use Rattle.usd_names.specs.Names.{is_start, is_variant_character}
use Rattle.sdf_paths.specs.Reader.{step, step_open, after, after_all, start}
use Rattle.sdf_paths.specs.declared.element.Element.{Element}
use Rattle.sdf_paths.specs.declared.reader.Open.{Open}
use Rattle.sdf_paths.specs.declared.reader.Open.TheVariants.{Nothing, Name, Set, AfterSet, Variant, Selected, PropertyName}
use Rattle.sdf_paths.specs.declared.reader.Reader.{Reader}
use Rattle.sdf_paths.proofs.NameRuns.{after_none}
use Rattle.usda_lexer.specs.Blanks.{begins}
use Rattle.usda_values.specs.PathTexts.{finishes, is_path, begins_up, behind_ups, is_path_below, is_path_text}
use Rattle.usda_values.proofs.Ups.{up_step, up_cut, no_up, is_up}
use Rattle.value_texts.specs.Writable.{is_writable_path}
use Rattle.value_texts.proofs.AsciiTests.{no_byte, one_ascii}

-- what closes a path, or ends its line
abbrev pub closes : ℕ → Bool
closes c = (c == 62) || (c == 10)

-- no path goes on with it
no_closing : (es : List Element) (n : ℕ) (o : Open) → step_open es n o 62 ≡ None
unfolding unicode_ident is_start is_variant_character
no_closing es n Nothing = refl
no_closing es n (Name name true) = refl
no_closing es n (Name name false) = refl
no_closing es n (Set set true) = refl
no_closing es n (Set set false) = refl
no_closing es n (AfterSet set) = refl
no_closing es n (Variant set variant begun) = refl
no_closing es n Selected = refl
no_closing es n (PropertyName name true) = refl
no_closing es n (PropertyName name false) = refl

no_line : (es : List Element) (n : ℕ) (o : Open) → step_open es n o 10 ≡ None
unfolding unicode_ident is_start is_variant_character
no_line es n Nothing = refl
no_line es n (Name name true) = refl
no_line es n (Name name false) = refl
no_line es n (Set set true) = refl
no_line es n (Set set false) = refl
no_line es n (AfterSet set) = refl
no_line es n (Variant set variant begun) = refl
no_line es n Selected = refl
no_line es n (PropertyName name true) = refl
no_line es n (PropertyName name false) = refl

stops : (r : Reader) (c : ℕ) → closes c ≡ true → step r c ≡ None
unfolding step
stops r c h = cases (c == 62) refl
  where
    cases : (b : Bool) → (c == 62) ≡ b → step_open r.elements r.names r.open_part c ≡ None
    cases true e = ap (step_open r.elements r.names r.open_part) (eqb-true c 62 e) ∙ no_closing r.elements r.names r.open_part
    cases false e =
        let feed : (c == 10) ≡ true = sym (ap (λ b. b || (c == 10)) e) ∙ h in
        ap (step_open r.elements r.names r.open_part) (eqb-true c 10 feed) ∙ no_line r.elements r.names r.open_part

-- the characters of a path
read_none : (cs : List ℕ) (r last : Reader) → after_all cs (Some r) ≡ Some last → list_any closes cs ≡ false
read_none [] r last h = refl
read_none (c ∷ cs) r last h = cases (step r c) refl h (λ next k. read_none cs next last k)
  where
    cases : (o : Option Reader) → step r c ≡ o → after_all cs o ≡ Some last → ((next : Reader) → after_all cs (Some next) ≡ Some last → list_any closes cs ≡ false) → (closes c || list_any closes cs) ≡ false
    cases None e k more = absurd (let none = after_none cs in cc)
    cases (Some next) e k more = plain (closes c) refl
      where
        plain : (b : Bool) → closes c ≡ b → (b || list_any closes cs) ≡ false
        plain false f = more next k
        plain true f = absurd (let none = stops r c f in cc)

-- their bytes
pub closes_low : (b : ℕ) → closes b ≡ true → b < 128
closes_low b h = grind (arith, nat_tests)

path_none : (text : List ℕ) → IsUtf8 text → is_path text ≡ true → list_any closes text ≡ false
unfolding is_path
path_none text utf8 h = cases (after (chars text)) refl (and_parts (nat_le (length text) 4096) (finishes (after (chars text))) h).1
  where
    cases : (o : Option Reader) → after (chars text) ≡ o → finishes o ≡ true → list_any closes text ≡ false
    cases None e f = absurd cc
    cases (Some last) e f = no_byte closes closes_low text utf8 (read_none (chars text) start last e)

ascii_two : (a b : ℕ) → a < 128 → b < 128 → IsAscii (a ∷ b ∷ [])
ascii_two a b h k zero = h
ascii_two a b h k (suc zero) = k
ascii_two a b h k (suc (suc i)) = omega arith

below_none : (text : List ℕ) → IsUtf8 text → is_path_below text ≡ true → list_any closes text ≡ false
below_none [] utf8 h = absurd cc
below_none (c ∷ cs) utf8 h = cases (begins 46 (c ∷ cs)) refl
  where
    cases : (b : Bool) → begins 46 (c ∷ cs) ≡ b → list_any closes (c ∷ cs) ≡ false
    cases true e =
        let path : is_path (codes "/a" ++ c ∷ cs) ≡ true = sym (ap (λ b. elim b as (λ _. Bool) [ true ↦ is_path (codes "/a" ++ c ∷ cs) | false ↦ is_path (codes "/" ++ c ∷ cs) ]) e) ∙ h in
        path_none (codes "/a" ++ c ∷ cs) (IsUtf8-append (codes "/a") (c ∷ cs) (IsUtf8-from_ascii (codes "/a") (ascii_two 47 97 (omega arith) (omega arith))) utf8) path
    cases false e =
        let path : is_path (codes "/" ++ c ∷ cs) ≡ true = sym (ap (λ b. elim b as (λ _. Bool) [ true ↦ is_path (codes "/a" ++ c ∷ cs) | false ↦ is_path (codes "/" ++ c ∷ cs) ]) e) ∙ h in
        path_none (codes "/" ++ c ∷ cs) (IsUtf8-append (codes "/") (c ∷ cs) (IsUtf8-from_ascii (codes "/") (one_ascii 47 (omega arith))) utf8) path

-- `../` in front
ups_none : (text : List ℕ) → IsUtf8 text → is_path_below (behind_ups 0 text) ≡ true → list_any closes text ≡ false
ups_none text utf8 h = by_ups text utf8 h
  where
    plain : (text : List ℕ) → IsUtf8 text → begins_up text ≡ false → is_path_below (behind_ups 0 text) ≡ true → list_any closes text ≡ false
    plain text utf8 e h = below_none text utf8 (sym (ap is_path_below (no_up text e)) ∙ h)

    by_ups : (text : List ℕ) → IsUtf8 text → is_path_below (behind_ups 0 text) ≡ true → list_any closes text ≡ false
    by_ups [] utf8 h = refl
    by_ups (a ∷ []) utf8 h = plain (a ∷ []) utf8 (short (begins 46 (a ∷ []))) h
      where
        short : (b : Bool) → (b && (false && false)) ≡ false
        short true = refl
        short false = refl
    by_ups (a ∷ b ∷ []) utf8 h = plain (a ∷ b ∷ []) utf8 (short (begins 46 (a ∷ b ∷ [])) (begins 46 (b ∷ []))) h
      where
        short : (x y : Bool) → (x && (y && false)) ≡ false
        short true true = refl
        short true false = refl
        short false y = refl
    by_ups (a ∷ b ∷ c ∷ rest) utf8 h = cases (begins_up (a ∷ b ∷ c ∷ rest)) refl (λ u k. by_ups rest u k)
      where
        cases : (t : Bool) → begins_up (a ∷ b ∷ c ∷ rest) ≡ t → (IsUtf8 rest → is_path_below (behind_ups 0 rest) ≡ true → list_any closes rest ≡ false) → list_any closes (a ∷ b ∷ c ∷ rest) ≡ false
        cases false e more = plain (a ∷ b ∷ c ∷ rest) utf8 e h
        cases true e more =
            let p = is_up (a ∷ b ∷ c ∷ rest) e in
            let left : rest ≡ p.0 = ap (drop 3) p.1 in
            let below : list_any closes rest ≡ false = more (IsUtf8-drop (a ∷ b ∷ c ∷ rest) 3 utf8 (up_cut (a ∷ b ∷ c ∷ rest) utf8 e)) (sym (ap is_path_below (up_step (a ∷ b ∷ c ∷ rest) e)) ∙ h) in
            ap (list_any closes) p.1 ∙ sym (ap (list_any closes) left) ∙ below

pub path_writable : (text : List ℕ) → is_utf8 text ≡ true → is_path_text text ≡ true → is_writable_path text ≡ true
unfolding is_path_text
path_writable text u h = ap not (cases (begins 47 text) refl)
  where
    utf8 : IsUtf8 text
    utf8 = IsUtf8-from_is_utf8 text u

    cases : (b : Bool) → begins 47 text ≡ b → list_any closes text ≡ false
    cases true e = path_none text utf8 (sym (ap (λ b. elim b as (λ _. Bool) [ true ↦ is_path text | false ↦ is_path_below (behind_ups 0 text) ]) e) ∙ h)
    cases false e = ups_none text utf8 (sym (ap (λ b. elim b as (λ _. Bool) [ true ↦ is_path text | false ↦ is_path_below (behind_ups 0 text) ]) e) ∙ h)
