-- Files that are known at the names that had their turn.
use Rattle.std.proofs.Common.{◌≡◌, ◌∙◌, inl, inr, sym, ap, refl, subst, ℕ, suc, ◌+◌, ◌<◌, ◌≤◌, arith, length, take, Bool, true, false, List, [], ◌∷◌, ◌++◌, Option, Some, None, Result, Ok, Err}
use Rattle.std.specs.List.{slice_get}
use Rattle.std.specs.Prelude.{OnOk}
use Rattle.std.proofs.lemmas.List.Folds.{list_any_at}
use Rattle.std.proofs.lemmas.List.{take_more, take-append-le}
use Rattle.std.proofs.lemmas.Option.{slice_get_within, get_or_from_slice_get}
use Rattle.asset_names.specs.Anchoring.{kind_of}
use Rattle.composition.specs.Texts.{Text, same_text}
use Rattle.layer_set.specs.declared.held.Held.{Held}
use Rattle.layer_stack.specs.Visiting.{AreApart}
use Rattle.layer_load.specs.Answers.{Answers, GoesOn, TakesTurn, Opens}
use Rattle.layer_load.specs.Files.{Files, AreRead, Fit, FitsAt, Stands, StandsAt, taken_of, taken_at}
use Rattle.layer_load.specs.Opening.{Opening, Ending, assets_of, taken, by_turn, loaded, begun, opened_from, opened}
use Rattle.layer_load.specs.declared.fault.LoadFault.{LoadFault}
use Rattle.layer_load.specs.declared.fault.LoadFault.TheVariants.{ReadFault, RootRefused, WorldTooLarge, NoMemory}
use Rattle.layer_load.proofs.Apart.{not_before}
use Rattle.layer_load.specs.Closure.{IsMet, as_named}
use Rattle.layer_load.proofs.Closing.{by_name, known_first as met_first, opened_closed}
use Rattle.layer_stack.proofs.Noting.{has, has_front, has_this}
use Rattle.layer_load.proofs.Noting.{back}
use Rattle.layer_load.proofs.Turns.{one_turn, no_turn, last_turn}
use Rattle.sdf_specs.proofs.PathLemmas.{not_both}
use Rattle.composition.proofs.Same.{same_text_same, same_itself}
use Rattle.composition.proofs.Tests.{by_test}

-- what stands at these names, and how many bytes are fetched for them, is told by the files
pub record Agree (files : Files) (held : Text → Held) (size : Text → ℕ) (names : List Text) : Type 0 where
  pub stand : (q : Text) → has q names ≡ true → StandsAt files q (held q)
  pub sizes : (q : Text) → has q names ≡ true → size q ≡ taken_at files q

-- files that fit what is told, by which the opening goes on as it began, and by which each name is met
pub record Known (told : Option Files) (names : ℕ) (root : Text) (session : Option Text) (left place : ℕ) (s : Opening) : Type 0 where
  pub files : Files
  pub fit : Fit told files
  pub same : (held : Text → Held) (size : Text → ℕ) → Agree files held size (take place s.names) → opened_from held size left place s ≡ opened held size names root session
  pub met : (held : Text → Held) (size : Text → ℕ) → Agree files held size (take place s.names) → (q : Text) → has q s.names ≡ true → IsMet held root session q

-- files with one more of them known
record Extended (told : Option Files) (old : Files) (name : Text) (file : Option (List ℕ)) : Type 0 where
  files : Files
  fit : Fit told files
  here : files name ≡ file
  elsewhere : (q : Text) → same_text q name ≡ false → files q ≡ old q

abbrev with_file : Files → Text → Option (List ℕ) → Files
with_file old name file q = elim (same_text q name) as (λ _. Option (List ℕ)) [ true ↦ file | false ↦ old q ]

extended : (told : Option Files) (old : Files) (name : Text) (file : Option (List ℕ)) → Fit told old → FitsAt told name file → Extended told old name file
extended None old name file fit fits = record {
  files = with_file old name file;
  fit = tt;
  here = ap (λ (b : Bool). elim b as (λ _. Option (List ℕ)) [ true ↦ file | false ↦ old name ]) (same_itself name);
  elsewhere = λ q differ. ap (λ (b : Bool). elim b as (λ _. Option (List ℕ)) [ true ↦ file | false ↦ old q ]) differ;
}
extended (Some f) old name file fit fits = record { files = old; fit = fit; here = ap (λ (g : Files). g name) fit ∙ sym fits; elsewhere = λ q differ. refl }

module _ (told : Option Files) (names : ℕ) (root : Text) (session : Option Text) where
  some_files : (o : Option Files) → (f : Files) × Fit o f
  some_files None = (λ q. None, tt)
  some_files (Some f) = (f, refl)

  pub no_memory : Opens told names root session (Err NoMemory)
  no_memory = let some = some_files told in record { files = some.0; fit = some.1; answers = λ held read. tt; closed = λ held read. tt }

  pub known_first : (s : Opening) → s ≡ begun root session → Known told names root session names 0 s
  unfolding opened
  known_first s is = let some = some_files told in record {
    files = some.0;
    fit = some.1;
    same = λ held size agree. ap (opened_from held size names 0) is;
    met = λ held size agree q h. met_first held size root session session refl q (sym (ap (λ (x : Opening). has q x.names) is) ∙ h);
  }

  -- by files that are read everywhere, the opening goes on as it began
  read_everywhere : (files : Files) (held : Text → Held) → AreRead files held → (front : List Text) → Agree files held (taken_at files) front
  read_everywhere files held read front = record { stand = λ q h. read.stands q; sizes = λ q h. refl }

  module _ (left place : ℕ) (s : Opening) (k : Known told names root session left place s) where
    pub known_end : slice_get s.names place ≡ None → Opens told names root session (Ok (loaded s))
    known_end none = record {
      files = k.files;
      fit = k.fit;
      answers = is;
      closed = λ held read. opened_closed held (taken_at k.files) names root session (loaded s) (is held read);
    }
      where
        is : (held : Text → Held) → AreRead k.files held → opened held (taken_at k.files) names root session ≡ Ok (loaded s)
        is held read = sym (k.same held (taken_at k.files) (read_everywhere k.files held read (take place s.names))) ∙ no_turn held (taken_at k.files) left place s none

    pub known_last : left ≡ 0 → (result : Ending) → result ≡ by_turn (λ n. Err WorldTooLarge) s (slice_get s.names place) → Opens told names root session result
    known_last zero_left result is = by_name (slice_get s.names place)
        (λ none. subst (Opens told names root session) (sym (is ∙ ap (by_turn (λ n. Err WorldTooLarge) s) none)) (known_end none))
        (λ n some.
        let large : by_turn (λ m. Err WorldTooLarge) s (slice_get s.names place) ≡ Err WorldTooLarge = ap (by_turn (λ m. Err WorldTooLarge) s) some in
        subst (Opens told names root session) (sym (is ∙ large)) record {
          files = k.files;
          fit = k.fit;
          answers = λ held read. sym (k.same held (taken_at k.files) (read_everywhere k.files held read (take place s.names))) ∙ (last_turn held (taken_at k.files) left place s zero_left ∙ large);
          closed = λ held read. tt;
        })

  module _ (left place : ℕ) (s new : Opening) (name : Text) (some : slice_get s.names place ≡ Some name) (apart : AreApart s.names) (k : Known told names root session (suc left) place s) where
    new_here : has name (take place s.names) ≡ false
    new_here = not_before s.names place name apart some

    -- before a name had its turn, the files are known where they were
    before : (f : Files) (held : Text → Held) (size : Text → ℕ) (front : List Text) → ((q : Text) → same_text q name ≡ false → f q ≡ k.files q)
        → ((q : Text) → has q (take place s.names) ≡ true → has q front ≡ true) → Agree f held size front → Agree k.files held size (take place s.names)
    before f held size front elsewhere there agree = record {
      stand = λ q h. subst (λ (file : Option (List ℕ)). Stands (kind_of q) file (held q)) (elsewhere q (other q h)) (agree.stand q (there q h));
      sizes = λ q h. agree.sizes q (there q h) ∙ ap (λ (file : Option (List ℕ)). taken_of (kind_of q) file) (elsewhere q (other q h));
    }
      where
        other : (q : Text) → has q (take place s.names) ≡ true → same_text q name ≡ false
        other q h = by_test (same_text q name)
            (λ on. let one : q ≡ name = same_text_same q name on in not_both (ap (λ (x : Text). has x (take place s.names)) (sym one) ∙ h) new_here)
            (λ off. off)

    -- what the opening went on with from there
    turn : (f : Files) (held : Text → Held) (size : Text → ℕ) (file : Option (List ℕ)) → size name ≡ taken_of (kind_of name) file → Agree k.files held size (take place s.names)
        → opened held size names root session ≡ taken (opened_from held size left (place + 1)) s name (held name) (taken_of (kind_of name) file)
    turn f held size file sized agree =
        sym (k.same held size agree) ∙ (one_turn held size left place s name some
        ∙ ap (λ (n : ℕ). taken (opened_from held size left (place + 1)) s name (held name) n) sized)

    pub known_next : (extra : List Text) → new.names ≡ s.names ++ extra → (result : Result (Unit {0}) LoadFault) → result ≡ Ok tt → TakesTurn told name s new result
        → Known told names root session left (place + 1) new
    known_next extra more result ok t =
        let e = extended told k.files name t.file k.fit t.fits in
        let inside : place < length s.names = slice_get_within s.names place name some in
        let lt : place + 1 ≤ length s.names = omega (arith, inside) in
        let front : take (place + 1) new.names ≡ take place s.names ++ name ∷ [] =
        ap (take (place + 1)) more ∙ (take-append-le (place + 1) s.names extra lt
        ∙ (take_more s.names place name inside ∙ ap (λ (n : Text). take place s.names ++ n ∷ []) (get_or_from_slice_get s.names place name name some))) in
        record {
          files = e.files;
          fit = e.fit;
          same = λ held size agree.
              let there : (q : Text) → has q (take place s.names) ≡ true → has q (take (place + 1) new.names) ≡ true =
              λ q h. ap (has q) front ∙ has_front q (take place s.names) (name ∷ []) h in
              let here : has name (take (place + 1) new.names) ≡ true = ap (has name) front ∙ has_this (take place s.names) name in
              let sized : size name ≡ taken_of (kind_of name) t.file = agree.sizes name here ∙ ap (λ (file : Option (List ℕ)). taken_of (kind_of name) file) e.here in
              let stands : Stands (kind_of name) t.file (held name) = subst (λ (file : Option (List ℕ)). Stands (kind_of name) file (held name)) e.here (agree.stand name here) in
              let goes : taken (opened_from held size left (place + 1)) s name (held name) (taken_of (kind_of name) t.file) ≡ opened_from held size left (place + 1) new =
              went_on result ok (t.goes_on (held name) stands (opened_from held size left (place + 1))) in
              sym (turn e.files held size t.file sized (before e.files held size (take (place + 1) new.names) e.elsewhere there agree) ∙ goes);
          met = λ held size agree q h.
              let there : (p : Text) → has p (take place s.names) ≡ true → has p (take (place + 1) new.names) ≡ true =
              λ p i. ap (has p) front ∙ has_front p (take place s.names) (name ∷ []) i in
              let here : has name (take (place + 1) new.names) ≡ true = ap (has name) front ∙ has_this (take place s.names) name in
              let stands : Stands (kind_of name) t.file (held name) = subst (λ (file : Option (List ℕ)). Stands (kind_of name) file (held name)) e.here (agree.stand name here) in
              let old : (p : Text) → has p s.names ≡ true → IsMet held root session p = k.met held size (before e.files held size (take (place + 1) new.names) e.elsewhere there agree) in
              elim (back name (assets_of (held name)) s.names q (sym (ap (has q) (named result ok t.names (held name) stands)) ∙ h)) [
                | inl there ↦ old q there
                | inr give ↦ as_named name q (old name among) give
              ];
        }
      where
        among : has name s.names ≡ true
        among = list_any_at (same_text name) s.names place name (slice_get_within s.names place name some) (ap (same_text name) (get_or_from_slice_get s.names place name name some) ∙ same_itself name)

        named : (r : Result (Unit {0}) LoadFault) → r ≡ Ok tt → {P : Type 0} → OnOk r P → P
        named (Ok u) is p = p
        named (Err e) is p = absurd cc

        went_on : {before now : Ending} (r : Result (Unit {0}) LoadFault) → r ≡ Ok tt → GoesOn r before now → before ≡ now
        went_on (Ok u) is goes = goes
        went_on (Err e) is goes = absurd cc

    pub known_fault : (fault : LoadFault) (result : Result (Unit {0}) LoadFault) → result ≡ Err fault → TakesTurn told name s new result → Opens told names root session (Err fault)
    known_fault fault result err t =
        let e = extended told k.files name t.file k.fit t.fits in
        record {
          files = e.files;
          fit = e.fit;
          answers = λ held read.
              let sized : taken_at e.files name ≡ taken_of (kind_of name) t.file = ap (λ (file : Option (List ℕ)). taken_of (kind_of name) file) e.here in
              let stands : Stands (kind_of name) t.file (held name) = subst (λ (file : Option (List ℕ)). Stands (kind_of name) file (held name)) e.here (read.stands name) in
              ended (taken (opened_from held (taken_at e.files) left (place + 1)) s name (held name) (taken_of (kind_of name) t.file)) (opened_from held (taken_at e.files) left (place + 1) new)
              fault result err (opened held (taken_at e.files) names root session)
              (turn e.files held (taken_at e.files) t.file sized (before e.files held (taken_at e.files) (take place s.names) e.elsewhere (λ q h. h) (read_everywhere e.files held read (take place s.names))))
              (t.goes_on (held name) stands (opened_from held (taken_at e.files) left (place + 1)));
          closed = λ held read. tt;
        }
      where
        ended : (before now : Ending) (f : LoadFault) (r : Result (Unit {0}) LoadFault) → r ≡ Err f → (all : Ending) → all ≡ before → GoesOn r before now → Answers (Err f) all
        ended b n f (Ok u) is all same goes = absurd cc
        ended b n ReadFault (Err e) is all same goes = tt
        ended b n NoMemory (Err e) is all same goes = tt
        ended b n WorldTooLarge (Err WorldTooLarge) is all same goes = same ∙ goes
        ended b n WorldTooLarge (Err ReadFault) is all same goes = absurd cc
        ended b n WorldTooLarge (Err NoMemory) is all same goes = absurd cc
        ended b n WorldTooLarge (Err (RootRefused o r)) is all same goes = absurd cc
        ended b n (RootRefused m q) (Err (RootRefused o r)) is all same goes =
            let one : RootRefused o r ≡ RootRefused m q = cc in
            let as_ending : LoadFault → Ending = λ f. Err f in
            same ∙ (goes ∙ ap as_ending one)
        ended b n (RootRefused m q) (Err WorldTooLarge) is all same goes = absurd cc
        ended b n (RootRefused m q) (Err ReadFault) is all same goes = absurd cc
        ended b n (RootRefused m q) (Err NoMemory) is all same goes = absurd cc
