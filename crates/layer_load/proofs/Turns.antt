-- Turns of an opening.
use Rattle.std.proofs.Common.{◌≡◌, ap, refl, ℕ, zero, suc, ◌+◌, ◌<◌, ◌≤◌, arith, Bool, true, false, Option, Some, None, Ok, Err}
use Rattle.std.specs.Prelude.{nat_lt, slice_get}
use Rattle.std.proofs.lemmas.Bool.{ltb-true, lt-ltb}
use Rattle.composition.specs.Texts.{Text}
use Rattle.layer_set.specs.declared.held.Held.{Held}
use Rattle.layer_load.specs.Answers.{GoesOn, AnswersWith}
use Rattle.layer_load.specs.Opening.{Opening, Ending, most_bytes, judged, unless_large, taken, by_turn, loaded, opened_from}
use Rattle.layer_load.specs.declared.fault.LoadFault.{LoadFault}
use Rattle.layer_load.specs.declared.fault.LoadFault.TheVariants.{ReadFault, RootRefused, WorldTooLarge, NoMemory}

not_less : (a b : ℕ) (t : Bool) → nat_lt a b ≡ t → b ≤ a → nat_lt a b ≡ false
not_less a b false is le = is
not_less a b true is le = let lt : a < b = ltb-true a b is in absurd (omega (arith, lt, le))

module _ (go : Opening → Ending) (s : Opening) (name : Text) (held : Held) (size : ℕ) where
  -- the bytes in all are not too many
  pub taken_small : s.bytes + size ≤ most_bytes → taken go s name held size ≡ judged go s name held (s.bytes + size)
  unfolding taken
  taken_small small = ap (λ (b : Bool). unless_large go s name held (s.bytes + size) b) (not_less most_bytes (s.bytes + size) (nat_lt most_bytes (s.bytes + size)) refl small)

  pub taken_large : most_bytes < s.bytes + size → taken go s name held size ≡ Err WorldTooLarge
  unfolding taken
  taken_large large = ap (λ (b : Bool). unless_large go s name held (s.bytes + size) b) (lt-ltb most_bytes (s.bytes + size) large)

  -- a layer that was not loaded ends the opening
  pub not_loaded : (Is : Held → Type 0) (e : LoadFault) (now : Ending) → AnswersWith Is s.bytes size (Err e) → GoesOn (Err e) (taken go s name held size) now
  not_loaded Is ReadFault now answers = tt
  not_loaded Is (RootRefused root refusal) now answers = absurd answers
  not_loaded Is WorldTooLarge now answers = taken_large answers
  not_loaded Is NoMemory now answers = tt

module _ (held : Text → Held) (size : Text → ℕ) where
  pub one_turn : (left place : ℕ) (s : Opening) (name : Text) → slice_get s.names place ≡ Some name
      → opened_from held size (suc left) place s ≡ taken (opened_from held size left (place + 1)) s name (held name) (size name)
  unfolding opened_from
  one_turn left place s name is = ap (λ (o : Option Text). by_turn (λ n. taken (opened_from held size left (place + 1)) s n (held n) (size n)) s o) is

  pub no_turn : (left place : ℕ) (s : Opening) → slice_get s.names place ≡ None → opened_from held size left place s ≡ Ok (loaded s)
  unfolding opened_from
  no_turn zero place s is = ap (λ (o : Option Text). by_turn (λ n. Err WorldTooLarge) s o) is
  no_turn (suc left) place s is = ap (λ (o : Option Text). by_turn (λ n. taken (opened_from held size left (place + 1)) s n (held n) (size n)) s o) is

  pub last_turn : (left place : ℕ) (s : Opening) → left ≡ 0 → opened_from held size left place s ≡ by_turn (λ n. Err WorldTooLarge) s (slice_get s.names place)
  unfolding opened_from
  last_turn zero place s is = refl
  last_turn (suc left) place s is = absurd (omega (arith, is))
