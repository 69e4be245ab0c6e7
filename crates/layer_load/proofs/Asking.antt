-- Names that are asked for, turn by turn.
use Rattle.std.proofs.Common.{◌≡◌, ◌∙◌, inl, inr, sym, ap, refl, subst, ℕ, zero, suc, ◌+◌, ◌<◌, ◌≤◌, arith, length, take, Bool, true, false, List, [], ◌∷◌, ◌++◌, append-nil, append_assoc, Option, Some, None}
use Rattle.std.specs.List.{slice_get}
use Rattle.std.specs.Prelude.{IfSome}
use Rattle.std.proofs.lemmas.List.{take_more, take-append-le}
use Rattle.std.proofs.lemmas.List.Folds.{list_any_at}
use Rattle.std.proofs.lemmas.Option.{slice_get_within, get_or_from_slice_get}
use Rattle.std.proofs.lemmas.Bool.{or_cases, or_left, or_right}
use Rattle.asset_names.specs.Anchoring.{kind_of}
use Rattle.asset_names.specs.declared.name.NameKind.TheVariants as kind
use Rattle.composition.specs.Texts.{Text, same_text}
use Rattle.io_edges.specs.Edges.{Asks, AsksAtMost}
use Rattle.layer_set.specs.declared.held.Held.{Held}
use Rattle.layer_stack.specs.Visiting.{AreApart}
use Rattle.layer_load.specs.Asking.{IsAsking, AsksInTurn, AsksMet}
use Rattle.layer_load.specs.Files.{Files, AreRead, StandsAt, taken_at}
use Rattle.layer_load.specs.Opening.{Opening}
use Rattle.layer_load.proofs.Apart.{behind}
use Rattle.layer_load.proofs.Known.{Known}
use Rattle.layer_stack.proofs.Noting.{has, has_front, has_last, has_this}
use Rattle.sdf_specs.proofs.PathLemmas.{not_both}
use Rattle.composition.proofs.Same.{same_itself}

-- a name of the front is a name of the whole
pub has_of_take : (q : Text) (n : ℕ) (names : List Text) → has q (take n names) ≡ true → has q names ≡ true
has_of_take q zero names h = not_both h refl
has_of_take q (suc n) [] h = h
has_of_take q (suc n) (x ∷ names) h = elim (or_cases (same_text q x) (has q (take n names)) h) [
  | inl here ↦ or_left (same_text q x) (has q names) here
  | inr later ↦ or_right (same_text q x) (has q names) (has_of_take q n names later)
]

module _ (names : List Text) (place : ℕ) (name : Text) (some : slice_get names place ≡ Some name) where
  inside : place < length names
  inside = slice_get_within names place name some

  -- the names that had their turn, and one more
  pub one_turn_more : (new extra : List Text) → new ≡ names ++ extra → take (place + 1) new ≡ take place names ++ name ∷ []
  one_turn_more new extra more =
      let lt : place + 1 ≤ length names = omega (arith, inside) in
      ap (take (place + 1)) more ∙ (take-append-le (place + 1) names extra lt
      ∙ (take_more names place name inside ∙ ap (λ (n : Text). take place names ++ n ∷ []) (get_or_from_slice_get names place name name some)))

  -- they are names that are there
  pub turn_within : (q : Text) → has q (take place names ++ name ∷ []) ≡ true → has q names ≡ true
  turn_within q h = elim (has_last q (take place names) name h) [
    | inl front ↦ has_of_take q place names front
    | inr one ↦ list_any_at (same_text q) names place name inside (ap (same_text q) (get_or_from_slice_get names place name name some) ∙ subst (λ (x : Text). same_text q x ≡ true) one (same_itself q))
  ]

-- no name was asked for
pub asks_none : (before : Option (List Text)) → Asks before before []
asks_none None = refl
asks_none (Some b) = ap Some (sym (append-nil b))

-- names behind others
asks_more : (before now after : Option (List Text)) (xs ys : List Text) → Asks before now xs → Asks now after ys → Asks before after (xs ++ ys)
asks_more None now after xs ys first second = subst (λ (o : Option (List Text)). Asks o after ys) first second
asks_more (Some b) now after xs ys first second =
    subst (λ (o : Option (List Text)). Asks o after ys) first second ∙ ap Some (append_assoc b xs ys)

module _ (before after : Option (List Text)) (name : Text) where
  -- a turn in which no file was asked for
  pub turn_without : after ≡ before → AsksInTurn before after name
  turn_without same = record { asked = []; asks = subst (λ (o : Option (List Text)). Asks before o []) (sym same) (asks_none before); only = tt }

  -- a turn of a name whose file is read
  pub turn_of_file : (text : Text) → text ≡ name → kind_of name ≡ kind.Plain → AsksAtMost before after text → AsksInTurn before after name
  turn_of_file text same plain (inl none) = record { asked = []; asks = none; only = tt }
  turn_of_file text same plain (inr one) = record { asked = text ∷ []; asks = one; only = (same, plain) }

-- where nothing was asked for, all of it is met
pub nothing_asked : (told : Option Files) (root : Text) (session : Option Text) (before : Option (List Text)) → IfSome told (λ files. AsksMet files root session before before)
nothing_asked None root session before = tt
nothing_asked (Some files) root session before = record {
  asked = [];
  asks = asks_none before;
  once = tt;
  plain = λ q h. not_both h refl;
  met = λ held read q h. not_both h refl;
}

-- what was asked for in the turns of these names
pub record AskedSoFar (before now : Option (List Text)) (front : List Text) : Type 0 where
  pub asked : List Text
  pub asks : Asks before now asked
  pub once : AreApart asked
  pub plain : (q : Text) → has q asked ≡ true → kind_of q ≡ kind.Plain
  pub among : (q : Text) → has q asked ≡ true → has q front ≡ true

pub asked_first : (before : Option (List Text)) (front : List Text) → AskedSoFar before before front
asked_first before front = record { asked = []; asks = asks_none before; once = tt; plain = λ q h. not_both h refl; among = λ q h. not_both h refl }

module _ (before now after : Option (List Text)) (front : List Text) (name : Text) (so_far : AskedSoFar before now front) (new : has name front ≡ false) where
  not_yet : (b : Bool) → has name so_far.asked ≡ b → has name so_far.asked ≡ false
  not_yet false is = is
  not_yet true is = not_both (so_far.among name is) new

  with_one : Asks now after (name ∷ []) → kind_of name ≡ kind.Plain → AskedSoFar before after (front ++ name ∷ [])
  with_one asks plain = record {
    asked = so_far.asked ++ name ∷ [];
    asks = asks_more before now after so_far.asked (name ∷ []) so_far.asks asks;
    once = behind so_far.asked name so_far.once (not_yet (has name so_far.asked) refl);
    plain = λ q h. elim (has_last q so_far.asked name h) [ inl old ↦ so_far.plain q old | inr one ↦ subst (λ (x : Text). kind_of x ≡ kind.Plain) (sym one) plain ];
    among = λ q h. elim (has_last q so_far.asked name h) [
      | inl old ↦ has_front q front (name ∷ []) (so_far.among q old)
      | inr one ↦ subst (λ (x : Text). has x (front ++ name ∷ []) ≡ true) (sym one) (has_this front name)
    ];
  }

  without : Asks now after [] → AskedSoFar before after (front ++ name ∷ [])
  without asks = record {
    asked = so_far.asked;
    asks = subst (Asks before after) (append-nil so_far.asked) (asks_more before now after so_far.asked [] so_far.asks asks);
    once = so_far.once;
    plain = so_far.plain;
    among = λ q h. has_front q front (name ∷ []) (so_far.among q h);
  }

  by_asking : (asked : List Text) → Asks now after asked → IsAsking name asked → AskedSoFar before after (front ++ name ∷ [])
  by_asking [] asks only = without asks
  by_asking (n ∷ []) asks (same, plain) = with_one (subst (λ (x : Text). Asks now after (x ∷ [])) same asks) plain
  by_asking (n ∷ m ∷ ms) asks only = absurd only

  pub asked_next : AsksInTurn now after name → AskedSoFar before after (front ++ name ∷ [])
  asked_next turn = by_asking turn.asked turn.asks turn.only

module _ (names : ℕ) (root : Text) (session : Option Text) (left place : ℕ) (s : Opening) (before after : Option (List Text)) (front : List Text)
    (so_far : AskedSoFar before after front) (within : (q : Text) → has q front ≡ true → has q s.names ≡ true) where
  read_at : (told files : Files) (held : Text → Held) → files ≡ told → AreRead told held → (q : Text) → StandsAt files q (held q)
  read_at told files held same read q = subst (λ (f : Files). StandsAt f q (held q)) (sym same) (read.stands q)

  -- all that was asked for is met, where the files are told
  pub asked_met : (told : Option Files) → Known told names root session left place s → IfSome told (λ files. AsksMet files root session before after)
  asked_met None k = tt
  asked_met (Some files) k = record {
    asked = so_far.asked;
    asks = so_far.asks;
    once = so_far.once;
    plain = so_far.plain;
    met = λ held read q h. k.met held (taken_at k.files) record { stand = λ p i. read_at files k.files held k.fit read p; sizes = λ p i. refl } q (within q (so_far.among q h));
  }
