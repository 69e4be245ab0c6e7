-- The entries of several seats in one book.
use Rattle.std.proofs.Common.{◌≡◌, ℕ, zero, suc, ◌-◌, ◌<◌, ◌≤◌, ◌≢◌, List, [], ◌∷◌, ◌++◌, length, get_or, sym, refl, ap, ◌∙◌, subst, arith, cond, ne_eqb, lt-ltb, le-ltb}
use mathlib.Core.Logic.{dite}
use native.Mathlib.Decide.{ℕ_discrete, dec_le}
use Rattle.std.specs.Prelude.{All, nat_lt}
use Rattle.std.proofs.lemmas.List.Elements.{All-cons, All-head, All-tail, All-nil, All-append}
use Rattle.turn_lock.specs.Weights.{times, only}
use Rattle.turn_lock.specs.Seats.{own_entries, numbers_from}
use Rattle.turn_lock.proofs.Sums.{only-same, total-append, span_has}
use Rattle.turn_lock.proofs.Seats.{numbers_weigh}
use Rattle.turn_writers.specs.declared.entry.Entry.{Entry}
use Rattle.turn_writers.specs.Books.{writer, written, entries_of, EachWrote}

only-other : (k x : ℕ) → x ≢ k → only k x ≡ 0
only-other k x ne = ap (λ b. cond b 1 0) (ne_eqb x k ne)

-- what holds of each number of a list holds of a number that stands there
all_has : (P : ℕ → Type 0) (k : ℕ) (ks : List ℕ) → All P ks → 0 < times k ks → P k
all_has P k [] all has = absurd (omega arith)
all_has P k (x ∷ ks) all has = dite (ℕ_discrete x k)
    (λ is. subst P is (All-head P x ks all))
    (λ ne. all_has P k ks (All-tail P x ks all) (omega (arith, only-other k x ne)))

times_at : (ks : List ℕ) (j d : ℕ) → j < length ks → 0 < times (get_or ks j d) ks
times_at [] j d lt = absurd (omega arith)
times_at (x ∷ ks) zero d lt = omega (arith, only-same x)
times_at (x ∷ ks) (suc j) d lt = omega (arith, times_at ks j d (omega arith))

-- the entries of a seat are among the own ones of a list of numbers that has its number
of_own : (k : ℕ) (ks : List ℕ) (es : List Entry) → 0 < times k ks → entries_of k (own_entries writer ks es) ≡ entries_of k es
of_own k ks [] has = refl
of_own k ks (e ∷ es) has =
    let rest : List Entry = own_entries writer ks es in let more = of_own k ks es has in
    dite (dec_le 1 (times e.by ks))
    (λ mine.
    ap (λ b. entries_of k (cond b (e ∷ rest) rest)) (lt-ltb 0 (times e.by ks) (omega arith)) ∙ ap (λ l. cond (nat_lt 0 (times e.by (k ∷ []))) (e ∷ l) l) more)
    (λ not.
    let ne : k ≢ e.by = λ is. absurd (omega (arith, ap (λ (x : ℕ). times x ks) is)) in
    let none-here : times e.by (k ∷ []) ≤ 0 = omega (arith, only-other e.by k ne) in
    ap (λ b. entries_of k (cond b (e ∷ rest) rest)) (le-ltb 0 (times e.by ks) (omega arith)) ∙ (more ∙ ap (λ b. cond b (e ∷ entries_of k es) (entries_of k es)) (sym (le-ltb 0 (times e.by (k ∷ [])) none-here))))

module _ (steps : ℕ) where
  pub each_alone : (k : ℕ) (own ks : List ℕ) (es : List Entry) → own ≡ k ∷ [] → ks ≡ own → own_entries writer own es ≡ written k steps → EachWrote steps ks es
  each_alone k own ks es is same wrote = subst (λ l. EachWrote steps l es) (sym (same ∙ is))
      (All-cons (λ j. entries_of j es ≡ written j steps) k [] (subst (λ l. own_entries writer l es ≡ written k steps) is wrote) (All-nil (λ j. entries_of j es ≡ written j steps)))

  each_kept : (ks : List ℕ) (xs zs : List Entry) → EachWrote steps ks xs → own_entries writer ks zs ≡ own_entries writer ks xs → EachWrote steps ks zs
  each_kept ks xs zs each same j d lt =
      let k : ℕ = get_or ks j d in let has = times_at ks j d lt in
      sym (of_own k ks zs has) ∙ (ap (entries_of k) same ∙ (of_own k ks xs has ∙ each j d lt))

  -- the longer of two lists has what the seats of both wrote
  pub each_joined : (own theirs : List ℕ) (xs ys zs : List Entry) → EachWrote steps own xs → EachWrote steps theirs ys → own_entries writer own zs ≡ own_entries writer own xs → own_entries writer theirs zs ≡ own_entries writer theirs ys
      → EachWrote steps (own ++ theirs) zs
  each_joined own theirs xs ys zs a b same same' = All-append (λ k. entries_of k zs ≡ written k steps) own theirs (each_kept own xs zs a same) (each_kept theirs ys zs b same')

  pub each_has : (ks : List ℕ) (es : List Entry) → EachWrote steps ks es → (k : ℕ) → 0 < times k ks → entries_of k es ≡ written k steps
  each_has ks es each k has = all_has (λ j. entries_of j es ≡ written j steps) k ks each has

-- a seat that has the numbers of both has those that the first one had and could give away
pub grown : (k number : ℕ) (own-s spare-s own-cut spare-cut own-t own-back own-last : List ℕ) → own-cut ≡ own-s → spare-s ≡ number ∷ spare-cut → own-back ≡ number ∷ [] → own-last ≡ own-t ++ own-back → times k own-t ≡ times k (own-cut ++ spare-cut)
    → times k own-last ≡ times k (own-s ++ spare-s)
grown k number own-s spare-s own-cut spare-cut own-t own-back own-last same cut back last inner =
    omega (arith, ap (times k) same, ap (times k) cut, ap (times k) back, ap (times k) last, inner, total-append (only k) own-t own-back, total-append (only k) own-cut spare-cut, total-append (only k) own-s spare-s)

-- the first seat of a desk and its spare numbers are all there are
pub all_from : (seats k : ℕ) → 1 ≤ seats → k < seats → 0 < times k ((0 ∷ []) ++ numbers_from 1 (seats - 1))
all_from seats k least lt = dite (ℕ_discrete k 0)
    (λ z. omega (arith, ap (λ (x : ℕ). only x 0) z, only-same 0))
    (λ nz. omega (arith, numbers_weigh (only k) 1 (seats - 1), span_has k 1 (seats - 1) (omega arith) (omega arith)))
