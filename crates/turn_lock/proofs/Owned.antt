-- What is a seat's own in a list.
use Rattle.std.proofs.Common.{◌≡◌, ℕ, zero, suc, ◌+◌, ◌-◌, ◌<◌, List, [], ◌∷◌, ◌++◌, get_or, sym, refl, ap, ◌∙◌, subst, ⊎_elim, arith, cond, lt-ltb, le-ltb}
use mathlib.Core.Option.{none}
use Rattle.std.specs.Prelude.{All, nat_lt}
use Rattle.std.proofs.lemmas.List.{append-nil, append_cancel_left}
use Rattle.std.proofs.lemmas.List.Elements.{All-cons, All-head, All-tail, All-nil, filter-append}
use Rattle.turn_lock.specs.Weights.{span, only, times}
use Rattle.atomic_table.specs.Table.{step}
use Rattle.turn_lock.specs.Turns.{NoneBorne, GoesOn, Unused, Adds, Longer, longer, joined, settles, Sat}
use Rattle.turn_lock.specs.Seats.{own_entries, numbers_from}
use Rattle.turn_lock.specs.declared.view.Part.{Part}
use Rattle.turn_lock.specs.declared.view.View.{View}
use Rattle.turn_lock.proofs.Sums.{only-same, span_first}

-- each number from b on is above those below b
pub numbers_from_above : (a b n : ℕ) → a < b → All (λ k. a < k) (numbers_from b n)
numbers_from_above a b zero lt = All-nil (λ k. a < k)
numbers_from_above a b (suc n) lt = All-cons (λ k. a < k) b (numbers_from (b + 1) n) lt (numbers_from_above a (b + 1) n (omega arith))

module _ {E : Type 0} (bears : E → ℕ) where
  pub own-append : (numbers : List ℕ) (xs ys : List E) → own_entries bears numbers (xs ++ ys) ≡ own_entries bears numbers xs ++ own_entries bears numbers ys
  own-append numbers xs ys = filter-append (λ e. nat_lt 0 (times (bears e) numbers)) xs ys

  pub own-none : (numbers : List ℕ) (es : List E) → NoneBorne bears numbers es → own_entries bears numbers es ≡ []
  own-none numbers [] none-borne = refl
  own-none numbers (e ∷ es) none-borne =
      let P : E → Type 0 = λ x. times (bears x) numbers ≡ 0 in let rest : List E = own_entries bears numbers es in
      ap (λ b. cond b (e ∷ rest) rest) (le-ltb 0 (times (bears e) numbers) (let h = All-head P e es none-borne in omega arith)) ∙ own-none numbers es (All-tail P e es none-borne)

  pub own-all : (numbers : List ℕ) (es : List E) → All (λ e. 0 < times (bears e) numbers) es → own_entries bears numbers es ≡ es
  own-all numbers [] all = refl
  own-all numbers (e ∷ es) all =
      let P : E → Type 0 = λ x. 0 < times (bears x) numbers in let rest : List E = own_entries bears numbers es in
      ap (λ b. cond b (e ∷ rest) rest) (lt-ltb 0 (times (bears e) numbers) (All-head P e es all)) ∙ ap (λ l. e ∷ l) (own-all numbers es (All-tail P e es all))

  -- where the list goes on with entries of others, the own ones are those that were seen
  pub own_found : (p : Part E) (log : List E) → GoesOn bears p log → own_entries bears p.own log ≡ own_entries bears p.own p.seen
  own_found p log on =
      ap (own_entries bears p.own) on.1 ∙ (own-append p.own p.seen on.0 ∙ (ap (λ l. own_entries bears p.own p.seen ++ l) (own-none p.own on.0 on.2) ∙ append-nil (own_entries bears p.own p.seen)))

  -- what a seat adds stands behind its own entries
  pub own_added : (numbers : List ℕ) (number : ℕ) (others : List ℕ) → numbers ≡ number ∷ others → (taken added more : List E) → Adds bears number taken more → more ≡ taken ++ added
      → own_entries bears numbers more ≡ own_entries bears numbers taken ++ added
  own_added numbers number others is taken added more adds more-is =
      let same : adds.0 ≡ added = append_cancel_left taken adds.0 added (sym adds.1 ∙ more-is) in
      let bear : All (λ e. bears e ≡ number) added = subst (All (λ e. bears e ≡ number)) same adds.2 in
      let mine : All (λ e. 0 < times (bears e) numbers) added = λ k d lt. omega (arith, ap (λ (x : ℕ). times x numbers) (bear k d lt), ap (times number) is, only-same number) in
      ap (own_entries bears numbers) more-is ∙ (own-append numbers taken added ∙ ap (λ l. own_entries bears numbers taken ++ l) (own-all numbers added mine))

  -- the longer of two lists has the own entries of both
  pub own_joined : (p q : Part E) (seen : List E) → Longer bears p q seen → (own_entries bears p.own seen ≡ own_entries bears p.own p.seen) × (own_entries bears q.own seen ≡ own_entries bears q.own q.seen)
  own_joined p q seen joined = ⊎_elim
      (λ (t : (seen ≡ p.seen) × GoesOn bears q p.seen). (ap (own_entries bears p.own) t.0, ap (own_entries bears q.own) t.0 ∙ own_found q p.seen t.1))
      (λ (t : (seen ≡ q.seen) × GoesOn bears p q.seen). (ap (own_entries bears p.own) t.0 ∙ own_found p q.seen t.1, ap (own_entries bears q.own) t.0))
      joined

  -- a spare number is borne by nothing that was seen
  pub own_fresh : (p : Part E) (least : ℕ) → p.least ≡ least → 0 < p.spare → Unused bears p p.seen → own_entries bears (least ∷ []) p.seen ≡ []
  own_fresh p least is has unused = own-none (least ∷ []) p.seen (λ k d lt.
      let x : ℕ = bears (get_or p.seen k d) in let left : ℕ = p.spare - 1 in let count : p.spare ≡ suc left = omega arith in
      omega (arith, unused k d lt, ap (span (only x) p.least) count, span_first (only x) p.least left, ap (only x) is))

  -- what a join ends with
  pub own_settled : {T N : Type 0} (entries : T → List E) (named : T → N) (m n : Sat bears entries named) (v w : View E N) → m.0 ≡ joined v w → settles bears entries named (step 0 0 0 0 none) m 0 n
      → (own_entries bears v.mine.own n.0.mine.seen ≡ own_entries bears v.mine.own v.mine.seen) × (own_entries bears w.mine.own n.0.mine.seen ≡ own_entries bears w.mine.own w.mine.seen)
  own_settled {T} {N} entries named m n v w both done =
      let seen : n.0.mine.seen ≡ longer v.mine.seen w.mine.seen = ap (λ x. x.0.mine.seen) done.0 ∙ ap (λ (u : View E N). longer u.mine.seen u.told.seen) both in
      let long : Longer bears v.mine w.mine (longer v.mine.seen w.mine.seen) = subst (λ (u : View E N). Longer bears u.mine u.told (longer u.mine.seen u.told.seen)) both done.1 in
      own_joined v.mine w.mine n.0.mine.seen (subst (Longer bears v.mine w.mine) (sym seen) long)
