-- The places noted at keys after a place was given other keys.
use Rattle.std.proofs.Common.{◌≡◌, Bool, true, false, ◌&&◌, ◌||◌, not, cond, List, Option, Some, None, sym, refl, ap, ◌∙◌}
use Rattle.std.specs.Cmp.{IsTotalOrder, Equal-is, eq_by_cmp_equiv}
use Rattle.std.specs.declared.cmp.Ordering.{Ordering}
use Rattle.std.specs.declared.cmp.Ordering.TheVariants.{Equal}
use Rattle.std.specs.BTreeMap.{BTreeMap, get, is_at}
use Rattle.std.specs.BTreeSet.{BTreeSet, contains}
use Rattle.dependency_table.specs.Tables.{is_listed, keys_found}
use Rattle.dependency_table.proofs.Noted.{undone}

here_again : (listed before : Bool) → ((before || ((listed && not before) && true)) && not (before && not listed && true)) ≡ listed
here_again true true = refl
here_again true false = refl
here_again false true = refl
here_again false false = refl

elsewhere_again : (was listed before : Bool) → ((was || ((listed && not before) && false)) && not (before && not listed && false)) ≡ was
elsewhere_again true true true = refl
elsewhere_again true true false = refl
elsewhere_again true false true = refl
elsewhere_again true false false = refl
elsewhere_again false true true = refl
elsewhere_again false true false = refl
elsewhere_again false false true = refl
elsewhere_again false false false = refl

-- at the place the new keys are noted, and elsewhere what was
put_again : (was here listed before now : Bool) → (here ≡ true → was ≡ before) → (here ≡ true → now ≡ listed) → (here ≡ false → now ≡ was)
    → ((was || ((listed && not before) && here)) && not (before && not listed && here)) ≡ now
put_again was true listed before now a t e = ap (λ (w : Bool). (w || ((listed && not before) && true)) && not (before && not listed && true)) (a refl) ∙ (here_again listed before ∙ sym (t refl))
put_again was false listed before now a t e = elsewhere_again was listed before ∙ sym (e refl)

not_before : (listed before : Bool) → (listed && not before) ≡ true → before ≡ false
not_before true true is = absurd cc
not_before true false is = refl
not_before false before is = absurd cc

without_stale : (noted listed here : Bool) → (noted && not (false && not listed && here)) ≡ noted
without_stale true true here = refl
without_stale true false here = refl
without_stale false listed here = refl

module _ {P K : Type 0} (R : P → P → Ordering) (Q : K → K → Ordering) (o : IsTotalOrder R) (exact : (x y : P) → R x y ≡ Equal → x ≡ y)
    (n0 n1 : K → P → Bool) (old : BTreeMap P (List K)) (place : P) (keys fresh : List K)
    (inv : (p : P) (k : K) → n0 k p ≡ keys_found Q (get R old p) k)
    (news : (k : K) → is_listed Q fresh k ≡ (is_listed Q keys k && not (n0 k place)))
    (linked : (k : K) (p : P) → n1 k p ≡ (n0 k p || (is_listed Q fresh k && is_at (R p) place))) where
  at_place : (p : P) → is_at (R p) place ≡ true → p ≡ place
  at_place p here = exact p place ((Equal-is (R p place)).0 here)

  -- after the keys were taken away again, all is as it was
  pub put_undone : (n2 : K → P → Bool) → ((k : K) (p : P) → n2 k p ≡ (n1 k p && not (is_listed Q fresh k && is_at (R p) place))) → (p : P) (k : K) → n2 k p ≡ keys_found Q (get R old p) k
  put_undone n2 unlinked p k =
      let here : Bool = is_at (R p) place in let new : Bool = is_listed Q fresh k in
      unlinked k p ∙ (ap (λ (b : Bool). b && not (new && here)) (linked k p)
      ∙ (undone (n0 k p) new new here (λ x. x) (λ a h. ap (n0 k) (at_place p h) ∙ not_before (is_listed Q keys k) (n0 k place) (sym (news k) ∙ a)) ∙ inv p k))

  module _ (new : BTreeMap P (List K)) (named : P) (kept : List K) (nm : named ≡ place) (kp : kept ≡ keys)
      (upd : (q : P) → get R new q ≡ cond (is_at (R named) q) (Some kept) (get R old q)) where
    found_by : (p : P) (b : Bool) → is_at (R p) place ≡ b → get R new p ≡ cond b (Some kept) (get R old p)
    found_by p b is =
        let at : is_at (R named) p ≡ b = ap (λ x. is_at (R x) p) nm ∙ (sym ((eq_by_cmp_equiv o).symm p place) ∙ is) in
        upd p ∙ ap (λ (x : Bool). cond x (Some kept) (get R old p)) at

    now_here : (p : P) (k : K) → is_at (R p) place ≡ true → keys_found Q (get R new p) k ≡ is_listed Q keys k
    now_here p k here = ap (λ (m : Option (List K)). keys_found Q m k) (found_by p true here) ∙ ap (λ (l : List K). is_listed Q l k) kp

    now_elsewhere : (p : P) (k : K) → is_at (R p) place ≡ false → keys_found Q (get R new p) k ≡ n0 k p
    now_elsewhere p k there = ap (λ (m : Option (List K)). keys_found Q m k) (found_by p false there) ∙ sym (inv p k)

    -- what was noted at the place before
    was_here : (before : Bool) (k : K) → n0 k place ≡ before → (p : P) → is_at (R p) place ≡ true → n0 k p ≡ before
    was_here before k is p here = ap (n0 k) (at_place p here) ∙ is

    fresh_is : (before : Bool) (k : K) → n0 k place ≡ before → is_listed Q fresh k ≡ (is_listed Q keys k && not before)
    fresh_is before k is = news k ∙ ap (λ (b : Bool). is_listed Q keys k && not b) is

    -- a place that had keys
    pub put_some : (n2 : K → P → Bool) (before : List K) (wanted : BTreeSet K) → Some before ≡ get R old named → ((k : K) → contains Q wanted k ≡ is_listed Q keys k)
        → ((k : K) (p : P) → n2 k p ≡ (n1 k p && not (is_listed Q before k && not (contains Q wanted k) && is_at (R p) place)))
        → (p : P) (k : K) → n2 k p ≡ keys_found Q (get R new p) k
    put_some n2 before wanted had want unlinked p k =
        let here : Bool = is_at (R p) place in let listed : Bool = is_listed Q keys k in let was : Bool = is_listed Q before k in
        let is : n0 k place ≡ was = inv place k ∙ ap (λ (m : Option (List K)). keys_found Q m k) (ap (get R old) (sym nm) ∙ sym had) in
        unlinked k p ∙ (ap (λ (b : Bool). b && not (was && not (contains Q wanted k) && here)) (linked k p)
        ∙ (ap (λ (b : Bool). (n0 k p || (is_listed Q fresh k && here)) && not (was && not b && here)) (want k)
        ∙ (ap (λ (b : Bool). (n0 k p || (b && here)) && not (was && not listed && here)) (fresh_is was k is)
        ∙ put_again (n0 k p) here listed was (keys_found Q (get R new p) k) (was_here was k is p) (now_here p k) (now_elsewhere p k))))

    -- a place that had none
    pub put_none : None ≡ get R old named → (p : P) (k : K) → n1 k p ≡ keys_found Q (get R new p) k
    put_none had p k =
        let here : Bool = is_at (R p) place in let listed : Bool = is_listed Q keys k in
        let is : n0 k place ≡ false = inv place k ∙ ap (λ (m : Option (List K)). keys_found Q m k) (ap (get R old) (sym nm) ∙ sym had) in
        linked k p ∙ (ap (λ (b : Bool). n0 k p || (b && here)) (fresh_is false k is)
        ∙ (sym (without_stale (n0 k p || ((listed && not false) && here)) listed here)
        ∙ put_again (n0 k p) here listed false (keys_found Q (get R new p) k) (was_here false k is p) (now_here p k) (now_elsewhere p k)))
