use Rattle.std.proofs.Common.{◌≡◌, List, ℕ, Option, Some, None, true, false, is_some, cond, ap, sym, subst, ◌∙◌}
use Rattle.std.specs.Option.{option_or}
use Rattle.std.specs.Ordering.{nat_cmp}
use Rattle.std.specs.Cmp.Lexicographic.{slice_cmp}
use Rattle.std.specs.BTreeMap.{get}
use Rattle.variant_select.specs.Rounds.{same_name}
use Rattle.variant_select.proofs.Lemmas.{one_name, noted, known_before, none_there}
use Rattle.variant_select.proofs.round.note_opinion.Goals as goal

pub returns-in_ok-insert : goal.returns-in_ok-insert
returns-in_ok-insert c = λ s.
    let set : List ℕ = c.args.met.now.set in
    let old : Option (List ℕ) = get (slice_cmp nat_cmp) c.args.firsts.now s in
    let without : get (slice_cmp nat_cmp) c.args.firsts.now set ≡ None = none_there _ c.if-not-contains_key.ensures in
    let updated : get (slice_cmp nat_cmp) c.insert.new.self s ≡ cond (same_name set s) (Some c.in-Some.variant) old =
    c.in_ok-insert.ensures.updates.0 s
    ∙ ap (λ (k : List ℕ). cond (same_name k s) (Some c.in_ok-copy-2.field-0) old) c.in_ok-copy.ensures
    ∙ ap (λ (v : List ℕ). cond (same_name set s) (Some v) old) c.in_ok-copy-2.ensures in
    noted (same_name set s) (get (slice_cmp nat_cmp) c.insert.new.self s) old c.in-Some.variant updated
    (λ h. subst (λ (n : List ℕ). get (slice_cmp nat_cmp) c.args.firsts.now n ≡ None) (one_name set s h) without)
    ∙ ap (λ (o : Option (List ℕ)). option_or old (elim (same_name set s) [ true ↦ o | false ↦ None ])) (sym c.in-Some.is)

pub returns-else-not-contains_key : goal.returns-else-not-contains_key
returns-else-not-contains_key c = λ s.
    known_before (same_name c.args.met.now.set s) (get (slice_cmp nat_cmp) c.args.firsts.now s) c.args.met.now.opinion
    (λ h. subst (λ (n : List ℕ). is_some (get (slice_cmp nat_cmp) c.args.firsts.now n) ≡ true) (one_name c.args.met.now.set s h) (sym c.if-not-contains_key.ensures))
