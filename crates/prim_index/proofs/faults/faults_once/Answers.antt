use Rattle.std.proofs.Common.{◌≡◌, ◌∙◌, sym, ap, subst, ◌+◌, Bool, true, List, ◌∷◌, [], ◌++◌, take}
use Rattle.composition.specs.Texts.{Text}
use Rattle.layer_set.specs.Named.{with_name}
use Rattle.composition.specs.Faults.{Fault}
use Rattle.prim_index.proofs.Faulted.{AreNoted, once_so_far, none_yet, none_noted, kept, passed, noted_still, noted_now}
use Rattle.prim_index.proofs.faults.faults_once.Goals as goal
use Rattle.prim_index.proofs.faults.faults_once.Goals.{then-not-has+in_ok-insert+in_ok-copy+in_ok-push, else-not-has}

pub loop-fault-init : goal.loop-fault-init
loop-fault-init c = record {
  once = none_yet c.args.faults.now c.new-once.result c.new-once.ensures;
  noted = none_noted c.new-met.result c.new-met.ensures;
}

pub loop-fault-preserved : goal.loop-fault-preserved
loop-fault-preserved c =
    let faults = c.args.faults.now in
    let i = c.loop-fault.fault-index in
    let x = c.fault-item.result in
    let printed = c.from_string-text.ensures ∙ c.in_ok-print_fault.ensures in
    elim c.if-not-has.branch [
      | then-not-has+in_ok-insert+in_ok-copy+in_ok-push w ↦
          let pushed : c.if-not-has.once ≡ c.loop-fault.once ++ x ∷ [] =
          w.once-is ∙ (w.in_ok-push.ensures.ok ∙ ap (λ (f : Fault). c.loop-fault.once ++ f ∷ []) w.in_ok-copy.ensures) in
          let put : c.if-not-has.met ≡ with_name c.from_string-text.result true c.loop-fault.met = w.met-is ∙ w.in_ok-insert.ensures.ok in
          record {
            once = ap (λ (l : List Fault). once_so_far faults (i + 1) l) pushed
                ∙ kept faults i x c.from_string-text.result c.loop-fault.met c.loop-fault.once c.has.result c.loop-fault-test.true c.fault-item.is printed c.has.ensures
                c.loop-fault.invariant.noted c.loop-fault.invariant.once w.if-not-has.true;
            noted = subst (λ (m : List (Text × Bool)). AreNoted m (take (i + 1) faults)) (sym put)
                (noted_now faults i x c.from_string-text.result c.loop-fault.met c.loop-fault.once c.has.result c.loop-fault-test.true c.fault-item.is printed c.has.ensures
                c.loop-fault.invariant.noted c.loop-fault.invariant.once);
          }
      | else-not-has w ↦
          record {
            once = ap (λ (l : List Fault). once_so_far faults (i + 1) l) w.once-is
                ∙ passed faults i x c.from_string-text.result c.loop-fault.met c.loop-fault.once c.has.result c.loop-fault-test.true c.fault-item.is printed c.has.ensures
                c.loop-fault.invariant.noted c.loop-fault.invariant.once w.if-not-has.false;
            noted = subst (λ (m : List (Text × Bool)). AreNoted m (take (i + 1) faults)) (sym w.met-is)
                (noted_still faults i x c.from_string-text.result c.loop-fault.met c.loop-fault.once c.has.result c.loop-fault-test.true c.fault-item.is printed c.has.ensures
                c.loop-fault.invariant.noted c.loop-fault.invariant.once w.if-not-has.false);
          }
    ]
