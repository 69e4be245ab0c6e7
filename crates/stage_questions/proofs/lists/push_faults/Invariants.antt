use Rattle.std.proofs.Common.{◌≡◌, ◌++◌, drop, string_bytes}
use Rattle.std.specs.List.{flat_map}
use Rattle.prim_view.specs.Printing.{fault_text}
use Rattle.stage_questions.specs.Texts.{line_below}
use Rattle.stage_questions.proofs.lists.push_faults.Given as goal

abbrev pub invariant-loop-fault : goal.invariant-loop-fault
invariant-loop-fault l = string_bytes l.out ++ flat_map (λ f. line_below (fault_text f)) (drop l.fault-index l.faults) ≡ string_bytes l.fn.out ++ flat_map (λ f. line_below (fault_text f)) l.faults
