-- What the calls answer.
use Rattle.std.specs.Prelude.{◌≡◌, ℕ, Result, Ok, Err}
use Rattle.layer_set.specs.Worlds.{WorldData}
use Rattle.layer_edit.specs.Outcomes.{Made}
use Rattle.edit_batches.specs.declared.fault.EditFault.{EditFault}
use Rattle.edit_batches.specs.declared.fault.EditRefused.{EditRefused}
use Rattle.edit_batches.specs.declared.fault.EditRefused.TheVariants.{Op, NoMemory}
use Rattle.edit_batches.specs.declared.fault.OpRefused.{OpRefused}
use Rattle.edit_batches.specs.declared.fault.OpRefused.TheVariants as refused
use Rattle.layer_apply.specs.Edits.{Edited}

-- the fact, of an operation's number and its fault, where an operation was refused
abbrev pub IfOp : EditRefused → (ℕ → EditFault → Type 0) → Type 0
IfOp (Op op fault) P = P op fault
IfOp NoMemory P = Unit {0}

-- an operation on the world of a batch: it is now what is made of it, or the fault is told, unless memory ran out. It is a copy, which
-- is dropped where an operation is refused, so nothing is said of it then.
abbrev pub DoesOne : Result (Unit {0}) OpRefused → WorldData → Made WorldData → Type 0
DoesOne (Ok u) after made = made ≡ Ok after
DoesOne (Err (refused.Fault fault)) after made = made ≡ Err fault
DoesOne (Err refused.NoMemory) after made = Unit {0}

-- a batch on its world: it is now what the edit makes of it, or the first refusal is told, unless memory ran out
abbrev pub DoesAll : Result (Unit {0}) EditRefused → WorldData → Edited → Type 0
DoesAll (Ok u) after edited = edited ≡ Ok after
DoesAll (Err (Op op fault)) after edited = edited ≡ Err (op, fault)
DoesAll (Err NoMemory) after edited = Unit {0}
