-- What reading a part of a line answers.
use Rattle.std.specs.Prelude.{◌≡◌, Option, Some, None, Result, Ok, Err}
use Rattle.sdf_values.specs.declared.refusal.RefusalKind.{RefusalKind}
use Rattle.usda_values.specs.declared.fault.PartFault.{PartFault}
use Rattle.usda_values.specs.declared.fault.PartFault.TheVariants as act
use Rattle.script_words.specs.declared.fault.LineFault.{LineFault}
use Rattle.script_words.specs.declared.fault.LineFault.TheVariants.{Bad, NoMemory}

-- what is read of a value, where there is one
infixl 10 ◌>>=◌
abbrev pub ◌>>=◌ : {A B : Type 0} → Option A → (A → Option B) → Option B
(Some x) >>= f = f x
None >>= f = None

-- the value that stands there, or that none does, unless memory ran out
abbrev pub Finds : {X : Type 0} → Result X LineFault → Option X → Type 0
Finds (Ok x) found = found ≡ Some x
Finds (Err Bad) found = found ≡ None
Finds (Err NoMemory) found = Unit {0}

-- the same of a value as it is seen by the definitions
abbrev pub FindsAs : {X Y : Type 0} → (X → Y) → Result X LineFault → Option Y → Type 0
FindsAs view (Ok x) found = found ≡ Some (view x)
FindsAs view (Err Bad) found = found ≡ None
FindsAs view (Err NoMemory) found = Unit {0}

-- a step that leaves what was read before, or with which nothing is read
abbrev pub Goes : {X : Type 0} → Result (Unit {0}) LineFault → Option X → Option X → Type 0
Goes (Ok u) before after = before ≡ after
Goes (Err Bad) before after = before ≡ None
Goes (Err NoMemory) before after = Unit {0}

-- a refusal of a token is one of the line
abbrev pub of_act : PartFault → LineFault
of_act (act.Refused k) = Bad
of_act act.NoMemory = NoMemory

-- what is made, where it is not refused
abbrev pub made : {A : Type 0} → Result A RefusalKind → Option A
made (Ok a) = Some a
made (Err k) = None
