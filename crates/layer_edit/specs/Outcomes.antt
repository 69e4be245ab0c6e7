-- What an edit makes, or why it is refused.
use Rattle.std.specs.Prelude.{◌≡◌, Bool, List, [], ◌∷◌, Option, Some, None, Result, Ok, Err, if◌then◌else◌}
use Rattle.edit_batches.specs.declared.fault.EditFault.{EditFault}
use Rattle.edit_batches.specs.declared.fault.OpRefused.{OpRefused}
use Rattle.edit_batches.specs.declared.fault.OpRefused.TheVariants.{Fault, NoMemory}

-- what an edit makes, or the fault with which it is refused
abbrev pub Made : Type 0 → Type 0
Made A = Result A EditFault

-- a test that refuses the edit where it holds, and the fault that is then told
abbrev pub Test : Type 0
Test = Bool × EditFault

-- the fault of the first test that holds
abbrev pub first_fault : List Test → Option EditFault
first_fault [] = None
first_fault (t ∷ ts) = if t.0 then Some t.1 else first_fault ts

-- what is made, unless there is a fault
abbrev pub unless : {A : Type 0} → Option EditFault → Made A → Made A
unless None made = made
unless (Some fault) made = Err fault

-- what is made where none of these tests holds, and else the fault of the first that does
unfoldable pub passing : {A : Type 0} → List Test → Made A → Made A
passing tests made = unless (first_fault tests) made

-- what is made of a value, and this fault where there is none
unfoldable pub given : {V A : Type 0} → EditFault → Option V → (V → Made A) → Made A
given fault None make = Err fault
given fault (Some v) make = make v

-- what a call answers: what is made, or its fault, unless memory ran out
abbrev pub Gives : {A : Type 0} → Result A OpRefused → Made A → Type 0
Gives (Ok a) made = made ≡ Ok a
Gives (Err (Fault fault)) made = made ≡ Err fault
Gives (Err NoMemory) made = Unit {0}

-- a call on a layer: it is now what is made, or the fault is told and it is as before; nothing is said of it where memory ran out
abbrev pub Does : {A : Type 0} → Result (Unit {0}) OpRefused → A → A → Made A → Type 0
Does (Ok u) old after made = made ≡ Ok after
Does (Err (Fault fault)) old after made = (made ≡ Err fault) × (after ≡ old)
Does (Err NoMemory) old after made = Unit {0}
