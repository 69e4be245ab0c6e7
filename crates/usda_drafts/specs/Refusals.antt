-- What a token makes of a draft, or its refusal with the byte at which that stands.
use Rattle.std.specs.Prelude.{◌≡◌, ℕ, Result, Ok, Err}
use Rattle.sdf_values.specs.declared.refusal.RefusalKind.{RefusalKind}
use Rattle.usda_values.specs.declared.fault.PartFault.{PartFault}
use Rattle.usda_values.specs.declared.fault.PartFault.TheVariants as part
use Rattle.usda_drafts.specs.declared.draft.Draft.{Draft}
use Rattle.usda_drafts.specs.declared.fault.Refused.{Refused}
use Rattle.usda_drafts.specs.declared.fault.ActFault.{ActFault}
use Rattle.usda_drafts.specs.declared.fault.ActFault.TheVariants as fault

-- a refusal of this kind at this byte
abbrev pub refused : RefusalKind → ℕ → Refused
refused k at = record { kind = k; at = at }

-- the outcome of a part of an act, where a refusal stands at this byte
abbrev pub placed : {A : Type 0} → ℕ → Result A RefusalKind → Result A Refused
placed at (Ok a) = Ok a
placed at (Err k) = Err (refused k at)

-- a part of an act, and what is made of it
abbrev pub then_with : {A B : Type 0} → ℕ → Result A RefusalKind → (A → B) → Result B Refused
then_with at (Ok a) make = Ok (make a)
then_with at (Err k) make = Err (refused k at)

-- the draft behind a token, or its refusal
abbrev pub Acted : Type 0
Acted = Result Draft Refused

-- what is left behind a call: what the act gives, unless memory ran out
abbrev pub Does : {D : Type 0} → Result (Unit {0}) ActFault → D → Result D Refused → Type 0
Does (Ok u) new act = act ≡ Ok new
Does (Err (fault.Refused r)) new act = act ≡ Err r
Does (Err fault.NoMemory) new act = Unit {0}

-- the fault of a part of an act, where a refusal stands at this byte
abbrev pub Places : ActFault → PartFault → ℕ → Type 0
Places f (part.Refused k) at = f ≡ fault.Refused (refused k at)
Places f part.NoMemory at = f ≡ fault.NoMemory

-- what a call answers: what the act gives, unless memory ran out
abbrev pub Gives : {A : Type 0} → Result A ActFault → Result A Refused → Type 0
Gives (Ok a) act = act ≡ Ok a
Gives (Err (fault.Refused r)) act = act ≡ Err r
Gives (Err fault.NoMemory) act = Unit {0}
