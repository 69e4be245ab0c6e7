-- What a token adds, or why it is refused, and what a call that may want memory makes of that.
use Rattle.std.specs.Prelude.{◌≡◌, Result, Ok, Err}
use Rattle.sdf_values.specs.declared.refusal.RefusalKind.{RefusalKind}
use Rattle.usda_values.specs.declared.fault.PartFault.{PartFault}
use Rattle.usda_values.specs.declared.fault.PartFault.TheVariants.{Refused, NoMemory}

-- what is left behind a call: what the act gives, unless memory ran out
abbrev pub Does : {D : Type 0} → Result (Unit {0}) PartFault → D → Result D RefusalKind → Type 0
Does (Ok u) new act = act ≡ Ok new
Does (Err (Refused k)) new act = act ≡ Err k
Does (Err NoMemory) new act = Unit {0}

-- what a call answers: what the act gives, unless memory ran out
abbrev pub Gives : {A : Type 0} → Result A PartFault → Result A RefusalKind → Type 0
Gives (Ok a) act = act ≡ Ok a
Gives (Err (Refused k)) act = act ≡ Err k
Gives (Err NoMemory) act = Unit {0}

-- memory did not run out: the call asks for none
abbrev pub AsksNoMemory : {A : Type 0} → Result A PartFault → Type 0
AsksNoMemory (Ok a) = Unit {0}
AsksNoMemory (Err (Refused k)) = Unit {0}
AsksNoMemory (Err NoMemory) = ⊥

-- one act, and then another on what it gives
abbrev pub and_then : {A B : Type 0} → Result A RefusalKind → (A → Result B RefusalKind) → Result B RefusalKind
and_then (Ok a) more = more a
and_then (Err k) more = Err k
