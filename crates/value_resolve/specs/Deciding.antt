-- What the opinions on an attribute decide, from the strongest on.
use Rattle.std.specs.Prelude.{Bool, true, false, [], None}
use Rattle.composition.specs.Arcs.{is_empty}
use Rattle.composition.specs.Fields.{or_else}
use Rattle.composition.specs.Values.{Given}
use Rattle.value_resolve.specs.Missing.{is_missing}
use Rattle.value_resolve.specs.declared.on_stage.OnStage.{OnStage}
use Rattle.value_resolve.specs.declared.decision.Decision.{Decision}

-- what an opinion gives
abbrev pub gives : OnStage → Given
gives g = record { default = g.default; samples = g.samples; left_out = g.left_out }

-- nothing is decided yet: any opinion may give the default, and the samples
abbrev pub undecided : Decision
undecided = record { default = None; samples = []; waits = true }

-- neither samples nor a default
abbrev pub is_nothing : Given → Bool
is_nothing g = elim (is_empty g.samples) [ true ↦ is_missing g.default | false ↦ false ]

-- with what a weaker opinion gives
abbrev pub decided_next : Decision → Given → Decision
decided_next d g = record {
  default = or_else d.default g.default;
  samples = elim d.waits [ true ↦ g.samples | false ↦ d.samples ];
  waits = elim d.waits [ true ↦ is_nothing g | false ↦ false ];
}
