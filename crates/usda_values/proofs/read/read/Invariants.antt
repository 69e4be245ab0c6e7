use Rattle.std.proofs.Common.{◌≡◌, ◌-◌, length}
use Rattle.usda_values.specs.Reads.{reads_left}
use Rattle.usda_values.proofs.read.read.Given as goal

abbrev pub invariant-loop-draft : goal.invariant-loop-draft
invariant-loop-draft l = record {
  told : reads_left l.tokens l.draft ≡ reads_left l.initial.tokens l.initial.draft;
  source : l.tokens.source ≡ l.initial.tokens.source;
}

abbrev pub decreases-loop-draft : goal.decreases-loop-draft
decreases-loop-draft l = length l.tokens.source - l.tokens.at
