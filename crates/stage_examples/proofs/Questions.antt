-- Questions and answers: they compute, but for whether a value is a block.
use Rattle.std.proofs.Common.{refl}
use Rattle.std.specs.Prelude.{pos}
use Rattle.stage_examples.proofs.Values.{whole_decides, block_decides}
use Rattle.stage_examples.specs.Answers.{PrimsAreTold, DefaultsAreTold, ValuesAreTold, SamplesAreTold, TargetsAreTold, AreTold}

prims : PrimsAreTold
prims = record {
  children = refl;
  root_prims = refl;
  leaf = refl;
  no_prim = refl;
  no_child = refl;
  property = refl;
  selection = refl;
  view = refl;
  no_view = refl;
  nothing = refl;
}

defaults : DefaultsAreTold
defaults = record {
  default = whole_decides (pos 5);
  sampled = whole_decides (pos 9);
  blocked = block_decides;
  declared = refl;
  samples_alone = refl;
  relationship = refl;
  shorter_name = refl;
  longer_name = refl;
  no_prim = refl;
}

values : ValuesAreTold
values = record {
  at_a_sample = whole_decides (pos 2);
  between = whole_decides (pos 1);
  before = whole_decides (pos 1);
  negative = whole_decides (pos 1);
  behind = whole_decides (pos 2);
  before_a_block = whole_decides (pos 1);
  at_a_block = block_decides;
  behind_a_block = block_decides;
  default = whole_decides (pos 5);
  blocked = block_decides;
  over_a_block = whole_decides (pos 1);
  declared = refl;
  relationship = refl;
  no_property = refl;
  no_prim = refl;
}

samples : SamplesAreTold
samples = record {
  samples = refl;
  with_a_block = refl;
  default = refl;
  blocked = refl;
  relationship = refl;
  no_property = refl;
  no_prim = refl;
}

targets : TargetsAreTold
targets = record {
  targets = refl;
  connections = refl;
  empty = refl;
  no_opinion = refl;
  no_connections = refl;
  no_property = refl;
  no_prim = refl;
}

pub are_told : AreTold
are_told = record { prims = prims; defaults = defaults; values = values; samples = samples; targets = targets }
