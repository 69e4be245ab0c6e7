use Rattle.std.proofs.Common.{◌≡◌, ◌-◌, take}
use Rattle.layer_stack.specs.Visiting.{AreApart}
use Rattle.layer_load.specs.Drafts.{AreMet, opening_of}
use Rattle.layer_load.proofs.Asking.{AskedSoFar}
use Rattle.layer_load.proofs.Known.{Known}
use Rattle.layer_load.proofs.load.load_within.Given as goal

abbrev pub invariant-loop-place : goal.invariant-loop-place
invariant-loop-place g l = record {
  met : AreMet l.draft.names;
  apart : AreApart l.draft.names.listed;
  known : Known (g.F.LayerFiles.files l.fn.files) l.most l.fn.root l.fn.session (l.most - l.place) l.place (opening_of l.draft);
  same : g.F.LayerFiles.files l.files ≡ g.F.LayerFiles.files l.fn.files;
  asked : AskedSoFar (g.F.LayerFiles.asked l.fn.files) (g.F.LayerFiles.asked l.files) (take l.place l.draft.names.listed);
  steady : g.F.LayerFiles.faults l.files ≡ g.F.LayerFiles.faults l.fn.files;
}
