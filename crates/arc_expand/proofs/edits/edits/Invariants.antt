use Rattle.std.proofs.Common.{◌≡◌, take}
use Rattle.std.specs.List.{filter_map}
use Rattle.arc_expand.specs.Authoring.{edit_of}
use Rattle.arc_expand.proofs.edits.edits.Given as goal

abbrev pub invariant-loop-opinion : goal.invariant-loop-opinion
invariant-loop-opinion l = l.all ≡ filter_map (edit_of l.kind) (take l.opinion-index l.opinions)
