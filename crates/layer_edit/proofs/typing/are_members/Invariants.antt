use Rattle.std.proofs.Common.{◌≡◌, drop}
use Rattle.std.specs.List.{list_all}
use Rattle.layer_edit.specs.Typing.{is_member}
use Rattle.layer_edit.proofs.typing.are_members.Given as goal

abbrev pub invariant-loop-value : goal.invariant-loop-value
invariant-loop-value l = list_all (is_member l.ty.element) (drop l.value-index l.values) ≡ list_all (is_member l.ty.element) l.values
