use Rattle.std.proofs.Common.{◌≡◌, take}
use Rattle.layer_set.proofs.rules.copied_elements.Given as goal

abbrev pub invariant-loop-element : goal.invariant-loop-element
invariant-loop-element l = l.copied ≡ take l.element-index l.elements
