use Rattle.std.proofs.Common.{◌≡◌, drop}
use Rattle.sdf_values.specs.TypeNames.{find_element}
use Rattle.sdf_values.proofs.type_name.find_element.Given as goal

abbrev pub invariant-loop-element : goal.invariant-loop-element
invariant-loop-element l = find_element (drop l.element-index l.elements) l.name ≡ find_element l.elements l.name
