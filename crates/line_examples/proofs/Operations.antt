-- Lines that are operations: they compute.
use Rattle.std.proofs.Common.{refl}
use Rattle.line_examples.proofs.Computing.{of_lines}
use Rattle.line_examples.specs.Operations.{SpecsAreTold, ValuesAreTold, ListsAreTold, BadOperationsAreTold, AreTold}

specs : SpecsAreTold
unfolding of_lines
specs = record {
  new_layer = refl;
  prim = refl;
  untyped_prim = refl;
  variant = refl;
  attribute = refl;
  no_type = refl;
  relationship = refl;
  remove = refl;
}

values : ValuesAreTold
unfolding of_lines
values = record {
  default = refl;
  block = refl;
  clear = refl;
  sample = refl;
  path = refl;
  no_meta = refl;
}

lists : ListsAreTold
unfolding of_lines
lists = record {
  prepend = refl;
  nothing = refl;
  reference = refl;
  targets = refl;
  selection = refl;
  order = refl;
  load = refl;
}

bad_operations : BadOperationsAreTold
unfolding of_lines
bad_operations = record {
  no_path = refl;
  no_layer = refl;
  more = refl;
  specifier = refl;
  open_value = refl;
  second_value = refl;
  entry = refl;
  field = refl;
  no_field = refl;
  no_edit = refl;
  bare_path = refl;
}

pub are_told : AreTold
are_told = record { specs = specs; values = values; lists = lists; bad_operations = bad_operations }
