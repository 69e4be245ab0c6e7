-- Faults, each once: of those with one text the first.
use Rattle.std.specs.Prelude.{List}
use Rattle.list_ops.specs.ListEdits.{firsts}
use Rattle.composition.specs.Faults.{Fault, same_fault}

-- each fault once
unfoldable pub faults_once : List Fault → List Fault
faults_once faults = firsts same_fault faults
