use Rattle.std.specs.Fmt.{digits}
use Rattle.sdf_values.specs.Print.{fraction_digits}
use Rattle.usda_values.specs.Scalars.{is_plain}
use Rattle.value_texts.proofs.ReadingSteps.{reads_number}
use Rattle.call_tests.proofs.values_back.a_fraction_comes_back.Goals as goal

pub printed_and_read-requires-clause-readable : goal.printed_and_read-requires-clause-readable
unfolding digits fraction_digits is_plain
printed_and_read-requires-clause-readable g c = simp reads_number
