use Rattle.usda_values.specs.Scalars.{decimal_of_whole, tens_out}
use Rattle.sdf_values.proofs.Values.{of_whole}
use Rattle.call_tests.proofs.values_back.a_whole_number_comes_back.Goals as goal

pub printed_and_read-requires-clause-writable : goal.printed_and_read-requires-clause-writable
unfolding decimal_of_whole tens_out
printed_and_read-requires-clause-writable g c = simp of_whole
