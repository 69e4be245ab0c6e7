use Rattle.std.proofs.Common.{rules, ◌≡◌, ◌∙◌, true, List, [], ◌∷◌, ap}
use Rattle.std.specs.Prelude.{codes, pos}
use Rattle.std.specs.Str.{chars, is_utf8}
use Rattle.sdf_values.specs.declared.type_name.ElementType.TheVariants as element
use Rattle.sdf_values.specs.declared.value.DictItem.{DictItem}
use Rattle.sdf_values.specs.declared.value.Value.TheVariants as value
use Rattle.sdf_values.proofs.Values.{of_whole, of_dict, of_item}
use Rattle.usda_values.specs.Scalars.{decimal_of_whole, tens_out}
use Rattle.usda_values.specs.declared.shape.Shape.TheVariants.{Dictionary}
use Rattle.value_texts.specs.Examples.{entry, plain}
use Rattle.value_texts.specs.Readable.{is_read_as}
use Rattle.value_texts.specs.Writable.{is_writable}
use Rattle.value_texts.proofs.ReadingSteps.{reads_whole, reads_dict}
use Rattle.call_tests.proofs.values_back.a_dictionary_comes_back.Goals as goal

only : List DictItem
only = entry (codes "a") (plain element.Int) (value.Whole (pos 1)) ∷ []

is_written : is_writable (value.Dict only) ≡ true
unfolding only chars is_utf8 decimal_of_whole tens_out lib.Utf8.encode
is_written = simp (of_whole, of_dict, of_item)

is_read : is_read_as (value.Dict only) Dictionary true ≡ true
unfolding only
is_read = simp (reads_whole, reads_dict, of_item)

pub dictionary_printed_and_read-requires-clause-writable : goal.dictionary_printed_and_read-requires-clause-writable
unfolding only
dictionary_printed_and_read-requires-clause-writable g c =
    let one : c.push.new.self ≡ only = search rules in
    ap (λ items. is_writable (value.Dict items)) one ∙ is_written

pub dictionary_printed_and_read-requires-clause-readable : goal.dictionary_printed_and_read-requires-clause-readable
unfolding only
dictionary_printed_and_read-requires-clause-readable g c =
    let one : c.push.new.self ≡ only = search rules in
    ap (λ items. is_read_as (value.Dict items) Dictionary true) one ∙ is_read
