-- What has to be unfolded for the definitions to compute: `unfolding of_lines` lets `refl` compute what a line says.
use Rattle.std.specs.Str.{chars, is_utf8}
use Rattle.std.specs.Str.Lossy.{utf8_valid_len}
use Rattle.unicode_ident.proofs.Computing.{unicode_ident}
use Rattle.usd_names.specs.Names.{is_start, is_identifier, is_variant_character}
use Rattle.sdf_paths.specs.Reader.{step, finish}
use Rattle.usda_lexer.specs.Decimals.{decimal_of}
use Rattle.usda_lexer.specs.Meanings.{string_text, asset_text, path_text, number_of}
use Rattle.usda_lexer.specs.Words.{found, next_word, left}
use Rattle.sdf_paths.specs.Reader.{path_of}
use Rattle.usda_lists.specs.Paths.{path_from}
use Rattle.usda_values.specs.Drafts.{value_act}
use Rattle.usda_values.specs.PathTexts.{is_path, is_path_text}
use Rattle.usda_values.specs.Scalars.{whole_of, is_plain, token_value, time_of, tens_out, decimal_of_whole, finite_time}
use Rattle.script_words.specs.Lists.{draft_behind, list_in}
use Rattle.script_words.specs.Values.{value_in}
use Rattle.script_words.specs.Words.{lexer_of, token_at, is_end, ended, name_at, text_at, number_at, layer_at, path_in, run_path, path_start, path_at, behind_word, flag_at}
use Rattle.script_lines.specs.FieldLines.{paths_list, references_list, texts_list, targets_in, field_list, edit_word_at, edit_at, list_line, sublayers_in, sublayers_line}
use Rattle.script_lines.specs.Lines.{open_line, field_worded, value_worded, spec_worded, question_worded, worded, is_open_comment, comment_line, word_line, line_from, line_of}
use Rattle.script_lines.specs.MetaLines.{is_no_key, key_at, meta_line, unmeta_line, set_at, select_line, unselect_line, order_of, names_in, order_line, load_line, unload_line, unrule_line}
use Rattle.script_lines.specs.Places.{target_at, changed}
use Rattle.script_lines.specs.QuestionLines.{property_at, asked, value_line, default_line, samples_line, targets_line, children_line, faults_line, sites_line}
use Rattle.script_lines.specs.SpecLines.{new_layer_of, new_layer_line, specifier_of, spec_line, prim_type_at, variant_line, brackets_at, type_at, attribute_line, relationship_line, remove_line}
use Rattle.script_lines.specs.ValueLines.{set_line, clear_line, sample_line, unsample_line}
use Rattle.session_script.specs.Pieces.{lines_of}
use Rattle.session_script.specs.Reading.{steps_from}

-- tokens, paths and values
unfoldable of_values : Unit {0}
unfolding chars is_utf8 utf8_valid_len unicode_ident is_start is_identifier is_variant_character step finish lib.Utf8.encode decimal_of string_text asset_text path_text number_of found next_word left path_of path_from value_act is_path is_path_text whole_of is_plain token_value time_of tens_out decimal_of_whole
of_values = tt

-- the words of a line
unfoldable of_words : Unit {0}
unfolding of_values draft_behind list_in value_in lexer_of token_at is_end ended name_at text_at number_at layer_at path_in run_path path_start path_at behind_word flag_at
of_words = tt

-- lines
unfoldable pub of_lines : Unit {0}
unfolding of_words paths_list references_list texts_list targets_in field_list edit_word_at edit_at list_line sublayers_in sublayers_line open_line field_worded value_worded spec_worded question_worded worded is_open_comment comment_line word_line line_from line_of is_no_key key_at meta_line unmeta_line set_at select_line unselect_line order_of names_in order_line load_line unload_line unrule_line target_at changed property_at finite_time asked value_line default_line samples_line targets_line children_line faults_line sites_line new_layer_of new_layer_line specifier_of spec_line prim_type_at variant_line brackets_at type_at attribute_line relationship_line remove_line set_line clear_line sample_line unsample_line
of_lines = tt

-- scripts
unfoldable pub of_scripts : Unit {0}
unfolding of_lines lines_of steps_from
of_scripts = tt
