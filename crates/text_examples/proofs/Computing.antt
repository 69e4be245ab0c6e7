-- What has to be unfolded for the definitions to compute: `unfolding of_tokens` lets `refl` compute the tokens of a text.
use Rattle.std.specs.Str.{chars, is_utf8}
use Rattle.std.specs.Str.Lossy.{utf8_valid_len}
use Rattle.unicode_ident.proofs.Computing.{unicode_ident}
use Rattle.usd_names.specs.Names.{is_start, is_identifier, is_variant_character}
use Rattle.sdf_paths.specs.Reader.{step, finish}
use Rattle.usda_lexer.specs.Decimals.{decimal_of}
use Rattle.usda_lexer.specs.Meanings.{string_text, asset_text, path_text, number_of}
use Rattle.usda_lexer.specs.Words.{found, next_word, left}
use Rattle.usda_values.specs.Drafts.{value_act}
use Rattle.usda_values.specs.PathTexts.{is_path, is_path_text}
use Rattle.usda_values.specs.Scalars.{whole_of, is_plain, token_value, time_of, tens_out, decimal_of_whole, finite_time}
use Rattle.sdf_paths.specs.Reader.{path_of}
use Rattle.usda_lists.specs.Paths.{path_from}
use Rattle.usda_drafts.specs.Acts.{layers_act, prims_act, bodies_act, act}
use Rattle.usda_drafts.specs.Bodies.{type_act, after_variability_act, after_custom_act, after_edit_act, after_reorder_act, statement_act, body_act, brackets_act, name_act, default_begun, samples_begun, list_begun, tail_act, dot_act, sample_act}
use Rattle.usda_drafts.specs.Closed.{is_closed, with_spec_at}
use Rattle.usda_drafts.specs.Drafts.{blank, text_of, head_with, head_from, layer_by, layer_of}
use Rattle.usda_drafts.specs.Lists.{string_act, list_path_act, asset_act, lone_path_act, item_path_act, end_act, in_list_act, in_references_act, sublayer_act, offset_key_act, number_act}
use Rattle.usda_drafts.specs.Metadata.{comment_act, key_act, variants_act, field_act, string_field_act, path_field_act, reference_field_act, edit_act, edited_act, prim_item_act, sublayers_act, head_item_act, root_act, ordered_by, order_act, root_order_act, order_name_act, property_rule, property_key_act, property_item_act}
use Rattle.usda_drafts.specs.Owners.{owner_of, spec_of, with_child, has_set, with_set, with_variant, marks_at, property_for, with_place, with_returned, settled}
use Rattle.usda_drafts.specs.Places.{prim_place, variant_place}
use Rattle.usda_drafts.specs.Prims.{specifier_of, specifier_act, prim_type_act, entered, prim_at, with_prim, entered_prim, named_prim, prim_name_act, open_act, begun_set, set_name_act, with_variant_at, entered_variant, named_variant, variant_name_act, with_statement_over, left as left_texts, body_end_act}
use Rattle.usda_drafts.specs.Values.{aimed_at_key, shape_of, aimed_at_default, time_of_number, time_act, is_selections, completed, token_act, first_act}
use Rattle.usda_reader.specs.Checks.{foreign_check, header_check, text_check, first_check}
use Rattle.usda_reader.specs.Reading.{run_from, draft_of, read}

-- names and paths
unfoldable pub of_paths : Unit {0}
unfolding chars is_utf8 utf8_valid_len unicode_ident is_start is_identifier is_variant_character step finish lib.Utf8.encode
of_paths = tt

-- tokens
unfoldable pub of_tokens : Unit {0}
unfolding of_paths decimal_of string_text asset_text path_text number_of found next_word left
of_tokens = tt

-- values
unfoldable pub of_values : Unit {0}
unfolding of_tokens value_act is_path is_path_text whole_of is_plain token_value time_of tens_out decimal_of_whole
of_values = tt

-- lists
unfoldable pub of_lists : Unit {0}
unfolding of_values path_of path_from
of_lists = tt

-- texts of layers
unfoldable pub of_texts : Unit {0}
unfolding of_lists layers_act prims_act bodies_act act type_act after_variability_act after_custom_act after_edit_act after_reorder_act statement_act body_act brackets_act name_act default_begun samples_begun list_begun tail_act dot_act sample_act is_closed with_spec_at blank text_of head_with head_from layer_by layer_of string_act list_path_act asset_act lone_path_act item_path_act end_act in_list_act in_references_act sublayer_act offset_key_act number_act comment_act key_act variants_act field_act string_field_act path_field_act reference_field_act edit_act edited_act prim_item_act sublayers_act head_item_act root_act ordered_by order_act root_order_act order_name_act property_rule property_key_act property_item_act owner_of spec_of with_child has_set with_set with_variant marks_at property_for with_place with_returned settled prim_place variant_place specifier_of specifier_act prim_type_act entered prim_at with_prim entered_prim named_prim prim_name_act open_act begun_set set_name_act with_variant_at entered_variant named_variant variant_name_act with_statement_over left_texts body_end_act aimed_at_key shape_of aimed_at_default finite_time time_of_number time_act is_selections completed token_act first_act foreign_check header_check text_check first_check run_from draft_of read
of_texts = tt
