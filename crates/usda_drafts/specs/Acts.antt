-- What each token adds to a draft, by the symbol that takes it, or why it is refused.
use Rattle.std.specs.Prelude.{Ok, Err, if◌then◌else◌}
use Rattle.sdf_values.specs.declared.refusal.RefusalKind.TheVariants.{NumberTooLong}
use Rattle.usda_grammar.specs.declared.symbols.Symbol.{Symbol}
use Rattle.usda_grammar.specs.declared.symbols.Symbol.TheVariants as symbol
use Rattle.usda_words.specs.Words.{Word}
use Rattle.usda_statements.specs.OpenValues.{is_open}
use Rattle.usda_drafts.specs.Refusals.{Acted, refused, placed}
use Rattle.usda_drafts.specs.Bodies.{after_variability_act, after_custom_act, after_edit_act, after_reorder_act, body_act, brackets_act, name_act, tail_act, dot_act, sample_act, list_begun}
use Rattle.usda_drafts.specs.Prims.{prim_type_act, prim_name_act, open_act, set_name_act, variant_name_act, body_end_act}
use Rattle.usda_drafts.specs.Values.{token_act, first_act}
use Rattle.usda_drafts.specs.Metadata.{head_item_act, prim_item_act, edited_act, property_item_act, root_act, root_order_act, order_name_act}
use Rattle.usda_drafts.specs.Lists.{in_list_act, in_references_act, item_path_act, sublayer_act, offset_key_act, number_act}
use Rattle.usda_drafts.specs.declared.draft.Draft.{Draft}

-- the statements of the layer, and offsets
unfoldable pub layers_act : Symbol → Word → Draft → Acted
layers_act symbol.HeadItems w d = head_item_act w.kind w d
layers_act symbol.SubLayersOrEnd w d = sublayer_act w.kind w d
layers_act symbol.OffsetItems w d = offset_key_act w d
layers_act symbol.OffsetNumber w d = number_act d.list w d
layers_act symbol.RootStatements w d = root_act w.kind w d
layers_act symbol.RootPrims w d = root_order_act w d
layers_act symbol.OpenBrace w d = open_act w.start d
layers_act symbol.BodyEnd w d = body_end_act d
layers_act symbol.PrimName w d = placed w.start (prim_name_act w.text d)
layers_act symbol.SetName w d = placed w.start (set_name_act w.text d)
layers_act s w d = Ok d

-- the head of a prim, and lists
unfoldable pub prims_act : Symbol → Word → Draft → Acted
prims_act symbol.MaybeTypeName w d = prim_type_act w.text d
prims_act symbol.MaybePrimMetadata w d = open_act w.start d
prims_act symbol.PrimMetadata w d = prim_item_act w.kind w d
prims_act symbol.EditedField w d = edited_act w.kind w d
prims_act symbol.StringList w d = in_list_act w.kind w d
prims_act symbol.StringsOrEnd w d = in_list_act w.kind w d
prims_act symbol.MoreStrings w d = in_list_act w.kind w d
prims_act symbol.PathList w d = in_list_act w.kind w d
prims_act symbol.PathsOrEnd w d = in_list_act w.kind w d
prims_act symbol.MorePaths w d = in_list_act w.kind w d
prims_act symbol.ReferenceList w d = in_references_act w.kind w d
prims_act symbol.ReferencesOrEnd w d = in_references_act w.kind w d
prims_act symbol.MoreReferences w d = in_references_act w.kind w d
prims_act symbol.MaybePath w d = item_path_act d.list w d
prims_act symbol.VariantList w d = placed w.start (variant_name_act w.text d)
prims_act s w d = layers_act s w d

-- the statements of a prim or a variant
unfoldable pub bodies_act : Symbol → Word → Draft → Acted
bodies_act symbol.PrimBody w d = body_act w d
bodies_act symbol.AfterCustom w d = after_custom_act w.kind w d
bodies_act symbol.AfterVariability w d = after_variability_act w.kind w d
bodies_act symbol.AfterEdit w d = after_edit_act w.kind w d
bodies_act symbol.AfterReorder w d = after_reorder_act w.kind w d
bodies_act symbol.AfterEditedCustom w d = after_custom_act w.kind w d
bodies_act symbol.AfterEditedVariability w d = after_variability_act w.kind w d
bodies_act symbol.MaybeBrackets w d = brackets_act d
bodies_act symbol.PropertyName w d = name_act w d
bodies_act symbol.MaybeAttributeTail w d = tail_act w.kind d
bodies_act symbol.AfterDot w d = dot_act w.kind w.start d
bodies_act symbol.ConnectWord w d = dot_act w.kind w.start d
bodies_act symbol.SamplesOrEnd w d = sample_act w.kind w d
bodies_act symbol.MaybeTargets w d = list_begun d
bodies_act symbol.PropertyMetadata w d = property_item_act w.kind w d
bodies_act symbol.Value w d = first_act w d
bodies_act symbol.Dictionary w d = first_act w d
bodies_act symbol.NamesOrEnd w d = order_name_act w.kind w d
bodies_act s w d = prims_act s w d

-- What a token adds: while a value is open it is a token of the value. A number that is too long is refused before all else that the
-- token may mean.
unfoldable pub act : Symbol → Word → Draft → Acted
act s w d = if w.too_long then Err (refused NumberTooLong w.start) else if is_open d.value then token_act w d else bodies_act s w d
