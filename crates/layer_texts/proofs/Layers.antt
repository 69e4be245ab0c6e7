-- Prims, variants and layers.
use Rattle.std.proofs.Common.{◌≡◌, ◌∙◌, ℕ, zero, suc, cond, Bool, true, false, List, [], ◌∷◌, ◌++◌, append-nil, length, map, Option, Some, None, ap, sym, refl}
use Rattle.std.specs.Prelude.{codes}
use Rattle.std.specs.List.{list_all}
use Rattle.std.specs.Map.{lookup}
use Rattle.std.specs.BTreeMap.{is_at}
use Rattle.std.specs.Str.{is_utf8}
use Rattle.std.proofs.lemmas.Bool.{and_parts}
use Rattle.usd_names.specs.Names.{is_identifier, is_variant}
use Rattle.sdf_paths.specs.Order.{path_cmp}
use Rattle.sdf_paths.specs.declared.element.Element.{Element}
use Rattle.sdf_paths.specs.declared.element.Element.TheVariants.{Prim, Selection}
use Rattle.sdf_values.specs.Print.{deeper, quoted}
use Rattle.spec_parts.specs.declared.items.Specifier.{Specifier}
use Rattle.spec_parts.specs.declared.items.Specifier.TheVariants.{Def, Over, Class}
use Rattle.spec_parts.specs.declared.items.VariantSet.{VariantSet}
use Rattle.spec_parts.specs.declared.spec.Head.{Head}
use Rattle.spec_parts.specs.declared.spec.Spec.{Spec}
use Rattle.sdf_specs.specs.Layers.{LayerTable, SpecEntries}
use Rattle.usda_lexer.specs.Words.{lexing_from, left}
use Rattle.usda_words.specs.Words.{words_of, words_in, at_start}
use Rattle.usda_writer.specs.Texts.{quoted_name, specifier_text}
use Rattle.usda_writer.specs.Fields.{line, spec_lines}
use Rattle.usda_writer.specs.Properties.{property_lines}
use Rattle.usda_writer.specs.Canonical.{order_line, type_part, spec_below, spec_block, prim_title, prim_head, variant_head, set_word, set_head, child_text, child_below, children_text, variant_text, variant_below, set_text, statements, body_text, with_default_prim, head_lines, head_block, root_order_text, layer_front, canonical}
use Rattle.value_texts.specs.Cuts.{Said}
use Rattle.value_texts.specs.Follows.{anything, may_follow}
use Rattle.value_texts.specs.Words.{told_of, as_word}
use Rattle.value_texts.specs.ValueWords.{close_brace}
use Rattle.value_texts.proofs.QuotedNames.{identifier_quoted, variant_quoted}
use Rattle.layer_texts.specs.Spelled.{IsSpelled, AreLines}
use Rattle.layer_texts.specs.ListWords.{word, string_words}
use Rattle.layer_texts.specs.FieldWords.{block_words, spec_words}
use Rattle.layer_texts.specs.PropertyWords.{property_words}
use Rattle.layer_texts.specs.LayerWords.{order_words, type_words, title_words, prim_head_words, variant_head_words, set_head_words, child_words, child_words_below, children_words, variant_words, variant_words_below, set_words, statement_words, body_words, head_words, front_words, layer_words}
use Rattle.layer_texts.specs.Writable.{none_or, is_word, is_writable_sublayer, is_writable_list, is_writable_meta, is_writable_property, is_writable_set, is_writable_body, is_writable_spec, is_writable_head, are_writable_specs, is_writable_layer}
use Rattle.layer_texts.proofs.Fields.{edit_spelled, meta_spelled, spec_spelled, sublayers_spelled}
use Rattle.layer_texts.proofs.FirstLine.{first_line_spelled}
use Rattle.layer_texts.proofs.Keywords.{word_spelled, reorder_word, nameChildren_word, properties_word, rootPrims_word, def_word, over_word, class_word, variantSet_word}
use Rattle.layer_texts.proofs.Lines.{line_spelled, more_lines, block_spelled, block_follows}
use Rattle.layer_texts.proofs.Lists.{string_spelled, bracketed_spelled}
use Rattle.layer_texts.proofs.Marks.{space, line_feed, indent, brace, brace_end, equals_space, head_start, head_end, body_start, set_start}
use Rattle.layer_texts.proofs.Metadata.{default_writable}
use Rattle.layer_texts.proofs.Properties.{property_spelled}
use Rattle.layer_texts.proofs.Spelled.{joined, then_more, silent, nothing, weaker, same_text, all_spelled}

-- names between quotes
identifier_spelled : (name : List ℕ) → is_identifier name ≡ true → IsSpelled may_follow (quoted_name name) (string_words name)
identifier_spelled name h = same_text (identifier_quoted name h) (string_spelled name)

variant_name_spelled : (name : List ℕ) → is_variant name ≡ true → IsSpelled may_follow (quoted_name name) (string_words name)
variant_name_spelled name h = same_text (variant_quoted name h) (string_spelled name)

-- an order of children or properties
pub order_spelled : (level : ℕ) (name : List ℕ) → is_word name ≡ true → (names : List (List ℕ)) → list_all is_utf8 names ≡ true → IsSpelled anything (order_line level name names) (order_words name names)
order_spelled level name n [] h = nothing anything
order_spelled level name n (x ∷ xs) h =
    line_spelled level _ (weaker (then_more (joined (then_more (edit_spelled (codes "reorder") reorder_word) (word_spelled name n)) equals_space (λ rest k. refl))
    (bracketed_spelled quoted string_words is_utf8 (λ t u. string_spelled t) (x ∷ xs) h)))

-- what a prim is, and its name
specifier_spelled : (s : Specifier) → IsSpelled may_follow (specifier_text s) (word (specifier_text s))
specifier_spelled Def = word_spelled (codes "def") def_word
specifier_spelled Over = word_spelled (codes "over") over_word
specifier_spelled Class = word_spelled (codes "class") class_word

type_spelled : (name : Option (List ℕ)) → none_or is_word name ≡ true → IsSpelled anything (type_part name) (type_words name)
type_spelled None h = nothing anything
type_spelled (Some name) h = edit_spelled name h

title_spelled : (level : ℕ) (name : List ℕ) (spec : Spec) → is_identifier name ≡ true → none_or is_word spec.body.type_name ≡ true → IsSpelled may_follow (prim_title level name spec) (title_words name spec)
title_spelled level name spec h t =
    then_more (then_more (silent (then_more (indent level) (specifier_spelled spec.body.specifier)) space (λ rest k. refl)) (type_spelled spec.body.type_name t)) (identifier_spelled name h)

metadata_spelled : (level : ℕ) (spec : Spec) → is_writable_spec spec ≡ true → IsSpelled may_follow (spec_block level spec) (block_words (spec_words spec))
unfolding spec_block
metadata_spelled level spec h = block_spelled level (spec_lines (deeper level) spec) (spec_words spec) (spec_spelled (deeper level) spec h)

metadata_follows : (level : ℕ) (spec : Spec) (rest : List ℕ) → may_follow rest ≡ true → may_follow (spec_block level spec ++ rest) ≡ true
unfolding spec_block
metadata_follows level spec rest k = block_follows level (spec_lines (deeper level) spec) rest k

body_of : (spec : Spec) → is_writable_spec spec ≡ true → is_writable_body spec.body ≡ true
unfolding is_writable_spec
body_of spec h = (and_parts _ _ h).1

type_of : (spec : Spec) → is_writable_spec spec ≡ true → none_or is_word spec.body.type_name ≡ true
type_of spec h = let p = and_parts _ _ (body_of spec h) in p.0

-- what stands before the body of a prim, of a variant, and before the variants of a set
pub prim_head_spelled : (level : ℕ) (name : List ℕ) (spec : Spec) → is_identifier name ≡ true → is_writable_spec spec ≡ true → IsSpelled anything (prim_head level name spec) (prim_head_words name spec)
prim_head_spelled level name spec n h =
    then_more (silent (joined (then_more line_feed (title_spelled level name spec n (type_of spec h))) (metadata_spelled level spec h) (metadata_follows level spec)) line_feed (λ rest k. refl))
    (line_spelled level (codes "{") (weaker brace))

pub variant_head_spelled : (level : ℕ) (name : List ℕ) (spec : Spec) → is_variant name ≡ true → is_writable_spec spec ≡ true → IsSpelled anything (variant_head level name spec) (variant_head_words name spec)
variant_head_spelled level name spec n h =
    joined (joined (then_more (indent level) (variant_name_spelled name n)) (metadata_spelled level spec h) (metadata_follows level spec)) body_start (λ rest k. refl)

pub set_head_spelled : (level : ℕ) (set : List ℕ) → is_identifier set ≡ true → IsSpelled anything (set_head level set) (set_head_words set)
unfolding set_word
set_head_spelled level set h = joined (then_more (then_more (indent level) (edit_spelled (codes "variantSet") variantSet_word)) (identifier_spelled set h)) set_start (λ rest k. refl)

-- what is found among specs that can be written can be written
found_writable : {K : Type 0} (test : K → Bool) (es : List (K × Spec)) → list_all (λ e. is_writable_spec e.1) es ≡ true → none_or is_writable_spec (lookup test es) ≡ true
found_writable test [] h = refl
found_writable test (e ∷ es) h = let p = and_parts _ _ h in cases (test e.0) p.0 (found_writable test es p.1)
  where
    cases : (b : Bool) → is_writable_spec e.1 ≡ true → none_or is_writable_spec (lookup test es) ≡ true → none_or is_writable_spec (cond b (Some e.1) (lookup test es)) ≡ true
    cases true here more = here
    cases false here more = more

closed : (level : ℕ) → IsSpelled anything (line level (codes "}")) (close_brace ∷ [])
closed level = line_spelled level (codes "}") (weaker brace_end)

-- what stands below a prim, where the bodies one level further in are spelled
module _ (specs : SpecEntries) (good : are_writable_specs specs ≡ true) (body : ℕ → List Element → Spec → List ℕ) (said : List Element → Spec → List Said)
    (each : (level : ℕ) (path : List Element) (spec : Spec) → is_writable_spec spec ≡ true → IsSpelled anything (body level path spec) (said path spec)) where
  child_spelled : (level : ℕ) (name : List ℕ) (o : Option Spec) (path : List Element) → is_identifier name ≡ true → none_or is_writable_spec o ≡ true
      → IsSpelled anything (child_text specs body level name o path) (child_words specs said name o path)
  child_spelled level name None path n h = nothing anything
  child_spelled level name (Some spec) path n h = then_more (then_more (prim_head_spelled level name spec n h) (each (deeper level) path spec h)) (closed level)

  pub children_spelled : (level : ℕ) (path : List Element) (names : List (List ℕ)) → list_all is_identifier names ≡ true
      → IsSpelled anything (children_text specs body level path names) (children_words specs said path names)
  children_spelled level path names h =
      all_spelled (child_below specs body level path) (child_words_below specs said path) is_identifier
      (λ name n. child_spelled level name (spec_below specs path (Prim name)) (path ++ Prim name ∷ []) n (found_writable (is_at (path_cmp (path ++ Prim name ∷ []))) specs good)) names h

  variant_spelled : (level : ℕ) (name : List ℕ) (o : Option Spec) (path : List Element) → is_variant name ≡ true → none_or is_writable_spec o ≡ true
      → IsSpelled anything (variant_text specs body level name o path) (variant_words specs said name o path)
  variant_spelled level name None path n h = nothing anything
  variant_spelled level name (Some spec) path n h = then_more (then_more (variant_head_spelled level name spec n h) (each (deeper level) path spec h)) (closed level)

  set_spelled : (level : ℕ) (path : List Element) (s : VariantSet) → is_writable_set s ≡ true → IsSpelled anything (set_text specs body level path s) (set_words specs said path s)
  set_spelled level path s h =
      let p = and_parts _ _ h in
      then_more (then_more (set_head_spelled level s.set p.0)
      (all_spelled (variant_below specs body (deeper level) path s.set) (variant_words_below specs said path s.set) is_variant
      (λ name n. variant_spelled (deeper level) name (spec_below specs path (Selection s.set name)) (path ++ Selection s.set name ∷ []) n
      (found_writable (is_at (path_cmp (path ++ Selection s.set name ∷ []))) specs good)) s.variants p.1))
      (closed level)

  pub statements_spelled : (level : ℕ) (path : List Element) (spec : Spec) → is_writable_spec spec ≡ true → IsSpelled anything (statements specs body level path spec) (statement_words specs said path spec)
  statements_spelled level path spec h =
      let typed = and_parts (none_or is_word spec.body.type_name) _ (body_of spec h) in let meta = and_parts (is_writable_meta spec.body.meta) _ typed.1 in
      let schemas = and_parts (is_writable_list is_utf8 spec.body.api_schemas) _ meta.1 in let clips = and_parts (is_writable_list is_utf8 spec.body.clip_sets) _ schemas.1 in
      let children = and_parts _ _ clips.1 in let order = and_parts _ _ children.1 in let properties = and_parts _ _ order.1 in let sets = and_parts _ _ properties.1 in
      then_more (then_more (then_more (then_more
      (order_spelled level (codes "nameChildren") nameChildren_word spec.body.child_order order.0)
      (order_spelled level (codes "properties") properties_word spec.body.property_order sets.0))
      (all_spelled (property_lines level) property_words is_writable_property (property_spelled level) spec.body.properties properties.0))
      (all_spelled (set_text specs body level path) (set_words specs said path) is_writable_set (set_spelled level path) spec.body.variant_names sets.1))
      (children_spelled level path spec.body.children children.0)

-- bodies of so many levels
pub body_spelled : (specs : SpecEntries) → are_writable_specs specs ≡ true → (levels level : ℕ) (path : List Element) (spec : Spec) → is_writable_spec spec ≡ true
    → IsSpelled anything (body_text specs levels level path spec) (body_words specs levels path spec)
unfolding body_text body_words
body_spelled specs good zero level path spec h = nothing anything
body_spelled specs good (suc levels) level path spec h =
    statements_spelled specs good (body_text specs levels) (body_words specs levels) (λ l p s w. body_spelled specs good levels l p s w) level path spec h

-- the metadata of a layer, and the order of its root prims
head_block_spelled : (text : List ℕ) (said : List Said) → AreLines text said → IsSpelled anything (head_block text) (block_words said)
head_block_spelled [] [] p = nothing anything
head_block_spelled [] (w ∷ ws) p = absurd (let e = p.both_some in cc)
head_block_spelled (c ∷ cs) [] p = absurd (let e = p.both_some in cc)
head_block_spelled (c ∷ cs) (w ∷ ws) p = then_more (then_more head_start p.spelled) head_end

root_order_spelled : (names : List (List ℕ)) → list_all is_utf8 names ≡ true → IsSpelled anything (root_order_text names) (order_words (codes "rootPrims") names)
root_order_spelled [] h = nothing anything
root_order_spelled (n ∷ ns) h = then_more line_feed (order_spelled 0 (codes "rootPrims") rootPrims_word (n ∷ ns) h)

pub front_spelled : (head : Head) → is_writable_head head ≡ true → IsSpelled anything (layer_front head) (front_words head)
front_spelled head h =
    let named = and_parts (none_or is_utf8 head.default_prim) _ h in let meta = and_parts (is_writable_meta head.meta) _ named.1 in
    let sublayers = and_parts (list_all is_writable_sublayer head.sublayers) _ meta.1 in let names = and_parts (list_all is_identifier head.root_names) _ sublayers.1 in
    then_more (then_more first_line_spelled
    (head_block_spelled (head_lines head) (head_words head) (more_lines (meta_spelled 1 (with_default_prim head.default_prim head.meta) (default_writable head.default_prim head.meta named.0 meta.0)) (sublayers_spelled 1 head.sublayers sublayers.0))))
    (root_order_spelled head.root_order names.1)

-- the text of a layer
pub layer_spelled : (layer : LayerTable) → is_writable_layer layer ≡ true → IsSpelled anything (canonical layer) (layer_words layer)
unfolding canonical layer_words is_writable_layer
layer_spelled layer h =
    let p = and_parts _ _ h in
    let named = and_parts (none_or is_utf8 layer.head.default_prim) _ p.0 in let meta = and_parts (is_writable_meta layer.head.meta) _ named.1 in
    let sublayers = and_parts (list_all is_writable_sublayer layer.head.sublayers) _ meta.1 in let names = and_parts (list_all is_identifier layer.head.root_names) _ sublayers.1 in
    then_more (front_spelled layer.head p.0)
    (children_spelled layer.specs p.1 (body_text layer.specs (length layer.specs)) (body_words layer.specs (length layer.specs)) (λ l path spec w. body_spelled layer.specs p.1 (length layer.specs) l path spec w)
    0 [] layer.head.root_names names.0)

-- and the words of the whole of it
pub all_told : (text : List ℕ) (said : List Said) → IsSpelled anything text said → map told_of (words_of text) ≡ map as_word said
unfolding left
all_told text said p =
    let w = p.worded 0 at_start [] refl refl in
    ap (map told_of) (ap (λ t. words_in at_start (lexing_from 0 0 t)) (sym (append-nil text)) ∙ w.worded ∙ append-nil w.words) ∙ w.told
