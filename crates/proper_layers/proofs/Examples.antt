-- Layers that are proper, and some that are not.
use Rattle.std.proofs.Common.{◌≡◌, ◌⊎◌, ◌∙◌, ◌≤◌, inl, inr, ℕ, nat_le, Bool, true, false, List, [], ◌∷◌, ◌++◌, length, Some, None, is_some, ap, sym, refl, subst, arith, cond, ◌||◌, ◌&&◌}
use Rattle.std.specs.Prelude.{codes}
use Rattle.std.specs.Cmp.Lexicographic.{bytes_decides}
use Rattle.std.specs.Fmt.{digits}
use Rattle.std.specs.List.{IsDistinct}
use Rattle.std.specs.List.Sorted.{IsStrictlySortedBy}
use Rattle.std.specs.Ordering.{is_eq}
use Rattle.std.specs.Str.{chars, is_utf8}
use Rattle.unicode_ident.proofs.Computing.{unicode_ident}
use Rattle.usd_names.specs.Names.{is_start, is_identifier, is_variant, is_variant_character, is_property_name}
use Rattle.sdf_paths.specs.Order.{path_cmp}
use Rattle.sdf_paths.specs.declared.element.Element.{Element}
use Rattle.sdf_paths.specs.declared.element.Element.TheVariants.{Prim, Selection}
use Rattle.sdf_specs.specs.Layers.{spec_at}
use Rattle.sdf_specs.proofs.PathLemmas.{same_path}
use Rattle.spec_parts.specs.declared.spec.Spec.{Spec}
use Rattle.layer_texts.specs.Examples.{small}
use Rattle.layer_texts.specs.Writable.{is_word}
use Rattle.std.proofs.lemmas.Bool.{leb-true}
use Rattle.sdf_paths.specs.Paths.{IsPath}
use Rattle.sdf_values.specs.Conforms.{conforms, one, holds, holds_step, item_step, is_block_step, is_block_item}
use Rattle.sdf_values.specs.Print.{print_step, print_item}
use Rattle.sdf_values.specs.declared.type_name.ElementType.TheVariants.{String}
use Rattle.sdf_values.specs.declared.type_name.TypeName.{TypeName}
use Rattle.sdf_values.specs.declared.value.Value.TheVariants as value
use Rattle.spec_parts.specs.Blank.{blank_body, blank_spec}
use Rattle.spec_parts.specs.declared.items.Specifier.TheVariants.{Over}
use Rattle.spec_parts.specs.declared.items.VariantSet.{VariantSet}
use Rattle.spec_properties.specs.Entries.{MetaEntries}
use Rattle.usda_fields.specs.Keys.{key_rule, rule_shape}
use Rattle.usda_grammar.specs.declared.kinds.Keyword.{Keyword}
use Rattle.usda_reader.specs.Texts.{IsText}
use Rattle.usda_writer.specs.Canonical.{spec_below, canonical, body_text, first_line, set_word, spec_block}
use Rattle.usda_writer.specs.Fields.{spec_lines}
use Rattle.value_texts.specs.Readable.{depth_step, depth_item}
use Rattle.value_texts.specs.Writable.{writable_step, writable_item}
use Rattle.value_texts.proofs.ReadingSteps.{reads_word}
use Rattle.sdf_values.proofs.Values as fold
use Rattle.text_checks.specs.Examples.{other_bytes}
use Rattle.text_checks.specs.Utf8.{utf8_step, utf8_item}
use Rattle.layer_reads.specs.Keys.{is_plain_key}
use Rattle.value_returns.specs.Fields.{AreProperFields}
use Rattle.value_returns.specs.FullPaths.{full_step, full_item}
use Rattle.value_returns.specs.Proper.{IsProperMeta}
use Rattle.layer_returns.proofs.Examples.{no_items, no_lists}
use Rattle.layer_reads.proofs.Selections.{none_selected}
use Rattle.proper_layers.specs.Examples.{hollow, hollow_spec, hollow_text, of_prim, naming, orphan, misplaced, having, saying, adding, adding_text, ProperExamples}
use Rattle.proper_layers.specs.Proper.{IsProper}
use Rattle.proper_layers.proofs.Returns.{proper_layers_return}
use Rattle.trees_read.specs.Names.{IsPlace, is_among}

-- the two paths of the layer
abbrev pub the_prim : List Element
the_prim = Prim (codes "A") ∷ []

abbrev the_variant : List Element
the_variant = Prim (codes "A") ∷ Selection (codes "s") (codes ".x") ∷ []

one_of : (p : List Element) → is_some (spec_at p small.specs) ≡ true → (p ≡ the_prim) ⊎ (p ≡ the_variant)
one_of p h = by (is_eq (path_cmp p the_prim)) (is_eq (path_cmp p the_variant)) refl refl _ _ h
  where
    by : (b c : Bool) → is_eq (path_cmp p the_prim) ≡ b → is_eq (path_cmp p the_variant) ≡ c → (s t : Spec) → is_some (cond b (Some s) (cond c (Some t) None)) ≡ true → (p ≡ the_prim) ⊎ (p ≡ the_variant)
    by true c e f s t h = inl (same_path p the_prim e)
    by false true e f s t h = inr (same_path p the_variant f)
    by false false e f s t h = absurd cc

only : (name only : List ℕ) → name ≡ only → is_among name (only ∷ []) ≡ true
only name one same = ap (λ b. b || false) ((bytes_decides name one).1 same)

root_named : (name : List ℕ) → is_some (spec_below small.specs [] (Prim name)) ≡ true → is_among name (codes "A" ∷ []) ≡ true
root_named name h = by (one_of (Prim name ∷ []) h)
  where
    by : (Prim name ∷ [] ≡ the_prim) ⊎ (Prim name ∷ [] ≡ the_variant) → is_among name (codes "A" ∷ []) ≡ true
    by (inl same) = let one : name ≡ codes "A" = cc in only name (codes "A") one
    by (inr same) = absurd cc

set_named : (set name : List ℕ) → is_some (spec_below small.specs the_prim (Selection set name)) ≡ true → (set ≡ codes "s") × (name ≡ codes ".x")
set_named set name h = by (one_of (Prim (codes "A") ∷ Selection set name ∷ []) h)
  where
    by : (Prim (codes "A") ∷ Selection set name ∷ [] ≡ the_prim) ⊎ (Prim (codes "A") ∷ Selection set name ∷ [] ≡ the_variant) → (set ≡ codes "s") × (name ≡ codes ".x")
    by (inl same) = absurd cc
    by (inr same) = let set : set ≡ codes "s" = cc in let name : name ≡ codes ".x" = cc in (set, name)

no_child : (name : List ℕ) → is_some (spec_below small.specs the_prim (Prim name)) ≡ true → ⊥
no_child name h = by (one_of (Prim (codes "A") ∷ Prim name ∷ []) h)
  where
    by : (Prim (codes "A") ∷ Prim name ∷ [] ≡ the_prim) ⊎ (Prim (codes "A") ∷ Prim name ∷ [] ≡ the_variant) → ⊥
    by (inl same) = cc
    by (inr same) = cc

none_deeper : (e : Element) → is_some (spec_below small.specs the_variant e) ≡ true → ⊥
none_deeper e h = by (one_of (Prim (codes "A") ∷ Selection (codes "s") (codes ".x") ∷ e ∷ []) h)
  where
    by : (Prim (codes "A") ∷ Selection (codes "s") (codes ".x") ∷ e ∷ [] ≡ the_prim) ⊎ (Prim (codes "A") ∷ Selection (codes "s") (codes ".x") ∷ e ∷ [] ≡ the_variant) → ⊥
    by (inl same) = cc
    by (inr same) = cc

-- ---- parts

no_meta : (is_name : Keyword → Bool) → IsProperMeta is_name []
unfolding IsStrictlySortedBy
no_meta is_name = record { ordered = tt; each = tt }

-- what has keys and names sets, and says nothing else
having_keys : (meta : MetaEntries) (sets : List VariantSet) → IsProperMeta is_plain_key meta → AreProperFields (record (blank_spec Over) { body = record (blank_body Over) { meta = meta; variant_names = sets } })
having_keys meta sets keys = record {
  type_name = refl;
  keys = keys;
  api_schemas = no_lists _ _;
  clip_sets = no_lists _ _;
  inherits = no_lists _ _;
  variant_sets = no_lists _ _;
  selections = none_selected;
  references = no_lists _ _;
  payloads = no_lists _ _;
  specializes = no_lists _ _;
  child_order = tt;
  property_order = tt;
}

-- what names sets, and says nothing else
naming_sets : (sets : List VariantSet) → AreProperFields (record (blank_spec Over) { body = record (blank_body Over) { variant_names = sets } })
naming_sets sets = having_keys [] sets (no_meta _)

-- a path of one prim
prim_path : (c : ℕ) → is_identifier (c ∷ []) ≡ true → IsPath (Prim (c ∷ []) ∷ [])
prim_path c named = record { well_formed = record { ordered = refl; named = ap (λ b. b && true) named; few = omega arith }; short = omega arith }

a_path : IsPath the_prim
unfolding chars is_utf8 unicode_ident is_start is_identifier lib.Utf8.encode
a_path = prim_path 65 refl

a_place : IsPlace the_prim
a_place = record { within = a_path; below_root = refl; unlike_property = refl }

-- ---- a layer with some of each

small_short : nat_le (length (canonical small)) 67108864 ≡ true
unfolding digits canonical body_text first_line set_word spec_block spec_lines
small_short = refl

small_proper : IsProper small
unfolding digits chars is_utf8 unicode_ident is_start is_identifier is_variant is_variant_character is_property_name is_word lib.Utf8.encode IsStrictlySortedBy IsDistinct
small_proper = record {
  head = record {
    keys = no_meta _;
    apart = refl;
    default_prim = tt;
    sublayers = (record { asset = record { utf8 = refl; short_ats = refl }; offset = record { scale_least = record { le = tt }; scale_most = record { le = tt }; offset_within = omega arith } }, tt);
    root_order = (refl, (refl, tt));
  };
  ordered = ((refl, tt), (tt, tt));
  roots = record { once = (tt, tt); each = (refl, tt); all = root_named };
  entries = (
    record {
      place = a_place;
      owned = refl;
      variant = tt;
      children = record { once = tt; each = tt; all = λ name h. absurd (no_child name h) };
      sets = record {
        once = (tt, tt);
        named = (refl, tt);
        each = (record { once = (tt, tt); each = (refl, tt); all = λ name h. only name (codes ".x") (set_named (codes "s") name h).1 }, tt);
        all = λ set name h. only set (codes "s") (set_named set name h).0;
      };
      fields = record {
        type_name = refl;
        keys = no_meta _;
        api_schemas = no_lists _ _;
        clip_sets = no_lists _ _;
        inherits = record { alone = refl; items = no_items _ _ };
        variant_sets = no_lists _ _;
        selections = none_selected;
        references = record {
          inexplicit = refl;
          deleted = no_items _ _;
          added = no_items _ _;
          prepended = record {
            each = (
              record { asset = record { utf8 = refl; short_ats = refl }; path = prim_path 82 refl; offset = record { scale_least = record { le = tt }; scale_most = record { le = tt }; offset_within = omega arith } },
              tt,
            );
            once = refl;
          };
          appended = no_items _ _;
          ordered = no_items _ _;
        };
        payloads = no_lists _ _;
        specializes = no_lists _ _;
        child_order = tt;
        property_order = tt;
      };
      once = (tt, tt);
      properties = (
        record { named = refl; related = record { alone = refl; items = record { each = (record { formed = a_path; plain = refl }, tt); once = refl } }; said = no_meta _ },
        tt,
      );
    },
    (
      record {
        place = record { within = record { well_formed = record { ordered = refl; named = refl; few = omega arith }; short = omega arith }; below_root = refl; unlike_property = refl };
        owned = refl;
        variant = (refl, refl);
        children = record { once = tt; each = tt; all = λ name h. absurd (none_deeper (Prim name) h) };
        sets = record { once = tt; named = tt; each = tt; all = λ set name h. absurd (none_deeper (Selection set name) h) };
        fields = naming_sets [];
        once = tt;
        properties = tt;
      },
      tt,
    ),
  );
  size = leb-true (length (canonical small)) 67108864 small_short;
}

-- ---- layers of one prim

alone_named : (spec : Spec) (p : List Element) → is_some (spec_at p (of_prim spec).specs) ≡ true → p ≡ the_prim
alone_named spec p h = by (is_eq (path_cmp p the_prim)) refl spec h
  where
    by : (b : Bool) → is_eq (path_cmp p the_prim) ≡ b → (s : Spec) → is_some (cond b (Some s) None) ≡ true → p ≡ the_prim
    by true e s h = same_path p the_prim e
    by false e s h = absurd cc

alone_deeper : (spec : Spec) (e : Element) → is_some (spec_below (of_prim spec).specs the_prim e) ≡ true → ⊥
alone_deeper spec e h = let same : Prim (codes "A") ∷ e ∷ [] ≡ the_prim = alone_named spec (Prim (codes "A") ∷ e ∷ []) h in cc

alone_root : (spec : Spec) (name : List ℕ) → is_some (spec_below (of_prim spec).specs [] (Prim name)) ≡ true → is_among name (codes "A" ∷ []) ≡ true
alone_root spec name h =
    let same : Prim name ∷ [] ≡ the_prim = alone_named spec (Prim name ∷ []) h in
    let one : name ≡ codes "A" = cc in
    only name (codes "A") one

-- ---- a set without variants

hollow_written : canonical hollow ≡ hollow_text
unfolding digits canonical body_text first_line set_word spec_block spec_lines
hollow_written = refl

hollow_short : length (canonical hollow) ≤ 67108864
hollow_short = subst (λ t. length t ≤ 67108864) (sym hollow_written) (leb-true (length hollow_text) 67108864 refl)

hollow_proper : IsProper hollow
unfolding chars is_utf8 unicode_ident is_start is_identifier lib.Utf8.encode IsStrictlySortedBy IsDistinct
hollow_proper = record {
  head = record { keys = no_meta _; apart = refl; default_prim = tt; sublayers = tt; root_order = tt };
  ordered = (tt, tt);
  roots = record { once = (tt, tt); each = (refl, tt); all = alone_root hollow_spec };
  entries = (
    record {
      place = a_place;
      owned = refl;
      variant = tt;
      children = record { once = tt; each = tt; all = λ name h. absurd (alone_deeper hollow_spec (Prim name) h) };
      sets = record {
        once = (tt, tt);
        named = (refl, tt);
        each = (record { once = tt; each = tt; all = λ name h. absurd (alone_deeper hollow_spec (Selection (codes "s") name) h) }, tt);
        all = λ set name h. absurd (alone_deeper hollow_spec (Selection set name) h);
      };
      fields = naming_sets hollow_spec.body.variant_names;
      once = tt;
      properties = tt;
    },
    tt,
  );
  size = hollow_short;
}

-- the text with the empty set says the layer
hollow_said : IsText hollow_text hollow
hollow_said = subst (λ t. IsText t hollow) hollow_written (proper_layers_return hollow hollow_proper)

-- ---- an edit word as a key

abbrev adding_spec : Spec
adding_spec = record (blank_spec Over) { body = record (blank_body Over) { meta = (codes "add", value.Word (codes "x")) ∷ [] } }

abbrev Printer : Type 0
Printer = ℕ → List ℕ

-- the layer with this in place of the value in print; each list that the prim does not have is empty
abbrev adding_printed : Printer → List ℕ
adding_printed p = codes "#usda 1.0\n\nover \"A\" (\n    add = " ++ p 1 ++ codes "\n" ++ [] ++ [] ++ [] ++ [] ++ [] ++ [] ++ [] ++ [] ++ [] ++ [] ++ codes ")" ++ codes "\n" ++ codes "{\n" ++ [] ++ codes "}\n" ++ []

adding_written : canonical adding ≡ adding_text
unfolding digits canonical body_text first_line set_word spec_block spec_lines
adding_written = ap adding_printed (fold.of_word Printer Printer print_step print_item (codes "x"))

adding_short : length (canonical adding) ≤ 67108864
adding_short = subst (λ t. length t ≤ 67108864) (sym adding_written) (leb-true (length adding_text) 67108864 refl)

adding_keys : IsProperMeta is_plain_key adding_spec.body.meta
unfolding chars is_utf8 unicode_ident is_start is_identifier is_property_name is_word lib.Utf8.encode IsStrictlySortedBy
adding_keys = record {
  ordered = (tt, tt);
  each = (
    record {
      word = refl;
      name = refl;
      taken = refl;
      writable = fold.of_word Bool Bool writable_step writable_item (codes "x");
      read = reads_word (codes "x") (rule_shape (key_rule (codes "add"))) true;
      deep = omega (arith, fold.of_word ℕ ℕ depth_step depth_item (codes "x"));
      full = fold.of_word Bool Bool full_step full_item (codes "x");
      utf8 = fold.of_word Bool Bool utf8_step utf8_item (codes "x");
    },
    tt,
  );
}

adding_proper : IsProper adding
unfolding chars is_utf8 unicode_ident is_start is_identifier lib.Utf8.encode IsStrictlySortedBy IsDistinct
adding_proper = record {
  head = record { keys = no_meta _; apart = refl; default_prim = tt; sublayers = tt; root_order = tt };
  ordered = (tt, tt);
  roots = record { once = (tt, tt); each = (refl, tt); all = alone_root adding_spec };
  entries = (
    record {
      place = a_place;
      owned = refl;
      variant = tt;
      children = record { once = tt; each = tt; all = λ name h. absurd (alone_deeper adding_spec (Prim name) h) };
      sets = record { once = tt; named = tt; each = tt; all = λ set name h. absurd (alone_deeper adding_spec (Selection set name) h) };
      fields = having_keys adding_spec.body.meta [] adding_keys;
      once = tt;
      properties = tt;
    },
    tt,
  );
  size = adding_short;
}

-- the text with the edit word says the layer
adding_said : IsText adding_text adding
adding_said = subst (λ t. IsText t adding) adding_written (proper_layers_return adding adding_proper)

-- ---- layers that are not proper

missing_name : IsProper (naming []) → ⊥
missing_name proper = let bad : false ≡ true = proper.roots.all (codes "A") refl in cc

name_twice : IsProper (naming (codes "A" ∷ codes "A" ∷ [])) → ⊥
unfolding IsDistinct
name_twice proper = let bad : true ≡ false = proper.roots.once.0.0 in cc

name_without_spec : IsProper (naming (codes "A" ∷ codes "B" ∷ [])) → ⊥
name_without_spec proper = let bad : false ≡ true = proper.roots.each.1.0 in cc

no_owner : IsProper orphan → ⊥
no_owner proper = let bad : false ≡ true = proper.entries.0.owned in cc

no_place : IsProper misplaced → ⊥
no_place proper = let bad : true ≡ false = proper.entries.1.0.place.unlike_property in cc

abbrev Test : Type 0
Test = TypeName → Bool

bool_other : conforms (value.Bool true) (one String) ≡ false
bool_other = ap (λ b. b || holds (value.Bool true) (one String)) (fold.of_bool Bool Bool is_block_step is_block_item true) ∙ ap (λ (f : Test). f (one String)) (fold.of_bool Test Test holds_step item_step true)

other_type : IsProper (having (value.Bool true)) → ⊥
other_type proper = let bad : false ≡ true = sym bool_other ∙ proper.entries.0.properties.0.defaulted.typed in cc

path_below : IsProper (saying (codes "k") (value.PathText (codes "B"))) → ⊥
path_below proper = let bad : false ≡ true = sym (fold.of_path Bool Bool full_step full_item (codes "B")) ∙ proper.entries.0.fields.keys.each.0.full in cc

no_utf8 : IsProper other_bytes → ⊥
unfolding is_utf8 lib.Utf8.encode chars
no_utf8 proper = let bad : false ≡ true = proper.head.sublayers.0.asset.utf8 in cc

pub proper_examples : ProperExamples
proper_examples = record {
  small_proper = small_proper;
  hollow_proper = hollow_proper;
  hollow_said = hollow_said;
  adding_proper = adding_proper;
  adding_said = adding_said;
  missing_name = missing_name;
  name_twice = name_twice;
  name_without_spec = name_without_spec;
  no_owner = no_owner;
  no_place = no_place;
  other_type = other_type;
  path_below = path_below;
  no_utf8 = no_utf8;
}
