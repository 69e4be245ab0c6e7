-- A layer that comes back.
use Rattle.std.proofs.Common.{◌≡◌, Bool, true, false, List, [], ◌∷◌, length, Some, None, inl, inr, refl, arith, cond}
use Rattle.std.specs.Prelude.{codes}
use Rattle.std.specs.Ordering.{is_eq}
use Rattle.std.specs.Fmt.{digits}
use Rattle.std.specs.Str.{chars, is_utf8}
use Rattle.unicode_ident.proofs.Computing.{unicode_ident}
use Rattle.usd_names.specs.Names.{is_start, is_identifier, is_variant, is_variant_character, is_property_name}
use Rattle.std.specs.List.Sorted.{IsStrictlySortedBy}
use Rattle.list_ops.specs.Blank.{no_edits}
use Rattle.sdf_paths.specs.Reader.{step, finish}
use Rattle.sdf_paths.specs.declared.element.Element.{Element}
use Rattle.usda_lexer.specs.Meanings.{path_text}
use Rattle.sdf_paths.specs.Reader.{path_of}
use Rattle.usda_lists.specs.Paths.{path_from}
use Rattle.usda_grammar.specs.declared.kinds.Keyword.{Keyword}
use Rattle.usda_drafts.specs.Closed.{is_closed, with_spec_at}
use Rattle.usda_drafts.specs.Owners.{owner_of, with_child, with_set, with_variant, has_set, spec_of}
use Rattle.usda_drafts.specs.Places.{prim_place, variant_place}
use Rattle.sdf_paths.specs.Order.{path_cmp}
use Rattle.sdf_paths.specs.declared.element.Element.TheVariants.{Prim, Selection}
use Rattle.sdf_specs.proofs.PathLemmas.{same_path}
use Rattle.spec_parts.specs.declared.spec.Spec.{Spec}
use Rattle.layer_texts.specs.Examples.{small}
use Rattle.layer_texts.specs.Writable.{is_word, is_writable_spec, is_writable_layer}
use Rattle.layer_returns.specs.Reached.{IsFromChildren, IsReached}
use Rattle.layer_returns.specs.Theorem.{IsTree}
use Rattle.layer_reads.specs.Kept.{AreKept, IsListKept}
use Rattle.layer_reads.specs.Meta.{IsMetaKept}
use Rattle.layer_reads.proofs.Selections.{none_selected}
use Rattle.layer_returns.specs.Examples.{ExamplesComeBack}
use Rattle.layer_returns.specs.Layers.{IsLayerKept}

pub no_items : {T : Type 0} (same : T → T → Bool) (W : T → Type 0) → AreKept same W []
no_items same W = record { each = tt; once = refl }

pub no_lists : {T : Type 0} (same : T → T → Bool) (W : T → Type 0) → IsListKept same W no_edits
no_lists same W = record {
  inexplicit = refl;
  deleted = no_items same W;
  added = no_items same W;
  prepended = no_items same W;
  appended = no_items same W;
  ordered = no_items same W;
}

pub no_meta : (is_plain : Keyword → Bool) (base : List Element) → IsMetaKept is_plain base []
unfolding IsStrictlySortedBy
no_meta is_plain base = record { ordered = tt; each = tt }

pub small_kept : IsLayerKept small
unfolding digits chars is_utf8 unicode_ident is_start is_identifier is_variant is_variant_character is_property_name path_text path_of path_from step finish is_closed with_spec_at owner_of with_child with_set with_variant has_set spec_of prim_place variant_place lib.Utf8.encode
small_kept = record {
  head = record {
    meta = no_meta _ _;
    sublayers = (record { scale_least = record { le = tt }; scale_most = record { le = tt }; offset_within = omega arith }, tt);
    order = (refl, (refl, tt));
  };
  prims = (
    (
      record { utf8 = refl; named = refl; place = refl; free = refl },
      record {
        meta = no_meta _ _;
        api_schemas = no_lists _ _;
        clip_sets = no_lists _ _;
        inherits = record { alone = refl; items = no_items _ _ };
        variant_sets = no_lists _ _;
        selections = none_selected;
        references = record {
          inexplicit = refl;
          deleted = no_items _ _;
          added = no_items _ _;
          prepended = record { each = (record { asset = tt; path = refl; offset = record { scale_least = record { le = tt }; scale_most = record { le = tt }; offset_within = omega arith } }, tt); once = refl };
          appended = no_items _ _;
          ordered = no_items _ _;
        };
        payloads = no_lists _ _;
        specializes = no_lists _ _;
      },
      record {
        child_order = tt;
        property_order = tt;
        properties = (refl, refl, record { targets = record { alone = refl; items = record { each = (refl, tt); once = refl } }; meta = no_meta _ _ }, tt);
        sets = (
          refl,
          refl,
          refl,
          (
            (
              record { utf8 = refl; named = refl; place = refl; free = refl },
              record {
                meta = no_meta _ _;
                api_schemas = no_lists _ _;
                clip_sets = no_lists _ _;
                inherits = no_lists _ _;
                variant_sets = no_lists _ _;
                selections = none_selected;
                references = no_lists _ _;
                payloads = no_lists _ _;
                specializes = no_lists _ _;
              },
              record { child_order = tt; property_order = tt; properties = tt; sets = tt; children = tt },
            ),
            tt,
          ),
          tt,
        );
        children = tt;
      },
    ),
    tt,
  );
}

-- a path at which a spec of the layer stands
reached : (p : List Element) (b c : Bool) → is_eq (path_cmp p (Prim (codes "A") ∷ [])) ≡ b → is_eq (path_cmp p (Prim (codes "A") ∷ Selection (codes "s") (codes ".x") ∷ [])) ≡ c → (s t u : Spec) → cond b (Some s) (cond c (Some t) None) ≡ Some u
    → IsFromChildren small.specs (IsReached small.specs (length small.specs)) [] small.head.root_names p
reached p true c e f s t u h = inl (inl (same_path p (Prim (codes "A") ∷ []) e))
reached p false true e f s t u h = inl (inr (inl (inl (inl (inl (same_path p (Prim (codes "A") ∷ Selection (codes "s") (codes ".x") ∷ []) f))))))
reached p false false e f s t u h = absurd cc

small_tree : IsTree small
unfolding IsStrictlySortedBy
small_tree = record {
  ordered = ((refl, tt), (tt, tt));
  whole = (record { children = tt; variants = (((refl, refl, record { children = tt; variants = tt }), tt), tt) }, tt);
  reached = λ p s h. reached p (is_eq (path_cmp p (Prim (codes "A") ∷ []))) (is_eq (path_cmp p (Prim (codes "A") ∷ Selection (codes "s") (codes ".x") ∷ []))) refl refl _ _ s h;
  default_prim = refl;
}

small_written : is_writable_layer small ≡ true
unfolding digits chars is_utf8 unicode_ident is_start is_identifier is_variant is_variant_character is_word is_writable_spec is_writable_layer lib.Utf8.encode
small_written = refl

pub examples_come_back : ExamplesComeBack
examples_come_back = record { small_kept = small_kept; small_tree = small_tree; small_written = small_written }
