-- Where no list is read, no word leaves one in the making.
use Rattle.std.proofs.Common.{◌≡◌, ℕ, Bool, true, false, ◌||◌, cond, List, [], ◌∷◌, Option, Some, None, is_some, Result, Ok, Err, sym, refl, subst}
use Rattle.std.specs.List.{IsDistinct}
use Rattle.std.specs.Prelude.{if◌then◌else◌}
use Rattle.list_ops.specs.Blank.{no_edits}
use Rattle.plain_data.specs.Ends.{last}
use Rattle.sdf_paths.specs.DerivedOrder.{path_cmp_same}
use Rattle.sdf_paths.specs.Order.{path_cmp}
use Rattle.sdf_paths.specs.declared.element.Element.{Element}
use Rattle.sdf_values.specs.declared.refusal.RefusalKind.{RefusalKind}
use Rattle.sdf_values.specs.declared.refusal.RefusalKind.TheVariants.{DuplicateSpec}
use Rattle.sdf_values.specs.declared.type_name.TypeName.{TypeName}
use Rattle.spec_parts.specs.Blank.{blank_spec}
use Rattle.spec_parts.specs.declared.items.Specifier.{Specifier}
use Rattle.spec_parts.specs.declared.items.Specifier.TheVariants.{Over}
use Rattle.spec_properties.specs.Properties.{same_name, property_name, property_at, blank_relationship, with_property as property_placed}
use Rattle.spec_properties.specs.declared.property.Property.{Property}
use Rattle.spec_properties.specs.declared.property.Property.TheVariants.{Attr, Rel}
use Rattle.usda_drafts.specs.Acts.{layers_act, prims_act, bodies_act}
use Rattle.usda_drafts.specs.Bodies.{statement_act, body_act, name_act, with_name}
use Rattle.usda_drafts.specs.Closed.{is_closed, with_spec_at}
use Rattle.usda_drafts.specs.Owners.{owner_of, spec_of, with_child, has_set, with_set, with_variant, with_place, with_returned, marks_at, property_for, settled}
use Rattle.usda_drafts.specs.Places.{prim_place, variant_place}
use Rattle.usda_drafts.specs.Prims.{entered, prim_at, with_prim, entered_prim, named_prim, prim_name_act, begun_set, set_name_act, with_variant_at, entered_variant, named_variant, variant_name_act, with_statement_over, left_for, left, body_end_act}
use Rattle.usda_drafts.specs.Refusals.{then_with}
use Rattle.usda_drafts.specs.declared.draft.Draft.{Draft}
use Rattle.usda_drafts.specs.declared.owner.Owner.{Owner}
use Rattle.usda_fields.specs.Names.{identifier_of, variant_of}
use Rattle.usda_fields.specs.declared.field.ListField.TheVariants as list
use Rattle.usda_fields.specs.declared.field.PathField.TheVariants.{Inherits, Specializes}
use Rattle.usda_fields.specs.declared.field.ReferenceField.TheVariants.{References, Payload}
use Rattle.usda_fields.specs.declared.field.TextField.TheVariants.{VariantSets, ApiSchemas, ClipSets}
use Rattle.usda_grammar.specs.declared.symbols.Symbol.{Symbol}
use Rattle.usda_grammar.specs.declared.symbols.Symbol.TheVariants as symbol
use Rattle.usda_lists.specs.Acts.{and_then}
use Rattle.usda_lists.specs.References.{same_path}
use Rattle.usda_lists.specs.declared.edit.ListEdit.TheVariants.{Explicit, Delete, Add, Prepend, Append, Reorder}
use Rattle.usda_statements.specs.PropertyDrafts.{is_in_hand, is_attribute_of, joined, property_of_type, property_of}
use Rattle.usda_statements.specs.declared.heading.Heading.{Heading}
use Rattle.usda_statements.specs.declared.property.PropertyDraft.{PropertyDraft}
use Rattle.usda_statements.specs.declared.property.PropertyMarks.{PropertyMarks}
use Rattle.usda_words.specs.Words.{Word}
use Rattle.value_texts.specs.Each.{AreAll}
use Rattle.value_texts.proofs.EachOf.{all_push, all_front, all_last}
use Rattle.trees_read.proofs.Fields.{IfMade, and_made, if_made}
use Rattle.trees_read.proofs.ListActs.{PropertyOnce, SpecOnce, OwnerOnce, view_of, Quiet, Viewed, prim_type_viewed, open_viewed, root_viewed, root_order_viewed, order_name_viewed, property_item_viewed, after_variability_viewed, after_custom_viewed, after_edit_viewed, after_reorder_viewed, statement_viewed, brackets_viewed, tail_viewed, sample_viewed, first_viewed}
use Rattle.trees_read.proofs.ListFields.{ops_of, AllOnce}
use Rattle.trees_read.proofs.ListOps.{OpOnce}
use Rattle.trees_read.proofs.ListRows.{part_of, is_none, is_light, begins_list}
use Rattle.trees_read.proofs.Paths.{all_with}
use Rattle.trees_read.proofs.Prims.{placed_made}

-- no list is in the making in the draft that an act makes, where it makes one
abbrev pub IsQuiet : {E : Type 0} → Result Draft E → Type 0
IsQuiet r = IfMade (λ next. Quiet (view_of next)) r

pub quiet_made : {E : Type 0} (d : Draft) (r : Result Draft E) → Viewed d r → Quiet (view_of d) → IsQuiet r
quiet_made d (Ok next) h q = subst Quiet (sym h) q
quiet_made d (Err e) h q = tt

-- ---- what has no lists yet

none_once : {T : Type 0} (same : T → T → Bool) → OpOnce same no_edits
unfolding IsDistinct
none_once same Explicit = tt
none_once same Delete = tt
none_once same Add = tt
none_once same Prepend = tt
none_once same Append = tt
none_once same Reorder = tt

pub blank_once : (specifier : Specifier) → AllOnce (ops_of (blank_spec specifier))
blank_once specifier (list.Paths Inherits) = none_once _
blank_once specifier (list.Paths Specializes) = none_once _
blank_once specifier (list.References References) = none_once _
blank_once specifier (list.References Payload) = none_once _
blank_once specifier (list.Texts VariantSets) = none_once _
blank_once specifier (list.Texts ApiSchemas) = none_once _
blank_once specifier (list.Texts ClipSets) = none_once _

pub no_paths_once : OpOnce same_path no_edits
no_paths_once = none_once same_path

-- ---- properties

property_once : (p : PropertyDraft) → OpOnce same_path p.paths → PropertyOnce (property_of p)
property_once p h = by p.ty
  where
    by : (t : Option TypeName) → PropertyOnce (property_of_type t p)
    by None = h
    by (Some ty) = h

placed_once : (q : Property) (ps : List Property) → PropertyOnce q → AreAll PropertyOnce ps → AreAll PropertyOnce (property_placed q ps)
placed_once q [] one all = (one, tt)
placed_once q (p ∷ ps) one all = by (same_name (property_name q) (property_name p)) (placed_once q ps one all.1)
  where
    by : (b : Bool) → AreAll PropertyOnce (property_placed q ps) → AreAll PropertyOnce (cond b (q ∷ ps) (p ∷ property_placed q ps))
    by true more = (one, all.1)
    by false more = (all.0, more)

settled_once : (p : PropertyDraft) (o : Owner) → OpOnce same_path p.paths → OwnerOnce o → OwnerOnce (settled p o)
unfolding settled with_returned
settled_once p o h once = by (is_in_hand p)
  where
    by : (b : Bool) → OwnerOnce (if b then with_returned p o else o)
    by true = (once.0, placed_once (property_of p) o.properties (property_once p h) once.1)
    by false = once

pub over_quiet : (d : Draft) → Quiet (view_of d) → Quiet (view_of (with_statement_over d))
unfolding with_statement_over
over_quiet d q =
    let o : OwnerOnce (settled d.property d.owner) = settled_once d.property d.owner q.paths (q.fields, q.rest.properties) in
    record { rest = record { specs = q.rest.specs; outer = q.rest.outer; properties = o.1 }; fields = o.0; paths = no_paths_once }

-- a property that is there
abbrev MaybeOnce : Option Property → Type 0
MaybeOnce None = Unit {0}
MaybeOnce (Some p) = PropertyOnce p

found_once : (name : List ℕ) (ps : List Property) → AreAll PropertyOnce ps → MaybeOnce (property_at name ps)
found_once name [] all = tt
found_once name (p ∷ ps) all = by (same_name name (property_name p)) (found_once name ps all.1)
  where
    by : (b : Bool) → MaybeOnce (property_at name ps) → MaybeOnce (cond b (Some p) (property_at name ps))
    by true more = all.0
    by false more = more

joined_once : (h : Heading) (name : List ℕ) (marks : PropertyMarks) (o : Option Property) → MaybeOnce o → IfMade (λ (p : PropertyDraft). OpOnce same_path p.paths) (joined h name marks o)
joined_once h name marks None once = no_paths_once
joined_once h name marks (Some (Attr n ty custom uniform default samples connections meta)) once = by (is_attribute_of ty h.ty)
  where
    by : (b : Bool) → IfMade {A = PropertyDraft} {E = RefusalKind} (λ (p : PropertyDraft). OpOnce same_path p.paths) (if b then Ok (record { name = n; edit = h.edit; ty = Some ty; custom = custom || h.custom; uniform = uniform || h.uniform; default = default; samples = samples; paths = connections; meta = meta; marks = marks }) else Err DuplicateSpec)
    by true = once
    by false = tt
joined_once h name marks (Some (Rel n custom targets meta)) once = by (is_some h.ty)
  where
    by : (b : Bool) → IfMade {A = PropertyDraft} {E = RefusalKind} (λ (p : PropertyDraft). OpOnce same_path p.paths) (if b then Err DuplicateSpec else Ok (record { name = n; edit = h.edit; ty = None; custom = custom || h.custom; uniform = false; default = None; samples = []; paths = targets; meta = meta; marks = marks }))
    by true = tt
    by false = once

name_quiet : (w : Word) (d : Draft) → Quiet (view_of d) → IsQuiet (name_act w d)
unfolding name_act property_for with_place
name_quiet w d q = by (joined d.heading w.text (marks_at w.text d.owner) (property_at w.text d.owner.properties)) (joined_once d.heading w.text (marks_at w.text d.owner) (property_at w.text d.owner.properties) (found_once w.text d.owner.properties q.rest.properties))
  where
    by : (r : Result PropertyDraft RefusalKind) → IfMade (λ (p : PropertyDraft). OpOnce same_path p.paths) r → IsQuiet (then_with w.start r (with_name w.text w.start d))
    by (Ok p) once = record {
      rest = record { specs = q.rest.specs; outer = q.rest.outer; properties = placed_once (blank_relationship w.text) d.owner.properties no_paths_once q.rest.properties };
      fields = q.fields;
      paths = once;
    }
    by (Err k) once = tt

-- ---- prims, variant sets and variants

prim_begun : (name : List ℕ) (path : List Element) (d : Draft) → Quiet (view_of d) → Quiet (view_of (with_prim name path d))
unfolding with_prim entered with_child prim_at owner_of
prim_begun name path d q = record {
  rest = record { specs = q.rest.specs; outer = all_push OwnerOnce d.outer _ q.rest.outer (q.fields, q.rest.properties); properties = tt };
  fields = blank_once d.opening.specifier;
  paths = q.paths;
}

named_quiet : (name : List ℕ) (d : Draft) → Quiet (view_of d) → IsQuiet (named_prim name d)
unfolding named_prim entered_prim
named_quiet name d q = by (prim_place d.owner.said.path name)
  where
    by_closed : (path : List Element) (b : Bool) → IsQuiet {E = RefusalKind} (if b then Err DuplicateSpec else Ok (with_prim name path d))
    by_closed path true = tt
    by_closed path false = prim_begun name path d q

    by : (r : Result (Option (List Element)) RefusalKind) → IsQuiet (and_then r (λ path. entered_prim name path d))
    by (Ok None) = record { rest = record { specs = q.rest.specs; outer = q.rest.outer; properties = q.rest.properties }; fields = q.fields; paths = q.paths }
    by (Ok (Some path)) = by_closed path (is_closed path d.specs)
    by (Err k) = tt

prim_quiet : (token : List ℕ) (d : Draft) → Quiet (view_of d) → IsQuiet (prim_name_act token d)
unfolding prim_name_act
prim_quiet token d q = and_made (λ n. Quiet (view_of n)) (identifier_of token) (λ name. named_prim name d) (λ name. named_quiet name d q)

variant_begun : (name : List ℕ) (path : List Element) (d : Draft) → Quiet (view_of d) → Quiet (view_of (with_variant_at name path d))
unfolding with_variant_at entered with_variant owner_of
variant_begun name path d q = record {
  rest = record { specs = q.rest.specs; outer = all_push OwnerOnce d.outer _ q.rest.outer (q.fields, q.rest.properties); properties = tt };
  fields = blank_once Over;
  paths = q.paths;
}

named_variant_quiet : (name : List ℕ) (d : Draft) → Quiet (view_of d) → IsQuiet (named_variant name d)
unfolding named_variant entered_variant
named_variant_quiet name d q = by (variant_place d.owner.said.path d.owner.set name)
  where
    by_closed : (path : List Element) (b : Bool) → IsQuiet {E = RefusalKind} (if b then Err DuplicateSpec else Ok (with_variant_at name path d))
    by_closed path true = tt
    by_closed path false = variant_begun name path d q

    by : (r : Result (List Element) RefusalKind) → IsQuiet (and_then r (λ path. entered_variant name path d))
    by (Ok path) = by_closed path (is_closed path d.specs)
    by (Err k) = tt

variant_quiet : (token : List ℕ) (d : Draft) → Quiet (view_of d) → IsQuiet (variant_name_act token d)
unfolding variant_name_act
variant_quiet token d q = and_made (λ n. Quiet (view_of n)) (variant_of token) (λ name. named_variant name d) (λ name. named_variant_quiet name d q)

set_viewed : (name : List ℕ) (d : Draft) → Viewed d (begun_set name d)
unfolding begun_set with_set
set_viewed name d = if_made (λ next. view_of next ≡ view_of d) (has_set name d.owner) (Err DuplicateSpec) (Ok (record d { owner = with_set name d.owner })) tt refl

set_quiet : (token : List ℕ) (d : Draft) → Quiet (view_of d) → IsQuiet (set_name_act token d)
unfolding set_name_act
set_quiet token d q = and_made (λ n. Quiet (view_of n)) (identifier_of token) (λ name. begun_set name d) (λ name. quiet_made d (begun_set name d) (set_viewed name d) q)

left_quiet : (d : Draft) → Quiet (view_of d) → Quiet (view_of (left d))
unfolding left with_spec_at spec_of
left_quiet d q = by (last d.outer) refl
  where
    by : (l : Option Owner) → last d.outer ≡ l → Quiet (view_of (left_for l d))
    by None is = record { rest = record { specs = q.rest.specs; outer = all_front OwnerOnce d.outer q.rest.outer; properties = q.rest.properties }; fields = q.fields; paths = q.paths }
    by (Some o) is =
        let once : OwnerOnce o = all_last OwnerOnce d.outer o q.rest.outer is in
        record {
          rest = record {
            specs = all_with path_cmp path_cmp_same (λ e. SpecOnce e.1) d.owner.said.path (spec_of d.owner) d.specs q.rest.specs (q.fields, q.rest.properties);
            outer = all_front OwnerOnce d.outer q.rest.outer;
            properties = once.1;
          };
          fields = once.0;
          paths = q.paths;
        }

end_quiet : (d : Draft) → Quiet (view_of d) → IsQuiet (body_end_act d)
unfolding body_end_act
end_quiet d q = left_quiet (with_statement_over d) (over_quiet d q)

body_quiet : (w : Word) (d : Draft) → Quiet (view_of d) → IsQuiet (body_act w d)
unfolding body_act
body_quiet w d q = quiet_made (with_statement_over d) (statement_act w.kind w (with_statement_over d)) (statement_viewed w.kind w (with_statement_over d)) (over_quiet d q)

-- ---- all symbols that neither begin nor go on with a list

layers_quiet : (s : Symbol) (w : Word) (d : Draft) → is_light s ≡ false → begins_list s ≡ false → is_none (part_of s) ≡ true → Quiet (view_of d) → IsQuiet (layers_act s w d)
unfolding layers_act
layers_quiet symbol.HeadItems w d l b p q = absurd cc
layers_quiet symbol.SubLayersOrEnd w d l b p q = absurd cc
layers_quiet symbol.OffsetItems w d l b p q = absurd cc
layers_quiet symbol.OffsetNumber w d l b p q = absurd cc
layers_quiet symbol.RootStatements w d l b p q = quiet_made d _ (root_viewed w.kind w d) q
layers_quiet symbol.RootPrims w d l b p q = quiet_made d _ (root_order_viewed w d) q
layers_quiet symbol.OpenBrace w d l b p q = quiet_made d _ (open_viewed w.start d) q
layers_quiet symbol.BodyEnd w d l b p q = end_quiet d q
layers_quiet symbol.PrimName w d l b p q = placed_made (λ n. Quiet (view_of n)) w.start (prim_name_act w.text d) (prim_quiet w.text d q)
layers_quiet symbol.SetName w d l b p q = placed_made (λ n. Quiet (view_of n)) w.start (set_name_act w.text d) (set_quiet w.text d q)
layers_quiet s w d l b p q = q

prims_quiet : (s : Symbol) (w : Word) (d : Draft) → is_light s ≡ false → begins_list s ≡ false → is_none (part_of s) ≡ true → Quiet (view_of d) → IsQuiet (prims_act s w d)
unfolding prims_act
prims_quiet symbol.MaybeTypeName w d l b p q = quiet_made d _ (prim_type_viewed w.text d) q
prims_quiet symbol.MaybePrimMetadata w d l b p q = quiet_made d _ (open_viewed w.start d) q
prims_quiet symbol.PrimMetadata w d l b p q = absurd cc
prims_quiet symbol.EditedField w d l b p q = absurd cc
prims_quiet symbol.StringList w d l b p q = absurd cc
prims_quiet symbol.StringsOrEnd w d l b p q = absurd cc
prims_quiet symbol.MoreStrings w d l b p q = absurd cc
prims_quiet symbol.PathList w d l b p q = absurd cc
prims_quiet symbol.PathsOrEnd w d l b p q = absurd cc
prims_quiet symbol.MorePaths w d l b p q = absurd cc
prims_quiet symbol.ReferenceList w d l b p q = absurd cc
prims_quiet symbol.ReferencesOrEnd w d l b p q = absurd cc
prims_quiet symbol.MoreReferences w d l b p q = absurd cc
prims_quiet symbol.MaybePath w d l b p q = absurd cc
prims_quiet symbol.VariantList w d l b p q = placed_made (λ n. Quiet (view_of n)) w.start (variant_name_act w.text d) (variant_quiet w.text d q)
prims_quiet s w d l b p q = layers_quiet s w d l b p q

pub bodies_quiet : (s : Symbol) (w : Word) (d : Draft) → is_light s ≡ false → begins_list s ≡ false → is_none (part_of s) ≡ true → Quiet (view_of d) → IsQuiet (bodies_act s w d)
unfolding bodies_act
bodies_quiet symbol.PrimBody w d l b p q = body_quiet w d q
bodies_quiet symbol.AfterCustom w d l b p q = quiet_made d _ (after_custom_viewed w.kind w d) q
bodies_quiet symbol.AfterVariability w d l b p q = quiet_made d _ (after_variability_viewed w.kind w d) q
bodies_quiet symbol.AfterEdit w d l b p q = quiet_made d _ (after_edit_viewed w.kind w d) q
bodies_quiet symbol.AfterReorder w d l b p q = quiet_made d _ (after_reorder_viewed w.kind w d) q
bodies_quiet symbol.AfterEditedCustom w d l b p q = quiet_made d _ (after_custom_viewed w.kind w d) q
bodies_quiet symbol.AfterEditedVariability w d l b p q = quiet_made d _ (after_variability_viewed w.kind w d) q
bodies_quiet symbol.MaybeBrackets w d l b p q = quiet_made d _ (brackets_viewed d) q
bodies_quiet symbol.PropertyName w d l b p q = name_quiet w d q
bodies_quiet symbol.MaybeAttributeTail w d l b p q = quiet_made d _ (tail_viewed w.kind d) q
bodies_quiet symbol.AfterDot w d l b p q = absurd cc
bodies_quiet symbol.ConnectWord w d l b p q = absurd cc
bodies_quiet symbol.SamplesOrEnd w d l b p q = quiet_made d _ (sample_viewed w.kind w d) q
bodies_quiet symbol.MaybeTargets w d l b p q = absurd cc
bodies_quiet symbol.PropertyMetadata w d l b p q = quiet_made d _ (property_item_viewed w.kind w d) q
bodies_quiet symbol.Value w d l b p q = quiet_made d _ (first_viewed w d) q
bodies_quiet symbol.Dictionary w d l b p q = quiet_made d _ (first_viewed w d) q
bodies_quiet symbol.NamesOrEnd w d l b p q = quiet_made d _ (order_name_viewed w.kind w d) q
bodies_quiet s w d l b p q = prims_quiet s w d l b p q
