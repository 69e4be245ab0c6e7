-- What the stage has at `/`, from its parts.
use Rattle.std.proofs.Common.{◌≡◌, ◌∙◌, ap, sym, refl, List, [], ◌∷◌, ◌++◌, map, fold, Option, Some, None}
use Rattle.std.specs.Prelude.{flat_map, codes}
use Rattle.std.specs.List.{filter_map, cons_option}
use Rattle.std.proofs.lemmas.List.Sums.{fold-append}
use Rattle.list_ops.specs.ListEdits.{firsts}
use Rattle.list_ops.specs.declared.op.ListOp.{ListOp}
use Rattle.sdf_paths.specs.Order.{text_cmp}
use Rattle.sdf_values.specs.Scales.{Offset}
use Rattle.sdf_values.specs.declared.value.Value.TheVariants as value
use Rattle.spec_properties.specs.Entries.{MetaEntries}
use Rattle.spec_parts.specs.declared.spec.Head.{Head}
use Rattle.spec_tables.specs.Tables.{with_key}
use Rattle.composition.specs.Arcs.{strongest_folded}
use Rattle.composition.specs.Faults.{Fault, sublayer}
use Rattle.composition.specs.Fields.{Naming, naming_edit, children_naming}
use Rattle.composition.specs.Merging.{with_weaker}
use Rattle.composition.specs.Paths.{limits}
use Rattle.composition.specs.Texts.{Text, same_text}
use Rattle.composition.specs.Views.{head_meta, with_default_prim, root_naming, root_children}
use Rattle.composition.specs.World.{World, RootNames, Root}
use Rattle.field_resolve.specs.Folding.{folded_texts, texts_once}
use Rattle.layer_set.specs.LookUps.{layer_head}
use Rattle.layer_stack.specs.Meant.{defined_stack}
use Rattle.prim_compose.specs.Composed.{namings_of, named_by, root_viewed, root_metadata}
use Rattle.prim_index.specs.Once.{faults_once}
use Rattle.prim_compose.specs.Root.{with_default, merged_onto, said_by_session, session_tables, root_with}
use Rattle.sdf_specs.specs.Keys.{default_key}

abbrev naming_in : Option RootNames → Option Naming
naming_in o = elim o [ None ↦ None | Some r ↦ Some (children_naming r.names r.order) ]

one_naming : (o : Option RootNames) (edits : List (ListOp Text)) (rest : List Naming) → edits ≡ map naming_edit rest → namings_of o ++ edits ≡ map naming_edit (cons_option (naming_in o) rest)
one_naming None edits rest h = h
one_naming (Some r) edits rest h = ap (λ (l : List (ListOp Text)). naming_edit (children_naming r.names r.order) ∷ l) h

namings_are : (w : World) (layers : List (Text × Offset)) → flat_map (λ e. namings_of (w.roots e.0)) layers ≡ map naming_edit (filter_map (λ e. root_naming limits w e.0) layers)
namings_are w [] = refl
namings_are w (e ∷ layers) =
    one_naming (w.roots e.0) (flat_map (λ x. namings_of (w.roots x.0)) layers) (filter_map (λ x. root_naming limits w x.0) layers) (namings_are w layers)

names_are : (w : World) → named_by w (defined_stack w Root).layers ≡ root_children limits w
unfolding named_by folded_texts texts_once defined_stack
names_are w = ap (λ (edits : List (ListOp Text)). firsts same_text (strongest_folded same_text edits)) (namings_are w (defined_stack w Root).layers)

pub names_done : (w : World) (layers : List (Text × Offset)) (edits : List (ListOp Text)) → edits ≡ flat_map (λ e. namings_of (w.roots e.0)) layers → texts_once (folded_texts edits) ≡ named_by w layers
unfolding named_by
names_done w layers edits is = ap (λ (l : List (ListOp Text)). texts_once (folded_texts l)) is

-- ---- metadata

pub head_done : (h : Head) (name : Text) (all : MetaEntries) → h.default_prim ≡ Some name → all ≡ with_default name h.meta → all ≡ with_default_prim (layer_head h)
unfolding default_key
head_done h name all named is =
    is ∙ ap (λ (o : Option Text). let m : MetaEntries = elim o [ None ↦ h.meta | Some text ↦ with_key text_cmp (codes "defaultPrim") (value.Text text) h.meta ] in m) (sym named)

by_session : (said : Text → List MetaEntries) (session : Option Text) → said_by_session said session ≡ (elim session as (λ _. List MetaEntries) [ None ↦ [] | Some s ↦ said s ])
by_session said None = refl
by_session said (Some s) = refl

pub meta_done : (w : World) → merged_onto (merged_onto [] (session_tables w)) (head_meta (w.heading w.root)) ≡ root_metadata w
unfolding root_metadata
meta_done w =
    sym (fold-append (λ (so_far : MetaEntries) (table : MetaEntries). fold with_weaker so_far table) [] (session_tables w) (head_meta (w.heading w.root)))
    ∙ ap (λ (tables : List MetaEntries). merged_onto [] (tables ++ head_meta (w.heading w.root))) (by_session (λ layer. head_meta (w.heading layer)) w.session)

-- ---- the view

pub root_done : (w : World) (meta : MetaEntries) (names : List Text) (faults : List Fault) → meta ≡ root_metadata w → names ≡ named_by w (defined_stack w Root).layers
    → faults ≡ map sublayer (defined_stack w Root).faults → root_with meta names faults ≡ root_viewed w
unfolding root_viewed root_metadata faults_once defined_stack
root_done w meta names faults m n f = λ i. root_with (m i) ((n ∙ names_are w) i) (f i)
