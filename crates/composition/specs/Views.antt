-- What a prim is on the stage: the composed view of a path, and the stage of a world.
-- docs/COMPOSITION.md, 'The stage'.
pub use Rattle.prim_view.specs.declared.view.PropertyView.{PropertyView}
pub use Rattle.prim_view.specs.declared.view.PropertyView.TheVariants.{Attr as attribute, Rel as relationship}
pub use Rattle.prim_view.specs.declared.view.PrimView.{PrimView}
use Rattle.std.specs.Prelude.{ℕ, zero, suc, Bool, true, false, List, [], ◌∷◌, ◌++◌, map, flat_map, filter_map, Option, Some, None}
use Rattle.std.specs.Prelude.{codes}
use Rattle.std.specs.List.{list_any, list_all}
use Rattle.list_ops.specs.ListEdits.{firsts}
use Rattle.sdf_paths.specs.Order.{text_cmp}
use Rattle.sdf_paths.specs.Paths.{is_prim_name}
use Rattle.spec_properties.specs.Entries.{MetaEntries}
use Rattle.spec_tables.specs.Tables.{with_key}
use Rattle.spec_parts.specs.declared.items.Specifier.TheVariants.{Over}
use Rattle.spec_properties.specs.declared.property.Property.{Property}
use Rattle.spec_properties.specs.declared.property.Property.TheVariants.{Attr, Rel}
use Rattle.sdf_values.specs.declared.value.Value.TheVariants as value
use Rattle.composition.specs.Texts.{Text}
use Rattle.composition.specs.Paths.{Path, Limits}
use Rattle.composition.specs.World.{World, Heading, headed, no_layer, refused, LayerHead, Root, identity}
use Rattle.composition.specs.Stacks.{stack}
use Rattle.composition.specs.Opinions.{Site, Said, said_at_all}
use Rattle.composition.specs.Merging.{merged_all}
use Rattle.composition.specs.Fields.{Naming, names_of, children_naming, all_children, all_properties, listed_children, unlisted_children, child_path, specifier_of, type_of, strings_of, meta_of, is_inactive}
use Rattle.composition.specs.Values.{PropertySaid, specs_of, counting, given, deciding_default, deciding_samples, time_faults}
use Rattle.composition.specs.Targets.{targets_of, target_faults}
use Rattle.composition.specs.Faults.{Fault, sublayer, time_outside, target_outside, child_too_long, overgrown, same_fault, Index, index}

-- an `over` with nothing more
abbrev pub empty_view : PrimView
empty_view = record {
  specifier = Over;
  type_name = None;
  meta = [];
  api_schemas = None;
  clip_sets = None;
  properties = [];
  children = [];
  choices = [];
  sites = [];
  faults = [];
  since = 0;
}

-- a spec of a property says `custom`
abbrev pub is_custom : Property → Bool
is_custom (Attr name ty custom uniform default samples connections meta) = custom
is_custom (Rel name custom targets meta) = custom

-- the metadata in a spec of a property
abbrev pub property_meta : Property → MetaEntries
property_meta (Attr name ty custom uniform default samples connections meta) = meta
property_meta (Rel name custom targets meta) = meta

-- ---- what the head of a layer says of the root, and the root as a site

-- the metadata of a head, with the default prim as the key `defaultPrim`
abbrev pub with_default_prim : LayerHead → MetaEntries
with_default_prim h = elim h.default_prim [ None ↦ h.meta | Some text ↦ with_key text_cmp (codes "defaultPrim") (value.Text text) h.meta ]

-- the metadata of the head at a name, if a layer stands there
abbrev pub head_meta : Heading → List MetaEntries
head_meta (headed h) = with_default_prim h ∷ []
head_meta no_layer = []
head_meta (refused r) = []

-- the site of `/` on the stage, which counts as one with a spec
abbrev pub root_site : Site
root_site = record { stack = Root; path = []; maps = []; offset = identity; by_class = false; has_spec = true }

module _ (l : Limits) where
  -- a property by its strongest spec and all that count
  abbrev pub view_by : Text → List PropertySaid → Property → PropertyView
  view_by name ps (Attr own ty custom uniform default samples connections meta) =
      let gs = map given ps in
      attribute name ty (list_any (λ p. is_custom p.property) ps) uniform (deciding_default gs) (deciding_samples gs) (targets_of l ps) (merged_all (map (λ p. property_meta p.property) ps))
  view_by name ps (Rel own custom targets meta) =
      relationship name (list_any (λ p. is_custom p.property) ps) (targets_of l ps) (merged_all (map (λ p. property_meta p.property) ps))

  -- the view of a property by the specs that count; none where there is no spec
  abbrev pub property_view : Text → List PropertySaid → List PropertyView
  property_view name [] = []
  property_view name (p ∷ ps) = view_by name (p ∷ ps) p.property ∷ []

  -- the faults of a property: what lies outside the range of times, and then what has no translation
  abbrev pub property_faults : Text → List PropertySaid → List Fault
  property_faults name ps = map time_outside (time_faults name ps) ++ map target_outside (target_faults l name ps)

  module _ (w : World) where
    -- the properties of these names, each with the specs that count, the strongest first
    abbrev pub counting_of : List Said → List Text → List (Text × List PropertySaid)
    counting_of said names = map (λ name. (name, counting (specs_of name said))) names

    -- the view of a prim by its index and the opinions at its sites
    abbrev pub view_from : Path → Index → List Said → PrimView
    view_from p i said =
        let meta : MetaEntries = meta_of said in
        let names : List Text = elim (is_inactive meta) [ true ↦ [] | false ↦ all_children said ] in
        let properties : List (Text × List PropertySaid) = counting_of said (all_properties said) in
        record {
          specifier = specifier_of said;
          type_name = type_of said;
          meta = meta;
          api_schemas = strings_of (λ s. s.spec.body.api_schemas) said;
          clip_sets = strings_of (λ s. s.spec.body.clip_sets) said;
          properties = flat_map (λ e. property_view e.0 e.1) properties;
          children = listed_children l p names;
          choices = i.choices;
          sites = i.sites;
          faults = firsts same_fault (i.faults ++ flat_map (λ e. property_faults e.0 e.1) properties ++ map child_too_long (unlisted_children l p names));
          since = 0;
        }

    -- the view of a prim by its index; an overgrown prim is an `over` with that one fault
    abbrev pub view_by_index : Path → Option Index → PrimView
    view_by_index p None = record empty_view { faults = overgrown ∷ [] }
    view_by_index p (Some i) = view_from p i (said_at_all l w i.sites)

    -- ---- the root

    -- the metadata of the session layer, if any, and of the root layer
    abbrev pub root_meta : MetaEntries
    root_meta = merged_all (elim w.session [ None ↦ [] | Some s ↦ head_meta (w.heading s) ] ++ head_meta (w.heading w.root))

    -- what a layer says of the names of root prims, if it is there
    abbrev pub root_naming : Text → Option Naming
    root_naming layer = elim (w.roots layer) [ None ↦ None | Some r ↦ Some (children_naming r.names r.order) ]

    -- the names of root prims that the layers of the root stack give, with their reorders
    abbrev pub root_children : List Text
    root_children = names_of (filter_map (λ e. root_naming e.0) (stack l w Root).layers)

    -- `/` has the metadata of the session and the root layer alone, the children of the root stack and its sublayer faults
    abbrev pub root_view : PrimView
    root_view = record empty_view {
      meta = root_meta;
      children = listed_children l [] root_children;
      sites = root_site ∷ [];
      faults = firsts same_fault (map sublayer (stack l w Root).faults ++ map child_too_long (unlisted_children l [] root_children));
    }

    -- the composed view of a path, whether it is on the stage or not; at what is no plain prim path there is nothing
    abbrev pub view : Path → PrimView
    view [] = root_view
    view (e ∷ p) = elim (list_all is_prim_name (e ∷ p)) [ true ↦ view_by_index (e ∷ p) (index l w (e ∷ p)) | false ↦ empty_view ]

    -- ---- the stage

    -- a path and what its views list below it, depth first, so many names deep
    abbrev pub walked : ℕ → Path → List (Path × PrimView)
    walked zero p = (p, view p) ∷ []
    walked (suc k) p = let v = view p in (p, v) ∷ flat_map (λ name. walked k (child_path p name)) v.children

    -- `/` and each name that a path on the stage lists
    abbrev pub stage : List (Path × PrimView)
    stage = walked l.names []
