-- The view of a path, from its parts.
use Rattle.std.proofs.Common.{◌≡◌, ◌≢◌, ap, sym, refl, Bool, true, false, List, [], ◌∷◌, ◌++◌, map, Option, Some, None}
use Rattle.std.specs.Prelude.{flat_map}
use Rattle.std.specs.List.{list_all}
use Rattle.std.proofs.lemmas.List.Folds.{flat_map-map}
use Rattle.list_ops.specs.ListEdits.{firsts}
use Rattle.sdf_paths.specs.Paths.{is_prim_name}
use Rattle.composition.specs.Faults.{Fault, Index, child_too_long, same_fault, index}
use Rattle.composition.specs.Fields.{all_children, all_properties, listed_children, unlisted_children, is_inactive, meta_of}
use Rattle.composition.specs.Opinions.{Said}
use Rattle.composition.specs.Paths.{Path, limits}
use Rattle.composition.specs.Texts.{Text}
use Rattle.composition.specs.Values.{PropertySaid, counting, specs_of}
use Rattle.composition.specs.Views.{PrimView, empty_view, property_view, property_faults, counting_of, view_from, view_by_index}
use Rattle.composition.specs.World.{World}
use Rattle.field_resolve.specs.Activity.{active_names, says_inactive, unless_inactive}
use Rattle.field_resolve.specs.Folding.{specifier_on, type_on, schemas_on, clips_on, meta_on, children_on, properties_on}
use Rattle.layer_set.specs.LookUps.{look_ups}
use Rattle.layer_set.specs.Worlds.{WorldData}
use Rattle.prim_index.specs.Answer.{index_at, sites_in, faults_in, is_none}
use Rattle.prim_opinions.specs.Counting.{counted}
use Rattle.prim_opinions.specs.Gathering.{said_on}
use Rattle.prim_index.specs.Once.{faults_once}
use Rattle.prim_compose.specs.Composed.{property_views, faults_of_property, view_at, root_viewed}
use Rattle.prim_compose.specs.Listing.{entry_at}
use Rattle.prim_compose.specs.Properties.{views_on, faults_on}
use Rattle.prim_compose.specs.Viewed.{index_in, seen, seen_by}

-- ---- by an index and opinions

by_activity : (b : Bool) (names : List Text) → unless_inactive b names ≡ (elim b as (λ _. List Text) [ true ↦ [] | false ↦ names ])
by_activity true names = refl
by_activity false names = refl

names_are : (said : List Said) → active_names said ≡ (elim (is_inactive (meta_of said)) as (λ _. List Text) [ true ↦ [] | false ↦ all_children said ])
unfolding says_inactive meta_on children_on
names_are said = by_activity (is_inactive (meta_of said)) (all_children said)

module _ (w : World) (said : List Said) where
  abbrev counted_name : Text → Text × List PropertySaid
  counted_name name = (name, counting (specs_of name said))

  views_are : views_on said ≡ flat_map (λ e. property_view limits e.0 e.1) (counting_of limits w said (all_properties said))
  unfolding views_on property_views counted properties_on
  views_are = sym (flat_map-map (λ (e : Text × List PropertySaid). property_view limits e.0 e.1) counted_name (all_properties said))

  faults_are : faults_on said ≡ flat_map (λ e. property_faults limits e.0 e.1) (counting_of limits w said (all_properties said))
  unfolding faults_on faults_of_property counted properties_on
  faults_are = sym (flat_map-map (λ (e : Text × List PropertySaid). property_faults limits e.0 e.1) counted_name (all_properties said))

seen_is : (w : World) (p : Path) (i : Index) (said : List Said) → seen p i said ≡ view_from limits w p i said
unfolding specifier_on type_on meta_on schemas_on clips_on faults_once
seen_is w p i said = λ j.
    let v : PrimView = record {
      specifier = specifier_on said;
      type_name = type_on said;
      meta = meta_on said;
      api_schemas = schemas_on said;
      clip_sets = clips_on said;
      properties = views_are w said j;
      children = listed_children limits p (names_are said j);
      choices = i.choices;
      sites = i.sites;
      faults = firsts same_fault (i.faults ++ faults_are w said j ++ map child_too_long (unlisted_children limits p (names_are said j)));
      since = 0;
    } in
    v

pub seen_there : (w : World) (p : Path) (i : Option Index) (b : Bool) → b ≡ is_none i → b ≡ false → seen p (index_in i) (said_on w (sites_in i)) ≡ seen_by w p i
unfolding seen_by said_on
seen_there w p (Some i) b is there = seen_is w p i (said_on w i.sites)
seen_there w p None b is there = absurd cc

pub seen_overgrown : (w : World) (p : Path) (i : Option Index) (b : Bool) (faults : List Fault) → b ≡ is_none i → b ≡ true → faults ≡ faults_in i
    → (let v : PrimView = record empty_view { faults = faults } in v) ≡ seen_by w p i
unfolding seen_by
seen_overgrown w p (Some i) b faults is over told = absurd cc
seen_overgrown w p None b faults is over told = ap (λ (l : List Fault). let v : PrimView = record empty_view { faults = l } in v) told

-- ---- by a path

pub entry_at_root : (w : WorldData) (p : Path) → p ≡ [] → root_viewed (look_ups w) ≡ entry_at w p
unfolding entry_at view_at root_viewed
entry_at_root w [] h = refl
entry_at_root w (e ∷ p) h = absurd cc

abbrev by_names : World → Path → Bool → PrimView
by_names w p b = elim b as (λ _. PrimView) [ true ↦ view_by_index limits w p (index limits w p) | false ↦ empty_view ]

pub entry_at_prim : (w : WorldData) (p : Path) → p ≢ [] → list_all is_prim_name p ≡ true → seen_by (look_ups w) p (index_at limits (look_ups w) p) ≡ entry_at w p
unfolding entry_at view_at seen_by index_at
entry_at_prim w [] below h = absurd (below refl)
entry_at_prim w (e ∷ p) below h = ap (λ (b : Bool). by_names (look_ups w) (e ∷ p) b) (sym h)

pub entry_elsewhere : (w : WorldData) (p : Path) → list_all is_prim_name p ≡ false → empty_view ≡ entry_at w p
unfolding entry_at view_at
entry_elsewhere w [] h = absurd cc
entry_elsewhere w (e ∷ p) h = ap (λ (b : Bool). by_names (look_ups w) (e ∷ p) b) (sym h)
