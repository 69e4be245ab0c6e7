-- The views and the faults of properties, from what their specs make together.
use Rattle.std.proofs.Common.{◌≡◌, ◌∙◌, ap, sym, refl, List, [], ◌∷◌, ◌++◌, append_assoc, Some, None, append-nil}
use Rattle.std.specs.Prelude.{flat_map, slice_get}
use Rattle.spec_properties.specs.declared.property.Property.{Property}
use Rattle.spec_properties.specs.declared.property.Property.TheVariants.{Attr, Rel}
use Rattle.composition.specs.Faults.{Fault}
use Rattle.composition.specs.Opinions.{Said}
use Rattle.composition.specs.Paths.{limits}
use Rattle.composition.specs.Texts.{Text}
use Rattle.composition.specs.Values.{PropertySaid}
use Rattle.composition.specs.Views.{PropertyView, view_by}
use Rattle.field_resolve.specs.Folding.{properties_on}
use Rattle.prim_opinions.specs.Counting.{counted}
use Rattle.target_resolve.specs.Resolving.{targets_by, faults_by as target_faults_by}
use Rattle.value_resolve.specs.Resolving.{default_by, samples_by, faults_by as time_faults_by}
use Rattle.prim_compose.specs.declared.properties.Folded.{Folded}
use Rattle.prim_compose.specs.Composed.{property_views, faults_of_property, merged_metadata}
use Rattle.prim_compose.specs.Properties.{folded_of, viewed_by, views_on, faults_on}

faults_are : (name : Text) (ps : List PropertySaid) → time_faults_by name ps ++ target_faults_by name ps ≡ faults_of_property name ps
unfolding time_faults_by target_faults_by faults_of_property
faults_are name ps = refl

pub faults_after : (faults : List Fault) (name : Text) (ps : List PropertySaid) → (faults ++ time_faults_by name ps) ++ target_faults_by name ps ≡ faults ++ faults_of_property name ps
faults_after faults name ps =
    append_assoc faults (time_faults_by name ps) (target_faults_by name ps)
    ∙ ap (λ (l : List Fault). faults ++ l) (faults_are name ps)

by_property : (name : Text) (ps : List PropertySaid) (q : Property) → view_by limits name ps q ≡ viewed_by name q (folded_of ps)
unfolding default_by samples_by targets_by merged_metadata
by_property name ps (Attr own ty custom uniform default samples connections meta) = refl
by_property name ps (Rel own custom targets meta) = refl

-- without a spec there is no view
pub none_pushed : (views : List PropertyView) (name : Text) (ps : List PropertySaid) → slice_get ps 0 ≡ None → views ≡ views ++ property_views name ps
unfolding property_views
none_pushed views name [] h = sym (append-nil views)
none_pushed views name (p ∷ ps) h = absurd cc

first_view : (name : Text) (p q : PropertySaid) (ps : List PropertySaid) → q ≡ p → property_views name (q ∷ ps) ≡ viewed_by name p.property (folded_of (q ∷ ps)) ∷ []
unfolding property_views
first_view name p q ps e =
    ap (λ (v : PropertyView). v ∷ []) (by_property name (q ∷ ps) q.property ∙ ap (λ (r : PropertySaid). viewed_by name r.property (folded_of (q ∷ ps))) e)

pub view_first : (name : Text) (ps : List PropertySaid) (p : PropertySaid) → slice_get ps 0 ≡ Some p → property_views name ps ≡ viewed_by name p.property (folded_of ps) ∷ []
view_first name [] p h = absurd cc
view_first name (q ∷ ps) p h = let e : q ≡ p = cc in first_view name p q ps e

-- the view that is pushed is that of the strongest spec
pub one_pushed : (views after : List PropertyView) (name : Text) (ps : List PropertySaid) (p : PropertySaid) (q : Property) (folded : Folded) (v : PropertyView)
    → slice_get ps 0 ≡ Some p → q ≡ p.property → folded ≡ folded_of ps → v ≡ viewed_by name q folded → after ≡ views ++ v ∷ [] → after ≡ views ++ property_views name ps
one_pushed views after name ps p q folded v first own all view pushed =
    pushed
    ∙ ap (λ (l : List PropertyView). views ++ l)
    (ap (λ (x : PropertyView). x ∷ []) (view ∙ (λ i. viewed_by name (own i) (all i))) ∙ sym (view_first name ps p first))

pub views_done : (said : List Said) (names : List Text) → names ≡ properties_on said → flat_map (λ name. property_views name (counted name said)) names ≡ views_on said
unfolding views_on
views_done said names is = ap (λ (l : List Text). flat_map (λ name. property_views name (counted name said)) l) is

pub faults_done : (said : List Said) (names : List Text) → names ≡ properties_on said → flat_map (λ name. faults_of_property name (counted name said)) names ≡ faults_on said
unfolding faults_on
faults_done said names is = ap (λ (l : List Text). flat_map (λ name. faults_of_property name (counted name said)) l) is
