-- Lists as they are folded are those of the definitions.
use Rattle.std.proofs.Common.{◌≡◌, ap, sym, refl, List, [], ◌∷◌, map, filter, Some, None}
use Rattle.list_ops.specs.ListEdits.{firsts}
use Rattle.list_ops.specs.declared.op.ListOp.{ListOp}
use Rattle.composition.specs.Arcs.{strongest_folded}
use Rattle.composition.specs.Fields.{Naming, naming_edit, children_naming}
use Rattle.composition.specs.Opinions.{Said}
use Rattle.list_ops.specs.Opinions.{is_opinion}
use Rattle.composition.specs.Texts.{Text, same_text}
use Rattle.spec_properties.specs.Properties.{property_names}
use Rattle.field_resolve.specs.Folding.{children_edit, properties_edit, folded_texts, texts_once, if_any, children_on, properties_on, schemas_on, clips_on}

twice : (f : Said → Naming) (said : List Said) → map naming_edit (map f said) ≡ map (λ s. naming_edit (f s)) said
twice f [] = refl
twice f (s ∷ said) = ap (λ (l : List (ListOp Text)). naming_edit (f s) ∷ l) (twice f said)

pub children_are : (said : List Said) → texts_once (folded_texts (map (λ s. children_edit s.spec.body) said)) ≡ children_on said
unfolding texts_once folded_texts children_on
children_are said =
    ap (λ (l : List (ListOp Text)). firsts same_text (strongest_folded same_text l)) (sym (twice (λ s. children_naming s.spec.body.children s.spec.body.child_order) said))

pub properties_are : (said : List Said) → texts_once (folded_texts (map (λ s. properties_edit s.spec.body) said)) ≡ properties_on said
unfolding texts_once folded_texts properties_on
properties_are said =
    ap (λ (l : List (ListOp Text)). firsts same_text (strongest_folded same_text l))
    (sym (twice (λ s. record { names = property_names s.spec.body.properties; order = s.spec.body.property_order }) said))

if_any_is : (ops : List (ListOp Text)) → if_any ops ≡ elim ops [ [] ↦ None | op ∷ more ↦ Some (strongest_folded same_text (op ∷ more)) ]
unfolding folded_texts
if_any_is [] = refl
if_any_is (op ∷ ops) = refl

pub schemas_are : (said : List Said) → if_any (filter is_opinion (map (λ s. s.spec.body.api_schemas) said)) ≡ schemas_on said
unfolding schemas_on
schemas_are said = if_any_is (filter is_opinion (map (λ s. s.spec.body.api_schemas) said))

pub clips_are : (said : List Said) → if_any (filter is_opinion (map (λ s. s.spec.body.clip_sets) said)) ≡ clips_on said
unfolding clips_on
clips_are said = if_any_is (filter is_opinion (map (λ s. s.spec.body.clip_sets) said))
