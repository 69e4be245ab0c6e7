-- The view of a prim is told by what its opinions say apart from arcs.
use Rattle.std.proofs.Common.{◌≡◌, refl, sym, ap, ◌∙◌, Bool, true, false, cond, not, List, [], ◌∷◌, ◌++◌, map, flat_map, filter, Option, Some, None}
use Rattle.std.specs.List.{list_any, cons_option}
use Rattle.std.proofs.lemmas.List.{map-append}
use Rattle.list_ops.specs.ListEdits.{firsts}
use Rattle.list_ops.specs.Opinions.{is_opinion}
use Rattle.list_ops.specs.declared.op.ListOp.{ListOp}
use Rattle.spec_properties.specs.Properties.{property_at, property_names}
use Rattle.spec_properties.specs.declared.property.Property.{Property}
use Rattle.spec_properties.specs.declared.property.Property.TheVariants.{Attr, Rel}
use Rattle.spec_parts.specs.Blank.{blank_arcs}
use Rattle.composition.specs.Texts.{Text, same_text, first_of}
use Rattle.composition.specs.Paths.{Path, Limits, same_path}
use Rattle.composition.specs.World.{World}
use Rattle.composition.specs.Arcs.{strongest_folded}
use Rattle.composition.specs.Opinions.{Said}
use Rattle.composition.specs.Merging.{merged_all}
use Rattle.composition.specs.Fields.{names_of, children_naming, all_children, all_properties, listed_children, unlisted_children, if_defining, defining, or_else, or_over, specifier_of, type_of, strings_of, meta_of, is_inactive}
use Rattle.composition.specs.Values.{PropertySaid, if_there, specs_of, same_sort, counting, given, deciding_default, deciding_samples, time_fault, time_faults}
use Rattle.composition.specs.Targets.{edits_of_property, items_tried, target_fault, target_faults, translated_op, translated_ops, targets_of}
use Rattle.composition.specs.Faults.{time_outside, target_outside, child_too_long, same_fault, Index}
use Rattle.composition.specs.Views.{PropertyView, attribute, relationship, is_custom, property_meta, view_by, property_view, property_faults, counting_of, view_from}

-- ---- lists whose items lose something that is not looked at

module _ {X : Type 0} (r : X → X) where
  module _ {Y : Type 0} (f : X → Y) (blind : (x : X) → f (r x) ≡ f x) where
    map_after : (xs : List X) → map f (map r xs) ≡ map f xs
    map_after [] = refl
    map_after (x ∷ xs) = let rest : map f (map r xs) ≡ map f xs = map_after xs in λ i. blind x i ∷ rest i

  module _ {Y : Type 0} (f : X → List Y) (blind : (x : X) → f (r x) ≡ f x) where
    parts_after : (xs : List X) → flat_map f (map r xs) ≡ flat_map f xs
    parts_after [] = refl
    parts_after (x ∷ xs) = let rest : flat_map f (map r xs) ≡ flat_map f xs = parts_after xs in λ i. blind x i ++ rest i

  module _ {Y : Type 0} (f : X → Option Y) (blind : (x : X) → f (r x) ≡ f x) where
    first_after : (xs : List X) → first_of f (map r xs) ≡ first_of f xs
    first_after [] = refl
    first_after (x ∷ xs) =
        let rest : first_of f (map r xs) ≡ first_of f xs = first_after xs in
        λ i. elim (blind x i) as (λ _. Option Y) [ Some y ↦ Some y | None ↦ rest i ]

  module _ (test : X → Bool) (blind : (x : X) → test (r x) ≡ test x) where
    filter_after : (xs : List X) → filter test (map r xs) ≡ map r (filter test xs)
    filter_after [] = refl
    filter_after (x ∷ xs) = ap (λ (b : Bool). cond b (r x ∷ filter test (map r xs)) (filter test (map r xs))) (blind x) ∙ by (test x) (filter_after xs)
      where
        by : (b : Bool) → filter test (map r xs) ≡ map r (filter test xs) → cond b (r x ∷ filter test (map r xs)) (filter test (map r xs)) ≡ map r (cond b (x ∷ filter test xs) (filter test xs))
        by true rest = ap (λ (ys : List X). r x ∷ ys) rest
        by false rest = rest

    any_after : (xs : List X) → list_any test (map r xs) ≡ list_any test xs
    any_after [] = refl
    any_after (x ∷ xs) = let rest : list_any test (map r xs) ≡ list_any test xs = any_after xs in λ i. Rattle.std.specs.Prelude.◌||◌ (blind x i) (rest i)

-- ---- opinions without arcs

-- what a layer says of a prim, without its arcs
abbrev pub bare : Said → Said
bare s = record s { spec = record { arcs = blank_arcs; body = s.spec.body } }

abbrev bare_property : PropertySaid → PropertySaid
bare_property p = record p { said = bare p.said }

-- ---- properties

bare_there : (s : Said) (p : Option Property) → if_there (bare s) p ≡ map bare_property (if_there s p)
bare_there s None = refl
bare_there s (Some p) = refl

bare_specs : (name : Text) (said : List Said) → specs_of name (map bare said) ≡ map bare_property (specs_of name said)
bare_specs name [] = refl
bare_specs name (s ∷ said) =
    let here : if_there (bare s) (property_at name s.spec.body.properties) ≡ map bare_property (if_there s (property_at name s.spec.body.properties)) =
    bare_there s (property_at name s.spec.body.properties) in
    let rest : specs_of name (map bare said) ≡ map bare_property (specs_of name said) = bare_specs name said in
    (λ i. here i ++ rest i) ∙ sym (map-append bare_property (if_there s (property_at name s.spec.body.properties)) (specs_of name said))

bare_counting : (ps : List PropertySaid) → counting (map bare_property ps) ≡ map bare_property (counting ps)
bare_counting [] = refl
bare_counting (p ∷ ps) = ap (λ (qs : List PropertySaid). bare_property p ∷ qs) (filter_after bare_property (λ q. same_sort p.property q.property) (λ q. refl) ps)

-- a name with the specs that count, without arcs
abbrev bare_entry : Text × List PropertySaid → Text × List PropertySaid
bare_entry e = (e.0, map bare_property e.1)

bare_entries : (l : Limits) (w : World) (said : List Said) (names : List Text) → counting_of l w (map bare said) names ≡ map bare_entry (counting_of l w said names)
bare_entries l w said [] = refl
bare_entries l w said (name ∷ names) =
    let counted : counting (specs_of name (map bare said)) ≡ map bare_property (counting (specs_of name said)) =
    ap counting (bare_specs name said) ∙ bare_counting (specs_of name said) in
    let rest : counting_of l w (map bare said) names ≡ map bare_entry (counting_of l w said names) = bare_entries l w said names in
    λ i. (name, counted i) ∷ rest i

module _ (l : Limits) where
  bare_translated : (ps : List PropertySaid) → translated_ops l (map bare_property ps) ≡ translated_ops l ps
  bare_translated ps =
      ap (λ (qs : List PropertySaid). map (λ q. translated_op l q.said (edits_of_property l q.property)) qs)
      (filter_after bare_property (λ p. is_opinion (edits_of_property l p.property)) (λ p. refl) ps)
      ∙ map_after bare_property (λ q. translated_op l q.said (edits_of_property l q.property)) (λ q. refl) (filter (λ p. is_opinion (edits_of_property l p.property)) ps)

  bare_targets : (ps : List PropertySaid) → targets_of l (map bare_property ps) ≡ targets_of l ps
  bare_targets ps = ap (λ (ops : List (ListOp Path)). elim ops as (λ _. Option (List Path)) [ [] ↦ None | op ∷ more ↦ Some (strongest_folded same_path (op ∷ more)) ]) (bare_translated ps)

  bare_view_by : (name : Text) (ps : List PropertySaid) (p : Property) → view_by l name (map bare_property ps) p ≡ view_by l name ps p
  bare_view_by name ps (Attr own ty custom uniform default samples connections meta) =
      let gs : map given (map bare_property ps) ≡ map given ps = map_after bare_property given (λ p. refl) ps in
      let customs : list_any (λ p. is_custom p.property) (map bare_property ps) ≡ list_any (λ p. is_custom p.property) ps = any_after bare_property (λ p. is_custom p.property) (λ p. refl) ps in
      let targets : targets_of l (map bare_property ps) ≡ targets_of l ps = bare_targets ps in
      let metas : map (λ p. property_meta p.property) (map bare_property ps) ≡ map (λ p. property_meta p.property) ps = map_after bare_property (λ p. property_meta p.property) (λ p. refl) ps in
      λ i. attribute name ty (customs i) uniform (deciding_default (gs i)) (deciding_samples (gs i)) (targets i) (merged_all (metas i))
  bare_view_by name ps (Rel own custom targets meta) =
      let customs : list_any (λ p. is_custom p.property) (map bare_property ps) ≡ list_any (λ p. is_custom p.property) ps = any_after bare_property (λ p. is_custom p.property) (λ p. refl) ps in
      let its : targets_of l (map bare_property ps) ≡ targets_of l ps = bare_targets ps in
      let metas : map (λ p. property_meta p.property) (map bare_property ps) ≡ map (λ p. property_meta p.property) ps = map_after bare_property (λ p. property_meta p.property) (λ p. refl) ps in
      λ i. relationship name (customs i) (its i) (merged_all (metas i))

  bare_property_view : (e : Text × List PropertySaid) → property_view l (bare_entry e).0 (bare_entry e).1 ≡ property_view l e.0 e.1
  bare_property_view e = by e.0 e.1
    where
      by : (name : Text) (ps : List PropertySaid) → property_view l name (map bare_property ps) ≡ property_view l name ps
      by name [] = refl
      by name (p ∷ ps) = ap (λ (v : PropertyView). v ∷ []) (bare_view_by name (p ∷ ps) p.property)

  bare_property_faults : (e : Text × List PropertySaid) → property_faults l (bare_entry e).0 (bare_entry e).1 ≡ property_faults l e.0 e.1
  bare_property_faults e =
      let times : time_faults e.0 (map bare_property e.1) ≡ time_faults e.0 e.1 = parts_after bare_property (time_fault e.0) (λ p. refl) e.1 in
      let targets : target_faults l e.0 (map bare_property e.1) ≡ target_faults l e.0 e.1 =
      parts_after bare_property (λ p. flat_map (target_fault l e.0 p.said) (items_tried l (edits_of_property l p.property))) (λ p. refl) e.1 in
      λ i. map time_outside (times i) ++ map target_outside (targets i)

-- ---- the prim

bare_meta : (said : List Said) → meta_of (map bare said) ≡ meta_of said
bare_meta said = ap merged_all (map_after bare (λ s. s.spec.body.meta) (λ s. refl) said)

bare_children : (said : List Said) → all_children (map bare said) ≡ all_children said
bare_children said = ap names_of (map_after bare (λ s. children_naming s.spec.body.children s.spec.body.child_order) (λ s. refl) said)

bare_properties : (said : List Said) → all_properties (map bare said) ≡ all_properties said
bare_properties said = ap names_of (map_after bare (λ s. record { names = property_names s.spec.body.properties; order = s.spec.body.property_order }) (λ s. refl) said)

bare_defining : (test : Said → Bool) → ((s : Said) → test (bare s) ≡ test s) → (said : List Said) → defining (filter test (map bare said)) ≡ defining (filter test said)
bare_defining test blind said = ap defining (filter_after bare test blind said) ∙ first_after bare (λ s. if_defining s.spec.body.specifier) (λ s. refl) (filter test said)

bare_specifier : (said : List Said) → specifier_of (map bare said) ≡ specifier_of said
bare_specifier said =
    let first : defining (filter (λ s. not s.site.by_class) (map bare said)) ≡ defining (filter (λ s. not s.site.by_class) said) = bare_defining (λ s. not s.site.by_class) (λ s. refl) said in
    let second : defining (filter (λ s. s.site.by_class) (map bare said)) ≡ defining (filter (λ s. s.site.by_class) said) = bare_defining (λ s. s.site.by_class) (λ s. refl) said in
    λ i. or_over (or_else (first i) (second i))

bare_type : (said : List Said) → type_of (map bare said) ≡ type_of said
bare_type said = first_after bare (λ s. s.spec.body.type_name) (λ s. refl) said

bare_strings : (field : Said → ListOp Text) → ((s : Said) → field (bare s) ≡ field s) → (said : List Said) → strings_of field (map bare said) ≡ strings_of field said
bare_strings field blind said =
    ap (λ (ops : List (ListOp Text)). elim (filter is_opinion ops) as (λ _. Option (List Text)) [ [] ↦ None | op ∷ more ↦ Some (strongest_folded same_text (op ∷ more)) ])
    (map_after bare field blind said)

module _ (l : Limits) (w : World) (p : Path) (i : Index) (said : List Said) where
  abbrev listed_by : Bool → List Text → List Text
  listed_by inactive names = elim inactive as (λ _. List Text) [ true ↦ [] | false ↦ names ]

  pub bare_view : view_from l w p i (map bare said) ≡ view_from l w p i said
  bare_view =
      let specifier : specifier_of (map bare said) ≡ specifier_of said = bare_specifier said in
      let type_name : type_of (map bare said) ≡ type_of said = bare_type said in
      let meta : meta_of (map bare said) ≡ meta_of said = bare_meta said in
      let schemas : strings_of (λ s. s.spec.body.api_schemas) (map bare said) ≡ strings_of (λ s. s.spec.body.api_schemas) said = bare_strings (λ s. s.spec.body.api_schemas) (λ s. refl) said in
      let clips : strings_of (λ s. s.spec.body.clip_sets) (map bare said) ≡ strings_of (λ s. s.spec.body.clip_sets) said = bare_strings (λ s. s.spec.body.clip_sets) (λ s. refl) said in
      let children : all_children (map bare said) ≡ all_children said = bare_children said in
      let entries : List (Text × List PropertySaid) = counting_of l w said (all_properties said) in
      let counted : counting_of l w (map bare said) (all_properties (map bare said)) ≡ map bare_entry entries =
      ap (λ (names : List Text). counting_of l w (map bare said) names) (bare_properties said) ∙ bare_entries l w said (all_properties said) in
      let views : flat_map (λ e. property_view l e.0 e.1) (counting_of l w (map bare said) (all_properties (map bare said))) ≡ flat_map (λ e. property_view l e.0 e.1) entries =
      ap (λ (es : List (Text × List PropertySaid)). flat_map (λ e. property_view l e.0 e.1) es) counted ∙ parts_after bare_entry (λ e. property_view l e.0 e.1) (bare_property_view l) entries in
      let faults : flat_map (λ e. property_faults l e.0 e.1) (counting_of l w (map bare said) (all_properties (map bare said))) ≡ flat_map (λ e. property_faults l e.0 e.1) entries =
      ap (λ (es : List (Text × List PropertySaid)). flat_map (λ e. property_faults l e.0 e.1) es) counted ∙ parts_after bare_entry (λ e. property_faults l e.0 e.1) (bare_property_faults l) entries in
      λ j. record {
        specifier = specifier j;
        type_name = type_name j;
        meta = meta j;
        api_schemas = schemas j;
        clip_sets = clips j;
        properties = views j;
        children = listed_children l p (listed_by (is_inactive (meta j)) (children j));
        choices = i.choices;
        sites = i.sites;
        faults = firsts same_fault (i.faults ++ faults j ++ map child_too_long (unlisted_children l p (listed_by (is_inactive (meta j)) (children j))));
        since = 0;
      }
