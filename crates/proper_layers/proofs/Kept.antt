-- The parts of a proper layer come back, each in its place.
use Rattle.std.proofs.Common.{◌≡◌, ◌∙◌, ℕ, zero, suc, Bool, true, false, List, [], ◌∷◌, ◌++◌, append_assoc, length, Option, Some, None, is_some, ap, sym, refl, subst, cond}
use Rattle.std.specs.Ordering.{is_eq, match_ordering}
use Rattle.std.specs.declared.cmp.Ordering.{Ordering}
use Rattle.std.specs.declared.cmp.Ordering.TheVariants.{Less, Equal, Greater}
use Rattle.std.specs.List.{AllByRecursion, IsDistinct}
use Rattle.std.proofs.lemmas.Map.Keys.{IsDistinct-head, IsDistinct-tail}
use Rattle.std.proofs.lemmas.Map.Lookups.{exact_bytes}
use Rattle.plain_data.specs.Exact.{both_true, text_same}
use Rattle.sdf_paths.specs.Order.{text_cmp}
use Rattle.sdf_paths.specs.Paths.{plain}
use Rattle.sdf_paths.specs.declared.element.Element.{Element}
use Rattle.sdf_paths.specs.declared.element.Element.TheVariants.{Prim, Selection}
use Rattle.sdf_specs.specs.Layers.{LayerTable, SpecEntries, spec_at}
use Rattle.spec_properties.proofs.NamedLists.{by_test}
use Rattle.spec_parts.specs.declared.items.Specifier.{Specifier}
use Rattle.spec_parts.specs.declared.items.Specifier.TheVariants.{Over}
use Rattle.spec_parts.specs.declared.items.VariantSet.{VariantSet}
use Rattle.spec_parts.specs.declared.spec.Spec.{Spec}
use Rattle.spec_properties.specs.Properties.{AreProperties, property_at, property_name, property_names, same_name}
use Rattle.spec_properties.specs.declared.property.Property.{Property}
use Rattle.spec_tables.specs.Tables.{at_key, with_key}
use Rattle.usd_names.specs.Names.{is_identifier, is_variant}
use Rattle.usda_fields.specs.declared.owner.OwnerDraft.{OwnerDraft}
use Rattle.usda_writer.specs.Canonical.{spec_below}
use Rattle.usda_drafts.specs.Closed.{is_closed}
use Rattle.usda_drafts.specs.Owners.{owner_of, with_child, with_variant, with_set, has_set}
use Rattle.usda_drafts.specs.Places.{prim_place, variant_place}
use Rattle.usda_drafts.specs.declared.owner.Owner.{Owner}
use Rattle.layer_reads.specs.Standing.{Standing}
use Rattle.layer_reads.specs.Bodies.{IsPrimPlace, IsVariantPlace, inside}
use Rattle.layer_reads.specs.Properties.{with_more, marks_of}
use Rattle.layer_reads.specs.Sublayers.{IsSublayerKept}
use Rattle.value_returns.specs.Fields.{IsProperSublayer}
use Rattle.value_returns.specs.Proper.{IsProperProperty}
use Rattle.value_returns.proofs.Fields.{fields_kept}
use Rattle.value_returns.proofs.HeadKeys.{head_keys_kept}
use Rattle.value_returns.proofs.Kept.{properties_kept}
use Rattle.layer_returns.specs.Layers.{IsLayerKept, behind_front}
use Rattle.value_texts.specs.Each.{AreAll}
use Rattle.value_texts.proofs.EachOf.{all_so}
use Rattle.proper_layers.specs.Proper.{IsProperEntry, IsProper}
use Rattle.layer_returns.specs.Trees.{behind_properties, ArePropertiesKept, behind_child, behind_variant, behind_variants, in_set, from_properties, from_sets, from_children, behind_body, IsChildKept, AreChildrenKept, IsVariantKept, AreVariantsKept, AreSetsKept, AreStatementsKept, IsBodyKept}
use Rattle.proper_layers.proofs.Apart.{IsBare, child_bare, variant_bare, variants_bare, sets_bare, bodies_bare}
use Rattle.proper_layers.proofs.Paths.{names_differ, IsOutside, other_element, entry}
use Rattle.proper_layers.proofs.Places.{identifier_utf8, variant_utf8, end_named, prim_place_is, variant_place_is}
use Rattle.proper_layers.proofs.Written.{property_named}
use Rattle.layer_returns.proofs.Reached.{child_path, variant_path, variants_path, sets_path, properties_path, body_path}
use Rattle.layer_returns.proofs.Whole.{properties_specs}
use Rattle.trees_read.specs.Names.{AreNamesBelow, set_names}
use Rattle.trees_read.specs.Trees.{has_spec}

-- ---- names that a table or a list of properties does not have

other_text : (k l : List ℕ) → (k ≡ l → ⊥) → is_eq (text_cmp k l) ≡ false
other_text k l apart = by (text_cmp k l) refl
  where
    by : (o : Ordering) → text_cmp k l ≡ o → is_eq o ≡ false
    by Less h = refl
    by Equal h = absurd (apart (exact_bytes k l h))
    by Greater h = refl

set_stays_new : (k l : List ℕ) (t : List (List ℕ × Bool)) → (k ≡ l → ⊥) → at_key text_cmp k t ≡ None → at_key text_cmp k (with_key text_cmp l true t) ≡ None
set_stays_new k l [] apart none = ap (λ b. cond b (Some true) None) (other_text k l apart)
set_stays_new k l (e ∷ es) apart none = by (text_cmp l e.0) none (set_stays_new k l es apart)
  where
    over : (b : Bool) → cond b (Some e.1) (at_key text_cmp k es) ≡ None → cond b (Some true) (at_key text_cmp k es) ≡ None
    over true h = absurd cc
    over false h = h

    behind : (b : Bool) → cond b (Some e.1) (at_key text_cmp k es) ≡ None → (at_key text_cmp k es ≡ None → at_key text_cmp k (with_key text_cmp l true es) ≡ None)
        → cond b (Some e.1) (at_key text_cmp k (with_key text_cmp l true es)) ≡ None
    behind true h more = absurd cc
    behind false h more = more h

    by : (o : Ordering) → at_key text_cmp k (e ∷ es) ≡ None → (at_key text_cmp k es ≡ None → at_key text_cmp k (with_key text_cmp l true es) ≡ None)
        → at_key text_cmp k (match_ordering o ((l, true) ∷ e ∷ es) ((e.0, true) ∷ es) (e ∷ with_key text_cmp l true es)) ≡ None
    by Less h more = ap (λ b. cond b (Some true) (at_key text_cmp k (e ∷ es))) (other_text k l apart) ∙ h
    by Equal h more = over (is_eq (text_cmp k e.0)) h
    by Greater h more = behind (is_eq (text_cmp k e.0)) h more

-- none of the properties stands among those
abbrev AreNewProperties : List Property → List Property → Type 0
AreNewProperties ps done = AreAll (λ p. property_at (property_name p) done ≡ None) ps

property_stays_new : (name : List ℕ) (p : Property) (done : List Property) → same_name name (property_name p) ≡ false → property_at name done ≡ None → property_at name (done ++ p ∷ []) ≡ None
property_stays_new name p [] other none = ap (λ b. cond b (Some p) None) other
property_stays_new name p (d ∷ ds) other none = by (same_name name (property_name d)) none (property_stays_new name p ds other)
  where
    by : (b : Bool) → cond b (Some d) (property_at name ds) ≡ None → (property_at name ds ≡ None → property_at name (ds ++ p ∷ []) ≡ None) → cond b (Some d) (property_at name (ds ++ p ∷ [])) ≡ None
    by true h more = absurd cc
    by false h more = more h

turned : (a b : List ℕ) → same_name a b ≡ false → same_name b a ≡ false
turned a b other = by_test (λ t. t ≡ false) (same_name b a) (λ same. absurd (names_differ a b other (sym (text_same b a same)))) (λ f. refl)

properties_stay_new : (p : Property) (ps done : List Property) → AllByRecursion (λ n. same_name (property_name p) n ≡ false) (property_names ps) → AreNewProperties ps done → AreNewProperties ps (done ++ p ∷ [])
properties_stay_new p [] done others new = tt
properties_stay_new p (q ∷ qs) done others new =
    (property_stays_new (property_name q) p done (turned (property_name p) (property_name q) others.0) new.0, properties_stay_new p qs done others.1 new.1)

properties_stand : (ps : List Property) (at : Standing) → AreProperties ps → AreNewProperties ps at.owner.properties → AreAll IsProperProperty ps → ArePropertiesKept ps at
properties_stand [] at once new proper = tt
properties_stand (p ∷ ps) at once new proper = (
  property_named p proper.0,
  new.0,
  properties_kept p proper.0 at.owner.said.base,
  properties_stand ps (with_more p (marks_of p) at) (IsDistinct-tail same_name (property_name p) (property_names ps) once)
      (properties_stay_new p ps at.owner.properties (IsDistinct-head same_name (property_name p) (property_names ps) once) new.1) proper.1,
)

all_new : (ps : List Property) → AreNewProperties ps []
all_new [] = tt
all_new (p ∷ ps) = (refl, all_new ps)

properties_sets : (ps : List Property) (at : Standing) → (behind_properties ps at).owner.set_names ≡ at.owner.set_names
properties_sets [] at = refl
properties_sets (p ∷ ps) at = properties_sets ps (with_more p (marks_of p) at)

-- ---- paths at and below which nothing stands

-- nothing stands at any of these names below the path, nor further down
abbrev AreFree : (List ℕ → Element) → List Element → List (List ℕ) → SpecEntries → Type 0
AreFree named path names t = AreAll (λ name. (rest : List Element) → IsBare (path ++ named name ∷ rest) t) names

-- nothing stands below the path
abbrev HasRoom : List Element → SpecEntries → Type 0
HasRoom path t = (e : Element) (rest : List Element) → IsBare (path ++ e ∷ rest) t

all_free : (named : List ℕ → Element) (path : List Element) (names : List (List ℕ)) (t : SpecEntries) → ((name : List ℕ) (rest : List Element) → IsBare (path ++ named name ∷ rest) t) → AreFree named path names t
all_free named path [] t free = tt
all_free named path (name ∷ names) t free = (free name, all_free named path names t free)

-- what is put at one name and below leaves the others free
stay_free : (named : List ℕ → Element) → ((a b : List ℕ) → named a ≡ named b → a ≡ b) → (path : List Element) (name : List ℕ) (names : List (List ℕ)) (t u : SpecEntries)
    → ((p : List Element) → IsOutside (path ++ named name ∷ []) p → IsBare p t → IsBare p u) → AllByRecursion (λ n. same_name name n ≡ false) names → AreFree named path names t → AreFree named path names u
stay_free named one path name [] t u step others free = tt
stay_free named one path name (n ∷ ns) t u step others free = (
  λ rest. step (path ++ named n ∷ rest) (other_element path (named name) (named n) rest (λ same. names_differ name n others.0 (one name n same))) (free.0 rest),
  stay_free named one path name ns t u step others.1 free.1,
)

room_below : (path : List Element) (e : Element) (t : SpecEntries) → ((rest : List Element) → IsBare (path ++ e ∷ rest) t) → HasRoom (path ++ e ∷ []) t
room_below path e t free f rest = subst (λ p. IsBare p t) (sym (append_assoc path (e ∷ []) (f ∷ rest))) (free (f ∷ rest))

same_prim : (a b : List ℕ) → Prim a ≡ Prim b → a ≡ b
same_prim a b h = cc

same_variant : (set a b : List ℕ) → Selection set a ≡ Selection set b → a ≡ b
same_variant set a b h = cc

same_set : (s t a b : List ℕ) → Selection s a ≡ Selection t b → s ≡ t
same_set s t a b h = cc

-- the variants of these sets
abbrev AreSetsFree : List Element → List VariantSet → SpecEntries → Type 0
AreSetsFree path ss t = AreAll (λ s. (name : List ℕ) (rest : List Element) → IsBare (path ++ Selection s.set name ∷ rest) t) ss

all_sets_free : (path : List Element) (ss : List VariantSet) (t : SpecEntries) → HasRoom path t → AreSetsFree path ss t
all_sets_free path [] t room = tt
all_sets_free path (s ∷ ss) t room = (λ name rest. room (Selection s.set name) rest, all_sets_free path ss t room)

sets_stay_free : (path : List Element) (set : List ℕ) (ss : List VariantSet) (t u : SpecEntries) → ((p : List Element) → ((name : List ℕ) → IsOutside (path ++ Selection set name ∷ []) p) → IsBare p t → IsBare p u)
    → AllByRecursion (λ n. same_name set n ≡ false) (set_names ss) → AreSetsFree path ss t → AreSetsFree path ss u
sets_stay_free path set [] t u step others free = tt
sets_stay_free path set (s ∷ ss) t u step others free = (
  λ name rest. step (path ++ Selection s.set name ∷ rest)
      (λ other. other_element path (Selection set other) (Selection s.set name) rest (λ same. names_differ set s.set others.0 (same_set set s.set other name same))) (free.0 name rest),
  sets_stay_free path set ss t u step others.1 free.1,
)

-- the owner has none of these sets
abbrev AreNewSets : List VariantSet → Owner → Type 0
AreNewSets ss o = AreAll (λ s. has_set s.set o ≡ false) ss

is_none : (o : Option Bool) → is_some o ≡ false → o ≡ None
is_none None h = refl
is_none (Some b) h = absurd cc

sets_stay_new : (set : List ℕ) (ss : List VariantSet) (o n : Owner) → n.set_names ≡ with_key text_cmp set true o.set_names → AllByRecursion (λ n. same_name set n ≡ false) (set_names ss) → AreNewSets ss o → AreNewSets ss n
unfolding has_set
sets_stay_new set [] o n is others new = tt
sets_stay_new set (s ∷ ss) o n is others new = (
  ap (λ t. is_some (at_key text_cmp s.set t)) is
      ∙ ap is_some (set_stays_new s.set set o.set_names (λ same. names_differ set s.set others.0 (sym same)) (is_none (at_key text_cmp s.set o.set_names) new.0)),
  sets_stay_new set ss o n is others.1 new.1,
)

all_sets_new : (ss : List VariantSet) (o : Owner) → o.set_names ≡ [] → AreNewSets ss o
unfolding has_set
all_sets_new [] o is = tt
all_sets_new (s ∷ ss) o is = (ap (λ t. is_some (at_key text_cmp s.set t)) is, all_sets_new ss o is)

-- ---- the owner round variants

module _ (specs : SpecEntries) (behind : List Element → Specifier → Spec → Standing → Standing) where
  variant_set : (name : List ℕ) (path : List Element) (o : Option Spec) (at : Standing) → (behind_variant specs behind name path o at).owner.set ≡ at.owner.set
  unfolding with_variant
  variant_set name path None at = refl
  variant_set name path (Some spec) at = refl

  variant_sets : (name : List ℕ) (path : List Element) (o : Option Spec) (at : Standing) → (behind_variant specs behind name path o at).owner.set_names ≡ at.owner.set_names
  unfolding with_variant
  variant_sets name path None at = refl
  variant_sets name path (Some spec) at = refl

  variants_sets : (path : List Element) (set : List ℕ) (names : List (List ℕ)) (at : Standing) → (behind_variants specs behind path set names at).owner.set_names ≡ at.owner.set_names
  variants_sets path set [] at = refl
  variants_sets path set (name ∷ names) at =
      variants_sets path set names (behind_variant specs behind name (path ++ Selection set name ∷ []) (spec_below specs path (Selection set name)) at)
      ∙ variant_sets name (path ++ Selection set name ∷ []) (spec_below specs path (Selection set name)) at

-- ---- children, variants and sets, one behind the other

module _ (specs : SpecEntries) (entries : AreAll (λ e. IsProperEntry specs e.0 e.1) specs) (behind : List Element → Specifier → Spec → Standing → Standing) (Kept : List Element → Specifier → Spec → Standing → Type 0)
    (keeps : (p path : List Element) (specifier : Specifier) (spec : Spec) (at : Standing) → IsOutside path p → IsBare p at.specs → IsBare p (behind path specifier spec at).specs)
    (at_path : (path : List Element) (specifier : Specifier) (ty : Option (List ℕ)) (spec : Spec) (round : Owner) (at : Standing) → (behind path specifier spec (inside path specifier ty spec round at)).owner.said.path ≡ path)
    (below : (path : List Element) (specifier : Specifier) (ty : Option (List ℕ)) (spec : Spec) (round : Owner) (at : Standing) → spec_at path specs ≡ Some spec → HasRoom path at.specs → Kept path specifier spec (inside path specifier ty spec round at)) where
  prim_may_stand : (name : List ℕ) (path : List Element) (s : Spec) (at : Standing) → spec_below specs path (Prim name) ≡ Some s → at.owner.said.path ≡ path → IsBare (path ++ Prim name ∷ []) at.specs
      → IsPrimPlace name (path ++ Prim name ∷ []) at
  unfolding is_closed
  prim_may_stand name path s at is here free =
      let place = (entry specs entries (path ++ Prim name ∷ []) s is).place in
      let named : is_identifier name ≡ true = end_named path (Prim name) place in
      record { utf8 = identifier_utf8 name named; named = named; place = ap (λ p. prim_place p name) here ∙ prim_place_is path name place; free = ap is_some free }

  child_kept : (name : List ℕ) (path : List Element) (o : Option Spec) (at : Standing) → spec_below specs path (Prim name) ≡ o → at.owner.said.path ≡ path
      → ((rest : List Element) → IsBare (path ++ Prim name ∷ rest) at.specs) → IsChildKept specs behind Kept name (path ++ Prim name ∷ []) o at
  child_kept name path None at is here free = tt
  child_kept name path (Some s) at is here free = (
    prim_may_stand name path s at is here (free []),
    fields_kept s (entry specs entries (path ++ Prim name ∷ []) s is).fields (plain (path ++ Prim name ∷ [])),
    below (path ++ Prim name ∷ []) s.body.specifier s.body.type_name s (with_child name at.owner) at is (room_below path (Prim name) at.specs free),
  )

  pub children_kept : (path : List Element) (names : List (List ℕ)) (at : Standing) → at.owner.said.path ≡ path → IsDistinct same_name names → AreFree Prim path names at.specs → AreChildrenKept specs behind Kept path names at
  children_kept path [] at here once free = tt
  children_kept path (name ∷ names) at here once free =
      let o : Option Spec = spec_below specs path (Prim name) in
      let next : Standing = behind_child specs behind name (path ++ Prim name ∷ []) o at in (
        child_kept name path o at refl here free.0,
        children_kept path names next (ap (λ (s : OwnerDraft). s.path) (child_path specs behind name (path ++ Prim name ∷ []) o at) ∙ here) (IsDistinct-tail same_name name names once)
            (stay_free Prim same_prim path name names at.specs next.specs (λ p out h. child_bare p specs behind (keeps p) at_path name (path ++ Prim name ∷ []) o at out h) (IsDistinct-head same_name name names once) free.1),
      )

  variant_may_stand : (set name : List ℕ) (path : List Element) (s : Spec) (at : Standing) → spec_below specs path (Selection set name) ≡ Some s → at.owner.said.path ≡ path → at.owner.set ≡ set
      → IsBare (path ++ Selection set name ∷ []) at.specs → IsVariantPlace name (path ++ Selection set name ∷ []) at
  unfolding is_closed
  variant_may_stand set name path s at is here in_set free =
      let place = (entry specs entries (path ++ Selection set name ∷ []) s is).place in
      let named : is_variant name ≡ true = (both_true (is_identifier set) (is_variant name) (end_named path (Selection set name) place)).1 in
      record {
        utf8 = variant_utf8 name named;
        named = named;
        place = ap (λ p. variant_place p at.owner.set name) here ∙ ap (λ t. variant_place path t name) in_set ∙ variant_place_is path set name place;
        free = ap is_some free;
      }

  variant_kept : (set name : List ℕ) (path : List Element) (o : Option Spec) (at : Standing) → spec_below specs path (Selection set name) ≡ o → at.owner.said.path ≡ path → at.owner.set ≡ set
      → ((rest : List Element) → IsBare (path ++ Selection set name ∷ rest) at.specs) → IsVariantKept specs behind Kept name (path ++ Selection set name ∷ []) o at
  variant_kept set name path None at is here in_set free = tt
  variant_kept set name path (Some s) at is here in_set free = (
    variant_may_stand set name path s at is here in_set (free []),
    fields_kept s (entry specs entries (path ++ Selection set name ∷ []) s is).fields (plain (path ++ Selection set name ∷ [])),
    below (path ++ Selection set name ∷ []) Over None s (with_variant name at.owner) at is (room_below path (Selection set name) at.specs free),
  )

  variants_kept : (path : List Element) (set : List ℕ) (names : List (List ℕ)) (at : Standing) → at.owner.said.path ≡ path → at.owner.set ≡ set → IsDistinct same_name names → AreFree (Selection set) path names at.specs
      → AreVariantsKept specs behind Kept path set names at
  variants_kept path set [] at here in_set once free = tt
  variants_kept path set (name ∷ names) at here in_set once free =
      let o : Option Spec = spec_below specs path (Selection set name) in
      let next : Standing = behind_variant specs behind name (path ++ Selection set name ∷ []) o at in (
        variant_kept set name path o at refl here in_set free.0,
        variants_kept path set names next (ap (λ (s : OwnerDraft). s.path) (variant_path specs behind name (path ++ Selection set name ∷ []) o at) ∙ here) (variant_set specs behind name (path ++ Selection set name ∷ []) o at ∙ in_set)
            (IsDistinct-tail same_name name names once)
            (stay_free (Selection set) (same_variant set) path name names at.specs next.specs (λ p out h. variant_bare p specs behind (keeps p) at_path name (path ++ Selection set name ∷ []) o at out h)
            (IsDistinct-head same_name name names once) free.1),
      )

  sets_kept : (path : List Element) (ss : List VariantSet) (at : Standing) → at.owner.said.path ≡ path → IsDistinct same_name (set_names ss) → AreAll (λ s. is_identifier s.set ≡ true) ss
      → AreAll (λ s. AreNamesBelow (has_spec specs) path (Selection s.set) s.variants) ss → AreNewSets ss at.owner → AreSetsFree path ss at.specs → AreSetsKept specs behind Kept path ss at
  unfolding with_set
  sets_kept path [] at here once named each new free = tt
  sets_kept path (s ∷ ss) at here once named each new free =
      let begun : Standing = in_set specs behind s.set at in
      let next : Standing = behind_variants specs behind path s.set s.variants begun in
      let others = IsDistinct-head same_name s.set (set_names ss) once in (
        identifier_utf8 s.set named.0,
        named.0,
        new.0,
        variants_kept path s.set s.variants begun here refl each.0.once (all_free (Selection s.set) path s.variants at.specs free.0),
        sets_kept path ss next (ap (λ (s : OwnerDraft). s.path) (variants_path specs behind path s.set s.variants begun) ∙ here) (IsDistinct-tail same_name s.set (set_names ss) once) named.1 each.1
            (sets_stay_new s.set ss at.owner next.owner (variants_sets specs behind path s.set s.variants begun) others new.1)
            (sets_stay_free path s.set ss at.specs next.specs (λ p out h. variants_bare p specs behind (keeps p) at_path path s.set s.variants begun out h) others free.1),
      )

  -- ---- all that stands in a prim or a variant

  statements_kept : (path : List Element) (specifier : Specifier) (ty : Option (List ℕ)) (spec : Spec) (round : Owner) (at : Standing) → spec_at path specs ≡ Some spec → HasRoom path at.specs
      → AreStatementsKept specs behind Kept path specifier spec (inside path specifier ty spec round at)
  unfolding owner_of
  statements_kept path specifier ty spec round at is room =
      let e : IsProperEntry specs path spec = entry specs entries path spec is in
      let properties : Standing = from_properties specs behind path specifier spec (inside path specifier ty spec round at) in
      let sets : Standing = from_sets specs behind path specifier spec (inside path specifier ty spec round at) in
      let children : Standing = from_children specs behind path specifier spec (inside path specifier ty spec round at) in
      let same : sets.specs ≡ at.specs = properties_specs spec.body.properties properties in
      let at_sets : sets.owner.said.path ≡ path = ap (λ (s : OwnerDraft). s.path) (properties_path spec.body.properties properties) in
      let still : HasRoom path sets.specs = subst (HasRoom path) (sym same) room in
      record {
        child_order = e.fields.child_order;
        property_order = e.fields.property_order;
        properties = properties_stand spec.body.properties properties e.once (all_new spec.body.properties) e.properties;
        sets = sets_kept path spec.body.variant_names sets at_sets e.sets.once e.sets.named e.sets.each (all_sets_new spec.body.variant_names sets.owner (properties_sets spec.body.properties properties))
            (all_sets_free path spec.body.variant_names sets.specs still);
        children = children_kept path spec.body.children children (ap (λ (s : OwnerDraft). s.path) (sets_path specs behind path spec.body.variant_names sets) ∙ at_sets) e.children.once
            (all_free Prim path spec.body.children children.specs (λ name rest. sets_bare (path ++ Prim name ∷ rest) specs behind (keeps (path ++ Prim name ∷ rest)) at_path path spec.body.variant_names sets
            (λ set other. other_element path (Selection set other) (Prim name) rest (λ same. cc)) (still (Prim name) rest)));
      }

bodies_kept : (specs : SpecEntries) → AreAll (λ e. IsProperEntry specs e.0 e.1) specs → (levels : ℕ) (path : List Element) (specifier : Specifier) (ty : Option (List ℕ)) (spec : Spec) (round : Owner) (at : Standing)
    → spec_at path specs ≡ Some spec → HasRoom path at.specs → IsBodyKept specs levels path specifier spec (inside path specifier ty spec round at)
bodies_kept specs entries zero path specifier ty spec round at is room = tt
bodies_kept specs entries (suc levels) path specifier ty spec round at is room =
    statements_kept specs entries (behind_body specs levels) (IsBodyKept specs levels) (λ p. bodies_bare p specs levels) (body_path specs levels) (bodies_kept specs entries levels) path specifier ty spec round at is room

pub proper_kept : (layer : LayerTable) → IsProper layer → IsLayerKept layer
proper_kept layer proper =
    let levels : ℕ = length layer.specs in
    record {
      head = record {
        meta = head_keys_kept layer.head proper.head;
        sublayers = all_so IsProperSublayer IsSublayerKept (λ s p. p.offset) layer.head.sublayers proper.head.sublayers;
        order = proper.head.root_order;
      };
      prims = children_kept layer.specs proper.entries (behind_body layer.specs levels) (IsBodyKept layer.specs levels) (λ p. bodies_bare p layer.specs levels) (body_path layer.specs levels) (bodies_kept layer.specs proper.entries levels)
          [] layer.head.root_names (behind_front layer.head) refl proper.roots.once (all_free Prim [] layer.head.root_names [] (λ name rest. refl));
    }
