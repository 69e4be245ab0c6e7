-- The specs of a proper layer are those of the prims and variants that it names.
use Rattle.std.proofs.Common.{◌≡◌, ◌∙◌, inl, inr, ℕ, zero, suc, ◌+◌, ◌<◌, ◌≤◌, Bool, true, false, ◌||◌, List, [], ◌∷◌, ◌++◌, append_assoc, length, length-append, Option, Some, None, is_some, ap, sym, refl, subst, arith}
use Rattle.std.proofs.lemmas.List.Folds.{list_any-append}
use Rattle.plain_data.specs.Exact.{text_same}
use Rattle.plain_data.specs.Ends.{last-push}
use Rattle.sdf_paths.specs.Paths.{is_property, is_property_part}
use Rattle.sdf_paths.specs.declared.element.Element.{Element}
use Rattle.sdf_paths.specs.declared.element.Element.TheVariants.{Prim, Property, Selection}
use Rattle.sdf_paths.proofs.Sound.{some_push}
use Rattle.sdf_specs.specs.Layers.{LayerTable, SpecEntries, spec_at}
use Rattle.spec_parts.specs.declared.items.Specifier.TheVariants.{Over}
use Rattle.spec_parts.specs.declared.items.VariantSet.{VariantSet}
use Rattle.spec_parts.specs.declared.spec.Spec.{Spec}
use Rattle.spec_properties.specs.Properties.{same_name}
use Rattle.usda_writer.specs.Canonical.{spec_below}
use Rattle.value_texts.specs.Each.{AreAll}
use Rattle.proper_layers.specs.Proper.{IsProperEntry, IsProper}
use Rattle.layer_returns.specs.Reached.{IsFrom, IsFromChildren, IsFromVariants, IsFromSets, IsReached}
use Rattle.layer_returns.specs.Theorem.{IsTree}
use Rattle.layer_returns.specs.Whole.{IsChildWhole, IsVariantWhole, AreChildrenWhole, AreVariantsWhole, IsWhole}
use Rattle.proper_layers.proofs.Paths.{the_spec, entry, front_there, path_length}
use Rattle.trees_read.specs.Names.{IsVariantOf, AreNamesBelow, is_among, set_names}
use Rattle.trees_read.specs.Trees.{has_spec}

-- the spec of a variant
pub is_variant_spec : (path : List Element) (set name : List ℕ) (s : Spec) (specs : SpecEntries) → IsProperEntry specs (path ++ Selection set name ∷ []) s → (s.body.specifier ≡ Over) × (s.body.type_name ≡ None)
is_variant_spec path set name s specs e = subst (λ o. IsVariantOf o s.body.specifier s.body.type_name) (last-push path (Selection set name)) e.variant

module _ (specs : SpecEntries) (entries : AreAll (λ e. IsProperEntry specs e.0 e.1) specs) where
  -- ---- all that is named has specs, to the depth that the table has

  -- what is to be shown further down
  abbrev AreBelow : ℕ → Type 0
  AreBelow levels = (path : List Element) (s : Spec) → spec_at path specs ≡ Some s → length specs < length path + levels → IsWhole specs levels path s

  module _ (levels : ℕ) (below : AreBelow levels) (path : List Element) (deep : length specs ≤ length path + levels) where
    further : (e : Element) → length specs < length (path ++ e ∷ []) + levels
    further e = omega (arith, length-append path (e ∷ []), deep)

    child_whole : (name : List ℕ) (o : Option Spec) → spec_below specs path (Prim name) ≡ o → is_some o ≡ true → IsChildWhole specs (IsWhole specs levels) (path ++ Prim name ∷ []) o
    child_whole name None at h = absurd cc
    child_whole name (Some s) at h = below (path ++ Prim name ∷ []) s at (further (Prim name))

    children_whole : (names : List (List ℕ)) → AreAll (λ name. is_some (spec_below specs path (Prim name)) ≡ true) names → AreChildrenWhole specs (IsWhole specs levels) path names
    children_whole [] all = tt
    children_whole (name ∷ names) all = (child_whole name (spec_below specs path (Prim name)) refl all.0, children_whole names all.1)

    variant_whole : (set name : List ℕ) (o : Option Spec) → spec_below specs path (Selection set name) ≡ o → is_some o ≡ true → IsVariantWhole specs (IsWhole specs levels) (path ++ Selection set name ∷ []) o
    variant_whole set name None at h = absurd cc
    variant_whole set name (Some s) at h =
        let is = is_variant_spec path set name s specs (entry specs entries (path ++ Selection set name ∷ []) s at) in
        (is.0, is.1, below (path ++ Selection set name ∷ []) s at (further (Selection set name)))

    variants_whole : (set : List ℕ) (names : List (List ℕ)) → AreAll (λ name. is_some (spec_below specs path (Selection set name)) ≡ true) names
        → AreAll (λ name. IsVariantWhole specs (IsWhole specs levels) (path ++ Selection set name ∷ []) (spec_below specs path (Selection set name))) names
    variants_whole set [] all = tt
    variants_whole set (name ∷ names) all = (variant_whole set name (spec_below specs path (Selection set name)) refl all.0, variants_whole set names all.1)

    sets_whole : (ss : List VariantSet) → AreAll (λ s. AreNamesBelow (has_spec specs) path (Selection s.set) s.variants) ss → AreAll (AreVariantsWhole specs (IsWhole specs levels) path) ss
    sets_whole [] all = tt
    sets_whole (s ∷ ss) all = (variants_whole s.set s.variants all.0.each, sets_whole ss all.1)

  bodies_whole : (levels : ℕ) → AreBelow levels
  bodies_whole zero path s at deep = absurd (let long = path_length specs entries path (ap is_some at) in omega arith)
  bodies_whole (suc levels) path s at deep =
      let here = entry specs entries path s at in
      record {
        children = children_whole levels (bodies_whole levels) path (omega arith) s.body.children here.children.each;
        variants = sets_whole levels (bodies_whole levels) path (omega arith) s.body.variant_names here.sets.each;
      }

  pub roots_whole : (names : List (List ℕ)) → AreAll (λ name. is_some (spec_below specs [] (Prim name)) ≡ true) names → AreChildrenWhole specs (IsWhole specs (length specs)) [] names
  roots_whole names all = children_whole (length specs) (bodies_whole (length specs)) [] (omega arith) names all

  -- ---- each spec is reached

  module _ (Below : List Element → Spec → List Element → Type 0) (path p : List Element) where
    from_child : (name : List ℕ) (names : List (List ℕ)) → is_among name names ≡ true → IsFrom specs Below (path ++ Prim name ∷ []) (spec_below specs path (Prim name)) p → IsFromChildren specs Below path names p
    from_child name [] h from = absurd cc
    from_child name (n ∷ names) h from = by (same_name name n) refl h (λ h. from_child name names h from)
      where
        by : (b : Bool) → same_name name n ≡ b → b || is_among name names ≡ true → (is_among name names ≡ true → IsFromChildren specs Below path names p) → IsFromChildren specs Below path (n ∷ names) p
        by true same h more = inl (subst (λ n. IsFrom specs Below (path ++ Prim n ∷ []) (spec_below specs path (Prim n)) p) (text_same name n same) from)
        by false other h more = inr (more h)

    from_variant : (set name : List ℕ) (names : List (List ℕ)) → is_among name names ≡ true → IsFrom specs Below (path ++ Selection set name ∷ []) (spec_below specs path (Selection set name)) p
        → IsFromVariants specs Below path set names p
    from_variant set name [] h from = absurd cc
    from_variant set name (n ∷ names) h from = by (same_name name n) refl h (λ h. from_variant set name names h from)
      where
        by : (b : Bool) → same_name name n ≡ b → b || is_among name names ≡ true → (is_among name names ≡ true → IsFromVariants specs Below path set names p) → IsFromVariants specs Below path set (n ∷ names) p
        by true same h more = inl (subst (λ n. IsFrom specs Below (path ++ Selection set n ∷ []) (spec_below specs path (Selection set n)) p) (text_same name n same) from)
        by false other h more = inr (more h)

    from_set : (set name : List ℕ) (ss : List VariantSet) → is_some (spec_below specs path (Selection set name)) ≡ true → is_among set (set_names ss) ≡ true → AreAll (λ s. AreNamesBelow (has_spec specs) path (Selection s.set) s.variants) ss
        → IsFrom specs Below (path ++ Selection set name ∷ []) (spec_below specs path (Selection set name)) p → IsFromSets specs Below path ss p
    from_set set name [] there h all from = absurd cc
    from_set set name (s ∷ ss) there h all from = by (same_name set s.set) refl h (λ h. from_set set name ss there h all.1 from)
      where
        here : set ≡ s.set → IsFromVariants specs Below path s.set s.variants p
        here same =
            from_variant s.set name s.variants (all.0.all name (subst (λ t. is_some (spec_below specs path (Selection t name)) ≡ true) same there))
            (subst (λ t. IsFrom specs Below (path ++ Selection t name ∷ []) (spec_below specs path (Selection t name)) p) same from)

        by : (b : Bool) → same_name set s.set ≡ b → b || is_among set (set_names ss) ≡ true → (is_among set (set_names ss) ≡ true → IsFromSets specs Below path ss p) → IsFromSets specs Below path (s ∷ ss) p
        by true same h more = inl (here (text_same set s.set same))
        by false other h more = inr (more h)

  -- no path of the table has the name of a property in it
  no_property : (q : List Element) (name : List ℕ) (rest : List Element) → is_some (spec_at (q ++ Property name ∷ rest) specs) ≡ true → ⊥
  no_property q name rest h =
      let at = the_spec (spec_at (q ++ Property name ∷ rest) specs) h in
      let none : is_property (q ++ Property name ∷ rest) ≡ false = (entry specs entries (q ++ Property name ∷ rest) at.0 at.1).place.unlike_property in
      let either : is_property (q ++ Property name ∷ rest) ≡ (is_property q || true) = list_any-append is_property_part q (Property name ∷ rest) in
      by (is_property q) (sym none ∙ either)
    where
      by : (b : Bool) → false ≡ (b || true) → ⊥
      by true h = cc
      by false h = cc

  -- what is to be shown of the specs further down
  abbrev AreReached : ℕ → Type 0
  AreReached levels =
      (q : List Element) (s : Spec) (e : Element) (rest : List Element) → spec_at q specs ≡ Some s → is_some (spec_at (q ++ e ∷ rest) specs) ≡ true → length (e ∷ rest) ≤ levels → IsReached specs levels q s (q ++ e ∷ rest)

  module _ (levels : ℕ) (reached : AreReached levels) (q : List Element) (e : Element) where
    reached_from : (rest : List Element) (o : Option Spec) → spec_below specs q e ≡ o → is_some o ≡ true → is_some (spec_at (q ++ e ∷ rest) specs) ≡ true → length rest ≤ levels
        → IsFrom specs (IsReached specs levels) (q ++ e ∷ []) o (q ++ e ∷ rest)
    reached_from rest None at h there few = absurd cc
    reached_from [] (Some s) at h there few = inl refl
    reached_from (f ∷ rest) (Some s) at h there few =
        let same : (q ++ e ∷ []) ++ f ∷ rest ≡ q ++ e ∷ f ∷ rest = append_assoc q (e ∷ []) (f ∷ rest) in
        inr (subst (λ p. IsReached specs levels (q ++ e ∷ []) s p) same (reached (q ++ e ∷ []) s f rest at (subst (λ p. is_some (spec_at p specs) ≡ true) (sym same) there) few))

    below_there : (rest : List Element) → is_some (spec_at (q ++ e ∷ rest) specs) ≡ true → is_some (spec_below specs q e) ≡ true
    below_there rest h = front_there specs entries (q ++ e ∷ []) rest (some_push q e) (subst (λ p. is_some (spec_at p specs) ≡ true) (sym (append_assoc q (e ∷ []) rest)) h)

    from_below : (rest : List Element) → is_some (spec_at (q ++ e ∷ rest) specs) ≡ true → length rest ≤ levels → IsFrom specs (IsReached specs levels) (q ++ e ∷ []) (spec_below specs q e) (q ++ e ∷ rest)
    from_below rest h few = reached_from rest (spec_below specs q e) refl (below_there rest h) h few

  bodies_reached : (levels : ℕ) → AreReached levels
  bodies_reached zero q s e rest at there few = absurd (omega arith)
  bodies_reached (suc levels) q s (Prim name) rest at there few =
      let names = (entry specs entries q s at).children in
      inr (from_child (IsReached specs levels) q (q ++ Prim name ∷ rest) name s.body.children
      (names.all name (below_there levels (bodies_reached levels) q (Prim name) rest there)) (from_below levels (bodies_reached levels) q (Prim name) rest there (omega arith)))
  bodies_reached (suc levels) q s (Selection set name) rest at there few =
      let sets = (entry specs entries q s at).sets in
      let below = below_there levels (bodies_reached levels) q (Selection set name) rest there in
      inl (from_set (IsReached specs levels) q (q ++ Selection set name ∷ rest) set name s.body.variant_names below (sets.all set name below) sets.each
      (from_below levels (bodies_reached levels) q (Selection set name) rest there (omega arith)))
  bodies_reached (suc levels) q s (Property name) rest at there few = absurd (no_property q name rest there)

  pub roots_reached : (names : List (List ℕ)) → AreNamesBelow (has_spec specs) [] Prim names → (p : List Element) (s : Spec) → spec_at p specs ≡ Some s → IsFromChildren specs (IsReached specs (length specs)) [] names p
  roots_reached names roots [] s at = absurd (let below = (entry specs entries [] s at).place.below_root in cc)
  roots_reached names roots (Selection set name ∷ rest) s at = absurd (let ordered = (entry specs entries (Selection set name ∷ rest) s at).place.within.well_formed.ordered in cc)
  roots_reached names roots (Property name ∷ rest) s at = absurd (let ordered = (entry specs entries (Property name ∷ rest) s at).place.within.well_formed.ordered in cc)
  roots_reached names roots (Prim name ∷ rest) s at =
      let there : is_some (spec_at (Prim name ∷ rest) specs) ≡ true = ap is_some at in
      let long = path_length specs entries (Prim name ∷ rest) there in
      from_child (IsReached specs (length specs)) [] (Prim name ∷ rest) name names
      (roots.all name (below_there (length specs) (bodies_reached (length specs)) [] (Prim name) rest there)) (from_below (length specs) (bodies_reached (length specs)) [] (Prim name) rest there (omega arith))

pub proper_tree : (layer : LayerTable) → IsProper layer → IsTree layer
proper_tree layer proper = record {
  ordered = proper.ordered;
  whole = roots_whole layer.specs proper.entries layer.head.root_names proper.roots.each;
  reached = λ p s at. roots_reached layer.specs proper.entries layer.head.root_names proper.roots p s at;
  default_prim = proper.head.apart;
}
