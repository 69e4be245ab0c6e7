-- A layer comes back from its canonical text.
use Rattle.std.proofs.Common.{◌≡◌, ◌∙◌, ℕ, zero, suc, List, [], ◌∷◌, ◌++◌, length, Option, Some, None, ap, sym, refl, subst, cond}
use Rattle.std.specs.Cmp.{IsTotalOrder}
use Rattle.std.specs.List.{AllByRecursion}
use Rattle.std.specs.List.Sorted.{IsStrictlySortedBy}
use Rattle.std.specs.Map.{keys_of}
use Rattle.std.specs.Ordering.{is_eq, match_ordering, ordering_reverse}
use Rattle.std.specs.declared.cmp.Ordering.{Ordering}
use Rattle.std.specs.declared.cmp.Ordering.TheVariants.{Less, Equal, Greater}
use Rattle.std.proofs.lemmas.Option.{same_Some}
use Rattle.sdf_paths.specs.DerivedOrder.{path_cmp_same}
use Rattle.sdf_paths.specs.Order.{path_cmp}
use Rattle.sdf_paths.specs.PathOrder.{order_is}
use Rattle.sdf_paths.specs.contracts.path.PathOrd.TheImpl.Laws.{total-law}
use Rattle.sdf_paths.specs.declared.element.Element.{Element}
use Rattle.sdf_paths.specs.declared.element.Element.TheVariants.{Prim, Selection}
use Rattle.sdf_specs.specs.Layers.{LayerTable, SpecEntries, spec_at}
use Rattle.spec_parts.specs.declared.items.Specifier.{Specifier}
use Rattle.spec_parts.specs.declared.items.Specifier.TheVariants.{Over}
use Rattle.spec_parts.specs.declared.items.VariantSet.{VariantSet}
use Rattle.spec_parts.specs.declared.spec.Head.{Head}
use Rattle.spec_parts.specs.declared.spec.Spec.{Spec}
use Rattle.spec_tables.specs.Tables.{IsTable, at_key, with_key}
use Rattle.usda_writer.specs.Canonical.{spec_below}
use Rattle.usda_drafts.specs.Closed.{with_spec_at}
use Rattle.usda_drafts.specs.Owners.{spec_of}
use Rattle.layer_reads.specs.Standing.{Standing}
use Rattle.layer_reads.proofs.Tables.{AllBehind, none_at, first_behind, others}
use Rattle.layer_returns.specs.Layers.{behind_front, behind_layer, layer_at}
use Rattle.layer_returns.specs.Theorem.{IsTree, LayersComeBack}
use Rattle.layer_returns.specs.Trees.{behind_child, behind_children, behind_variant, behind_variants, in_set, behind_sets, from_properties, from_sets, from_children, inside_prim, inside_variant, behind_body}
use Rattle.layer_returns.proofs.Heads.{heads_come_back}
use Rattle.layer_returns.proofs.Layers.{texts_taken}
use Rattle.layer_returns.proofs.Reached.{reached_specs_are_read}
use Rattle.layer_returns.proofs.Whole.{properties_specs, specs_are_the_layers, roots_there}

pub paths_total : IsTotalOrder path_cmp
paths_total = subst (λ (R : List Element → List Element → Ordering). IsTotalOrder R) order_is total-law

one_entry : {K V : Type 0} (a b : K × V) → a.0 ≡ b.0 → a.1 ≡ b.1 → a ≡ b
one_entry a b p q = λ i. (p i, q i)

-- ---- tables stay in order, and two with the same at each key are one

equal_itself : {K : Type 0} (cmp : K → K → Ordering) → IsTotalOrder cmp → (k : K) → cmp k k ≡ Equal
equal_itself cmp total k = by (cmp k k) (total.antisymm k k)
  where
    by : (o : Ordering) → o ≡ ordering_reverse o → o ≡ Equal
    by Less h = absurd cc
    by Equal h = refl
    by Greater h = absurd cc

module _ {K V : Type 0} (cmp : K → K → Ordering) (total : IsTotalOrder cmp) (tie : (x y : K) → cmp x y ≡ Equal → x ≡ y) where
  all_more : (x k : K) (v : V) (es : List (K × V)) → AllByRecursion (λ y. cmp x y ≡ Less) (keys_of es) → cmp x k ≡ Less → AllByRecursion (λ y. cmp x y ≡ Less) (keys_of (with_key cmp k v es))
  all_more x k v [] all h = (h, tt)
  all_more x k v (e ∷ es) all h = by (cmp k e.0) (all_more x k v es all.1 h)
    where
      by : (o : Ordering) → AllByRecursion (λ y. cmp x y ≡ Less) (keys_of (with_key cmp k v es)) → AllByRecursion (λ y. cmp x y ≡ Less) (keys_of (match_ordering o ((k, v) ∷ e ∷ es) ((e.0, v) ∷ es) (e ∷ with_key cmp k v es)))
      by Less more = (h, all)
      by Equal more = all
      by Greater more = (all.0, more)

  all_below : (k l : K) (es : List (K × V)) → cmp k l ≡ Less → AllByRecursion (λ y. cmp l y ≡ Less) (keys_of es) → AllByRecursion (λ y. cmp k y ≡ Less) (keys_of es)
  all_below k l [] h all = tt
  all_below k l (e ∷ es) h all = (total.trans k l e.0 h all.0, all_below k l es h all.1)

  ordered_more : (k : K) (v : V) (es : List (K × V)) → IsTable cmp es → IsTable cmp (with_key cmp k v es)
  unfolding IsStrictlySortedBy
  ordered_more k v [] sorted = (tt, tt)
  ordered_more k v (e ∷ es) sorted = by (cmp k e.0) refl (ordered_more k v es sorted.1)
    where
      by : (o : Ordering) → cmp k e.0 ≡ o → IsTable cmp (with_key cmp k v es) → IsTable cmp (match_ordering o ((k, v) ∷ e ∷ es) ((e.0, v) ∷ es) (e ∷ with_key cmp k v es))
      by Less h more = ((h, all_below k e.0 es h sorted.0), sorted)
      by Equal h more = sorted
      by Greater h more = (all_more e.0 k v es sorted.0 (total.antisymm e.0 k ∙ ap ordering_reverse h), more)

  found : (e : K × V) (es : List (K × V)) → at_key cmp e.0 (e ∷ es) ≡ Some e.1
  found e es = ap (λ o. cond (is_eq o) (Some e.1) (at_key cmp e.0 es)) (equal_itself cmp total e.0)

  below_none : (k : K) (e : K × V) (es : List (K × V)) → IsTable cmp (e ∷ es) → cmp k e.0 ≡ Less → at_key cmp k (e ∷ es) ≡ None
  unfolding IsStrictlySortedBy
  below_none k e es sorted h = ap (λ o. cond (is_eq o) (Some e.1) (at_key cmp k es)) h ∙ none_at cmp [] es k tt (behind es (all_below k e.0 es h sorted.0))
    where
      behind : (es : List (K × V)) → AllByRecursion (λ y. cmp k y ≡ Less) (keys_of es) → AllBehind cmp es k
      behind [] all = tt
      behind (f ∷ fs) all = (all.0, behind fs all.1)

  -- the tails of two tables that begin with one entry
  tails : (k : K) (v : V) (es fs : List (K × V)) → IsTable cmp ((k, v) ∷ es) → IsTable cmp ((k, v) ∷ fs) → ((q : K) → at_key cmp q ((k, v) ∷ es) ≡ at_key cmp q ((k, v) ∷ fs)) → (q : K) → at_key cmp q es ≡ at_key cmp q fs
  tails k v es fs s t same q = by (cmp q k) refl (same q)
    where
      by : (o : Ordering) → cmp q k ≡ o → cond (is_eq o) (Some v) (at_key cmp q es) ≡ cond (is_eq o) (Some v) (at_key cmp q fs) → at_key cmp q es ≡ at_key cmp q fs
      by Less h e = e
      by Greater h e = e
      by Equal h e =
          ap (λ x. at_key cmp x es) (tie q k h) ∙ none_at cmp [] es k tt (first_behind cmp (k, v) es s) ∙ sym (none_at cmp [] fs k tt (first_behind cmp (k, v) fs t)) ∙ ap (λ x. at_key cmp x fs) (sym (tie q k h))

  same_tables : (es fs : List (K × V)) → IsTable cmp es → IsTable cmp fs → ((q : K) → at_key cmp q es ≡ at_key cmp q fs) → es ≡ fs
  same_tables [] [] s t same = refl
  same_tables [] (f ∷ fs) s t same = absurd (let bad : None ≡ Some f.1 = same f.0 ∙ found f fs in cc)
  same_tables (e ∷ es) [] s t same = absurd (let bad : Some e.1 ≡ None = sym (found e es) ∙ same e.0 in cc)
  same_tables (e ∷ es) (f ∷ fs) s t same = by (cmp e.0 f.0) refl (λ s t same. same_tables es fs s t same)
    where
      by : (o : Ordering) → cmp e.0 f.0 ≡ o → (IsTable cmp es → IsTable cmp fs → ((q : K) → at_key cmp q es ≡ at_key cmp q fs) → es ≡ fs) → e ∷ es ≡ f ∷ fs
      by Less h more = absurd (let bad : Some e.1 ≡ None = sym (found e es) ∙ same e.0 ∙ below_none e.0 f fs t h in cc)
      by Greater h more = absurd (let bad : Some f.1 ≡ None = sym (found f fs) ∙ sym (same f.0) ∙ below_none f.0 e es s (total.antisymm f.0 e.0 ∙ ap ordering_reverse h) in cc)
      by Equal h more =
          let value : Some e.1 ≡ Some f.1 = sym (found e es) ∙ same e.0 ∙ ap (λ o. cond (is_eq o) (Some f.1) (at_key cmp e.0 fs)) h in
          let one : e ≡ f = one_entry e f (tie e.0 f.0 h) (same_Some e.1 f.1 value) in
          let also : IsTable cmp (e ∷ fs) = subst (λ g. IsTable cmp (g ∷ fs)) (sym one) t in
          ap (λ g. g ∷ es) one
          ∙ ap (λ l. f ∷ l) (more (others cmp e es s) (others cmp f fs t) (tails e.0 e.1 es fs s also (λ q. same q ∙ ap (λ g. at_key cmp q (g ∷ fs)) (sym one))))

-- ---- the specs are in order

put_ordered : (q : List Element) (s : Spec) (t : SpecEntries) → IsTable path_cmp t → IsTable path_cmp (with_spec_at q s t)
unfolding with_spec_at
put_ordered q s t h = ordered_more path_cmp paths_total path_cmp_same q s t h

module _ (specs : SpecEntries) (behind : List Element → Specifier → Spec → Standing → Standing) (keeps : (path : List Element) (specifier : Specifier) (spec : Spec) (at : Standing) → IsTable path_cmp at.specs → IsTable path_cmp (behind path specifier spec at).specs) where
  child_ordered : (name : List ℕ) (path : List Element) (o : Option Spec) (at : Standing) → IsTable path_cmp at.specs → IsTable path_cmp (behind_child specs behind name path o at).specs
  child_ordered name path None at h = h
  child_ordered name path (Some spec) at h =
      let done : Standing = behind path spec.body.specifier spec (inside_prim specs behind name path spec at) in
      put_ordered done.owner.said.path (spec_of done.owner) done.specs (keeps path spec.body.specifier spec (inside_prim specs behind name path spec at) h)

  children_ordered : (path : List Element) (names : List (List ℕ)) (at : Standing) → IsTable path_cmp at.specs → IsTable path_cmp (behind_children specs behind path names at).specs
  children_ordered path [] at h = h
  children_ordered path (name ∷ names) at h =
      children_ordered path names (behind_child specs behind name (path ++ Prim name ∷ []) (spec_below specs path (Prim name)) at) (child_ordered name (path ++ Prim name ∷ []) (spec_below specs path (Prim name)) at h)

  variant_ordered : (name : List ℕ) (path : List Element) (o : Option Spec) (at : Standing) → IsTable path_cmp at.specs → IsTable path_cmp (behind_variant specs behind name path o at).specs
  variant_ordered name path None at h = h
  variant_ordered name path (Some spec) at h =
      let done : Standing = behind path Over spec (inside_variant specs behind name path spec at) in
      put_ordered done.owner.said.path (spec_of done.owner) done.specs (keeps path Over spec (inside_variant specs behind name path spec at) h)

  variants_ordered : (path : List Element) (set : List ℕ) (names : List (List ℕ)) (at : Standing) → IsTable path_cmp at.specs → IsTable path_cmp (behind_variants specs behind path set names at).specs
  variants_ordered path set [] at h = h
  variants_ordered path set (name ∷ names) at h =
      variants_ordered path set names (behind_variant specs behind name (path ++ Selection set name ∷ []) (spec_below specs path (Selection set name)) at)
      (variant_ordered name (path ++ Selection set name ∷ []) (spec_below specs path (Selection set name)) at h)

  sets_ordered : (path : List Element) (ss : List VariantSet) (at : Standing) → IsTable path_cmp at.specs → IsTable path_cmp (behind_sets specs behind path ss at).specs
  sets_ordered path [] at h = h
  sets_ordered path (s ∷ ss) at h = sets_ordered path ss (behind_variants specs behind path s.set s.variants (in_set specs behind s.set at)) (variants_ordered path s.set s.variants (in_set specs behind s.set at) h)

  statements_ordered : (path : List Element) (specifier : Specifier) (spec : Spec) (at : Standing) → IsTable path_cmp at.specs
      → IsTable path_cmp (behind_children specs behind path spec.body.children (from_children specs behind path specifier spec at)).specs
  statements_ordered path specifier spec at h =
      children_ordered path spec.body.children (from_children specs behind path specifier spec at)
      (sets_ordered path spec.body.variant_names (from_sets specs behind path specifier spec at)
      (subst (IsTable path_cmp) (sym (properties_specs spec.body.properties (from_properties specs behind path specifier spec at))) h))

body_ordered : (specs : SpecEntries) (levels : ℕ) (path : List Element) (specifier : Specifier) (spec : Spec) (at : Standing) → IsTable path_cmp at.specs → IsTable path_cmp (behind_body specs levels path specifier spec at).specs
body_ordered specs zero path specifier spec at h = h
body_ordered specs (suc levels) path specifier spec at h = statements_ordered specs (behind_body specs levels) (body_ordered specs levels) path specifier spec at h

-- ---- the theorem

module _ (layer : LayerTable) (tree : IsTree layer) where
  abbrev Read : SpecEntries
  Read = (layer_at (behind_layer layer)).specs

  read_ordered : IsTable path_cmp Read
  unfolding IsStrictlySortedBy
  read_ordered = children_ordered layer.specs (behind_body layer.specs (length layer.specs)) (body_ordered layer.specs (length layer.specs)) [] layer.head.root_names (behind_front layer.head) tt

  same_at : (p : List Element) → spec_at p Read ≡ spec_at p layer.specs
  same_at p = by (spec_at p layer.specs) refl
    where
      none : (o : Option Spec) → spec_at p Read ≡ o → spec_at p layer.specs ≡ None → spec_at p Read ≡ None
      none None e h = e
      none (Some x) e h = absurd (let bad : Some x ≡ None = sym (specs_are_the_layers layer tree.whole p x e) ∙ h in cc)

      by : (o : Option Spec) → spec_at p layer.specs ≡ o → spec_at p Read ≡ spec_at p layer.specs
      by (Some s) e = reached_specs_are_read layer p tree.whole (tree.reached p s e)
      by None e = none (spec_at p Read) refl e ∙ sym e

  same_layer : layer_at (behind_layer layer) ≡ layer
  same_layer =
      let specs : Read ≡ layer.specs = same_tables path_cmp paths_total path_cmp_same Read layer.specs read_ordered tree.ordered same_at in
      let head : (layer_at (behind_layer layer)).head ≡ layer.head = heads_come_back layer (roots_there layer tree.whole) tree.default_prim in
      ap (λ (h : Head). record { head = h; specs = Read }) head ∙ ap (λ (s : SpecEntries). record { head = layer.head; specs = s }) specs

pub layers_come_back : LayersComeBack
layers_come_back layer writable kept tree refused_as =
    let t = texts_taken layer writable kept refused_as in
    (t.0, t.1, t.2 ∙ same_layer layer tree)
