-- The tree stays sound: an owner begins, has a set more, and ends.
use Rattle.std.proofs.Common.{◌≡◌, ◌∙◌, ℕ, ◌+◌, ◌<◌, Bool, true, false, ◌||◌, List, [], ◌∷◌, ◌++◌, length, Option, Some, ap, sym, refl, subst, arith}
use Rattle.std.specs.List.{IsDistinct}
use Rattle.std.proofs.lemmas.Bool.{or_right, or_left, false_from_ne_true, or_parts}
use Rattle.plain_data.specs.Ends.{last}
use Rattle.sdf_paths.specs.DerivedOrder.{path_cmp_same}
use Rattle.sdf_paths.specs.Order.{path_cmp}
use Rattle.sdf_paths.specs.Paths.{parent}
use Rattle.sdf_paths.specs.declared.element.Element.{Element}
use Rattle.sdf_paths.specs.declared.element.Element.TheVariants.{Prim}
use Rattle.sdf_specs.proofs.PathLemmas.{finds_itself, same_path}
use Rattle.sdf_specs.specs.Layers.{LayerTable, SpecEntries, with_spec, has_parent, is_owner}
use Rattle.shared_tables.proofs.Order.{table_with}
use Rattle.spec_parts.specs.declared.items.Specifier.{Specifier}
use Rattle.spec_parts.specs.declared.items.VariantSet.{VariantSet}
use Rattle.spec_parts.specs.declared.spec.Spec.{Spec}
use Rattle.spec_properties.specs.Properties.{AreProperties}
use Rattle.spec_properties.specs.declared.property.Property.{Property}
use Rattle.value_texts.specs.Each.{AreAll}
use Rattle.value_texts.proofs.EachOf.{all_so}
use Rattle.trees_read.specs.Names.{IsPlace, AreNamesBelow, AreBelow, IsVariantOf}
use Rattle.trees_read.specs.Trees.{has_spec, IsPlaced, IsProperTree, Frame, Tree, is_one, is_open_at, stands, AreChained, IsFrame, IsSound}
use Rattle.trees_read.proofs.Names.{names_by, below_by, none_below}
use Rattle.trees_read.proofs.Paths.{paths_total, all_both, either, or_false, push_front, one_apart, longer, parent_push, ends_so, some_with, all_with, all_found}

-- ---- how long the paths of owners are

pub shorter : (o : Frame) (rest : List Frame) → AreChained (o ∷ rest) → AreAll (λ r. length r.path < length o.path) rest
shorter o [] h = tt
shorter o (p ∷ rest) h =
    let one : length o.path ≡ length p.path + 1 = ap length h.0.1 ∙ longer p.path h.0.0 in
    (omega arith, all_so (λ r. length r.path < length p.path) (λ r. length r.path < length o.path) (λ r l. omega arith) rest (shorter p rest h.2))

pub none_open : (owners : List Frame) (q : List Element) → AreAll (λ r. length r.path < length q) owners → is_open_at owners q ≡ false
none_open [] q h = refl
none_open (o ∷ owners) q h =
    ap (λ b. b || is_open_at owners q) (one_apart q o.path (λ same. let l : length q ≡ length o.path = ap length same in let less : length o.path < length q = h.0 in absurd (omega arith))) ∙ none_open owners q h.1

-- ---- an owner in another state, at the same path

-- the frame with other names, and the same path and form
abbrev pub renamed : Frame → List (List ℕ) → List VariantSet → List (List ℕ × Bool) → List ℕ → Frame
renamed o child_names sets index set = record o { children = child_names; sets = sets; set_names = index; set = set }

module _ (specs : SpecEntries) (o : Frame) (rest : List Frame) (child_names : List (List ℕ)) (sets : List VariantSet) (index : List (List ℕ × Bool)) (set : List ℕ) where
  abbrev other : Frame
  other = renamed o child_names sets index set

  rechained : (r : List Frame) → AreChained (o ∷ r) → AreChained (other ∷ r)
  rechained [] h = h
  rechained (p ∷ r) h = (h.0, h.1, h.2)

  pub changed : IsSound (record { specs = specs; owners = o ∷ rest }) → IsFrame other → AreBelow (stands (record { specs = specs; owners = o ∷ rest })) o.path child_names sets → IsSound (record { specs = specs; owners = other ∷ rest })
  changed h frame below = record {
    closed = h.closed;
    opened = record { chained = rechained rest h.opened.chained; new = h.opened.new; frames = (frame, h.opened.frames.1) };
    owned = record { owned = h.owned.owned; closed = h.owned.closed; opened = (below, h.owned.opened.1) };
  }

-- the frame with other properties
abbrev pub with_properties : Frame → List Property → Frame
with_properties o properties = record o { properties = properties }

module _ (specs : SpecEntries) (o : Frame) (rest : List Frame) (properties : List Property) where
  chained_still : (r : List Frame) → AreChained (o ∷ r) → AreChained (with_properties o properties ∷ r)
  chained_still [] h = h
  chained_still (p ∷ r) h = (h.0, h.1, h.2)

  pub properties_changed : IsSound (record { specs = specs; owners = o ∷ rest }) → AreProperties properties → IsSound (record { specs = specs; owners = with_properties o properties ∷ rest })
  properties_changed h once =
      let f : IsFrame o = h.opened.frames.0 in
      record {
        closed = h.closed;
        opened = record {
          chained = chained_still rest h.opened.chained;
          new = h.opened.new;
          frames = (record { indexed = f.indexed; last_set = f.last_set; variant = f.variant; once = once }, h.opened.frames.1);
        };
        owned = record { owned = h.owned.owned; closed = h.owned.closed; opened = h.owned.opened };
      }

-- ---- an owner begins

none_once : AreProperties []
unfolding IsDistinct
none_once = tt

-- the frame of an owner of which nothing is said
abbrev pub new_frame : List Element → Specifier → Option (List ℕ) → Frame
new_frame path specifier type_name = record { path = path; specifier = specifier; type_name = type_name; children = []; properties = []; sets = []; set_names = []; set = [] }

grows : (a b d e : Bool) → (a || (b || (d || e))) ≡ ((a || (d || e)) || b)
grows true b d e = refl
grows false true true e = refl
grows false true false true = refl
grows false true false false = refl
grows false false d e = sym (or_false (d || e) false refl)

module _ (specs : SpecEntries) (o : Frame) (rest : List Frame) (child_names : List (List ℕ)) (sets : List VariantSet) (e : Element) (specifier : Specifier) (type_name : Option (List ℕ)) where
  abbrev before : Tree
  before = record { specs = specs; owners = o ∷ rest }

  abbrev outside : Frame
  outside = renamed o child_names sets o.set_names o.set

  abbrev inner : Frame
  inner = new_frame (o.path ++ e ∷ []) specifier type_name

  abbrev behind : Tree
  behind = record { specs = specs; owners = inner ∷ outside ∷ rest }

  pub grown : (q : List Element) → stands behind q ≡ (stands before q || is_one q (o.path ++ e ∷ []))
  grown q = grows (has_spec specs q) (is_one q (o.path ++ e ∷ [])) (is_one q o.path) (is_open_at rest q)

  module _ (sound : IsSound before) (free : stands before (o.path ++ e ∷ []) ≡ false) where
    elsewhere : (p : List Element) → (p ≡ o.path → ⊥) → (x : Element) → stands behind (p ++ x ∷ []) ≡ stands before (p ++ x ∷ [])
    elsewhere p apart x = grown (p ++ x ∷ []) ∙ or_false (stands before (p ++ x ∷ [])) (is_one (p ++ x ∷ []) (o.path ++ e ∷ [])) (one_apart (p ++ x ∷ []) (o.path ++ e ∷ []) (λ h. apart (push_front p o.path x e h)))

    o_stands : stands before o.path ≡ true
    o_stands = or_right (has_spec specs o.path) (is_open_at (o ∷ rest) o.path) (or_left (is_one o.path o.path) (is_open_at rest o.path) (finds_itself o.path))

    still : (q : List Element) → stands before q ≡ true → stands behind q ≡ true
    still q h = grown q ∙ or_left (stands before q) (is_one q (o.path ++ e ∷ [])) h

    owned_more : (path : List Element) (x : Element) → stands behind (path ++ x ∷ []) ≡ true → stands behind path ≡ true
    owned_more path x h =
        either (stands before (path ++ x ∷ [])) (is_one (path ++ x ∷ []) (o.path ++ e ∷ [])) (sym (grown (path ++ x ∷ [])) ∙ h)
        (λ old. still path (sound.owned.owned path x old))
        (λ one. subst (λ p. stands behind p ≡ true) (sym (push_front path o.path x e (same_path (path ++ x ∷ []) (o.path ++ e ∷ []) one))) (still o.path o_stands))

    nothing_inside : (x : Element) → stands behind ((o.path ++ e ∷ []) ++ x ∷ []) ≡ false
    nothing_inside x =
        false_from_ne_true (stands behind ((o.path ++ e ∷ []) ++ x ∷ []))
        (λ h. either (stands before ((o.path ++ e ∷ []) ++ x ∷ [])) (is_one ((o.path ++ e ∷ []) ++ x ∷ []) (o.path ++ e ∷ [])) (sym (grown ((o.path ++ e ∷ []) ++ x ∷ [])) ∙ h)
        (λ old. let there : stands before (o.path ++ e ∷ []) ≡ true = sound.owned.owned (o.path ++ e ∷ []) x old in let bad : true ≡ false = sym there ∙ free in absurd cc)
        (λ one.
        let l : length ((o.path ++ e ∷ []) ++ x ∷ []) ≡ length (o.path ++ e ∷ []) = ap length (same_path ((o.path ++ e ∷ []) ++ x ∷ []) (o.path ++ e ∷ []) one) in
        let m : length ((o.path ++ e ∷ []) ++ x ∷ []) ≡ length (o.path ++ e ∷ []) + 1 = longer (o.path ++ e ∷ []) x in
        absurd (omega arith)))

    not_owner : (p : List Element) → has_spec specs p ≡ true → p ≡ o.path → ⊥
    not_owner p there same = let none : has_spec specs o.path ≡ false = sound.opened.new.0 in let bad : true ≡ false = sym there ∙ ap (has_spec specs) same ∙ none in absurd cc

    chain_more : (r : List Frame) → AreChained (o ∷ r) → AreChained (outside ∷ r)
    chain_more [] h = h
    chain_more (p ∷ r) h = (h.0, h.1, h.2)

    pub begun : IsPlace (o.path ++ e ∷ []) → IsFrame outside → IsVariantOf (last (o.path ++ e ∷ [])) specifier type_name → AreBelow (stands behind) o.path child_names sets → IsSound behind
    begun place frame variant below = record {
      closed = sound.closed;
      opened = record {
        chained = ((e, refl), place, chain_more rest sound.opened.chained);
        new = ((or_parts (has_spec specs (o.path ++ e ∷ [])) (is_open_at (o ∷ rest) (o.path ++ e ∷ [])) free).0, (sound.opened.new.0, sound.opened.new.1));
        frames = (record { indexed = λ name. refl; last_set = refl; variant = variant; once = none_once }, (frame, sound.opened.frames.1));
      };
      owned = record {
        owned = owned_more;
        closed =
            all_both (λ f. has_spec specs f.0 ≡ true) (λ f. AreBelow (stands before) f.0 f.1.body.children f.1.body.variant_names) (λ f. AreBelow (stands behind) f.0 f.1.body.children f.1.body.variant_names)
            (λ f there h. below_by (stands before) (stands behind) f.0 f.1.body.children f.1.body.variant_names (elsewhere f.0 (not_owner f.0 there)) h) specs (all_found path_cmp path_cmp_same finds_itself specs) sound.owned.closed;
        opened = (
          none_below (stands behind) (o.path ++ e ∷ []) nothing_inside,
          (
            below,
            all_both (λ r. length r.path < length o.path) (λ r. AreBelow (stands before) r.path r.children r.sets) (λ r. AreBelow (stands behind) r.path r.children r.sets)
                (λ r less h. below_by (stands before) (stands behind) r.path r.children r.sets (elsewhere r.path (λ same. let l : length r.path ≡ length o.path = ap length same in absurd (omega arith))) h)
                rest (shorter o rest sound.opened.chained) sound.owned.opened.1,
          ),
        );
      };
    }

-- ---- an owner ends

moves : (a b c : Bool) → ((b || a) || c) ≡ (a || (b || c))
moves true true c = refl
moves true false c = refl
moves false true c = refl
moves false false c = refl

module _ (specs : SpecEntries) (o p : Frame) (rest : List Frame) (spec : Spec) where
  abbrev open_still : Tree
  open_still = record { specs = specs; owners = o ∷ p ∷ rest }

  abbrev over : Tree
  over = record { specs = with_spec o.path spec specs; owners = p ∷ rest }

  spec_stands : (q : List Element) → has_spec (with_spec o.path spec specs) q ≡ (is_one q o.path || has_spec specs q)
  spec_stands q = some_with path_cmp path_cmp_same q o.path spec specs

  stays : (q : List Element) → stands over q ≡ stands open_still q
  stays q = ap (λ b. b || is_open_at (p ∷ rest) q) (spec_stands q) ∙ moves (has_spec specs q) (is_one q o.path) (is_open_at (p ∷ rest) q)

  pub ended : IsSound open_still → spec.body.children ≡ o.children → spec.body.variant_names ≡ o.sets → spec.body.specifier ≡ o.specifier → spec.body.type_name ≡ o.type_name → spec.body.properties ≡ o.properties → IsSound over
  ended sound child_names sets specifier type_name properties = record {
    closed = record {
      ordered = table_with paths_total o.path spec specs sound.closed.ordered;
      places = all_with path_cmp path_cmp_same (λ f. IsPlace f.0) o.path spec specs sound.closed.places sound.opened.chained.1;
      variants =
          all_with path_cmp path_cmp_same (λ f. IsVariantOf (last f.0) f.1.body.specifier f.1.body.type_name) o.path spec specs sound.closed.variants
          (subst (λ t. IsVariantOf (last o.path) spec.body.specifier t) (sym type_name) (subst (λ s. IsVariantOf (last o.path) s o.type_name) (sym specifier) sound.opened.frames.0.variant));
      once = all_with path_cmp path_cmp_same (λ f. AreProperties f.1.body.properties) o.path spec specs sound.closed.once (subst AreProperties (sym properties) sound.opened.frames.0.once);
    };
    opened = record {
      chained = sound.opened.chained.2;
      new = all_both (λ r. length r.path < length o.path) (λ r. has_spec specs r.path ≡ false) (λ r. has_spec (with_spec o.path spec specs) r.path ≡ false) (λ r less none. not_new r less none) (p ∷ rest) (shorter o (p ∷ rest) sound.opened.chained) sound.opened.new.1;
      frames = sound.opened.frames.1;
    };
    owned = record {
      owned = λ path e h. stays path ∙ sound.owned.owned path e (sym (stays (path ++ e ∷ [])) ∙ h);
      closed =
          all_with path_cmp path_cmp_same (λ f. AreBelow (stands over) f.0 f.1.body.children f.1.body.variant_names) o.path spec specs
          (all_so (λ f. AreBelow (stands open_still) f.0 f.1.body.children f.1.body.variant_names) (λ f. AreBelow (stands over) f.0 f.1.body.children f.1.body.variant_names)
          (λ f h. below_by (stands open_still) (stands over) f.0 f.1.body.children f.1.body.variant_names (λ e. stays (f.0 ++ e ∷ [])) h) specs sound.owned.closed)
          (subst (λ s. AreBelow (stands over) o.path spec.body.children s) (sym sets) (subst (λ c. AreBelow (stands over) o.path c o.sets) (sym child_names)
          (below_by (stands open_still) (stands over) o.path o.children o.sets (λ e. stays (o.path ++ e ∷ [])) sound.owned.opened.0)));
      opened =
          all_so (λ r. AreBelow (stands open_still) r.path r.children r.sets) (λ r. AreBelow (stands over) r.path r.children r.sets)
          (λ r h. below_by (stands open_still) (stands over) r.path r.children r.sets (λ e. stays (r.path ++ e ∷ [])) h) (p ∷ rest) sound.owned.opened.1;
    };
  }
    where
      not_new : (r : Frame) → length r.path < length o.path → has_spec specs r.path ≡ false → has_spec (with_spec o.path spec specs) r.path ≡ false
      not_new r less none = spec_stands r.path ∙ ap (λ b. b || has_spec specs r.path) (one_apart r.path o.path (λ same. let l : length r.path ≡ length o.path = ap length same in absurd (omega arith))) ∙ none

-- ---- nothing is open but the layer

module _ (layer : LayerTable) (root : Frame) (sound : IsSound (record { specs = layer.specs; owners = root ∷ [] })) (names : layer.head.root_names ≡ root.children) where
  abbrev whole : Tree
  whole = record { specs = layer.specs; owners = root ∷ [] }

  -- what is known of an entry besides its place
  record Said (f : List Element × Spec) : Type 0 where
    pub variant : IsVariantOf (last f.0) f.1.body.specifier f.1.body.type_name
    pub once : AreProperties f.1.body.properties
    pub below : AreBelow (stands whole) f.0 f.1.body.children f.1.body.variant_names

  below_root : (q : List Element) (x : Element) → stands whole (q ++ x ∷ []) ≡ has_spec layer.specs (q ++ x ∷ [])
  below_root q x =
      or_false (has_spec layer.specs (q ++ x ∷ [])) (is_one (q ++ x ∷ []) root.path || false)
      (ap (λ b. b || false) (one_apart (q ++ x ∷ []) root.path (λ same.
      let l : length (q ++ x ∷ []) ≡ length root.path = ap length same in
      let m : length (q ++ x ∷ []) ≡ length q + 1 = longer q x in
      let none : length root.path ≡ 0 = ap length sound.opened.chained in
      absurd (omega arith))))

  has_owner : (path : List Element) → IsPlace path → has_spec layer.specs path ≡ true → has_parent path layer.specs ≡ true
  has_owner path place there = by (ends_so path place.below_root)
    where
      empty_or : (q : List Element) → stands whole q ≡ true → is_owner (Some q) layer.specs ≡ true
      empty_or [] h = refl
      empty_or (x ∷ q) h = either (has_spec layer.specs (x ∷ q)) (is_one (x ∷ q) root.path || false) h (λ s. s)
          (λ one. either (is_one (x ∷ q) root.path) false one (λ o. let same : x ∷ q ≡ [] = same_path (x ∷ q) root.path o ∙ sound.opened.chained in absurd cc) (λ f. absurd cc))

      by : (q : List Element) × (e : Element) × (path ≡ q ++ e ∷ []) → has_parent path layer.specs ≡ true
      by (q, e, is) = ap (λ p. is_owner (parent p) layer.specs) is ∙ ap (λ o. is_owner o layer.specs) (parent_push q e) ∙ empty_or q (sound.owned.owned q e (below_root q e ∙ sym (ap (has_spec layer.specs) is) ∙ there))

  pub proper : IsProperTree layer
  proper = record {
    ordered = sound.closed.ordered;
    roots = subst (λ n. AreNamesBelow (has_spec layer.specs) [] Prim n) (sym names)
        (names_by (stands whole) (has_spec layer.specs) [] Prim root.children (λ n. sym (below_root [] (Prim n))) (subst (λ p. AreNamesBelow (stands whole) p Prim root.children) sound.opened.chained sound.owned.opened.0.children));
    entries =
        all_both (λ f. (has_spec layer.specs f.0 ≡ true) × IsPlace f.0) Said (λ f. IsPlaced layer.specs f.0 f.1)
        (λ f a b.
        let below : AreBelow (has_spec layer.specs) f.0 f.1.body.children f.1.body.variant_names = below_by (stands whole) (has_spec layer.specs) f.0 f.1.body.children f.1.body.variant_names (λ e. sym (below_root f.0 e)) b.below in
        record { place = a.1; owned = has_owner f.0 a.1 a.0; variant = b.variant; children = below.children; sets = below.sets; once = b.once })
        layer.specs
        (all_both (λ f. has_spec layer.specs f.0 ≡ true) (λ f. IsPlace f.0) (λ f. (has_spec layer.specs f.0 ≡ true) × IsPlace f.0) (λ f a b. (a, b)) layer.specs (all_found path_cmp path_cmp_same finds_itself layer.specs) sound.closed.places)
        (all_both (λ f. IsVariantOf (last f.0) f.1.body.specifier f.1.body.type_name × AreProperties f.1.body.properties) (λ f. AreBelow (stands whole) f.0 f.1.body.children f.1.body.variant_names) Said (λ f a b. record { variant = a.0; once = a.1; below = b }) layer.specs
        (all_both (λ f. IsVariantOf (last f.0) f.1.body.specifier f.1.body.type_name) (λ f. AreProperties f.1.body.properties) (λ f. IsVariantOf (last f.0) f.1.body.specifier f.1.body.type_name × AreProperties f.1.body.properties) (λ f a b. (a, b)) layer.specs sound.closed.variants sound.closed.once)
        sound.owned.closed);
  }
