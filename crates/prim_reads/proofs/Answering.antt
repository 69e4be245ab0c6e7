-- What the code answers is the list of what a path reads.
use Rattle.std.proofs.Common.{◌≡◌, ◌≢◌, refl, sym, ap, subst, ◌∙◌, ℕ, zero, suc, ◌-◌, ◌==◌, ◌&&◌, Bool, true, false, true≢false, List, [], ◌∷◌, ◌++◌, map, take, length, arith}
use Rattle.std.specs.List.{Contains, list_all}
use Rattle.std.specs.Prelude.{if◌then◌else◌}
use Rattle.std.proofs.lemmas.Bool.{eqb-true}
use Rattle.std.proofs.lemmas.List.{map-append}
use Rattle.sdf_paths.specs.declared.element.Element.{Element}
use Rattle.sdf_paths.specs.Paths.{is_prim_name}
use Rattle.composition.specs.Paths.{Path, limits, up}
use Rattle.composition.specs.World.{World, Root, is_loaded}
use Rattle.composition.specs.Stacks.{stack}
use Rattle.composition.specs.Nodes.{Node}
use Rattle.composition.specs.Trees.{Tree}
use Rattle.composition.specs.Compose.{stage_node}
use Rattle.composition.specs.Keys as keys
use Rattle.composition.specs.Keys.{head, prim_reads, reads}
use Rattle.layer_set.specs.LookUps.{look_ups}
use Rattle.layer_set.specs.Worlds.{WorldData}
use Rattle.layer_set.specs.declared.key.Key.{Key}
use Rattle.layer_set.specs.declared.key.Key.TheVariants.{Head}
use Rattle.key_sets.specs.Order.{in_order}
use Rattle.key_sets.proofs.Order.{keys_in_order}
use Rattle.prim_index.specs.Answer.{stage_tree_at}
use Rattle.prim_index.specs.Depths.{tree_below, full_tree}
use Rattle.prim_index.specs.Reading.{said}
use Rattle.prim_reads.specs.Gathered.{asked_heads, bodies_at, without_bodies, own_keys}
use Rattle.prim_reads.specs.Reads.{key_in, listed_reads}
use Rattle.prim_reads.proofs.AtNodes.{heads_are, asked_same, bodies_same}
use Rattle.prim_reads.proofs.Same.{Same, itself, through, joined, same_list}
use Rattle.prim_reads.proofs.Stage.{grown_at, top_tree, stage_tree_is, its_node, loads_read, nodes_read}
use Rattle.prim_reads.proofs.Whole.{taken_over, whole_same}

-- lists of the same keys are one in order
pub one_order : (xs ys : List Key) → Same xs ys → in_order xs ≡ in_order ys
one_order xs ys same =
    keys_in_order.one_list (in_order xs) (in_order ys) (keys_in_order.ordered xs) (keys_in_order.ordered ys)
    (λ k h. keys_in_order.all ys k (same.0 k (keys_in_order.only xs k h)))
    (λ k h. keys_in_order.all xs k (same.1 k (keys_in_order.only ys k h)))

not_one : (n : ℕ) → (suc (suc n) == 1) ≡ false
not_one n = by (suc (suc n) == 1) refl
  where
    by : (b : Bool) → (suc (suc n) == 1) ≡ b → b ≡ false
    by true is = let e : suc (suc n) ≡ 1 = eqb-true (suc (suc n)) 1 is in absurd (omega (arith, e))
    by false is = refl

plain_front : (k : ℕ) (p : Path) → list_all is_prim_name p ≡ true → list_all is_prim_name (take k p) ≡ true
plain_front zero p plain = refl
plain_front (suc k) [] plain = refl
plain_front (suc k) (e ∷ p) plain = by (is_prim_name e) (plain_front k p) plain
  where
    by : (b : Bool) → (list_all is_prim_name p ≡ true → list_all is_prim_name (take k p) ≡ true) → (b && list_all is_prim_name p) ≡ true → (b && list_all is_prim_name (take k p)) ≡ true
    by true rest h = rest h
    by false rest h = absurd (true≢false (sym h))

module _ (w : WorldData) where
  abbrev W : World
  W = look_ups w

  -- ---- `/`, and other paths

  pub root_listed : in_order (asked_heads W Root ++ bodies_at W Root []) ≡ listed_reads w []
  unfolding listed_reads
  root_listed =
      one_order (asked_heads W Root ++ bodies_at W Root []) (map key_in (reads limits W []))
      (through (asked_heads W Root ++ bodies_at W Root []) (map Head (stack limits W Root).asked ++ map key_in (keys.bodies_at limits W Root [])) (map key_in (reads limits W []))
      (joined (asked_heads W Root) (bodies_at W Root []) (map Head (stack limits W Root).asked) (map key_in (keys.bodies_at limits W Root [])) (asked_same W Root)
      (same_list (bodies_at W Root []) (map key_in (keys.bodies_at limits W Root [])) (bodies_same W Root [])))
      (same_list (map Head (stack limits W Root).asked ++ map key_in (keys.bodies_at limits W Root [])) (map key_in (reads limits W []))
      (sym (map-append key_in (map head (stack limits W Root).asked) (keys.bodies_at limits W Root [])
      ∙ ap (λ (ks : List Key). ks ++ map key_in (keys.bodies_at limits W Root [])) (heads_are (stack limits W Root).asked)))))

  pub other_listed : (p : Path) → p ≢ [] → list_all is_prim_name p ≡ false → [] ≡ listed_reads w p
  unfolding listed_reads
  other_listed [] below other = absurd (below refl)
  other_listed (e ∷ p) below other = sym (ap (λ (b : Bool). in_order (map key_in (elim b as (λ _. List keys.Key) [ true ↦ prim_reads limits W (e ∷ p) | false ↦ [] ]))) other)

  -- ---- prims

  prim_is : (e : Element) (p : Path) → list_all is_prim_name (e ∷ p) ≡ true → reads limits W (e ∷ p) ≡ prim_reads limits W (e ∷ p)
  prim_is e p plain = ap (λ (b : Bool). elim b as (λ _. List keys.Key) [ true ↦ prim_reads limits W (e ∷ p) | false ↦ [] ]) plain

  same_listed : (e : Element) (p : Path) → list_all is_prim_name (e ∷ p) ≡ true → Same (listed_reads w (e ∷ p)) (map key_in (prim_reads limits W (e ∷ p)))
  unfolding listed_reads
  same_listed e p plain =
      let read : List Key = map key_in (reads limits W (e ∷ p)) in
      through (in_order read) read (map key_in (prim_reads limits W (e ∷ p))) (keys_in_order.only read, keys_in_order.all read)
      (same_list read (map key_in (prim_reads limits W (e ∷ p))) (ap (λ (ks : List keys.Key). map key_in ks) (prim_is e p plain)))

  tree_is : (q : Path) (m : ℕ) (long : length q ≡ suc m) → stage_tree_at limits W q ≡ grown_at W (its_node W q m long)
  unfolding stage_tree_at
  tree_is q m long = stage_tree_is W q m long

  -- what is taken over from the prim above
  taken : (e : Element) (p : Path) → list_all is_prim_name (e ∷ p) ≡ true → (front : List Key)
      → front ≡ (if length (e ∷ p) == 1 then [] else without_bodies (listed_reads w (take (length p) (e ∷ p))))
      → Same front (loads_read (take (length p) (e ∷ p)) ++ nodes_read W (take (length p) (e ∷ p)))
  taken e [] plain front is = same_list front [] is
  taken e (x ∷ p) plain front is =
      let rest : Path = take (length p) (x ∷ p) in
      through front (without_bodies (listed_reads w (e ∷ rest))) (loads_read (e ∷ rest) ++ nodes_read W (e ∷ rest))
      (same_list front (without_bodies (listed_reads w (e ∷ rest)))
      (is ∙ ap (λ (b : Bool). if b then [] else without_bodies (listed_reads w (e ∷ rest))) (not_one (length p))))
      (taken_over W e rest (plain_front (suc (length p)) (e ∷ x ∷ p) plain) (listed_reads w (e ∷ rest)) (same_listed e rest (plain_front (suc (length p)) (e ∷ x ∷ p) plain)))

  prim_listed : (e : Element) (p : Path) → list_all is_prim_name (e ∷ p) ≡ true → (t : Tree) → t ≡ stage_tree_at limits W (e ∷ p) → (front : List Key)
      → front ≡ (if length (e ∷ p) == 1 then [] else without_bodies (listed_reads w (take (length p) (e ∷ p))))
      → in_order (front ++ own_keys W (e ∷ p) t) ≡ listed_reads w (e ∷ p)
  unfolding listed_reads
  prim_listed e p plain t is front made =
      ap (λ (x : Tree). in_order (front ++ own_keys W (e ∷ p) x)) (is ∙ tree_is (e ∷ p) (length p) refl)
      ∙ one_order (front ++ own_keys W (e ∷ p) (grown_at W (its_node W (e ∷ p) (length p) refl))) (map key_in (prim_reads limits W (e ∷ p))) (whole_same W e p plain front (taken e p plain front made))
      ∙ sym (ap (λ (ks : List keys.Key). in_order (map key_in ks)) (prim_is e p plain))

  pub listed_by : (q : Path) → q ≢ [] → list_all is_prim_name q ≡ true → (t : Tree) → t ≡ stage_tree_at limits W q → (front above : List Key)
      → above ≡ listed_reads w (up q 1) → front ≡ (if length q == 1 then [] else without_bodies above) → in_order (front ++ own_keys W q t) ≡ listed_reads w q
  listed_by [] below plain t is front above lists made = absurd (below refl)
  listed_by (e ∷ p) below plain t is front above lists made =
      let less : length (e ∷ p) - 1 ≡ length p = omega arith in
      prim_listed e p plain t is front
      (made ∙ ap (λ (ks : List Key). if length (e ∷ p) == 1 then [] else without_bodies ks) (lists ∙ ap (λ (n : ℕ). listed_reads w (take n (e ∷ p))) less))
