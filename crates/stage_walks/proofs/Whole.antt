-- What is on the stage: `/` and every name that a prim on it lists.
use Rattle.std.proofs.Common.{◌≡◌, ◌⊎◌, inl, inr, sym, ap, ◌∙◌, subst, ℕ, zero, suc, ◌+◌, ◌≤◌, List, [], flat_map, Contains, arith}
use Rattle.sdf_paths.specs.Paths.{depth}
use Rattle.composition.specs.Texts.{Text}
use Rattle.composition.specs.Paths.{Path, Limits}
use Rattle.composition.specs.World.{World}
use Rattle.composition.specs.Fields.{child_path}
use Rattle.composition.specs.Views.{PrimView, view, walked}
use Rattle.stage_walks.specs.Laws.{IsListed, StageIsWhole}
use Rattle.stage_walks.proofs.Members.{joined_in, in_joined}
use Rattle.stage_walks.proofs.Deep.{fewer_left, within, lists_none, no_deeper}
use Rattle.composition.proofs.Members.{none_in, head_in, tail_in, only_in, cases_in}

module _ (l : Limits) (w : World) where
  -- a path with its view
  abbrev here : Path → Path × PrimView
  here p = (p, view l w p)

  -- what a child has on the stage, so many names deep
  abbrev below : ℕ → Path → Text → List (Path × PrimView)
  below names p name = walked l w names (child_path p name)

  begins : (names : ℕ) (p : Path) → Contains (walked l w names p) (here p)
  begins zero p = head_in (here p) []
  begins (suc names) p = head_in (here p) (flat_map (below names p) (view l w p).children)

  -- what is on the list below a child is on the list
  passed_on : (names : ℕ) (p : Path) (name : Text) (e : Path × PrimView) → Contains (view l w p).children name → Contains (below names p name) e
      → Contains (walked l w (suc names) p) e
  passed_on names p name e child there =
      tail_in (here p) (flat_map (below names p) (view l w p).children) e (joined_in (below names p) (view l w p).children name e child there)

  -- ---- views

  same_view : (p q : Path) (v : PrimView) → here p ≡ (q, v) → v ≡ view l w q
  same_view p q v same = sym (ap (λ (e : Path × PrimView). e.1) same) ∙ ap (λ (e : Path × PrimView). view l w e.0) same

  views : (names : ℕ) (p q : Path) (v : PrimView) → Contains (walked l w names p) (q, v) → v ≡ view l w q
  views zero p q v on = same_view p q v (only_in (here p) (q, v) on)
  views (suc names) p q v on = by (λ name. views names (child_path p name) q v) (cases_in (here p) (flat_map (below names p) (view l w p).children) (q, v) on)
    where
      by : ((name : Text) → Contains (below names p name) (q, v) → v ≡ view l w q) → (here p ≡ (q, v)) ⊎ Contains (flat_map (below names p) (view l w p).children) (q, v) → v ≡ view l w q
      by deeper (inl same) = same_view p q v same
      by deeper (inr more) = let one = in_joined (below names p) (view l w p).children (q, v) more in deeper one.0 one.2

  -- ---- what is listed

  its_children : (p q : Path) (v : PrimView) → here p ≡ (q, v) → v.children ≡ (view l w p).children
  its_children p q v same = sym (ap (λ (e : Path × PrimView). e.1.children) same)

  listed : (names : ℕ) (p q : Path) (v : PrimView) (name : Text) → l.names ≤ depth p + names → Contains (walked l w names p) (q, v) → Contains v.children name
      → Contains (walked l w names p) (here (child_path q name))
  listed zero p q v name enough on child =
      let none : v.children ≡ [] = its_children p q v (only_in (here p) (q, v) on) ∙ lists_none l w p (omega (arith, enough)) in
      absurd (none_in name (subst (λ (names : List Text). Contains names name) none child))
  listed (suc names) p q v name enough on child =
      by (λ n. listed names (child_path p n) q v name (fewer_left l.names names p n enough)) (cases_in (here p) (flat_map (below names p) (view l w p).children) (q, v) on)
    where
      by : ((n : Text) → Contains (below names p n) (q, v) → Contains v.children name → Contains (below names p n) (here (child_path q name)))
          → (here p ≡ (q, v)) ⊎ Contains (flat_map (below names p) (view l w p).children) (q, v) → Contains (walked l w (suc names) p) (here (child_path q name))
      by deeper (inl same) =
          let mine : Contains (view l w p).children name = subst (λ (names : List Text). Contains names name) (its_children p q v same) child in
          subst (λ (e : Path × PrimView). Contains (walked l w (suc names) p) (here (child_path e.0 name))) same
          (passed_on names p name (here (child_path p name)) mine (begins names (child_path p name)))
      by deeper (inr more) =
          let one = in_joined (below names p) (view l w p).children (q, v) more in
          passed_on names p one.0 (here (child_path q name)) one.1 (deeper one.0 one.2 child)

  -- ---- and nothing else

  nothing_else : (names : ℕ) (p q : Path) (v : PrimView) → Contains (walked l w names p) (q, v) → (q ≡ p) ⊎ IsListed (walked l w names p) q
  nothing_else zero p q v on = inl (sym (ap (λ (e : Path × PrimView). e.0) (only_in (here p) (q, v) on)))
  nothing_else (suc names) p q v on =
      by (λ n. nothing_else names (child_path p n) q v) (cases_in (here p) (flat_map (below names p) (view l w p).children) (q, v) on)
    where
      further : (n : Text) → Contains (view l w p).children n → (q ≡ child_path p n) ⊎ IsListed (below names p n) q → IsListed (walked l w (suc names) p) q
      further n child (inl same) = record {
        owner = p;
        owner_view = view l w p;
        name = n;
        on_it = begins (suc names) p;
        lists = child;
        is_child = same;
      }
      further n child (inr is) = record {
        owner = is.owner;
        owner_view = is.owner_view;
        name = is.name;
        on_it = passed_on names p n (is.owner, is.owner_view) child is.on_it;
        lists = is.lists;
        is_child = is.is_child;
      }

      by : ((n : Text) → Contains (below names p n) (q, v) → (q ≡ child_path p n) ⊎ IsListed (below names p n) q)
          → (here p ≡ (q, v)) ⊎ Contains (flat_map (below names p) (view l w p).children) (q, v) → (q ≡ p) ⊎ IsListed (walked l w (suc names) p) q
      by deeper (inl same) = inl (sym (ap (λ (e : Path × PrimView). e.0) same))
      by deeper (inr more) = let one = in_joined (below names p) (view l w p).children (q, v) more in inr (further one.0 one.1 (deeper one.0 one.2))

pub stage_is_whole : StageIsWhole
stage_is_whole = record {
  within = within;
  no_deeper = λ l w p names deeper enough more. no_deeper l w names deeper p enough more;
  root = λ l w. begins l w l.names [];
  views = λ l w p v on. views l w l.names [] p v on;
  listed = λ l w p v name on child. listed l w l.names [] p v name (omega arith) on child;
  nothing_else = λ l w p v on. nothing_else l w l.names [] p v on;
}
