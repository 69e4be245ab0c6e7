-- A node that is one's own, and what an exchange in one of its parts makes of it.
use Rattle.std.proofs.Common.{◌≡◌, ◌⊎◌, ◌<◌, ◌^◌, ◌++◌, ◌∷◌, length, ℕ, List, Option, None, Some, Result, Ok, Err, OnOk, OnErr, IsOk, subst, refl, sym, ap, ◌∙◌, inl, inr}
use Rattle.std.specs.declared.alloc.Global.{Global}
use Rattle.std.specs.declared.sync.Arc.{Arc}
use Rattle.shared_tables.specs.declared.node.Node.{Node, out-Node, roll-Node, fold-roll-Node}
use Rattle.shared_tables.specs.Trees.{entries, link_entries, node_step, IsSameNode}
use Rattle.std.specs.declared.cmp.Ordering.{Ordering}
use Rattle.spec_tables.specs.Tables.{IsTable, with_value}
use Rattle.shared_tables.proofs.Counts.{holds_value}
use Rattle.shared_tables.proofs.Nodes.{node_is}

module _ {K V : Type 0} where
  -- the entries of a node, by the parts of one that is the same or a copy of it
  pub parts_of : (a n : Node K V) → (n ≡ a) ⊎ IsSameNode a n → entries a ≡ link_entries (out-Node K V n).before ++ (out-Node K V n).entry ∷ link_entries (out-Node K V n).after
  parts_of a n (inl same) = ap entries (sym same) ∙ node_is n
  parts_of a n (inr copy) = node_is a ∙ rw (copy.before, copy.entry, copy.after) refl

  pub same_entries : (a n : Node K V) → (n ≡ a) ⊎ IsSameNode a n → entries n ≡ entries a
  same_entries a n h = node_is n ∙ sym (parts_of a n h)

  -- the entries of a tree, by the parts of its top node made one's own
  pub tree_parts : (t : Option (Arc (Node K V) Global)) (a : Arc (Node K V) Global) (n : Node K V) → t ≡ Some a → (n ≡ a.value) ⊎ IsSameNode a.value n
      → link_entries t ≡ link_entries (out-Node K V n).before ++ (out-Node K V n).entry ∷ link_entries (out-Node K V n).after
  tree_parts t a n top h = ap link_entries top ∙ parts_of a.value n h

  -- a node that is lent with other parts
  pub lent : (v : Node K V) (e : K × V) (h : ℕ) (b a : Option (Arc (Node K V) Global)) → v ≡ roll-Node K V (record { entry = e; height = h; before = b; after = a })
      → entries v ≡ link_entries b ++ e ∷ link_entries a
  lent v e h None None is = ap entries is ∙ fold-roll-Node K V (List (K × V)) node_step (record { entry = e; height = h; before = None; after = None })
  lent v e h None (Some q) is = ap entries is ∙ fold-roll-Node K V (List (K × V)) node_step (record { entry = e; height = h; before = None; after = Some q })
  lent v e h (Some p) None is = ap entries is ∙ fold-roll-Node K V (List (K × V)) node_step (record { entry = e; height = h; before = Some p; after = None })
  lent v e h (Some p) (Some q) is = ap entries is ∙ fold-roll-Node K V (List (K × V)) node_step (record { entry = e; height = h; before = Some p; after = Some q })

-- what holds whatever was answered
pub any_ok : {A E X : Type 0} (r : Result A E) → X → OnOk r X
any_ok (Ok a) x = x
any_ok (Err e) x = tt

pub any_err : {A E X : Type 0} (r : Result A E) → X → OnErr r X
any_err (Ok a) x = tt
any_err (Err e) x = x

-- what a refusal and an answer say of a call's result
pub failed : {A E X : Type 0} (r : Result A E) (e : E) → r ≡ Err e → OnErr r X → X
failed {A} {E} {X} r e is h = subst (λ (s : Result A E). OnErr s X) is h

pub answered : {A E : Type 0} (r : Result A E) (a : A) → r ≡ Ok a → IsOk r
answered {A} {E} r a is = subst (λ (s : Result A E). IsOk s) (sym is) refl

-- what holds of a table with its count behind an exchange, whatever was answered
pub holds_exchanged : {K V A E : Type 0} (R : K → K → Ordering) (k : K) (v : V) (es w : List (K × V)) (n : ℕ) (r : Result A E) → IsTable R es → n ≡ length es → n < 2 ^ 63
    → (IsTable R es → OnOk r (w ≡ with_value R k v es)) → OnErr r (w ≡ es) → IsTable R w × (n ≡ length w) × (n < 2 ^ 63)
holds_exchanged R k v es w n (Ok a) order count bound done left = holds_value R k es w n order count bound v (done order)
holds_exchanged {K} {V} R k v es w n (Err e) order count bound done left =
    subst (λ (t : List (K × V)). IsTable R t × (n ≡ length t) × (n < 2 ^ 63)) (sym left) (order, count, bound)
