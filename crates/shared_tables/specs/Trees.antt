-- The entries of a tree, in order.
use Rattle.std.specs.Prelude.{◌≡◌, List, [], ◌∷◌, ◌++◌, Option, Some, None}
use Rattle.std.specs.declared.alloc.Global.{Global}
use Rattle.std.specs.declared.sync.Arc.{Arc}
use Rattle.shared_tables.specs.declared.node.Node.{Node, fold-Node, out-Node}
use Rattle.shared_tables.specs.declared.node.Node.TheOpen.{Node-F}

module _ {K V : Type 0} where
  -- what stands in a part that may be empty
  abbrev pub part : Option (Arc (List (K × V)) Global) → List (K × V)
  part None = []
  part (Some es) = es.value

  -- the entry between what stands before and after it
  abbrev pub node_step : Node-F K V (List (K × V)) → List (K × V)
  node_step n = part n.before ++ n.entry ∷ part n.after

  -- the entries of a node
  abbrev pub entries : Node K V → List (K × V)
  entries = fold-Node K V (List (K × V)) node_step

  -- the entries of a tree that may be empty
  abbrev pub link_entries : Option (Arc (Node K V) Global) → List (K × V)
  link_entries None = []
  link_entries (Some n) = entries n.value

-- two nodes with one entry, and with equal entries before and after it
pub record IsSameNode {K V : Type 0} (x y : Node K V) : Type 0 where
  pub entry : (out-Node K V y).entry ≡ (out-Node K V x).entry
  pub before : link_entries (out-Node K V y).before ≡ link_entries (out-Node K V x).before
  pub after : link_entries (out-Node K V y).after ≡ link_entries (out-Node K V x).after
