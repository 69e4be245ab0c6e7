-- New layers, load rules, and batches. Beside each example stands the line of a script that says so.
use Rattle.std.specs.Prelude.{◌≡◌, true, false, [], ◌∷◌, codes, None, Ok, Err}
use Rattle.edit_batches.specs.declared.fault.EditFault.TheVariants.{LayerThere, RootLayer, WrongPath, NoSpec}
use Rattle.edit_batches.specs.declared.op.Op.TheVariants as op
use Rattle.layer_apply.specs.Edits.{edited, edit}
use Rattle.layer_set.specs.declared.held.Held.TheVariants.{Present, Absent}
use Rattle.spec_parts.specs.declared.items.Specifier.TheVariants.{Def}
use Rattle.edit_examples.specs.Prims.{nothing}
use Rattle.edit_examples.specs.Worlds.{a, a_k, a_chosen, b, start, root, world, Fails}

pub record WorldsAreTold : Type 0 where
  -- `newlayer @m.usda@`: an empty layer
  pub new_layer : edited (op.NewLayer (codes "m.usda") None) (world start) ≡ Ok (record (world start) { layers = (codes "m.usda", Present nothing) ∷ (root, Present start) ∷ [] })
  -- `newlayer @root.usda@`
  pub layer_there : Fails (op.NewLayer root None) start LayerThere
  -- `open @root.usda@`, where its file is gone: the world keeps its root layer
  pub no_root : Fails (op.PutLayer root Absent) start RootLayer
  -- `open @m.usda@`, where its file is gone
  pub gone : edited (op.PutLayer (codes "m.usda") Absent) (world start) ≡ Ok (record (world start) { layers = (codes "m.usda", Absent) ∷ (root, Present start) ∷ [] })
  -- `unload /A/k`, then `load /A/k` and `unrule /A/k`: the last rule counts, whether a prim is there or not
  pub unloaded : edited (op.Unload a_k) (world start) ≡ Ok (record (world start) { rules = (a_k, false) ∷ [] })
  pub loaded : edited (op.Load a_k) (record (world start) { rules = (a_k, false) ∷ [] }) ≡ Ok (record (world start) { rules = (a_k, true) ∷ [] })
  pub unruled : edited (op.Unrule a_k) (record (world start) { rules = (a, false) ∷ (a_k, true) ∷ [] }) ≡ Ok (record (world start) { rules = (a, false) ∷ [] })
  -- `load /` and `load /A{s=v}`: rules are at plain prim paths
  pub root_rule : Fails (op.Load []) start WrongPath
  pub variant_rule : Fails (op.Load a_chosen) start WrongPath

pub record BatchesAreTold : Type 0 where
  -- a batch without operations is accepted
  pub empty : edit (world start) [] ≡ Ok (world start)
  -- each operation sees what those before it made
  pub one_by_one : edit (world start) (op.Remove root a ∷ op.AddPrim root a Def None ∷ op.Remove root a ∷ []) ≡ Ok (world nothing)
  -- the first operation that is refused is told, counted from 1, and the batch makes nothing
  pub refused : edit (world start) (op.Remove root a ∷ op.Remove root a_k ∷ op.Remove root b ∷ []) ≡ Err (2, NoSpec)

pub record AreTold : Type 0 where
  pub worlds : WorldsAreTold
  pub batches : BatchesAreTold
