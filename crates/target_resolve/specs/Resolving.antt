-- The targets of a property by its specs, within the limits of this project.
use Rattle.std.specs.Prelude.{List, [], ◌∷◌, ◌++◌, cond, map, Option}
use Rattle.list_ops.specs.Opinions.{is_opinion}
use Rattle.list_ops.specs.declared.op.ListOp.{ListOp}
use Rattle.prim_view.specs.declared.fault.PrimFault.{PrimFault}
use Rattle.prim_view.specs.declared.fault.PrimFault.TheVariants.{TargetOutside}
use Rattle.composition.specs.Paths.{Path, limits}
use Rattle.composition.specs.Targets.{translated_ops, target_faults, targets_of}
use Rattle.composition.specs.Texts.{Text}
use Rattle.composition.specs.Values.{PropertySaid}

-- the opinions on the list, on the stage
unfoldable pub ops_by : List PropertySaid → List (ListOp Path)
ops_by ps = translated_ops limits ps

-- the folded list
unfoldable pub targets_by : List PropertySaid → Option (List Path)
targets_by ps = targets_of limits ps

-- the faults of items without a translation
unfoldable pub faults_by : Text → List PropertySaid → List PrimFault
faults_by name ps = map TargetOutside (target_faults limits name ps)

-- one more opinion, if the edits are one
abbrev pub with_op : List (ListOp Path) → ListOp Path → ListOp Path → List (ListOp Path)
with_op ops edits translated = cond (is_opinion edits) (ops ++ translated ∷ []) ops
