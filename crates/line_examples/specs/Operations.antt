-- Lines that change a layer or a load rule, with the operations that they are.
use Rattle.std.specs.Prelude.{ℕ, pos, negsuc, true, false, List, [], ◌∷◌, codes, Some, None}
use Rattle.edit_batches.specs.declared.op.FieldList.TheVariants as list
use Rattle.edit_batches.specs.declared.op.Op.{Op}
use Rattle.edit_batches.specs.declared.op.Op.TheVariants as op
use Rattle.script_lines.specs.declared.line.Line.TheVariants.{Change}
use Rattle.sdf_paths.specs.declared.element.Element.{Element}
use Rattle.sdf_paths.specs.declared.element.Element.TheVariants.{Prim, Property, Selection}
use Rattle.sdf_values.specs.declared.decimal.Num.TheVariants.{Finite}
use Rattle.sdf_values.specs.declared.type_name.ElementType.TheVariants as element
use Rattle.sdf_values.specs.declared.type_name.Precision.TheVariants.{Float}
use Rattle.sdf_values.specs.declared.value.Value.TheVariants as value
use Rattle.spec_parts.specs.declared.items.Specifier.TheVariants.{Def, Over}
use Rattle.usda_fields.specs.declared.field.PathField.TheVariants.{Inherits}
use Rattle.usda_fields.specs.declared.field.ReferenceField.TheVariants.{References}
use Rattle.usda_fields.specs.declared.owner.OrderWord.TheVariants.{NameChildren}
use Rattle.usda_lists.specs.declared.edit.ListEdit.TheVariants.{Explicit, Prepend}
use Rattle.line_examples.specs.Lines.{Says, IsBad}
use Rattle.line_examples.specs.Questions.{a_x}

-- the line is this operation
abbrev pub Is : List ℕ → Op → Type 0
Is text o = Says text (Change o)

-- the name of the layer in each of these lines
abbrev pub root : List ℕ
root = codes "root.usda"

-- /A, /B, /A{s=v} and /A.r
abbrev pub a : List Element
a = Prim (codes "A") ∷ []

abbrev pub b : List Element
b = Prim (codes "B") ∷ []

abbrev pub a_chosen : List Element
a_chosen = Prim (codes "A") ∷ Selection (codes "s") (codes "v") ∷ []

abbrev pub a_r : List Element
a_r = Prim (codes "A") ∷ Property (codes "r") ∷ []

pub record SpecsAreTold : Type 0 where
  -- the text of a new layer is a string
  pub new_layer : Is (codes "newlayer @n.usda@ \"#usda 1.0\\n\"") (op.NewLayer (codes "n.usda") (Some (codes "#usda 1.0\n")))
  pub prim : Is (codes "spec def @root.usda@ /A Xform") (op.AddPrim root a Def (Some (codes "Xform")))
  pub untyped_prim : Is (codes "spec over @root.usda@ /A") (op.AddPrim root a Over None)
  pub variant : Is (codes "variant @root.usda@ /A{s=v}") (op.AddVariant root a_chosen)
  pub attribute : Is (codes "attr @root.usda@ /A.x float[] custom") (op.AddAttribute root a_x (Some (record { element = element.Real Float; array = true })) true false)
  -- a type that there is not makes the line no worse: the operation is refused, and with it the batch
  pub no_type : Is (codes "attr @root.usda@ /A.x integer") (op.AddAttribute root a_x None false false)
  pub relationship : Is (codes "rel @root.usda@ /A.r") (op.AddRelationship root a_r false)
  pub remove : Is (codes "remove @root.usda@ /A{s=v}") (op.Remove root a_chosen)

pub record ValuesAreTold : Type 0 where
  -- a value as it is written: whether the attribute takes it is asked of the layer
  pub default : Is (codes "set @root.usda@ /A.x -3") (op.SetDefault root a_x (value.Whole (negsuc 2)))
  pub block : Is (codes "set @root.usda@ /A.x None") (op.SetDefault root a_x value.Block)
  pub clear : Is (codes "clear @root.usda@ /A.x") (op.ClearDefault root a_x)
  pub sample : Is (codes "sample @root.usda@ /A.x 1.5 \"on\"") (op.SetSample root a_x (Finite (record { digits = pos 15; exp = negsuc 0 })) (value.Text (codes "on")))
  -- the path of a value is taken from the prim
  pub path : Is (codes "meta @root.usda@ /A near = <../B>") (op.SetMeta root a (codes "near") (value.PathText (codes "/B")))
  pub no_meta : Is (codes "unmeta @root.usda@ /A kind") (op.ClearMeta root a (codes "kind"))

pub record ListsAreTold : Type 0 where
  -- a list of an edit word; a path is taken from the prim
  pub prepend : Is (codes "list @root.usda@ /A inherits prepend = <../B>") (op.SetList root a Prepend (list.Paths Inherits (b ∷ [])))
  -- without an edit word the list is explicit, and `None` is the empty one
  pub nothing : Is (codes "list @root.usda@ /A inherits = None") (op.SetList root a Explicit (list.Paths Inherits []))
  -- a reference with its offset, 10 or 1 * 10^1; whether that is in range is asked of the layer
  pub reference :
      Is (codes "list @root.usda@ /A references = @m.usda@</B> (offset = 10)")
      (op.SetList root a Explicit (list.References References (record {
        asset = Some (codes "m.usda");
        path = Some b;
        offset = record { offset = Finite (record { digits = pos 1; exp = pos 1 }); scale = Finite (record { digits = pos 1; exp = pos 0 }) };
      }
      ∷ [])))
  -- targets have no selections, and each stands once
  pub targets : Is (codes "list @root.usda@ /A.r targets = [</B>, </B{s=v}>]") (op.SetList root a_r Explicit (list.Targets (b ∷ [])))
  pub selection : Is (codes "select @root.usda@ /A s = \"v\"") (op.Select root a (codes "s") (codes "v"))
  -- the order of the root prims
  pub order : Is (codes "order @root.usda@ / nameChildren = [\"B\", \"A\"]") (op.SetOrder root [] NameChildren (codes "B" ∷ codes "A" ∷ []))
  pub load : Is (codes "unload /A") (op.Unload a)

pub record BadOperationsAreTold : Type 0 where
  -- the path or the layer is missing, or a word is too many
  pub no_path : IsBad (codes "remove @root.usda@")
  pub no_layer : IsBad (codes "remove /A")
  pub more : IsBad (codes "remove @root.usda@ /A /B")
  pub specifier : IsBad (codes "spec prim @root.usda@ /A")
  -- a value that does not end, and a second one
  pub open_value : IsBad (codes "set @root.usda@ /A.x [1, 2")
  pub second_value : IsBad (codes "set @root.usda@ /A.x 1 2")
  -- an entry of a dictionary has a type, and its value is one of the type
  pub entry : IsBad (codes "meta @root.usda@ /A d = { int i = 1.5 }")
  -- fields that are lists are no metadata
  pub field : IsBad (codes "meta @root.usda@ /A inherits = </B>")
  -- a field and an edit word that there is not
  pub no_field : IsBad (codes "list @root.usda@ /A classes = </B>")
  pub no_edit : IsBad (codes "list @root.usda@ /A inherits remove = </B>")
  -- the paths of a list stand in brackets
  pub bare_path : IsBad (codes "list @root.usda@ /A inherits = /B")

pub record AreTold : Type 0 where
  pub specs : SpecsAreTold
  pub values : ValuesAreTold
  pub lists : ListsAreTold
  pub bad_operations : BadOperationsAreTold
