-- Lists, selections, orders and sublayers. Beside each example stands the line of a script that says so.
use Rattle.std.specs.Prelude.{ℕ, pos, negsuc, false, List, [], ◌∷◌, codes, Option, Some, None}
use Rattle.edit_batches.specs.declared.fault.EditFault.TheVariants.{WrongPath, NoSpec, OffsetRange, BadArc}
use Rattle.edit_batches.specs.declared.op.FieldList.TheVariants as list
use Rattle.edit_batches.specs.declared.op.Op.TheVariants as op
use Rattle.edit_batches.specs.declared.written.WrittenOffset.{WrittenOffset}
use Rattle.edit_batches.specs.declared.written.WrittenReference.{WrittenReference}
use Rattle.list_ops.specs.declared.op.ListOp.{ListOp}
use Rattle.sdf_paths.specs.declared.element.Element.{Element}
use Rattle.sdf_paths.specs.declared.element.Element.TheVariants.{Prim, Property as Named}
use Rattle.sdf_specs.specs.Layers.{LayerTable}
use Rattle.sdf_values.specs.declared.decimal.Num.{Num}
use Rattle.sdf_values.specs.declared.decimal.Num.TheVariants.{Finite}
use Rattle.spec_parts.specs.Blank.{blank_head, blank_arcs, blank_spec, no_edits}
use Rattle.spec_parts.specs.declared.items.RefItem.{RefItem}
use Rattle.spec_parts.specs.declared.items.Specifier.TheVariants.{Def}
use Rattle.spec_parts.specs.declared.spec.Head.{Head}
use Rattle.spec_properties.specs.Entries.{SelectionEntries}
use Rattle.spec_properties.specs.declared.property.Property.TheVariants.{Rel}
use Rattle.usda_fields.specs.declared.field.PathField.TheVariants.{Inherits}
use Rattle.usda_fields.specs.declared.field.ReferenceField.TheVariants.{References}
use Rattle.usda_fields.specs.declared.owner.OrderWord.TheVariants.{NameChildren, PropertyNames}
use Rattle.usda_lists.specs.declared.edit.ListEdit.TheVariants.{Explicit, Delete, Prepend}
use Rattle.edit_examples.specs.Worlds.{a, a_chosen, b, of_a, def_a, layer_of, start, root, Makes, Fails}
use Rattle.edit_examples.specs.Values.{ten}

-- /C, and /B.y
abbrev pub c : List Element
c = Prim (codes "C") ∷ []

abbrev pub b_y : List Element
b_y = Prim (codes "B") ∷ Named (codes "y") ∷ []

-- 0, 1, 1.5 and 10, as numbers are kept
abbrev pub nought : Num
nought = Finite (record { digits = pos 0; exp = pos 0 })

abbrev pub unit : Num
unit = Finite (record { digits = pos 1; exp = pos 0 })

abbrev pub broken : Num
broken = Finite (record { digits = pos 15; exp = negsuc 0 })

-- an offset and a scale as they are written
abbrev pub written : Num → Num → WrittenOffset
written offset scale = record { offset = offset; scale = scale }

-- a reference to a path of the layer of an asset, as it is written
abbrev pub item : List ℕ → Option (List Element) → WrittenOffset → WrittenReference
item asset path offset = record { asset = Some asset; path = path; offset = offset }

-- def "A", with such lists of classes
abbrev pub inheriting : ListOp (List Element) → LayerTable
inheriting classes = layer_of ((a, record (blank_spec Def) { arcs = record blank_arcs { inherits = classes } }) ∷ [])

-- def "A", with such lists of references
abbrev pub referring : ListOp RefItem → LayerTable
referring items = layer_of ((a, record (blank_spec Def) { arcs = record blank_arcs { references = items } }) ∷ [])

-- def "A", with these selections
abbrev pub selecting : SelectionEntries → LayerTable
selecting chosen = layer_of ((a, record (blank_spec Def) { arcs = record blank_arcs { selections = chosen } }) ∷ [])

-- def "A" with `rel r`, with such lists of targets
abbrev pub targeting : ListOp (List Element) → LayerTable
targeting targets = layer_of ((a, def_a (Rel (codes "r") false targets [] ∷ []) []) ∷ [])

pub record ListsAreTold : Type 0 where
  -- `list @root.usda@ /A inherits prepend = </B>`: an edit clears the explicit list, and leaves the lists of other edits
  pub edit : Makes (op.SetList root a Prepend (list.Paths Inherits (b ∷ []))) (inheriting (record no_edits { explicit = Some (c ∷ []) })) (inheriting (record no_edits { prepended = b ∷ [] }))
  pub other_edit :
      Makes (op.SetList root a Delete (list.Paths Inherits (c ∷ []))) (inheriting (record no_edits { prepended = b ∷ [] }))
      (inheriting (record no_edits { deleted = c ∷ []; prepended = b ∷ [] }))
  -- `list @root.usda@ /A inherits = None`: an explicit list clears the others, also an empty one
  pub explicit : Makes (op.SetList root a Explicit (list.Paths Inherits [])) (inheriting (record no_edits { deleted = c ∷ []; prepended = b ∷ [] })) (inheriting (record no_edits { explicit = Some [] }))
  -- `list @root.usda@ /A references = @m.usda@</B> (offset = 10)`
  pub reference :
      Makes (op.SetList root a Explicit (list.References References (item (codes "m.usda") (Some b) (written ten unit) ∷ []))) (referring no_edits)
      (referring (record no_edits { explicit = Some (record { asset = Some (codes "m.usda"); path = Some b; offset = record { offset = pos 10; scale = pos 1 } } ∷ []) }))
  -- `list @root.usda@ /A.r targets = </B>`: of a relationship alone
  pub targets : Makes (op.SetList root (of_a (codes "r")) Explicit (list.Targets (b ∷ []))) (targeting no_edits) (targeting (record no_edits { explicit = Some (b ∷ []) }))

pub record NoListsAreTold : Type 0 where
  -- `list @root.usda@ /A inherits = </B.y>`, `</>` and `</A{s=v}>`: a class is a prim without selections
  pub property_class : Fails (op.SetList root a Explicit (list.Paths Inherits (b_y ∷ []))) start BadArc
  pub root_class : Fails (op.SetList root a Explicit (list.Paths Inherits ([] ∷ []))) start BadArc
  pub variant_class : Fails (op.SetList root a Explicit (list.Paths Inherits (a_chosen ∷ []))) start BadArc
  -- `list @root.usda@ /A references = @m.usda@ (scale = 1.5)` and `(scale = 0)`: a scale is whole and not 0
  pub broken_scale : Fails (op.SetList root a Explicit (list.References References (item (codes "m.usda") None (written nought broken) ∷ []))) start OffsetRange
  pub no_scale : Fails (op.SetList root a Explicit (list.References References (item (codes "m.usda") None (written nought nought) ∷ []))) start OffsetRange
  -- `list @root.usda@ /A references = @m.usda@</> (scale = 0)`: offsets are judged before targets
  pub offset_first : Fails (op.SetList root a Explicit (list.References References (item (codes "m.usda") (Some []) (written nought nought) ∷ []))) start OffsetRange
  pub root_target : Fails (op.SetList root a Explicit (list.References References (item (codes "m.usda") (Some []) (written nought unit) ∷ []))) start BadArc
  -- `list @root.usda@ /A.x targets = </B>` and `/A.r connect = </B.y>`: the kind of the property is not the one
  pub attribute : Fails (op.SetList root (of_a (codes "x")) Explicit (list.Targets (b ∷ []))) start NoSpec
  pub relationship : Fails (op.SetList root (of_a (codes "r")) Explicit (list.Connections (b_y ∷ []))) start NoSpec
  -- `list @root.usda@ /B inherits = </C>`, where there is no /B, and of a property
  pub no_prim : Fails (op.SetList root b Explicit (list.Paths Inherits (c ∷ []))) start NoSpec
  pub property : Fails (op.SetList root (of_a (codes "x")) Explicit (list.Paths Inherits (c ∷ []))) start WrongPath

-- a layer with this head and no prims
abbrev pub headed : Head → LayerTable
headed head = record { head = head; specs = [] }

pub record OthersAreTold : Type 0 where
  -- `select @root.usda@ /A s = "v"`, and `unselect @root.usda@ /A s`
  pub selected : Makes (op.Select root a (codes "s") (codes "v")) (selecting []) (selecting ((codes "s", codes "v") ∷ []))
  pub selected_anew : Makes (op.Select root a (codes "s") (codes "w")) (selecting ((codes "s", codes "v") ∷ [])) (selecting ((codes "s", codes "w") ∷ []))
  pub unselected : Makes (op.Unselect root a (codes "s")) (selecting ((codes "s", codes "v") ∷ (codes "t", codes "w") ∷ [])) (selecting ((codes "t", codes "w") ∷ []))
  -- `order @root.usda@ / nameChildren = ["B", "A"]`: the layer reorders its root prims
  pub ordered : Makes (op.SetOrder root [] NameChildren (codes "B" ∷ codes "A" ∷ [])) (headed blank_head) (headed (record blank_head { root_order = codes "B" ∷ codes "A" ∷ [] }))
  -- `order @root.usda@ / properties = ["x"]`: `/` has no properties
  pub no_order : Fails (op.SetOrder root [] PropertyNames (codes "x" ∷ [])) start WrongPath
  -- `sublayers @root.usda@ = [@m.usda@ (offset = 10)]`, and with `(scale = 1.5)`
  pub sublayers :
      Makes (op.SetSublayers root (record { asset = codes "m.usda"; offset = written ten unit } ∷ [])) (headed blank_head)
      (headed (record blank_head { sublayers = record { asset = codes "m.usda"; offset = record { offset = pos 10; scale = pos 1 } } ∷ [] }))
  pub broken_scale : Fails (op.SetSublayers root (record { asset = codes "m.usda"; offset = written nought broken } ∷ [])) start OffsetRange

pub record AreTold : Type 0 where
  pub lists : ListsAreTold
  pub no_lists : NoListsAreTold
  pub others : OthersAreTold
