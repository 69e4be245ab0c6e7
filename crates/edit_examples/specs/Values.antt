-- Defaults and samples of attributes. Beside each example stands the line of a script that says so.
use Rattle.std.specs.Prelude.{pos, false, [], ◌∷◌, codes, Some, None}
use Rattle.edit_batches.specs.declared.fault.EditFault.TheVariants.{WrongPath, NoSpec, ValueShape, TimeRange}
use Rattle.edit_batches.specs.declared.op.Op.TheVariants as op
use Rattle.sdf_specs.specs.Layers.{LayerTable}
use Rattle.sdf_values.specs.declared.decimal.Num.{Num}
use Rattle.sdf_values.specs.declared.decimal.Num.TheVariants.{Finite, Inf}
use Rattle.sdf_values.specs.declared.type_name.ElementType.TheVariants as element
use Rattle.sdf_values.specs.declared.value.Value.{Value}
use Rattle.sdf_values.specs.declared.value.Value.TheVariants as value
use Rattle.sdf_values.specs.Conforms.{one}
use Rattle.spec_parts.specs.Blank.{no_edits}
use Rattle.spec_properties.specs.Entries.{SampleEntries}
use Rattle.spec_properties.specs.declared.property.Property.TheVariants.{Attr}
use Rattle.edit_examples.specs.Worlds.{a, of_a, whole, time, int_x, rel_r, def_a, layer_of, root, Makes, Fails}

-- 10 and 10^13, as numbers are kept
abbrev pub ten : Num
ten = Finite (record { digits = pos 1; exp = pos 1 })

abbrev pub far : Num
far = Finite (record { digits = pos 1; exp = pos 13 })

-- a prim A with `int x` with this default and these samples, and with `rel r`
abbrev pub int_layer : Value → SampleEntries → LayerTable
int_layer default samples = layer_of ((a, def_a (int_x (Some default) samples ∷ rel_r ∷ []) []) ∷ [])

-- the same without a default
abbrev pub bare_layer : SampleEntries → LayerTable
bare_layer samples = layer_of ((a, def_a (int_x None samples ∷ rel_r ∷ []) []) ∷ [])

-- a prim A with `timecode x`
abbrev pub time_layer : LayerTable
time_layer = layer_of ((a, def_a (Attr (codes "x") (one element.Timecode) false false None [] no_edits [] ∷ []) []) ∷ [])

pub record DefaultsAreTold : Type 0 where
  -- `set @root.usda@ /A.x 3`
  pub given : Makes (op.SetDefault root (of_a (codes "x")) (whole 3)) (int_layer (whole 1) []) (int_layer (whole 3) [])
  -- `set @root.usda@ /A.x "3"`: an `int` is no string
  pub wrong_shape : Fails (op.SetDefault root (of_a (codes "x")) (value.Text (codes "3"))) (int_layer (whole 1) []) ValueShape
  -- `set @root.usda@ /A.x 2147483648`: it has 32 bits
  pub too_great : Fails (op.SetDefault root (of_a (codes "x")) (whole 2147483648)) (int_layer (whole 1) []) ValueShape
  -- the same of a timecode that is more than 10^12 away from 0: it has the shape, and no time
  pub far_time : Fails (op.SetDefault root (of_a (codes "x")) (whole 1000000000001)) time_layer TimeRange
  -- `set @root.usda@ /A.r 3` and `/A.y`: a relationship counts as no attribute
  pub relationship : Fails (op.SetDefault root (of_a (codes "r")) (whole 3)) (int_layer (whole 1) []) NoSpec
  pub no_attribute : Fails (op.SetDefault root (of_a (codes "y")) (whole 3)) (int_layer (whole 1) []) NoSpec
  -- `set @root.usda@ /A 3`
  pub prim : Fails (op.SetDefault root a (whole 3)) (int_layer (whole 1) []) WrongPath
  -- `clear @root.usda@ /A.x`: samples stay, and what is not there may be taken away
  pub cleared : Makes (op.ClearDefault root (of_a (codes "x"))) (int_layer (whole 1) ((time 10, whole 5) ∷ [])) (bare_layer ((time 10, whole 5) ∷ []))
  pub cleared_twice : Makes (op.ClearDefault root (of_a (codes "x"))) (bare_layer []) (bare_layer [])

pub record SamplesAreTold : Type 0 where
  -- `sample @root.usda@ /A.x 10 5`: samples stand in the order of times, and one of the same time is replaced
  pub given : Makes (op.SetSample root (of_a (codes "x")) ten (whole 5)) (bare_layer ((time 20, whole 2) ∷ [])) (bare_layer ((time 10, whole 5) ∷ (time 20, whole 2) ∷ []))
  pub replaced : Makes (op.SetSample root (of_a (codes "x")) ten (whole 5)) (bare_layer ((time 10, whole 2) ∷ [])) (bare_layer ((time 10, whole 5) ∷ []))
  -- `sample @root.usda@ /A.x 1e13 5`, and with "5": the value is judged before the time
  pub far_time : Fails (op.SetSample root (of_a (codes "x")) far (whole 5)) (bare_layer []) TimeRange
  pub shape_first : Fails (op.SetSample root (of_a (codes "x")) far (value.Text (codes "5"))) (bare_layer []) ValueShape
  -- `unsample @root.usda@ /A.x 10`: the default and other samples stay
  pub taken : Makes (op.ClearSample root (of_a (codes "x")) ten) (int_layer (whole 1) ((time 10, whole 5) ∷ (time 20, whole 2) ∷ [])) (int_layer (whole 1) ((time 20, whole 2) ∷ []))
  pub taken_twice : Makes (op.ClearSample root (of_a (codes "x")) ten) (int_layer (whole 1) []) (int_layer (whole 1) [])
  -- `unsample @root.usda@ /A.x inf`
  pub no_time : Fails (op.ClearSample root (of_a (codes "x")) Inf) (int_layer (whole 1) []) TimeRange

pub record AreTold : Type 0 where
  pub defaults : DefaultsAreTold
  pub samples : SamplesAreTold
