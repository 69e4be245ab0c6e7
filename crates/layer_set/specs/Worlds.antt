-- Worlds as plain data.
use Rattle.std.specs.Prelude.{ℕ, Bool, true, false, List, Option, Some, None}
use Rattle.sdf_paths.specs.declared.element.Element.{Element}
use Rattle.sdf_specs.specs.Layers.{LayerTable, spec_at}
use Rattle.spec_parts.specs.declared.spec.Spec.{Spec}
use Rattle.layer_set.specs.Named.{at_name, with_name}
use Rattle.layer_set.specs.Rules.{RuleEntries}
use Rattle.layer_set.specs.declared.held.Held.{Held}
use Rattle.layer_set.specs.declared.held.Held.TheVariants.{Present, Absent, Broken}

-- the names of the root and the session layer, what stands at names of layers in the order of names, and load rules in the order of
-- paths
pub record WorldData : Type 0 where
  pub root : List ℕ
  pub session : Option (List ℕ)
  pub layers : List (List ℕ × Held)
  pub rules : RuleEntries

-- a layer stands there: it is neither absent nor refused
abbrev pub is_present : Held → Bool
is_present (Present layer) = true
is_present Absent = false
is_present (Broken refusal) = false

-- a name that is not in the map is absent
abbrev pub held_or_absent : Option Held → Held
held_or_absent (Some held) = held
held_or_absent None = Absent

-- what stands at a name
abbrev pub held_at : WorldData → List ℕ → Held
held_at w name = held_or_absent (at_name name w.layers)

-- the spec at a path of what stands at a name
abbrev pub spec_of : Held → List Element → Option Spec
spec_of (Present layer) path = spec_at path layer.specs
spec_of Absent path = None
spec_of (Broken refusal) path = None

-- the layer that stands at a name, if one does
abbrev pub present_layer : Held → Option LayerTable
present_layer (Present layer) = Some layer
present_layer Absent = None
present_layer (Broken refusal) = None

-- with something at a name
abbrev pub with_held : List ℕ → Held → WorldData → WorldData
with_held name held w = record w { layers = with_name name held w.layers }
