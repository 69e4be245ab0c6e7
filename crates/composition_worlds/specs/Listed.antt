-- Worlds as lists, so that definitions over them compute.
use Rattle.std.specs.Prelude.{List, Option, Some, None}
use Rattle.sdf_specs.specs.Layers.{LayerTable}
use Rattle.spec_parts.specs.declared.items.Refusal.{Refusal}
use Rattle.spec_parts.specs.declared.spec.Spec.{Spec}
use Rattle.composition.specs.Texts.{Text, same_text, find_at}
use Rattle.composition.specs.Paths.{Path, same_path}
use Rattle.composition.specs.World.{World, Heading, headed, no_layer, refused, RootNames}

-- what stands at a name: a layer, or why it was refused
pub data Held : Type 0 where
  present : LayerTable → Held
  broken : Refusal → Held

-- the head of a layer, or that none stands at the name, or why it was refused
abbrev pub heading_in : Option Held → Heading
heading_in None = no_layer
heading_in (Some (broken r)) = refused r
heading_in (Some (present l)) = headed (record { sublayers = l.head.sublayers; default_prim = l.head.default_prim; meta = l.head.meta })

-- the root prims of a layer that is present: their names and their order
abbrev pub roots_in : Option Held → Option RootNames
roots_in (Some (present l)) = Some (record { names = l.head.root_names; order = l.head.root_order })
roots_in _ = None

-- the spec at a path of a layer that is present
abbrev pub spec_in : Path → Option Held → Option Spec
spec_in p (Some (present l)) = find_at same_path p l.specs
spec_in p _ = None

-- a world of these layers, without load rules
abbrev pub listed_world : Text → Option Text → List (Text × Held) → World
listed_world root session layers = record {
  root = root;
  session = session;
  heading = λ name. heading_in (find_at same_text name layers);
  roots = λ name. roots_in (find_at same_text name layers);
  spec = λ name p. spec_in p (find_at same_text name layers);
  rule = λ p. None;
}
