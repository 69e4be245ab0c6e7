-- What composition looks up in a world, and what stands at its keys.
use Rattle.std.specs.Prelude.{Option, Some, None}
use Rattle.spec_parts.specs.declared.spec.Head.{Head}
use Rattle.composition.specs.World.{World, LayerHead, Heading, headed, no_layer, refused, RootNames}
use Rattle.composition.specs.Keys.{KeyValue, value_of, load, head, arcs, body}
use Rattle.composition.specs.Keys as keys
use Rattle.layer_set.specs.Rules.{rule_at}
use Rattle.layer_set.specs.Worlds.{WorldData, held_at, spec_of}
use Rattle.layer_set.specs.declared.held.Held.{Held}
use Rattle.layer_set.specs.declared.held.Held.TheVariants.{Present, Absent, Broken}
use Rattle.layer_set.specs.declared.key.Key.{Key}
use Rattle.layer_set.specs.declared.key.Key.TheVariants.{Head as head_key, Arcs as arcs_key, Body as body_key, Load as load_key}

-- a head without the names of root prims and their order
abbrev pub layer_head : Head → LayerHead
layer_head h = record { sublayers = h.sublayers; default_prim = h.default_prim; meta = h.meta }

-- the names of root prims and their order
abbrev pub root_names : Head → RootNames
root_names h = record { names = h.root_names; order = h.root_order }

-- the head of a layer that is present; else that there is no layer, or why it was refused
abbrev pub heading_of : Held → Heading
heading_of (Present layer) = headed (layer_head layer.head)
heading_of Absent = no_layer
heading_of (Broken refusal) = refused refusal

-- the root prims of a layer that is present
abbrev pub roots_of : Held → Option RootNames
roots_of (Present layer) = Some (root_names layer.head)
roots_of Absent = None
roots_of (Broken refusal) = None

-- the world of these look-ups
abbrev pub look_ups : WorldData → World
look_ups w = record {
  root = w.root;
  session = w.session;
  heading = λ name. heading_of (held_at w name);
  roots = λ name. roots_of (held_at w name);
  spec = λ name path. spec_of (held_at w name) path;
  rule = λ path. rule_at path w.rules;
}

-- the key of composition's definitions
abbrev pub key_of : Key → keys.Key
key_of (head_key name) = head name
key_of (arcs_key name path) = arcs name path
key_of (body_key name path) = body name path
key_of (load_key path) = load path

-- what stands at a key
abbrev pub stands_at : WorldData → Key → KeyValue
stands_at w key = value_of (look_ups w) (key_of key)
