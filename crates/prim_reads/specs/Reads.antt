-- The keys that a path reads, listed.
-- docs/COMPOSITION.md, 'What a prim reads'.
use Rattle.std.specs.Prelude.{Bool, true, false, List, map}
use Rattle.composition.specs.Paths.{Path, limits}
use Rattle.composition.specs.World.{World}
use Rattle.composition.specs.Keys as keys
use Rattle.composition.specs.Keys.{load, head, arcs, body, reads}
use Rattle.layer_set.specs.LookUps.{look_ups}
use Rattle.layer_set.specs.Worlds.{WorldData}
use Rattle.layer_set.specs.declared.key.Key.{Key}
use Rattle.layer_set.specs.declared.key.Key.TheVariants.{Head, Arcs, Body, Load}
use Rattle.key_sets.specs.Order.{in_order}

-- a key of composition's definitions as one of a world of layers
abbrev pub key_in : keys.Key → Key
key_in (load path) = Load path
key_in (head name) = Head name
key_in (arcs name path) = Arcs name path
key_in (body name path) = Body name path

-- the keys that a path reads, within the limits of this project, each once in the order of keys
abbrev pub reads_list : World → Path → List Key
reads_list w p = in_order (map key_in (reads limits w p))

-- the same of a world of layers
unfoldable pub listed_reads : WorldData → Path → List Key
listed_reads w p = reads_list (look_ups w) p
