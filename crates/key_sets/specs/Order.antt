-- Keys in order, each once.
-- docs/COMPOSITION.md, 'What a prim reads'.
use Rattle.std.specs.Prelude.{List, [], ◌∷◌}
use Rattle.std.specs.BTreeSet.{insert_key}
use Rattle.std.specs.Ordering.{ordering_then}
use Rattle.std.specs.declared.cmp.Ordering.{Ordering}
use Rattle.std.specs.declared.cmp.Ordering.TheVariants.{Less, Greater}
use Rattle.sdf_paths.specs.Order.{text_cmp, path_cmp}
use Rattle.layer_set.specs.declared.key.Key.{Key}
use Rattle.layer_set.specs.declared.key.Key.TheVariants.{Head, Arcs, Body, Load}

-- The order of keys: heads, then arcs, then bodies, then load rules; those of one kind by the layer's name, then by the path.
abbrev pub key_cmp : Key → Key → Ordering
key_cmp (Head a) (Head b) = text_cmp a b
key_cmp (Head a) (Arcs b q) = Less
key_cmp (Head a) (Body b q) = Less
key_cmp (Head a) (Load q) = Less
key_cmp (Arcs a p) (Head b) = Greater
key_cmp (Arcs a p) (Arcs b q) = ordering_then (text_cmp a b) (path_cmp p q)
key_cmp (Arcs a p) (Body b q) = Less
key_cmp (Arcs a p) (Load q) = Less
key_cmp (Body a p) (Head b) = Greater
key_cmp (Body a p) (Arcs b q) = Greater
key_cmp (Body a p) (Body b q) = ordering_then (text_cmp a b) (path_cmp p q)
key_cmp (Body a p) (Load q) = Less
key_cmp (Load p) (Head b) = Greater
key_cmp (Load p) (Arcs b q) = Greater
key_cmp (Load p) (Body b q) = Greater
key_cmp (Load p) (Load q) = path_cmp p q

-- keys in order with further ones, each put at its place unless it is there
abbrev pub with_keys : List Key → List Key → List Key
with_keys set [] = set
with_keys set (k ∷ ks) = with_keys (insert_key key_cmp set k) ks

-- each of these keys once, in the order of keys
abbrev pub in_order : List Key → List Key
in_order ks = with_keys [] ks
