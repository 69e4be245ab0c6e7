-- Values whose dictionaries are in order.
use Rattle.std.specs.Prelude.{ℕ, Bool, true, ◌&&◌, List, [], ◌∷◌}
use Rattle.std.specs.Ordering.{nat_cmp, is_lt}
use Rattle.std.specs.Cmp.Lexicographic.{slice_cmp}
use Rattle.sdf_values.specs.declared.value.Value.{Value, fold-Value}
use Rattle.sdf_values.specs.declared.value.Value.TheOpen.{Value-F, DictItem-F}

-- it holds of each member
abbrev pub all_true : List Bool → Bool
all_true [] = true
all_true (b ∷ bs) = b && all_true bs

-- one key stands before another in byte order
abbrev pub is_below : List ℕ → List ℕ → Bool
is_below a b = is_lt (slice_cmp nat_cmp a b)

-- these keys stand in byte order, each once, and behind a key before them
abbrev pub are_keys_behind : List ℕ → List (List ℕ) → Bool
are_keys_behind k [] = true
are_keys_behind k (l ∷ ls) = is_below k l && are_keys_behind l ls

-- the keys of a dictionary stand in byte order, each once
abbrev pub are_keys_in_order : List (List ℕ) → Bool
are_keys_in_order [] = true
are_keys_in_order (k ∷ ks) = are_keys_behind k ks

-- the values of all entries are proper, each of which stands here as its key and whether its value is
abbrev pub all_proper : List (List ℕ × Bool) → Bool
all_proper [] = true
all_proper (e ∷ es) = e.1 && all_proper es

-- the keys of the entries, in their order
abbrev pub keys_of : List (List ℕ × Bool) → List (List ℕ)
keys_of [] = []
keys_of (e ∷ es) = e.0 ∷ keys_of es

-- a dictionary has its keys in order and each of its values proper; a tuple or an array has proper members
abbrev pub proper_step : Value-F Bool (List ℕ × Bool) → Bool
proper_step (Value-F.Tuple bs) = all_true bs
proper_step (Value-F.Array bs) = all_true bs
proper_step (Value-F.Dict es) = are_keys_in_order (keys_of es) && all_proper es
proper_step _ = true

-- an entry: its key, and whether its value is proper
abbrev pub proper_item : DictItem-F Bool (List ℕ × Bool) → List ℕ × Bool
proper_item item = (item.key, item.value)

-- the items of each dictionary, at any depth, are in byte order of keys, each key once
abbrev pub is_proper : Value → Bool
is_proper = fold-Value Bool (List ℕ × Bool) proper_step proper_item
