-- Keys of metadata.
use Rattle.std.specs.Prelude.{codes, ℕ, List}

-- the key at which the metadata of `/` has the default prim
unfoldable pub default_key : List ℕ
default_key = codes "defaultPrim"
