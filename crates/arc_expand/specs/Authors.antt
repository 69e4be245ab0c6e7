-- The strongest layer that gives an item.
use Rattle.std.specs.Prelude.{Bool, true, false, List, [], ◌∷◌, Option, Some, None}
use Rattle.list_ops.specs.declared.op.ListOp.{ListOp}
use Rattle.composition.specs.Texts.{Text}
use Rattle.composition.specs.Arcs.{Item, gives, same_item}
use Rattle.composition.specs.Fields.{or_else}

-- a value where a test holds
abbrev pub only : {T : Type 0} → Bool → T → Option T
only true x = Some x
only false x = None

-- the strongest layer that gives an item, if one does
abbrev pub author_in : List (Text × ListOp Item) → Item → Option Text
author_in [] i = None
author_in (e ∷ es) i = or_else (only (gives same_item e.1 i) e.0) (author_in es i)
