-- Moves of the code as those of the definitions.
use Rattle.std.specs.Prelude.{◌≡◌, List, Option, None}
use Rattle.edit_batches.specs.declared.op.Op.{Op}
use Rattle.session_script.specs.declared.moves.Moved.{Moved}
use Rattle.session_script.specs.declared.moves.Moved.TheVariants.{GoesOn, Asks, Refuses}
use Rattle.session_script.specs.Reading.{Move, goes_on, asks, refuses}

-- the move, and the batch that is open after it
abbrev pub IsMoved : Moved → Option (List Op) → Option (List Op) → Move → Type 0
IsMoved GoesOn new old move = move ≡ goes_on new
IsMoved (Asks s) new old move = (move ≡ asks s) × (new ≡ None)
IsMoved Refuses new old move = (move ≡ refuses) × (new ≡ old)
