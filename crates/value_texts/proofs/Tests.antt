-- Tests of which one holds where another does.
use Rattle.std.proofs.Common.{◌≡◌, ◌||◌, not, Bool, true, false}

-- where the first holds, so does the second
pub implied : (a b : Bool) → a ≡ true → (not a || b) ≡ true → b ≡ true
implied true b is h = h
implied false b is h = absurd cc

-- where the first does not hold, the second does
pub other_holds : (a b : Bool) → a ≡ false → (a || b) ≡ true → b ≡ true
other_holds true b is h = absurd cc
other_holds false b is h = h
