-- A script that was read in part, cut behind its whole lines.
use Rattle.std.specs.Prelude.{◌≡◌, ◌⊎◌, ◌≤◌, ℕ, List, [], ◌++◌, length, false}
use Rattle.session_script.specs.Pieces.{lines_of, IsFed}
use Rattle.session_script.specs.States.{has_feed}

-- Of these bytes so many are left. What was read are whole lines, each with its line feed, and behind them bytes without one; no more
-- bytes than a script has at most, behind which the line at that place is refused.
pub record AreWholeLines (all left whole : List ℕ) : Type 0 where
  pub rest : List ℕ
  pub bytes : all ≡ whole ++ (rest ++ left)
  pub lines : lines_of all ≡ lines_of whole ++ lines_of (rest ++ left)
  pub fed : (whole ≡ []) ⊎ IsFed whole
  pub no_feed : has_feed rest ≡ false
  pub few : length (whole ++ rest) ≤ 16777216
