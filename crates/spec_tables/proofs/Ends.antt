-- The last element, as an iterator takes it from the back.
use Rattle.std.proofs.Common.{◌≡◌, ◌∙◌, sym, ap, List, Option, Some, None}
use Rattle.std.specs.Option.{option_map}
use Rattle.std.specs.Map.Iter.{TakesLast}
use Rattle.plain_data.specs.Ends.{last, last-push}

-- what is taken from the back is the last element, where there is one
pub last_taken : {A X : Type 0} (shows : A → X) (s : List X) (r : Option A) (t : List X) → TakesLast shows s r t → option_map shows r ≡ last s
last_taken shows s None t empty = sym (ap last empty.0)
last_taken shows s (Some x) t taken = sym (ap last taken ∙ last-push t (shows x))
