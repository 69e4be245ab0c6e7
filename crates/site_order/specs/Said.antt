-- What a node says of variants.
use Rattle.std.specs.Prelude.{List, Option}
use Rattle.composition.specs.Texts.{Text, same_text, find_at}
use Rattle.composition.specs.Trees.{Tree, here_of}

-- the variant sets that a node has at level 0
abbrev pub sets_of : Tree → List Text
sets_of t = (here_of t).sets

-- the variant that the strongest opinion of a node selects for a set
abbrev pub selected_at : Text → Tree → Option Text
selected_at set t = find_at same_text set (here_of t).selections
