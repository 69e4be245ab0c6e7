use Rattle.std.proofs.Common.{◌≡◌, ◌-◌, length}
use Rattle.usda_lexer.specs.Words.{left}
use Rattle.script_words.specs.Values.{of_all}
use Rattle.script_words.specs.Lists.{list_from}
use Rattle.script_words.proofs.list.list_from.Given as goal

abbrev pub invariant-loop-token : goal.invariant-loop-token
invariant-loop-token l = of_all (list_from l.base l.draft) (left l.tokens) ≡ of_all (list_from l.base l.initial.draft) (left l.initial.tokens)

abbrev pub decreases-loop-token : goal.decreases-loop-token
decreases-loop-token l = length l.tokens.source - l.tokens.at
