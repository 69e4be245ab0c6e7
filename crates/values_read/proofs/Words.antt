-- Each word of a text that is UTF-8 is as a text has it, or a fault.
use Rattle.std.proofs.Common.{List, [], ◌∷◌, Option, Some, None, refl, inl, inr}
use Rattle.usda_lexer.specs.Words.{Word as Token, tokens_of}
use Rattle.usda_lexer.specs.declared.token.LexFault.{LexFault}
use Rattle.usda_lexer.specs.declared.token.LexFault.TheVariants as fault
use Rattle.usda_words.specs.Words.{words_behind, behind, at_start}
use Rattle.usda_words.specs.declared.word.Before.{Before}
use Rattle.values_read.specs.Laws.{WordsAreLexed}
use Rattle.values_read.specs.Tokens.{AreLexed, AreLexedWords}
use Rattle.values_read.proofs.Lexed.{lexed}

behind_lexed : (before : Before) (ts : List Token) (f : Option LexFault) → AreLexed ts → AreLexedWords (words_behind before ts f)
behind_lexed before [] None each = tt
behind_lexed before [] (Some (fault.NumberTooLong at)) each = (inl refl, tt)
behind_lexed before [] (Some (fault.Unclosed at)) each = (inr refl, tt)
behind_lexed before [] (Some (fault.BadByte at)) each = (inr refl, tt)
behind_lexed before [] (Some (fault.NotUtf8 at)) each = (inr refl, tt)
behind_lexed before (t ∷ ts) f each = (inl each.0, behind_lexed (behind t) ts f each.1)

pub words_lexed : WordsAreLexed
words_lexed text u = behind_lexed at_start (tokens_of text).words (tokens_of text).fault (lexed text u)
