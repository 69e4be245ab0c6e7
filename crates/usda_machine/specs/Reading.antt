-- Reading a text word by word: what each word means to the symbol that takes it, and the first refusal.
--
-- A word has a kind, which decides by which symbol it is taken; an act says what the word adds to a draft, or refuses it.
-- A word that no symbol takes, or the end where the text may not end, is refused by `refused_as`.
use Rattle.std.specs.Prelude.{Bool, true, false, List, [], ◌∷◌, Option, Some, None, Result, Ok, Err}
use Rattle.usda_grammar.specs.declared.kinds.WordKind.{WordKind}
use Rattle.usda_grammar.specs.declared.symbols.Symbol.{Symbol}
use Rattle.usda_grammar.specs.Machine.{step, is_done}

module _ {Word Draft Refusal : Type 0} (kind : Word → WordKind) (act : Symbol → Word → Draft → Result Draft Refusal) (refused_as : Option Word → Refusal) where
  -- the first refusal ends the reading
  abbrev pub after_act : Result Draft Refusal → (Draft → Result Draft Refusal) → Result Draft Refusal
  after_act (Ok d) go = go d
  after_act (Err r) go = Err r

  -- a word that no symbol takes is refused, any other is acted on by the symbol that takes it
  abbrev pub after_step : Option (Symbol × List Symbol) → Draft → Word → (List Symbol → Draft → Result Draft Refusal) → Result Draft Refusal
  after_step None d w go = Err (refused_as (Some w))
  after_step (Some next) d w go = after_act (act next.0 w d) (go next.1)

  -- the words may end only where the text may
  abbrev pub at_end : Bool → Draft → Result Draft Refusal
  at_end true d = Ok d
  at_end false d = Err (refused_as None)

  -- the draft behind all the words, or the first refusal
  abbrev pub run : List Symbol → Draft → List Word → Result Draft Refusal
  run stack d [] = at_end (is_done stack) d
  run stack d (w ∷ ws) = after_step (step stack (kind w)) d w (λ next d. run next d ws)
