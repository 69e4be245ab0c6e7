-- A value that is read from tokens, or the first token with which it is refused.
use Rattle.std.specs.Prelude.{◌≡◌, ℕ, ◌<◌, ◌-◌, Bool, true, false, if◌then◌else◌, List, [], ◌∷◌, length, Option, Some, None, Result, Ok, Err}
use Rattle.sdf_values.specs.declared.refusal.RefusalKind.{RefusalKind}
use Rattle.sdf_values.specs.declared.refusal.RefusalKind.TheVariants.{Syntax, NumberTooLong, NotUtf8}
use Rattle.sdf_values.specs.declared.value.Value.{Value}
use Rattle.usda_lexer.specs.declared.token.LexFault.{LexFault}
use Rattle.usda_lexer.specs.declared.token.LexFault.TheVariants as lexing
use Rattle.usda_lexer.specs.Words.{Word, Lexing, Lexer, left}
use Rattle.usda_values.specs.declared.fault.PartFault.{PartFault}
use Rattle.usda_values.specs.declared.fault.PartFault.TheVariants as fault
use Rattle.usda_values.specs.declared.fault.ValueFault.{ValueFault}
use Rattle.usda_values.specs.declared.fault.ValueFault.TheVariants.{Refused, NoMemory}
use Rattle.usda_values.specs.declared.draft.ValueDraft.{ValueDraft}
use Rattle.usda_values.specs.declared.level.Place.{Place}
use Rattle.usda_values.specs.Drafts.{Acted, value_act, awaits_value, is_complete, value_of}

-- what a call that may want memory makes of a draft
abbrev pub Does : Result (Unit {0}) PartFault → ValueDraft → Acted → Type 0
Does (Ok u) new acted = acted ≡ Ok new
Does (Err (fault.Refused k)) new acted = acted ≡ Err k
Does (Err fault.NoMemory) new acted = Unit {0}

-- a value and the tokens behind it; or the kind of the first refusal, its place, and the tokens from the refused one on
pub data Reading : Type 0 where
  got : Value → Lexing → Reading
  refused : RefusalKind → ℕ → Lexing → Reading

-- The kind of a fault, by the place that a draft has reached. A number that is too long is a number, so it is refused for syntax where
-- no number may stand.
abbrev pub kind_of_fault : LexFault → Place → RefusalKind
kind_of_fault (lexing.NumberTooLong at) p = if awaits_value p then NumberTooLong else Syntax
kind_of_fault (lexing.NotUtf8 at) p = NotUtf8
kind_of_fault (lexing.Unclosed at) p = Syntax
kind_of_fault (lexing.BadByte at) p = Syntax

-- the byte at which a fault stands
abbrev pub place_of_fault : LexFault → ℕ
place_of_fault (lexing.NumberTooLong at) = at
place_of_fault (lexing.NotUtf8 at) = at
place_of_fault (lexing.Unclosed at) = at
place_of_fault (lexing.BadByte at) = at

-- tokens, and the fault behind them, if there is one
abbrev pub lexing_of : List Word → Option LexFault → Lexing
lexing_of ws f = record { words = ws; fault = f }

-- at the end of the tokens, which is that of the text or a fault, where a draft has reached this place
abbrev pub no_more : Option LexFault → ℕ → Place → Reading
no_more None end p = refused Syntax end (lexing_of [] None)
no_more (Some f) end p = refused (kind_of_fault f p) (place_of_fault f) (lexing_of [] (Some f))

-- behind a token: its refusal, the value where the token completes it, or what the next tokens make
abbrev pub behind_act : Acted → Word → List Word → Option LexFault → (ValueDraft → Reading) → Reading
behind_act (Err k) w ws f more = refused k w.start (lexing_of (w ∷ ws) f)
behind_act (Ok next) w ws f more = if is_complete next then got (value_of next) (lexing_of ws f) else more next

-- The value that these tokens complete. The text ends at `end`, behind them or behind the fault.
abbrev pub reads : List Word → Option LexFault → ℕ → ValueDraft → Reading
reads [] f end d = no_more f end d.place
reads (w ∷ ws) f end d = behind_act (value_act w.kind w.text d) w ws f (λ next. reads ws f end next)

-- the value that the tokens of a lexer complete
abbrev pub reads_left : Lexer → ValueDraft → Reading
reads_left t d = reads (left t).words (left t).fault (length t.source) d

-- what reading a value answers, and what it leaves
abbrev pub AnswersRead : Result Value ValueFault → ValueDraft → Lexer → Lexer → Type 0
AnswersRead (Ok v) d old new = reads_left old d ≡ got v (left new)
AnswersRead (Err (Refused k at)) d old new = reads_left old d ≡ refused k at (left new)
AnswersRead (Err NoMemory) d old new = Unit {0}

-- what one token more answers, and whether the value is complete
abbrev pub AnswersStep : Result Bool ValueFault → ValueDraft → ValueDraft → Lexer → Lexer → Type 0
AnswersStep (Ok false) d next old new = (reads_left old d ≡ reads_left new next) × (length new.source - new.at < length old.source - old.at)
AnswersStep (Ok true) d next old new = reads_left old d ≡ got (value_of next) (left new)
AnswersStep (Err (Refused k at)) d next old new = reads_left old d ≡ refused k at (left new)
AnswersStep (Err NoMemory) d next old new = Unit {0}
