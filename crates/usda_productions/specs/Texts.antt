-- The texts of forms, and what their words make of a draft: each form is a word, or is opened by a choice.
use Rattle.std.specs.Prelude.{◌≡◌, true, List, [], ◌∷◌, ◌++◌, Option, Some, None, Result, Ok}
use Rattle.usda_grammar.specs.declared.kinds.WordKind.{WordKind}
use Rattle.usda_grammar.specs.declared.kinds.WordKind.TheVariants as token
use Rattle.usda_grammar.specs.declared.symbols.Symbol.{Symbol}
use Rattle.usda_productions.specs.Tokens.{is}
use Rattle.usda_productions.specs.Forms.{Form, one, rule, either, maybe, many, more, commas, list_of, just}
use Rattle.usda_productions.specs.Rules.{rules}

-- the two ways in which a form may be opened
pub data Choice : Type 0 where
  left : Choice
  right : Choice

-- what a form may be, by either choice
abbrev pub opened : Choice → Form → Option (List Form)
opened c (one s test) = None
opened left (rule r) = Some (list_of (rules r))
opened right (rule r) = None
opened left (either a b) = Some (list_of a)
opened right (either a b) = Some (list_of b)
opened left (maybe a) = Some []
opened right (maybe a) = Some (list_of a)
opened left (many a) = Some []
opened right (many a) = Some (list_of a ++ many a ∷ [])
opened left (more next behind a k) = Some (one behind (is k) ∷ [])
opened right (more next behind a k) = Some (one behind (is token.Comma) ∷ either (just (one next (is k))) (commas next behind a k) ∷ [])

-- how a text comes from forms: each is a word, or is opened by a choice
pub data Route : Type 0 where
  done : Route
  word : Route → Route
  pick : Choice → Route → Route

-- whatever words and drafts are: a word has a kind, and adds to a draft what the symbol of its form says of it, or is refused
module _ {Word Draft Refusal : Type 0} (kind : Word → WordKind) (act : Symbol → Word → Draft → Result Draft Refusal) where
  -- The words come from these forms up to those that are left: a word passes the test of its form, and adds to the draft what the
  -- form's symbol says. By this route the first draft becomes the other.
  abbrev pub IsMade : Route → List Form → Draft → List Word → List Form → Draft → Type 0
  IsMade done fs d [] left_over out = (fs ≡ left_over) × (d ≡ out)
  IsMade done fs d (w ∷ ws) left_over out = ⊥
  IsMade (word p) [] d ws left_over out = ⊥
  IsMade (word p) (f ∷ fs) d [] left_over out = ⊥
  IsMade (word p) (one s test ∷ fs) d (w ∷ ws) left_over out = (next : Draft) × (test (kind w) ≡ true) × (act s w d ≡ Ok next) × IsMade p fs next ws left_over out
  IsMade (word p) (f ∷ fs) d (w ∷ ws) left_over out = ⊥
  IsMade (pick c p) [] d ws left_over out = ⊥
  IsMade (pick c p) (f ∷ fs) d ws left_over out = (gs : List Form) × (opened c f ≡ Some gs) × IsMade p (gs ++ fs) d ws left_over out

  -- the words are a text of these forms, which makes the other draft of the first
  abbrev pub MakeBy : List Form → Draft → List Word → Draft → Type 0
  MakeBy fs d ws out = (p : Route) × IsMade p fs d ws [] out

-- words that are mere kinds add nothing
abbrev pub adds_nothing : Symbol → WordKind → Unit {0} → Result (Unit {0}) (Unit {0})
adds_nothing s k d = Ok d

-- the kinds are those of a text of these forms
abbrev pub IsText : List Form → List WordKind → Type 0
IsText fs ks = MakeBy (λ k. k) adds_nothing fs tt ks tt
