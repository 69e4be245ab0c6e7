-- What the run of the machine has to do with the grammar, whatever the words mean.
use Rattle.std.specs.Prelude.{◌≡◌, Bool, true, false, List, [], ◌∷◌, ◌++◌, Option, Some, Result, Ok, Err}
use Rattle.usda_grammar.specs.declared.kinds.WordKind.{WordKind}
use Rattle.usda_grammar.specs.declared.symbols.Symbol.{Symbol}
use Rattle.usda_grammar.specs.Table.{layer}
use Rattle.usda_machine.specs.Reading.{run}
use Rattle.usda_machine.specs.Texts.{Make, HaveFirstRefusal, HaveOneAnswer}

module _ {Word Draft Refusal : Type 0} (kind : Word → WordKind) (act : Symbol → Word → Draft → Result Draft Refusal) (refused_as : Option Word → Refusal) (blank : Draft) where
  -- the run answers exactly what the grammar makes of the words, or the first refusal, and each text has one answer
  pub record RunIsExact : Type 0 where
    pub found : (ws : List Word) (out : Draft) → run kind act refused_as layer blank ws ≡ Ok out → Make kind act refused_as blank ws out
    pub only : (ws : List Word) (out : Draft) → Make kind act refused_as blank ws out → run kind act refused_as layer blank ws ≡ Ok out
    pub refusal : (ws : List Word) (r : Refusal) → run kind act refused_as layer blank ws ≡ Err r → HaveFirstRefusal kind act refused_as blank ws r
    pub exact : (ws : List Word) (r : Refusal) → HaveFirstRefusal kind act refused_as blank ws r → run kind act refused_as layer blank ws ≡ Err r
    pub one : (ws : List Word) → HaveOneAnswer kind act refused_as blank ws

-- words that are their own kinds, and a draft that keeps them, but for those that an act refuses
abbrev pub kept_unless : (Symbol → WordKind → List WordKind → Bool) → Symbol → WordKind → List WordKind → Result (List WordKind) (Option WordKind)
kept_unless refuses s k ks = elim (refuses s k ks) [ true ↦ Err (Some k) | false ↦ Ok (ks ++ k ∷ []) ]

-- the run over words that are mere kinds, whichever of them the acts refuse
abbrev pub KindsAreExact : Type 0
KindsAreExact = (refuses : Symbol → WordKind → List WordKind → Bool) → RunIsExact (λ k. k) (kept_unless refuses) (λ k. k) []
