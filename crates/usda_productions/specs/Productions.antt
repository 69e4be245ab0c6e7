-- The table of the grammar has the texts of the productions, by which words make the same and are refused the same.
use Rattle.std.specs.Prelude.{Bool, true, false, List, [], ◌∷◌, ◌++◌, Option, Some, Result, Ok, Err}
use Rattle.usda_grammar.specs.declared.kinds.WordKind.{WordKind}
use Rattle.usda_grammar.specs.declared.symbols.Symbol.{Symbol}
use Rattle.usda_grammar.specs.Table.{layer}
use Rattle.usda_grammar.specs.Derivations.{AreText}
use Rattle.usda_machine.specs.Texts as table
use Rattle.usda_productions.specs.Refusals.{HaveFirstRefusal}
use Rattle.usda_productions.specs.Rules.{layer_forms}
use Rattle.usda_productions.specs.Texts.{IsText, MakeBy}

-- the texts of the table and those of the productions are the same
pub record TableIsProductions : Type 0 where
  pub written : (ks : List WordKind) → AreText layer ks → IsText layer_forms ks
  pub read : (ks : List WordKind) → IsText layer_forms ks → AreText layer ks

module _ {Word Draft Refusal : Type 0} (kind : Word → WordKind) (act : Symbol → Word → Draft → Result Draft Refusal) (refused_as : Option Word → Refusal) (blank : Draft) where
  -- what the table makes of words the productions make of them, and where it refuses them first they do
  pub record ProductionsMakeTheSame : Type 0 where
    pub written : (ws : List Word) (out : Draft) → table.Make kind act refused_as blank ws out → MakeBy kind act layer_forms blank ws out
    pub read : (ws : List Word) (out : Draft) → MakeBy kind act layer_forms blank ws out → table.Make kind act refused_as blank ws out
    pub refused : (ws : List Word) (r : Refusal) → table.HaveFirstRefusal kind act refused_as blank ws r → HaveFirstRefusal kind act refused_as blank ws r
    pub refuses : (ws : List Word) (r : Refusal) → HaveFirstRefusal kind act refused_as blank ws r → table.HaveFirstRefusal kind act refused_as blank ws r

-- words that are their own kinds, and a draft that keeps them with the symbols by which they are acted on, but for those that an act
-- refuses
abbrev pub kept_unless : (Symbol → WordKind → List (Symbol × WordKind) → Bool) → Symbol → WordKind → List (Symbol × WordKind) → Result (List (Symbol × WordKind)) (Option WordKind)
kept_unless refuses s k ks = elim (refuses s k ks) [ true ↦ Err (Some k) | false ↦ Ok (ks ++ (s, k) ∷ []) ]

-- By the productions each word is acted on by the symbol that takes it in the table, and the first that an act refuses is the same,
-- whichever these are.
abbrev pub KindsAreMadeTheSame : Type 0
KindsAreMadeTheSame = (refuses : Symbol → WordKind → List (Symbol × WordKind) → Bool) → ProductionsMakeTheSame (λ k. k) (kept_unless refuses) (λ k. k) []
