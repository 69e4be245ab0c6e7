-- Lists of items between brackets, whatever an item is.
use Rattle.std.specs.Prelude.{◌≡◌, ℕ, true, List, [], ◌∷◌, ◌++◌}
use Rattle.std.specs.Str.{is_utf8}
use Rattle.sdf_paths.specs.declared.element.Element.{Element}
use Rattle.usda_grammar.specs.declared.symbols.Symbol.{Symbol}
use Rattle.usda_drafts.specs.declared.draft.Draft.{Draft}
use Rattle.value_texts.specs.Cuts.{Said}
use Rattle.value_texts.specs.ValueWords.{comma, open_bracket, close_bracket}
use Rattle.layer_reads.specs.Taking.{AreTaken}

-- How a draft takes the words of a list: its brackets, its items and the commas between them. `Is` says of a draft that it has these
-- items so far, and `End` that the list of these items is closed; behind an item stand the symbols `after` it.
pub record IsListRead {T : Type 0} (g : T → List Said) (W : T → Type 0) (from or_end : Symbol) (after : T → List Symbol) (Before : Draft → Type 0) (Is End : List T → Draft → Type 0) : Type 0 where
  pub opens : (d : Draft) → Before d → AreTaken (from ∷ []) d (open_bracket ∷ []) (or_end ∷ []) (Is [])
  pub item : (done : List T) (x : T) (d : Draft) → W x → Is done d → AreTaken (or_end ∷ []) d (g x) (after x) (Is (done ++ x ∷ []))
  pub parts : (done : List T) (x : T) (d : Draft) → Is done d → AreTaken (after x) d (comma ∷ []) (or_end ∷ []) (Is done)
  pub ends : (done : List T) (x : T) (d : Draft) → Is done d → AreTaken (after x) d (close_bracket ∷ []) [] (End done)

-- a name in a list of names may be any UTF-8
abbrev pub IsString : List Element → List ℕ → Type 0
IsString base t = is_utf8 t ≡ true
