-- Tokens that are given to a draft one after the other.
use Rattle.std.specs.Prelude.{List, [], ◌∷◌, Ok, Err}
use Rattle.usda_values.specs.declared.draft.ValueDraft.{ValueDraft}
use Rattle.usda_values.specs.Drafts.{Acted, value_act}
use Rattle.value_texts.specs.Cuts.{Said}

-- what these tokens make of a draft, or the kind of the first refusal
abbrev pub acts : List Said → ValueDraft → Acted
acts [] d = Ok d
acts (w ∷ ws) d = elim (value_act w.kind w.text d) [ Ok next ↦ acts ws next | Err k ↦ Err k ]
