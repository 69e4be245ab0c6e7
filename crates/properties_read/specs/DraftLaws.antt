-- Each word of a text keeps the properties of a draft proper.
use Rattle.std.specs.Prelude.{◌≡◌, ℕ, true, false, Ok}
use Rattle.sdf_paths.specs.Paths.{IsPath}
use Rattle.usda_grammar.specs.declared.kinds.WordKind.{WordKind}
use Rattle.usda_grammar.specs.declared.symbols.Symbol.{Symbol}
use Rattle.usda_statements.specs.OpenValues.{is_open}
use Rattle.usda_words.specs.Words.{Word}
use Rattle.usda_drafts.specs.Acts.{act}
use Rattle.usda_drafts.specs.Bodies.{body_act, name_act, dot_act, list_begun}
use Rattle.usda_drafts.specs.Drafts.{blank}
use Rattle.usda_drafts.specs.Lists.{in_list_act, in_references_act}
use Rattle.usda_drafts.specs.Prims.{body_end_act}
use Rattle.usda_drafts.specs.Values.{token_act, first_act, with_value_begun}
use Rattle.usda_drafts.specs.declared.draft.Draft.{Draft}
use Rattle.layer_texts.specs.Writable.{is_word}
use Rattle.text_syntax.specs.Open.{begins_value}
use Rattle.properties_read.specs.Drafts.{HasSoundProperties, CompletesWell, IsUtf8Path, is_of_property, behind_start, behind_part, behind_dot, takes_lists, takes_turns}
use Rattle.properties_read.specs.Targets.{Reading, closed, begun, bracketed}

-- A draft whose properties are proper so far stays one with each word, where a word that is taken as a name is one, a word that is taken
-- as a path is UTF-8, and a value that is complete is one for what it goes to.
pub record DraftsAreRead : Type 0 where
  -- nothing is read yet
  pub blank : HasSoundProperties closed blank
  -- a word of a value, and the first one
  pub value : (r : Reading) (w : Word) (d next : Draft) → HasSoundProperties r d → CompletesWell w d → token_act w d ≡ Ok next → HasSoundProperties r next
  pub first : (r : Reading) (w : Word) (d next : Draft)
      → HasSoundProperties r d → CompletesWell w (with_value_begun d) → first_act w d ≡ Ok next → HasSoundProperties r next
  -- the first word of a statement of a prim, and the end of the statements
  pub statement : (w : Word) (d next : Draft) → HasSoundProperties closed d → body_act w d ≡ Ok next → HasSoundProperties closed next
  pub ended : (d next : Draft) → HasSoundProperties closed d → body_end_act d ≡ Ok next → HasSoundProperties closed next
  -- the name of a property, the word behind its `.`, and the `=` of the targets of a relationship
  pub named : (r : Reading) (w : Word) (d next : Draft) → is_word w.text ≡ true → HasSoundProperties r d → name_act w d ≡ Ok next → HasSoundProperties closed next
  pub dotted : (k : WordKind) (at : ℕ) (d next : Draft) → HasSoundProperties closed d → dot_act k at d ≡ Ok next → HasSoundProperties (behind_dot k) next
  pub targets : (d next : Draft) → HasSoundProperties closed d → list_begun d ≡ Ok next → HasSoundProperties begun next
  -- the words of a list of the property in hand
  pub list_started : (k : WordKind) (w : Word) (d next : Draft) → is_of_property d.list ≡ true → IsPath d.owner.said.base → IsUtf8Path k w
      → HasSoundProperties begun d → in_list_act k w d ≡ Ok next → HasSoundProperties (behind_start k) next
  pub list_part : (k : WordKind) (w : Word) (d next : Draft) → is_of_property d.list ≡ true → IsPath d.owner.said.base → IsUtf8Path k w
      → HasSoundProperties bracketed d → in_list_act k w d ≡ Ok next → HasSoundProperties (behind_part k) next
  -- the words of other lists
  pub other_list : (r : Reading) (k : WordKind) (w : Word) (d next : Draft)
      → is_of_property d.list ≡ false → HasSoundProperties r d → in_list_act k w d ≡ Ok next → HasSoundProperties r next
  pub references : (r : Reading) (k : WordKind) (w : Word) (d next : Draft)
      → is_of_property d.list ≡ false → HasSoundProperties r d → in_references_act k w d ≡ Ok next → HasSoundProperties r next
  -- any other word
  pub others : (r : Reading) (s : Symbol) (w : Word) (d next : Draft) → is_open d.value ≡ false → takes_lists s ≡ false → takes_turns s ≡ false → begins_value s ≡ false
      → HasSoundProperties r d → act s w d ≡ Ok next → HasSoundProperties r next
