-- A session on a small world: replies, one after the other.
use Rattle.std.specs.Prelude.{◌≡◌, List, [], ◌∷◌, codes, None}
use Rattle.edit_batches.specs.declared.op.Op.{Op}
use Rattle.edit_batches.specs.declared.op.Op.TheVariants as op
use Rattle.layer_set.specs.Worlds.{WorldData}
use Rattle.layer_set.specs.declared.held.Held.TheVariants.{Present}
use Rattle.sdf_paths.specs.declared.element.Element.{Element}
use Rattle.sdf_paths.specs.declared.element.Element.TheVariants.{Prim}
use Rattle.spec_parts.specs.Blank.{blank_head, blank_spec}
use Rattle.spec_parts.specs.declared.items.Specifier.TheVariants.{Def}
use Rattle.stage_questions.specs.declared.question.Question.TheVariants as question
use Rattle.stage_session.specs.Sessions.{Session, opening, opening_text, batch_reply, after_batch, publish_reply, after_publish, question_reply}

-- /A and /B
abbrev pub a : List Element
a = Prim (codes "A") ∷ []

abbrev pub b : List Element
b = Prim (codes "B") ∷ []

-- the world whose root layer, root.usda, is
--   def "A"
--   {
--   }
abbrev pub world : WorldData
world = record {
  root = codes "root.usda";
  session = None;
  layers = (codes "root.usda", Present (record { head = record blank_head { root_names = codes "A" ∷ [] }; specs = (a, blank_spec Def) ∷ [] })) ∷ [];
  rules = [];
}

-- `spec def @root.usda@ /B`, and `remove @root.usda@ /A`
abbrev pub add_b : Op
add_b = op.AddPrim (codes "root.usda") b Def None

abbrev pub remove_a : Op
remove_a = op.Remove (codes "root.usda") a

-- the session once it is opened, and after a batch of one operation
abbrev pub start : Session
start = opening world

abbrev pub added : Session
added = after_batch start (add_b ∷ [])

pub record BatchesAreTold : Type 0 where
  -- opening a world publishes its stage as version 0
  pub opened : opening_text world ≡ codes "published 0: batches 0, prims 1\n"
  pub accepted : batch_reply start (add_b ∷ []) ≡ codes "batch 1 accepted\n"
  -- each batch sees what those before it made: /B is there now
  pub once_more : batch_reply added (add_b ∷ []) ≡ codes "batch refused: op 1 SpecThere\n"
  -- a batch that is refused makes nothing, not even its first operation, and takes no number
  pub refused : batch_reply start (remove_a ∷ remove_a ∷ []) ≡ codes "batch refused: op 2 NoSpec\n"
  pub after_refused : batch_reply (after_batch start (remove_a ∷ remove_a ∷ [])) (remove_a ∷ []) ≡ codes "batch 1 accepted\n"

pub record PublishesAreTold : Type 0 where
  -- until it is published, what a batch made is not on the stage that is asked
  pub before : question_reply added (question.Children []) ≡ codes "children /: [\"A\"]\n"
  pub published : publish_reply added ≡ codes "published 1: batches 1, prims 2\n"
  pub behind : question_reply (after_publish added) (question.Children []) ≡ codes "children /: [\"A\", \"B\"]\n"
  -- a publish counts though nothing changed
  pub published_again : publish_reply (after_publish added) ≡ codes "published 2: batches 1, prims 2\n"

pub record AreTold : Type 0 where
  pub batches : BatchesAreTold
  pub publishes : PublishesAreTold
