-- What a session writes: the replies to batches and publishes, and the lines that answer questions.
use Rattle.std.specs.Prelude.{◌≡◌, ℕ, ◌*◌, ◌^◌, pos, negsuc, true, false, List, [], ◌∷◌, codes, Some}
use Rattle.change_core.specs.declared.history.EditReply.TheVariants.{Accepted, Refused, JournalFull}
use Rattle.edit_batches.specs.declared.fault.EditFault.TheVariants as fault
use Rattle.path_maps.specs.declared.kind.ArcKind.TheVariants as arc
use Rattle.prim_view.specs.declared.fault.ArcFault.{ArcFault}
use Rattle.prim_view.specs.declared.fault.ArcReason.TheVariants as arc_reason
use Rattle.prim_view.specs.declared.fault.ItemSource.TheVariants.{Named}
use Rattle.prim_view.specs.declared.fault.PrimFault.TheVariants as prim_fault
use Rattle.prim_view.specs.declared.fault.TargetFault.{TargetFault}
use Rattle.prim_view.specs.declared.site.Site.{Site}
use Rattle.prim_view.specs.declared.stack_name.StackName.{StackName}
use Rattle.prim_view.specs.declared.stack_name.StackName.TheVariants.{Root, Asset}
use Rattle.sdf_paths.specs.declared.element.Element.{Element}
use Rattle.sdf_paths.specs.declared.element.Element.TheVariants.{Prim, Property, Selection}
use Rattle.sdf_values.specs.declared.refusal.RefusalKind.TheVariants as kind
use Rattle.spec_parts.specs.declared.items.Specifier.TheVariants.{Def, Over}
use Rattle.stage_query.specs.Answers.{Stage}
use Rattle.stage_questions.specs.Answers.{answer_line}
use Rattle.stage_questions.specs.Replies.{edit_text, published_text}
use Rattle.stage_questions.specs.declared.question.Question.{Question}
use Rattle.stage_questions.specs.declared.question.Question.TheVariants as question
use Rattle.stage_examples.specs.Answers.{stage}
use Rattle.stage_examples.specs.Flattening.{blank_view, targeting, a, a_k, b}

-- ---- batches and publishes

pub record BatchesAreTold : Type 0 where
  -- a batch by its number among those accepted, from 1
  pub accepted : edit_text (Accepted 1) ≡ codes "batch 1 accepted\n"
  pub accepted_later : edit_text (Accepted 120) ≡ codes "batch 120 accepted\n"
  -- a batch by its first operation that is refused, from 1, and why; a text that is no layer has the place that shows it
  pub refused : edit_text (Refused 2 fault.NoSpec) ≡ codes "batch refused: op 2 NoSpec\n"
  pub refused_text : edit_text (Refused 1 (fault.LayerText (record { kind = kind.Syntax; line = 2; column = 7 }))) ≡ codes "batch refused: op 1 LayerText Syntax 2:7\n"
  pub full : edit_text JournalFull ≡ codes "batch refused: journal full\n"

-- a stage by its number, the batches before it, and its prims: `/` is none
pub record PublishesAreTold : Type 0 where
  pub opened : published_text 0 0 1 ≡ codes "published 0: batches 0, prims 0\n"
  pub later : published_text 3 12 42 ≡ codes "published 3: batches 12, prims 41\n"

-- ---- answers

-- the line that answers a question on a stage, where the root layer is `root.usda`
abbrev pub Line : Stage → Question → List ℕ → Type 0
Line stage q line = answer_line (codes "root.usda") stage q ≡ line

-- a property of /A
abbrev pub of_a : List ℕ → List Element
of_a name = Prim (codes "A") ∷ Property name ∷ []

-- on the stage of the answers
pub record AnswersAreTold : Type 0 where
  pub children : Line stage (question.Children []) (codes "children /: [\"A\"]\n")
  pub no_children : Line stage (question.Children a_k) (codes "children /A/k: []\n")
  pub no_prim : Line stage (question.Children b) (codes "children /B: NoPrim\n")
  pub default : Line stage (question.Default (of_a (codes "d"))) (codes "default /A.d: 5\n")
  pub blocked : Line stage (question.Default (of_a (codes "blocked"))) (codes "default /A.blocked: Blocked\n")
  pub no_value : Line stage (question.Default (of_a (codes "n"))) (codes "default /A.n: NoValue\n")
  -- a relationship counts as no attribute
  pub no_attribute : Line stage (question.Default (of_a (codes "r"))) (codes "default /A.r: NoProperty\n")
  -- a time is told with the digits that it needs
  pub value : Line stage (question.Value (of_a (codes "x")) (pos (195 * 10 ^ 17))) (codes "value /A.x 19.5: 1\n")
  pub no_value_then : Line stage (question.Value (of_a (codes "n")) (negsuc 0)) (codes "value /A.n -0.000000000000000001: NoValue\n")
  pub samples : Line stage (question.Samples (of_a (codes "x"))) (codes "samples /A.x: {10: 1, 20: 2}\n")
  pub targets : Line stage (question.Targets (of_a (codes "r"))) (codes "targets /A.r: [</A/k>, </B>]\n")
  pub connections : Line stage (question.Targets (of_a (codes "c"))) (codes "targets /A.c: [</A.d>]\n")
  pub no_targets : Line stage (question.Targets (of_a (codes "e"))) (codes "targets /A.e: []\n")
  pub no_opinion : Line stage (question.Targets (of_a (codes "q"))) (codes "targets /A.q: NoValue\n")

-- a site with a spec or without, which no offset moves
abbrev pub site : StackName → List Element → Site
site stack path = record { stack = stack; path = path; maps = []; offset = record { offset = pos 0; scale = pos 1 }; by_class = false; has_spec = true }

-- a reference of /A to a layer that is absent
abbrev pub gone : ArcFault
gone = record {
  reason = arc_reason.MissingLayer;
  layer = codes "root.usda";
  site = a;
  kind = arc.Reference;
  item = record { source = Named (codes "gone.usda"); path = Some (Prim (codes "C") ∷ []); offset = record { offset = pos 0; scale = pos 1 } };
}

-- a target of /M.r that the stage has no path for
abbrev pub outside : TargetFault
outside = record { layer = codes "m.usda"; site = Prim (codes "M") ∷ []; name = codes "r"; target = Prim (codes "Z") ∷ [] }

-- the stage of
--   def "A"
--   {
--       rel r = [</A/k>]
--
--       def "k"
--       {
--       }
--   }
-- where /A has three sites and two faults
abbrev pub found : Stage
found = ([], record (blank_view Over) { children = codes "A" ∷ [] })
    ∷ (
      a,
      record (blank_view Def) {
        properties = targeting (codes "r") (Some (a_k ∷ [])) ∷ [];
        children = codes "k" ∷ [];
        sites =
            site Root a
            ∷ record (site Root (Prim (codes "_c") ∷ [])) { has_spec = false }
            ∷ site (Asset (codes "m.usda")) (Prim (codes "M") ∷ Selection (codes "s") (codes "v") ∷ [])
            ∷ [];
        faults = prim_fault.Arc gone ∷ prim_fault.TargetOutside outside ∷ [];
      },
    )
    ∷ (a_k, blank_view Def) ∷ []

pub record ListsAreTold : Type 0 where
  -- sites from strong to weak, each by the first layer of its stack; one at which no layer has a spec is not told
  pub sites : Line found (question.Sites a) (codes "sites /A: 2\n  @root.usda@ /A\n  @m.usda@ /M{s=v}\n")
  pub faults : Line found (question.Faults a) (codes "faults /A: 2\n  MissingLayer @root.usda@</A> references @gone.usda@</C>\n  TargetOutside @m.usda@</M.r> </Z>\n")
  pub no_faults : Line found (question.Faults []) (codes "faults /: 0\n")
  -- a flattened layer stands behind the number of its bytes
  pub flat :
      Line found question.Flatten
      (codes "flatten: 69 bytes\n#usda 1.0\n\ndef \"A\"\n{\n    rel r = [</A/k>]\n\n    def \"k\"\n    {\n    }\n}\n")
  pub flat_nothing : Line [] question.Flatten (codes "flatten: 10 bytes\n#usda 1.0\n")

pub record AreTold : Type 0 where
  pub batches : BatchesAreTold
  pub publishes : PublishesAreTold
  pub answers : AnswersAreTold
  pub lists : ListsAreTold
