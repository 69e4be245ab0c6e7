-- Texts of replies and answers: they compute, but for whether a value is a block and what is printed of it.
use Rattle.std.proofs.Common.{◌≡◌, ◌∙◌, ℕ, List, [], Some, refl, sym, ap}
use Rattle.std.specs.Fmt.{digits}
use Rattle.std.specs.Prelude.{ℤ, pos, codes, ◌++◌}
use Rattle.prim_view.specs.Printing.{target_word}
use Rattle.sdf_specs.specs.Keys.{default_key}
use Rattle.flatten.specs.Flattened.{flat_body, flat_spec, default_in, beside_default, flat_head, head_of, with_prim, flat_layer}
use Rattle.sdf_values.specs.Print.{fraction_digits, print, print_step, print_item, whole_text}
use Rattle.sdf_values.specs.declared.value.Value.{Value, fold-roll-Value}
use Rattle.sdf_values.specs.declared.value.Value.TheOpen.{Value-F}
use Rattle.sdf_values.specs.declared.value.Value.TheVariants as value
use Rattle.sdf_values.specs.declared.value.Value.TheVariants.{rolls-Whole}
use Rattle.stage_query.specs.Answers.{decided}
use Rattle.stage_query.specs.declared.answer.Answer.{Answer}
use Rattle.stage_questions.specs.Answers.{answer_text, line_of, flat_text}
use Rattle.stage_questions.specs.Replies.{refused_word}
use Rattle.stage_questions.specs.Texts.{value_text}
use Rattle.usda_writer.specs.Canonical.{canonical, body_text, first_line, spec_block}
use Rattle.usda_writer.specs.Fields.{spec_lines}
use Rattle.stage_examples.proofs.Values.{whole_decides, block_decides}
use Rattle.stage_examples.specs.Replies.{BatchesAreTold, PublishesAreTold, AnswersAreTold, ListsAreTold, AreTold}

-- a whole number prints as such, at any level
abbrev Printer : Type 0
Printer = ℕ → List ℕ

whole_prints : (n : ℤ) → print (value.Whole n) ≡ (λ (level : ℕ). whole_text n)
whole_prints n = ap print (sym (rolls-Whole n)) ∙ fold-roll-Value Printer Printer print_step print_item (Value-F.Whole n)

-- a question with the answer that is told of a value
abbrev of_answer : List ℕ → Answer Value → List ℕ
of_answer question answer = question ++ codes ": " ++ line_of (answer_text value_text answer)

-- and with the value that is printed so
abbrev of_printed : List ℕ → Printer → List ℕ
of_printed question printer = question ++ codes ": " ++ line_of (printer 0)

-- the line of a number
number : (question : List ℕ) (n : ℤ) → of_answer question (decided (Some (value.Whole n))) ≡ of_printed question (λ (level : ℕ). whole_text n)
number question n = ap (of_answer question) (whole_decides n) ∙ ap (of_printed question) (whole_prints n)

-- two samples, printed so
abbrev of_samples : Printer → Printer → List ℕ
of_samples first second = codes "samples /A.x: " ++ line_of (codes "{" ++ ((codes "10: " ++ first 0) ++ (codes ", " ++ (codes "20: " ++ second 0) ++ [])) ++ codes "}")

batches : BatchesAreTold
unfolding digits refused_word
batches = record { accepted = refl; accepted_later = refl; refused = refl; refused_text = refl; full = refl }

publishes : PublishesAreTold
unfolding digits
publishes = record { opened = refl; later = refl }

answers : AnswersAreTold
unfolding digits fraction_digits
answers = record {
  children = refl;
  no_children = refl;
  no_prim = refl;
  default = number (codes "default /A.d") (pos 5);
  blocked = ap (of_answer (codes "default /A.blocked")) block_decides;
  no_value = refl;
  no_attribute = refl;
  value = number (codes "value /A.x 19.5") (pos 1);
  no_value_then = refl;
  samples = ap (λ (p : Printer). of_samples p (print (value.Whole (pos 2)))) (whole_prints (pos 1)) ∙ ap (of_samples (λ (level : ℕ). whole_text (pos 1))) (whole_prints (pos 2));
  targets = refl;
  connections = refl;
  no_targets = refl;
  no_opinion = refl;
}

lists : ListsAreTold
unfolding digits target_word flat_body flat_spec default_key default_in beside_default flat_head head_of with_prim flat_layer flat_text canonical body_text first_line spec_block spec_lines
lists = record { sites = refl; faults = refl; no_faults = refl; flat = refl; flat_nothing = refl }

pub are_told : AreTold
are_told = record { batches = batches; publishes = publishes; answers = answers; lists = lists }
