use Rattle.std.proofs.Common.{◌≡◌, true, false, refl, ap, sym, subst, ◌∙◌, ◌++◌, List, [], length, Result}
use Rattle.usda_drafts.specs.Refusals.{Does}
use Rattle.usda_drafts.specs.declared.draft.Draft.{Draft}
use Rattle.usda_drafts.specs.declared.fault.Refused.{Refused}
use Rattle.usda_grammar.specs.Table.{layer}
use Rattle.usda_grammar.specs.declared.symbols.Symbol.{Symbol}
use Rattle.usda_machine.proofs.Symbols.{stack_of-none}
use Rattle.usda_machine.specs.Stacks.{stack_of}
use Rattle.usda_words.specs.Sources.{words_left}
use Rattle.usda_words.specs.Words.{Word}
use Rattle.usda_reader.specs.Reading.{run_from}
use Rattle.usda_reader.proofs.FirstBytes.{passed_is_utf8}
use Rattle.usda_reader.proofs.read.read_words.Goals as goal

pub unreachable-requires : goal.unreachable-requires
unreachable-requires c = let f : true ≡ false = sym (passed_is_utf8 c.args.bytes.now c.requires) ∙ c.in_default.ensures.0 in cc

pub returns : goal.returns
returns c =
    let none : stack_of c.new-stack.result ≡ [] = ap stack_of c.new-stack.ensures ∙ stack_of-none [] refl in
    let pushed : stack_of c.push_front.new.stack ≡ layer = c.in_ok-push_front.ensures ∙ ap (λ (l : List Symbol). l ++ stack_of c.new-stack.result) c.layer.ensures ∙ ap (λ (l : List Symbol). layer ++ l) none in
    subst (λ (x : Result Draft Refused). Does c.take_words.result c.take_words.new.draft x)
    (ap (λ (ss : List Symbol). run_from (length c.args.bytes.now) ss c.args.draft.now (words_left c.in-Ok.words)) pushed
    ∙ ap (λ (ws : List Word). run_from (length c.args.bytes.now) layer c.args.draft.now ws) c.in-Ok.ensures.1)
    c.take_words.ensures
