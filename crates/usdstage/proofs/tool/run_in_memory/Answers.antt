use Rattle.std.proofs.Common.{map, sym, ◌∙◌, ap, ◌++◌, inl, inr}
use Rattle.std.specs.Prelude.{string_bytes}
use Rattle.usdstage.specs.Command.{command_of}
use Rattle.usdstage.proofs.Outcomes.{all_written}
use Rattle.usdstage.proofs.Runs.{is_script, never_counted, never_rose}
use Rattle.usdstage.proofs.tool.run_in_memory.Goals as goal

pub returns-clause-ends : goal.returns-clause-ends
returns-clause-ends g c = λ held read.
    c.run_tool.ensures.complete held read c.args.script.now.left (is_script (command_of (map string_bytes c.args.words.now)) c.args.script.now.left) never_rose never_rose never_rose

pub returns-clause-written : goal.returns-clause-written
returns-clause-written g c = λ held read enough.
    let o = c.run_tool.ensures.outcome held read c.args.script.now.left (is_script (command_of (map string_bytes c.args.words.now)) c.args.script.now.left) in
    let text = all_written _ _ o.0 (λ e. elim (c.run_tool.ensures.reads.0 e) [ inl files ↦ never_counted files.0 | inr script ↦ never_counted script.1 ]) (λ e. never_counted (c.run_tool.ensures.writes.0 e)) enough o.1 in
    o.2 ∙ ap (λ t. c.args.out.now.taken ++ t) (sym text)
