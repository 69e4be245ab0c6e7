use Rattle.std.proofs.Common.{◌≡◌, ◌∙◌, ap, sym, Some, drop, take}
use Rattle.std.proofs.lemmas.List.{drop-drop}
use Rattle.script_lines.specs.Lines.{line_of}
use Rattle.session_script.specs.Reading.{move}
use Rattle.session_script.proofs.script.Script.take_front.Goals as goal

pub returns-in-GoesOn : goal.returns-in-GoesOn
returns-in-GoesOn c =
    let s = c.self.inside in
    let m = rw c.in-GoesOn.is at c.in_ok-take_line.ensures.moves in
    let text : c.part_of.result.now ≡ take c.args.len (drop s.start s.bytes.items) = rw c.deref.ensures.value at c.part_of.ensures in
    let line : line_of (take c.args.len (drop s.start s.bytes.items)) ≡ Some c.in-Some.line = ap line_of (sym text) ∙ sym c.in_ok-line.ensures ∙ c.in-Some.is in
    (c.take_line.new.batch, rw (← c.self.view_is) (ap (move s.batch) line ∙ m), rw (← c.self.view_is) (rw drop-drop))
