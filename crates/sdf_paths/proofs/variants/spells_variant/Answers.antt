use Rattle.std.proofs.Common.{◌∙◌, sym, ap}
use Rattle.std.specs.Str.{chars}
use Rattle.std.specs.Str.Iter.{chars_rest}
use Rattle.std.proofs.lemmas.Str.{IsUtf8-past_char}
use Rattle.sdf_paths.proofs.Selections.{at_end, goes_on, past}
use Rattle.sdf_paths.proofs.variants.spells_variant.Goals as goal

pub loop-c-preserved : goal.loop-c-preserved
loop-c-preserved c =
    let taken = c.in-Some.ensures.steps.0 in
    record {
      rest =
          ap (λ p. goes_on p (chars (chars_rest c.next.new.self))) c.in-Some-part_after.ensures
          ∙ sym (past c.loop-c.part (chars_rest c.loop-c.c-iterator) (chars_rest c.next.new.self) c.in-Some.c c.loop-c.invariant.utf8 taken) ∙ c.loop-c.invariant.rest;
      utf8 = IsUtf8-past_char (chars_rest c.loop-c.c-iterator) (chars_rest c.next.new.self) c.in-Some.c c.loop-c.invariant.utf8 taken;
    }

pub returns-in-None-part_after : goal.returns-in-None-part_after
returns-in-None-part_after c =
    ap (λ p. goes_on p (chars (chars_rest c.next.new.self))) c.in-None-part_after.ensures
    ∙ sym (past c.loop-c.part (chars_rest c.loop-c.c-iterator) (chars_rest c.next.new.self) c.in-Some.c c.loop-c.invariant.utf8 c.in-Some.ensures.steps.0) ∙ c.loop-c.invariant.rest

pub returns : goal.returns
returns c = c.is_whole.ensures ∙ sym (at_end c.loop-c.part (chars_rest c.loop-c.c-iterator) c.in-None.ensures.steps.0.0) ∙ c.loop-c.invariant.rest
