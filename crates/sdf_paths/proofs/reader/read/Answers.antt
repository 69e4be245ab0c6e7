use Rattle.std.proofs.Common.{◌∙◌, sym, arith}
use Rattle.std.proofs.lemmas.Str.{IsUtf8-past_char, length-encode}
use Rattle.std.specs.Str.Iter.{chars_rest}
use Rattle.sdf_paths.proofs.ParseExact.{ran_more, whole_more, place_more, out_at, out_long, out_after, out_end, to_end}
use Rattle.sdf_paths.proofs.reader.read.Goals as goal

pub loop-c-preserved : goal.loop-c-preserved
loop-c-preserved c =
    let taken = c.in-Some.ensures.steps.0 in
    record {
      ran = ran_more c.loop-c.yielded c.loop-c.reader c.in-Some-2.next c.in-Some.c c.loop-c.invariant.ran (sym c.in-Some-2.is ∙ c.in_ok-next.ensures);
      place = omega (arith, place_more c.loop-c.at c.loop-c.yielded c.in-Some.c c.loop-c.invariant.place, c.len_utf8-at.ensures.len, c.len_utf8-at.ensures.value, length-encode c.in-Some.c);
      whole = whole_more c.args.text.now c.loop-c.yielded (chars_rest c.loop-c.c-iterator) (chars_rest c.next.new.self) c.in-Some.c c.loop-c.invariant.whole taken;
      utf8 = IsUtf8-past_char (chars_rest c.loop-c.c-iterator) (chars_rest c.next.new.self) c.in-Some.c c.loop-c.invariant.utf8 taken;
      short = omega (arith, c.if-at-ge-MAX_BYTES.false, c.len_utf8-at.ensures.upper_bound);
    }

pub returns-then-at-ge-MAX_BYTES-clause-bad : goal.returns-then-at-ge-MAX_BYTES-clause-bad
returns-then-at-ge-MAX_BYTES-clause-bad c =
    let taken = c.in-Some.ensures.steps.0 in
    out_long c.args.text.now c.loop-c.yielded (chars_rest c.loop-c.c-iterator) (chars_rest c.next.new.self) c.in-Some.c c.loop-c.at c.loop-c.reader
    (IsUtf8-past_char (chars_rest c.loop-c.c-iterator) (chars_rest c.next.new.self) c.in-Some.c c.loop-c.invariant.utf8 taken)
    c.loop-c.invariant.whole taken c.loop-c.invariant.ran c.loop-c.invariant.place c.if-at-ge-MAX_BYTES.true

pub returns-in-None-2-clause-bad : goal.returns-in-None-2-clause-bad
returns-in-None-2-clause-bad c =
    let taken = c.in-Some.ensures.steps.0 in
    out_at c.args.text.now c.loop-c.yielded (chars_rest c.loop-c.c-iterator) (chars_rest c.next.new.self) c.in-Some.c c.loop-c.at c.loop-c.reader
    (IsUtf8-past_char (chars_rest c.loop-c.c-iterator) (chars_rest c.next.new.self) c.in-Some.c c.loop-c.invariant.utf8 taken)
    c.loop-c.invariant.whole taken c.loop-c.invariant.ran c.loop-c.invariant.place (omega (arith, c.if-at-ge-MAX_BYTES.false)) (sym c.in-None-2.is ∙ c.in_ok-next.ensures)

pub returns-then-at-gt-MAX_BYTES-clause-bad : goal.returns-then-at-gt-MAX_BYTES-clause-bad
returns-then-at-gt-MAX_BYTES-clause-bad c =
    out_after c.args.text.now c.loop-c.yielded (chars_rest c.loop-c.c-iterator) c.loop-c.at c.loop-c.reader
    c.loop-c.invariant.whole c.in-None.ensures.steps.0.0 c.loop-c.invariant.ran c.loop-c.invariant.place c.if-at-gt-MAX_BYTES.true

pub returns-in-Some-3-clause-ok : goal.returns-in-Some-3-clause-ok
returns-in-Some-3-clause-ok c =
    to_end c.args.text.now c.loop-c.yielded (chars_rest c.loop-c.c-iterator) c.loop-c.at c.loop-c.reader c.in-Some-3.elements c.utf8.text
    c.loop-c.invariant.whole c.in-None.ensures.steps.0.0 c.loop-c.invariant.ran c.loop-c.invariant.place c.if-at-gt-MAX_BYTES.false (sym c.in-Some-3.is ∙ c.in_ok-elements.ensures)

pub returns-in-None-3-clause-bad : goal.returns-in-None-3-clause-bad
returns-in-None-3-clause-bad c =
    out_end c.args.text.now c.loop-c.yielded (chars_rest c.loop-c.c-iterator) c.loop-c.at c.loop-c.reader
    c.loop-c.invariant.whole c.in-None.ensures.steps.0.0 c.loop-c.invariant.ran c.loop-c.invariant.place c.if-at-gt-MAX_BYTES.false (sym c.in-None-3.is ∙ c.in_ok-elements.ensures)
