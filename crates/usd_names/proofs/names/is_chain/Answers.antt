use Rattle.std.proofs.Common.{◌∙◌, sym, eq-eqb}
use Rattle.std.proofs.lemmas.Str.{IsUtf8-past_char}
use Rattle.usd_names.proofs.Chains.{bad_start, good_start, joins, bad_rest, good_rest, no_chars, no_length, not_colon}
use Rattle.usd_names.proofs.names.is_chain.Goals as goal

pub returns-then-not-is_start : goal.returns-then-not-is_start
returns-then-not-is_start c =
    sym (c.loop-c.invariant.name ∙ bad_start c.loop-c.begun c.loop-c.c-iterator.rest.now c.next.new.self.rest.now c.in-Some.c c.loop-c.invariant.utf8 c.in-Some.ensures.steps.0
    c.if-not-begun.true (sym c.is_start.ensures ∙ c.if-not-is_start.true))

pub loop-c-preserved-then-not-begun : goal.loop-c-preserved-then-not-begun
loop-c-preserved-then-not-begun c = record {
  name = c.loop-c.invariant.name ∙ good_start c.loop-c.begun c.loop-c.c-iterator.rest.now c.next.new.self.rest.now c.in-Some.c c.loop-c.invariant.utf8 c.in-Some.ensures.steps.0
      c.if-not-begun.true (sym c.is_start.ensures ∙ c.if-not-is_start.false);
  utf8 = IsUtf8-past_char c.loop-c.c-iterator.rest.now c.next.new.self.rest.now c.in-Some.c c.loop-c.invariant.utf8 c.in-Some.ensures.steps.0;
}

pub loop-c-preserved-then-c-eq58 : goal.loop-c-preserved-then-c-eq58
loop-c-preserved-then-c-eq58 c = record {
  name = c.loop-c.invariant.name ∙ joins c.loop-c.begun c.loop-c.c-iterator.rest.now c.next.new.self.rest.now c.in-Some.c c.loop-c.invariant.utf8 c.in-Some.ensures.steps.0
      c.if-not-begun.false (eq-eqb c.in-Some.c 58 c.if-c-eq58.true);
  utf8 = IsUtf8-past_char c.loop-c.c-iterator.rest.now c.next.new.self.rest.now c.in-Some.c c.loop-c.invariant.utf8 c.in-Some.ensures.steps.0;
}

pub returns-then-not-is_continue : goal.returns-then-not-is_continue
returns-then-not-is_continue c =
    sym (c.loop-c.invariant.name ∙ bad_rest c.loop-c.begun c.loop-c.c-iterator.rest.now c.next.new.self.rest.now c.in-Some.c c.loop-c.invariant.utf8 c.in-Some.ensures.steps.0
    c.if-not-begun.false (not_colon c.in-Some.c c.if-c-eq58.false) (sym c.is_continue.ensures ∙ c.if-not-is_continue.true))

pub loop-c-preserved : goal.loop-c-preserved
loop-c-preserved c = record {
  name = c.loop-c.invariant.name ∙ good_rest c.loop-c.begun c.loop-c.c-iterator.rest.now c.next.new.self.rest.now c.in-Some.c c.loop-c.invariant.utf8 c.in-Some.ensures.steps.0
      c.if-not-begun.false (not_colon c.in-Some.c c.if-c-eq58.false) (sym c.is_continue.ensures ∙ c.if-not-is_continue.false);
  utf8 = IsUtf8-past_char c.loop-c.c-iterator.rest.now c.next.new.self.rest.now c.in-Some.c c.loop-c.invariant.utf8 c.in-Some.ensures.steps.0;
}

pub returns : goal.returns
returns c = sym (c.loop-c.invariant.name ∙ no_chars c.loop-c.begun c.loop-c.c-iterator.rest.now (no_length c.loop-c.c-iterator.rest.now c.in-None.ensures.steps.0.0))
