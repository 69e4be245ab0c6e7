use Rattle.std.proofs.Common.{◌≡◌, ◌∙◌, ◌≤◌, ◌+◌, ◌++◌, ℕ, List, length, drop, sym, subst, ap, arith, true, false}
use Rattle.std.specs.Prelude.{encode_utf8}
use Rattle.std.specs.Str.{IsUtf8, IsCharBoundary, chars}
use Rattle.std.proofs.lemmas.Str.{IsUtf8-past_char, IsCharBoundary-past_char, IsCharBoundary-start, drop_past_char}
use Rattle.std.specs.Char.{len_utf8}
use Rattle.usda_lexer.specs.Names.{name_end}
use Rattle.usda_lexer.proofs.NameSteps.{name_colon, name_goes, name_stops, name_ends, fewer}
use Rattle.usda_lexer.proofs.name.name_len.Goals as goal

pub loop-c-init : goal.loop-c-init
loop-c-init c =
    let is : c.args.text.now ≡ c.into_iter-c-iterator.result.rest.now = sym (ap (λ s. s.rest.now) c.into_iter-c-iterator.ensures.into_iter_gives ∙ c.chars-c-items.ensures.rest) in
    record {
      same = ap (λ t. name_end false 0 0 (chars t)) is;
      rest = is;
      len = omega (arith, ap length is);
      utf8 = subst IsUtf8 is c.utf8.text;
      boundary = IsCharBoundary-start c.args.text.now c.utf8.text;
    }

pub loop-c-preserved-then-is_colon : goal.loop-c-preserved-then-is_colon
loop-c-preserved-then-is_colon c =
    let old : List ℕ = c.loop-c.c-iterator.rest.now in
    let new : List ℕ = c.next.new.self.rest.now in
    let steps : old ≡ encode_utf8 c.in-Some.c ++ new = c.in-Some.ensures.steps.0 in
    let len : c.len_utf8-at.result ≡ len_utf8 c.in-Some.c = c.len_utf8-at.ensures.value in
    record {
      same = c.loop-c.invariant.same ∙ name_colon c.loop-c.begun c.loop-c.end c.loop-c.at old new c.in-Some.c c.loop-c.invariant.utf8 steps (sym c.is_colon.ensures ∙ c.if-is_colon.true)
          ∙ ap (λ n. name_end false c.loop-c.end (c.loop-c.at + n) (chars new)) (sym len);
      rest = ap (λ n. drop (c.loop-c.at + n) c.args.text.now) len ∙ drop_past_char c.args.text.now new c.loop-c.at c.in-Some.c (c.loop-c.invariant.rest ∙ steps);
      len = omega (arith, len, fewer old new c.in-Some.c steps, c.loop-c.invariant.len);
      utf8 = IsUtf8-past_char old new c.in-Some.c c.loop-c.invariant.utf8 steps;
      boundary = c.loop-c.invariant.boundary;
    }

pub loop-c-preserved : goal.loop-c-preserved
loop-c-preserved c =
    let old : List ℕ = c.loop-c.c-iterator.rest.now in
    let new : List ℕ = c.next.new.self.rest.now in
    let steps : old ≡ encode_utf8 c.in-Some.c ++ new = c.in-Some.ensures.steps.0 in
    let at : ℕ = c.loop-c.at + c.len_utf8-at-then-goes_on.result in
    let len : c.len_utf8-at-then-goes_on.result ≡ len_utf8 c.in-Some.c = c.len_utf8-at-then-goes_on.ensures.value in
    let inside : c.loop-c.at ≤ length c.args.text.now = omega (arith, c.loop-c.invariant.len) in
    record {
      same = c.loop-c.invariant.same ∙ name_goes c.loop-c.begun c.loop-c.end c.loop-c.at old new c.in-Some.c c.loop-c.invariant.utf8 steps (sym c.is_colon.ensures ∙ c.if-is_colon.false)
          (sym c.goes_on.ensures ∙ c.if-goes_on.true)
          ∙ ap (λ n. name_end true (c.loop-c.at + n) (c.loop-c.at + n) (chars new)) (sym len);
      rest = ap (λ n. drop (c.loop-c.at + n) c.args.text.now) len ∙ drop_past_char c.args.text.now new c.loop-c.at c.in-Some.c (c.loop-c.invariant.rest ∙ steps);
      len = omega (arith, len, fewer old new c.in-Some.c steps, c.loop-c.invariant.len);
      utf8 = IsUtf8-past_char old new c.in-Some.c c.loop-c.invariant.utf8 steps;
      boundary = subst (λ (n : ℕ). IsCharBoundary c.args.text.now (c.loop-c.at + n)) (sym len)
          (IsCharBoundary-past_char c.args.text.now new c.loop-c.at c.in-Some.c inside (subst IsUtf8 (sym c.loop-c.invariant.rest) c.loop-c.invariant.utf8) (c.loop-c.invariant.rest ∙ steps));
    }

pub returns-else-goes_on-clause-value : goal.returns-else-goes_on-clause-value
returns-else-goes_on-clause-value c =
    sym (c.loop-c.invariant.same ∙ name_stops c.loop-c.begun c.loop-c.end c.loop-c.at c.loop-c.c-iterator.rest.now c.next.new.self.rest.now c.in-Some.c c.loop-c.invariant.utf8
    c.in-Some.ensures.steps.0 (sym c.is_colon.ensures ∙ c.if-is_colon.false) (sym c.goes_on.ensures ∙ c.if-goes_on.false))

pub returns-clause-value : goal.returns-clause-value
returns-clause-value c =
    sym (c.loop-c.invariant.same ∙ name_ends c.loop-c.begun c.loop-c.end c.loop-c.at c.loop-c.c-iterator.rest.now c.in-None.ensures.steps.0.0)
