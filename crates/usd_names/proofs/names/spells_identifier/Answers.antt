use Rattle.std.proofs.Common.{◌≡◌, ◌∙◌, ◌&&◌, ◌∷◌, ◌++◌, [], Bool, true, false, List, ℕ, length, sym, ap, refl, arith}
use Rattle.std.specs.Prelude.{encode_utf8}
use Rattle.std.specs.Str.{chars, IsUtf8}
use Rattle.std.specs.Str.Iter.{chars_rest}
use Rattle.std.proofs.lemmas.Str.{IsUtf8-past_char, chars_past_char, chars-nil}
use Rattle.usd_names.specs.Names.{identifier_rest, goes_on}
use Rattle.usd_names.proofs.names.spells_identifier.Goals as goal

-- one character of an identifier
one_more : (begun : Bool) (bs rest : List ℕ) (c : ℕ) (b : Bool) → IsUtf8 bs → bs ≡ encode_utf8 c ++ rest → goes_on begun c ≡ b → identifier_rest begun (chars bs) ≡ (b && identifier_rest true (chars rest))
one_more true bs rest c b utf8 is goes = ap (identifier_rest true) (chars_past_char bs rest c utf8 is) ∙ rw goes refl
one_more false bs rest c b utf8 is goes = ap (identifier_rest false) (chars_past_char bs rest c utf8 is) ∙ rw goes refl

at_end : (begun : Bool) (bs : List ℕ) → length bs ≡ 0 → identifier_rest begun (chars bs) ≡ begun
at_end true [] e = rw chars-nil refl
at_end false [] e = rw chars-nil refl
at_end begun (x ∷ bs) e = absurd (omega arith)

pub loop-c-preserved : goal.loop-c-preserved
loop-c-preserved c =
    let taken = c.in-Some.ensures.steps.0 in
    record {
      rest = sym (one_more c.loop-c.begun (chars_rest c.loop-c.c-iterator) (chars_rest c.next.new.self) c.in-Some.c true c.loop-c.invariant.utf8 taken (sym c.goes_on.ensures ∙ c.if-not-goes_on.false)) ∙ c.loop-c.invariant.rest;
      utf8 = IsUtf8-past_char (chars_rest c.loop-c.c-iterator) (chars_rest c.next.new.self) c.in-Some.c c.loop-c.invariant.utf8 taken;
    }

pub returns-then-not-goes_on : goal.returns-then-not-goes_on
returns-then-not-goes_on c =
    sym (one_more c.loop-c.begun (chars_rest c.loop-c.c-iterator) (chars_rest c.next.new.self) c.in-Some.c false c.loop-c.invariant.utf8 c.in-Some.ensures.steps.0 (sym c.goes_on.ensures ∙ c.if-not-goes_on.true)) ∙ c.loop-c.invariant.rest

pub returns : goal.returns
returns c = sym (at_end c.loop-c.begun (chars_rest c.loop-c.c-iterator) c.in-None.ensures.steps.0.0) ∙ c.loop-c.invariant.rest
