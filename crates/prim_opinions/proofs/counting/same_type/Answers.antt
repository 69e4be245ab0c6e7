use Rattle.std.proofs.Common.{◌∙◌, sym}
use Rattle.prim_opinions.proofs.Types.{types_differ, types_by_name, flags_apart, flags_same}
use Rattle.prim_opinions.proofs.counting.same_type.Goals as goal

pub returns-then-a-b : goal.returns-then-a-b
returns-then-a-b c = types_differ c.args.a c.args.b (flags_apart c.args.a.array c.args.b.array c.if-a-b.true)

pub returns : goal.returns
returns c =
    types_by_name c.args.a c.args.b (flags_same c.args.a.array c.args.b.array c.if-a-b.false) c.same_words.result
    (λ h. sym c.name.ensures ∙ (c.same_words.ensures.0 h ∙ c.name-2.ensures), λ e. c.same_words.ensures.1 (c.name.ensures ∙ (e ∙ sym c.name-2.ensures)))
