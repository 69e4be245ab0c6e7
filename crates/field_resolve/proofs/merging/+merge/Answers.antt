use Rattle.std.proofs.Common.{◌≡◌, ◌∙◌, ap, sym, Some, None}
use Rattle.std.specs.Option.{option_copied}
use Rattle.sdf_values.specs.declared.value.Value.TheVariants as value
use Rattle.std.proofs.lemmas.Result.{IfOk-weaker}
use Rattle.composition.specs.Merging.{entries_of}
use Rattle.field_resolve.proofs.Overlaid.{kept_at_last, kept_alone, kept_over, both_open}
use Rattle.field_resolve.proofs.merging.+merge.Goals as goal

pub merged_within-returns-then-levels-eq0 : goal.merged_within-returns-then-levels-eq0
merged_within-returns-then-levels-eq0 t c =
    IfOk-weaker c.copy.result _ _ (λ v is. is ∙ sym (kept_at_last c.args.levels c.args.stronger.now c.args.weaker.now c.if-levels-eq0.true)) c.copy.ensures

pub merged_within-returns-in_default : goal.merged_within-returns-in_default
merged_within-returns-in_default t c =
    let none : entries_of c.args.stronger.now ≡ None = sym c.entries_of.ensures ∙ ap option_copied c.in_default.is in
    IfOk-weaker c.copy-in_default.result _ _ (λ v is. is ∙ sym (kept_alone c.args.levels c.args.stronger.now c.args.weaker.now none)) c.copy-in_default.ensures

pub merged_within-returns-in_default-entries_of : goal.merged_within-returns-in_default-entries_of
merged_within-returns-in_default-entries_of t c =
    let none : entries_of c.args.weaker.now ≡ None = sym c.entries_of-2.ensures ∙ ap option_copied c.in_default-entries_of.is in
    IfOk-weaker c.copy-in_default-entries_of.result _ _ (λ v is. is ∙ sym (kept_over c.args.levels c.args.stronger.now c.args.weaker.now none)) c.copy-in_default-entries_of.ensures

pub merged_within-returns : goal.merged_within-returns
merged_within-returns t c =
    let first : entries_of c.args.stronger.now ≡ Some c.in-Some.items.now = sym c.entries_of.ensures ∙ ap option_copied c.in-Some.is in
    let second : entries_of c.args.weaker.now ≡ Some c.in-Some-entries_of.others.now = sym c.entries_of-2.ensures ∙ ap option_copied c.in-Some-entries_of.is in
    let all = both_open c.args.levels c.args.stronger.now c.args.weaker.now c.in-Some.items.now c.in-Some-entries_of.others.now c.if-levels-eq0.false first second in
    ap value.Dict c.in_ok-items_over.ensures ∙ sym all
