use Rattle.std.proofs.Common.{◌≡◌, ◌∙◌, sym, ap, arith, ℕ, true, Some, None}
use Rattle.std.specs.Prelude.{nat_le}
use Rattle.std.proofs.lemmas.Bool.{le-leb}
use Rattle.composition.specs.Paths.{Path, limits}
use Rattle.composition.specs.Trees.{Class, lifted_target}
use Rattle.class_arcs.specs.Lifting.{within_limits}
use Rattle.class_arcs.proofs.Fitting.{class_lifted}
use Rattle.class_arcs.proofs.lift.lifted_class.Goals as goal

pub returns-in-Some : goal.returns-in-Some
returns-in-Some c =
    let level : c.class.inside.level ≡ c.args.class.now.0 = ap (λ (p : Class). p.0) c.class.view_is in
    let target : c.class.inside.target ≡ c.args.class.now.1 = ap (λ (p : Class). p.1) c.class.view_is in
    let low : nat_le c.args.class.now.0 c.args.branch.now.level ≡ true = le-leb c.args.class.now.0 c.args.branch.now.level (omega (arith, c.if-class-branch.false, level)) in
    let is : Some c.in-Some.target ≡ within_limits (lifted_target limits c.args.branch.now.lead.target c.args.author.now c.args.class.now.1) =
    sym c.in-Some.is ∙ c.in_ok-target.ensures ∙ ap (λ (q : Path). within_limits (lifted_target limits c.args.branch.now.lead.target c.args.author.now q)) target in
    ap (λ (n : ℕ). Some (n, c.in-Some.target)) level ∙ sym (class_lifted c.args.branch.now c.args.author.now c.args.class.now (Some c.in-Some.target) low is)

pub returns-in-None : goal.returns-in-None
returns-in-None c =
    let level : c.class.inside.level ≡ c.args.class.now.0 = ap (λ (p : Class). p.0) c.class.view_is in
    let target : c.class.inside.target ≡ c.args.class.now.1 = ap (λ (p : Class). p.1) c.class.view_is in
    let low : nat_le c.args.class.now.0 c.args.branch.now.level ≡ true = le-leb c.args.class.now.0 c.args.branch.now.level (omega (arith, c.if-class-branch.false, level)) in
    let is : None ≡ within_limits (lifted_target limits c.args.branch.now.lead.target c.args.author.now c.args.class.now.1) =
    sym c.in-None.is ∙ c.in_ok-target.ensures ∙ ap (λ (q : Path). within_limits (lifted_target limits c.args.branch.now.lead.target c.args.author.now q)) target in
    sym (class_lifted c.args.branch.now c.args.author.now c.args.class.now None low is)
