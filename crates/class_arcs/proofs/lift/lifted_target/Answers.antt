use Rattle.std.proofs.Common.{◌≡◌, ◌∙◌, sym, ap, subst, true, false, Some}
use Rattle.sdf_paths.specs.Paths.{IsRefusal, replaced}
use Rattle.std.specs.Option.{IsSomeAnd}
use Rattle.composition.specs.Paths.{Path}
use Rattle.class_arcs.proofs.Fitting.{lifted_moved, lifted_stays, lifted_refused}
use Rattle.class_arcs.proofs.lift.lifted_target.Goals as goal

pub returns-in-Ok-Some : goal.returns-in-Ok-Some
returns-in-Ok-Some c =
    lifted_moved c.args.target.now c.args.author.now c.args.path.now c.in-Ok-Some.moved (sym c.in-Ok-Some.field-0-is ∙ c.in-Ok-Some.ensures.ok) c.elements-moved.ensures.path

pub returns-in_ok-copy-in-Ok-None : goal.returns-in_ok-copy-in-Ok-None
returns-in_ok-copy-in-Ok-None c =
    ap (λ (p : Path). Some p) c.in_ok-copy-in-Ok-None.ensures
    ∙ lifted_stays c.args.target.now c.args.author.now c.args.path.now (sym c.in-Ok-None.field-0-is ∙ c.in-Ok-None.ensures.ok) c.elements-path.ensures.path

pub returns-in-Err-Bad : goal.returns-in-Err-Bad
returns-in-Err-Bad c =
    lifted_refused c.args.target.now c.args.author.now c.args.path.now c.in-Err-Bad.field-0-0 c.elements-author.ensures.path c.elements-path.ensures.path
    (λ e. let on : false ≡ true = c.if-is_root.ensures.1 e in cc)
    (sym c.is_property.ensures ∙ c.if-is_property.false)
    (subst (λ e. IsSomeAnd (replaced c.args.target.now c.args.author.now c.args.path.now) (λ q. IsRefusal q e)) c.in-Err-Bad.field-0-is c.in-Err-Bad.ensures.bad)
