use Rattle.std.proofs.Common.{◌≡◌, ◌∙◌, sym, ap, subst, true, false, Some}
use Rattle.std.specs.Option.{IsSomeAnd}
use Rattle.sdf_paths.specs.Paths.{IsRefusal, replaced}
use Rattle.sdf_paths.specs.declared.fault.PathFault.TheVariants.{Bad}
use Rattle.composition.specs.Paths.{Path}
use Rattle.node_branches.proofs.Following.{moved, refused}
use Rattle.node_branches.proofs.follow.if_fits.Goals as goal

pub returns-in-Ok-Some : goal.returns-in-Ok-Some
returns-in-Ok-Some c =
    moved c.args.path.now c.args.level c.args.target.now c.in-Ok-Some.there
    (sym c.in-Ok-Some.field-0-is ∙ c.in-Ok-Some.ensures.ok ∙ ap (λ (a : Path). replaced a c.args.target.now c.args.path.now) c.requires) c.elements-there.ensures.path

pub returns-in-Err-Bad : goal.returns-in-Err-Bad
returns-in-Err-Bad c =
    refused c.args.path.now c.args.level c.args.target.now c.in-Err-Bad.field-0-0 c.elements-target.ensures.path c.elements-path.ensures.path
    (λ e. let on : false ≡ true = c.if-is_root.ensures.1 e in cc)
    (sym c.is_property.ensures ∙ c.if-is_property.false)
    (subst (λ (a : Path). IsSomeAnd (replaced a c.args.target.now c.args.path.now) (λ q. IsRefusal q (Bad c.in-Err-Bad.field-0-0))) c.requires
    (subst (λ e. IsSomeAnd (replaced c.args.author.now c.args.target.now c.args.path.now) (λ q. IsRefusal q e)) c.in-Err-Bad.field-0-is c.in-Err-Bad.ensures.bad))
