use Rattle.std.proofs.Common.{◌≡◌, ◌++◌, ◌∷◌, [], ◌∙◌, sym, subst, true, false}
use Rattle.sdf_paths.specs.declared.element.Element.TheVariants.{Selection}
use Rattle.sdf_paths.specs.Paths.{IsRefusal}
use Rattle.prim_index.proofs.Choosing.{variant_ok, variant_refused}
use Rattle.prim_index.proofs.reading.variant.Goals as goal

pub returns-in-Ok : goal.returns-in-Ok
returns-in-Ok c =
    variant_ok c.args.node.now c.args.level c.args.set.now c.args.variant.now c.in_ok-author.author c.in-Ok.target c.as_str.result.now c.as_str-2.result.now c.in_ok-chosen-in-Ok.chosen
    c.in_ok-author.ensures c.as_str.ensures.utf8 c.as_str-2.ensures.utf8 c.as_str.ensures.same c.as_str-2.ensures.same c.in-Ok.ensures.ok c.elements-target.ensures.path
    c.in_ok-chosen-in-Ok.ensures

pub returns-in-Err-Bad : goal.returns-in-Err-Bad
returns-in-Err-Bad c =
    variant_refused c.args.node.now c.args.level c.args.set.now c.args.variant.now c.in_ok-author.author c.as_str.result.now c.as_str-2.result.now
    c.in_ok-author.ensures c.as_str.ensures.utf8 c.as_str-2.ensures.utf8 c.as_str.ensures.same c.as_str-2.ensures.same c.elements-author.ensures.path
    (λ e. let on : false ≡ true = c.if-is_root.ensures.1 e in cc)
    (sym c.is_property.ensures ∙ c.if-is_property.false)
    (subst (λ e. IsRefusal (c.in_ok-author.author ++ Selection c.as_str.result.now c.as_str-2.result.now ∷ []) e) c.in-Err-Bad.field-0-is c.in-Err-Bad.ensures.bad).1
