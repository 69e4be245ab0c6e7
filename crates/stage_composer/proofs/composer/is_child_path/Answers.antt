use Rattle.std.proofs.Common.{◌≡◌, ◌∙◌, ap, sym, ◌++◌, ◌∷◌, [], Bool, true, List}
use Rattle.std.specs.Cmp.Lexicographic.{bytes_decides}
use Rattle.sdf_paths.specs.declared.element.Element.{Element}
use Rattle.sdf_paths.specs.declared.element.Element.TheVariants.{Prim}
use Rattle.composition.specs.Paths.{Path}
use Rattle.composition.specs.Texts.{Text}
use Rattle.stage_composer.proofs.Children.{ends_alike, tested_same, same_tested}
use Rattle.stage_composer.proofs.composer.is_child_path.Goals as goal

pub returns-then-eq : goal.returns-then-eq
returns-then-eq c =
    let above = c.in-Some-Prim-default.above.now in
    let x = c.in-Some-Prim-default.field-0-0.now in
    let place = c.args.place.now in
    let whole : c.args.child.now ≡ above ++ x ∷ [] = sym c.elements.ensures.same ∙ c.in-Some-Prim-default.ensures.cases.0 in
    let named : c.as_str.result.now ≡ c.args.name.now = (bytes_decides c.as_str.result.now c.args.name.now).0 (sym c.eq.ensures ∙ c.if-eq.true) in
    let last : x ≡ Prim c.args.name.now = c.in-Some-Prim-default.field-0-0-is ∙ ap Prim (sym c.as_str.ensures.same ∙ named) in (
      λ told. let fronts : above ≡ place = tested_same above c.elements-then-eq.result.now c.eq-then-eq.result c.eq-then-eq.ensures told ∙ c.elements-then-eq.ensures.same in
          whole ∙ (ap (λ (front : Path). front ++ x ∷ []) fronts ∙ ap (λ (e : Element). place ++ e ∷ []) last),
      λ same. let parts = ends_alike above place x (Prim c.args.name.now) (sym whole ∙ same) in
          same_tested above c.elements-then-eq.result.now c.eq-then-eq.result c.eq-then-eq.ensures (parts.0 ∙ sym c.elements-then-eq.ensures.same),
    )

pub returns-else-eq : goal.returns-else-eq
returns-else-eq c =
    let above = c.in-Some-Prim-default.above.now in
    let x = c.in-Some-Prim-default.field-0-0.now in
    let whole : c.args.child.now ≡ above ++ x ∷ [] = sym c.elements.ensures.same ∙ c.in-Some-Prim-default.ensures.cases.0 in (
      λ told. absurd (cc (told, c.if-eq.false)),
      λ same. let parts = ends_alike above c.args.place.now x (Prim c.args.name.now) (sym whole ∙ same) in
          let alike : Prim c.in-Some-Prim-default.last ≡ Prim c.args.name.now = sym c.in-Some-Prim-default.field-0-0-is ∙ parts.1 in
          let named : c.in-Some-Prim-default.last ≡ c.args.name.now = cc in
          c.eq.ensures ∙ (bytes_decides c.as_str.result.now c.args.name.now).1 (c.as_str.ensures.same ∙ named),
    )
