use Rattle.std.proofs.Common.{◌∙◌, ◌≤◌, ◌++◌, ◌∷◌, [], Ok, length, ap, sym, subst, arith, List, ℕ}
use Rattle.sdf_paths.specs.Paths.{IsReadAs}
use Rattle.sdf_paths.specs.declared.element.Element.{Element}
use Rattle.sdf_paths.specs.declared.element.Element.TheVariants.{Selection}
use Rattle.usda_fields.proofs.Below.{variant_read, variant_fits, read_is, read_some}
use Rattle.usda_fields.proofs.names.variant_path.Goals as goal

pub returns-in-Ok : goal.returns-in-Ok
returns-in-Ok c =
    let path : List Element = c.args.owner.now ++ Selection c.args.set.now c.args.variant.now ∷ [] in
    let short : length c.in_ok-text.text ≤ 4096 = omega (arith, c.len.ensures, c.if-len-gt-MAX_BYTES.false) in
    let is = c.in_ok-text.ensures.text in
    let read : IsReadAs c.in_ok-text.text path = variant_read c.args.owner.now c.args.set.now c.args.variant.now c.in_ok-text.text c.in_ok-text.ensures.path c.requires.owner c.requires.set c.requires.variant is short in
    let same : IsReadAs c.as_str.result.now path = subst (λ (t : List ℕ). IsReadAs t path) (sym c.as_str.ensures.same) read in
    variant_fits c.args.owner.now c.args.set.now c.args.variant.now c.in_ok-text.text is short
    ∙ ap (λ (p : List Element). Ok p) (read_is c.parse.result c.in-Ok.path path (c.parse.ensures.read path same) c.in-Ok.is)

pub unreachable-requires : goal.unreachable-requires
unreachable-requires c =
    let path : List Element = c.args.owner.now ++ Selection c.args.set.now c.args.variant.now ∷ [] in
    let short : length c.in_ok-text.text ≤ 4096 = omega (arith, c.len.ensures, c.if-len-gt-MAX_BYTES.false) in
    let read : IsReadAs c.in_ok-text.text path = variant_read c.args.owner.now c.args.set.now c.args.variant.now c.in_ok-text.text c.in_ok-text.ensures.path c.requires.owner c.requires.set c.requires.variant c.in_ok-text.ensures.text short in
    let same : IsReadAs c.as_str.result.now path = subst (λ (t : List ℕ). IsReadAs t path) (sym c.as_str.ensures.same) read in
    read_some c.parse.result path c.in-Err-Bad.field-0-0 c.in-Err-Bad.field-0 (c.parse.ensures.read path same) c.in-Err-Bad.is c.in-Err-Bad.field-0-is
