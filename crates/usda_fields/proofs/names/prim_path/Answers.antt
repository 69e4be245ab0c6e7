use Rattle.std.proofs.Common.{◌<◌, length, ap, arith, List, ℕ}
use Rattle.sdf_paths.specs.Paths.{depth}
use Rattle.usda_fields.proofs.Below.{prim_path}
use Rattle.usda_fields.proofs.names.prim_path.Goals as goal

pub unreachable-requires : goal.unreachable-requires
unreachable-requires c =
    let all = rw c.in-Err-Bad.field-0-is at c.in-Err-Bad.ensures in
    let few : depth c.args.owner.now < 64 = omega (arith, c.depth.ensures, c.if-depth-ge-MAX_NAMES.false) in
    all.bad.1 (prim_path c.args.owner.now c.args.name.now c.in_ok-prim_text.ensures.path c.requires.owner c.requires.name few
    (omega (arith, ap (λ (t : List ℕ). length t) c.in_ok-prim_text.ensures.text, c.len-2.ensures, c.if-len-gt-MAX_BYTES.false)))
