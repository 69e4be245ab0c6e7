use Rattle.std.proofs.Common.{◌≡◌, true, rules}
use Rattle.layer_edit.specs.Places.{is_variant_path}
use Rattle.layer_edit.proofs.Owners.{variant_path}
use Rattle.layer_edit.proofs.prims.add_variant.Goals as goal

pub put_new_spec-requires-clause-prim : goal.put_new_spec-requires-clause-prim
put_new_spec-requires-clause-prim c =
    let is : is_variant_path c.args.path.now ≡ true = search rules in
    variant_path c.args.path.now c.follows_rules.ensures is
