use Rattle.std.proofs.Common.{◌≡◌, true, rules}
use Rattle.layer_edit.specs.Places.{is_prim_path}
use Rattle.layer_edit.proofs.Owners.{prim_path}
use Rattle.layer_edit.proofs.prims.add_prim.Goals as goal

pub put_new_spec-requires-clause-prim : goal.put_new_spec-requires-clause-prim
put_new_spec-requires-clause-prim c =
    let is : is_prim_path c.args.path.now ≡ true = search rules in
    prim_path c.args.path.now c.follows_rules.ensures is
