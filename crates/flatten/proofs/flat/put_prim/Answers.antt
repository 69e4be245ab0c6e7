use Rattle.std.proofs.lemmas.Result.{IfOk-weaker}
use Rattle.flatten.proofs.Flattening.{root_kept, prim_put}
use Rattle.flatten.proofs.flat.put_prim.Goals as goal

pub returns-then-is_root : goal.returns-then-is_root
returns-then-is_root c = root_kept c.args.path.now c.args.prim.now c.args.specs.now (c.is_root.ensures.0 c.if-is_root.true)

pub returns : goal.returns
returns c =
    IfOk-weaker c.put.result _ _ (λ u put. prim_put c.args.path.now c.args.prim.now c.in_ok-spec.spec c.args.specs.now _
    (λ none. absurd (cc (c.is_root.ensures.1 none, c.if-is_root.false))) c.in_ok-spec.ensures put) c.put.ensures
