use Rattle.std.proofs.Common.{◌≡◌, ◌∙◌, Bool, true, false, sym}
use Rattle.prim_reads.proofs.Answering.{other_listed}
use Rattle.prim_reads.proofs.reading.+reads_at.Goals as goal

pub returns-then-not-has_prims_alone : goal.returns-then-not-has_prims_alone
returns-then-not-has_prims_alone t c =
    c.new.ensures ∙ other_listed c.args.world.now c.args.place.now (λ e. let on : false ≡ true = c.if-is_root.ensures.1 e in cc) (sym c.has_prims_alone.ensures ∙ c.if-not-has_prims_alone.true)
