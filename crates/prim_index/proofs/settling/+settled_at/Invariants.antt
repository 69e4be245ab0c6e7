use Rattle.prim_index.proofs.settling.+settled_at.Given as goal

abbrev pub decreases-settled_at : goal.decreases-settled_at
decreases-settled_at l = l.rounds
