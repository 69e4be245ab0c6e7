use Rattle.prim_index.proofs.child.+settled_below.Given as goal

abbrev pub decreases-settled_below : goal.decreases-settled_below
decreases-settled_below l = l.rounds
