use Rattle.change_core.proofs.core_state.Core.publish_within.Goals as goal

pub returns-clause-few : goal.returns-clause-few
returns-clause-few g c = rw c.in_ok-edition.ensures.items c.in_ok-items.ensures.few
