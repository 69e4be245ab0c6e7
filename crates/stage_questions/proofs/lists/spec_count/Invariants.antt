use Rattle.std.proofs.Common.{◌≡◌, ◌+◌, ◌≤◌, drop, length}
use Rattle.stage_questions.specs.Texts.{sites_with_spec}
use Rattle.stage_questions.proofs.lists.spec_count.Given as goal

abbrev pub invariant-loop-site : goal.invariant-loop-site
invariant-loop-site l = (l.count + length (sites_with_spec (drop l.site-index l.sites)) ≡ length (sites_with_spec l.sites)) × (l.count ≤ l.site-index)
