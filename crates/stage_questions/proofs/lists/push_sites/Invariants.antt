use Rattle.std.proofs.Common.{◌≡◌, ◌++◌, drop, string_bytes}
use Rattle.std.specs.List.{flat_map}
use Rattle.stage_questions.specs.Texts.{line_below, site_text, sites_with_spec}
use Rattle.stage_questions.proofs.lists.push_sites.Given as goal

abbrev pub invariant-loop-site : goal.invariant-loop-site
invariant-loop-site l = string_bytes l.out ++ flat_map (λ s. line_below (site_text l.root s)) (sites_with_spec (drop l.site-index l.sites)) ≡ string_bytes l.fn.out ++ flat_map (λ s. line_below (site_text l.root s)) (sites_with_spec l.sites)
