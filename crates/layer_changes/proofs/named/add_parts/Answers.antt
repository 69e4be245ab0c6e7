use Rattle.std.proofs.Common.{◌∙◌, subst, List}
use Rattle.std.specs.List.{All, Contains}
use Rattle.layer_changes.specs.declared.part.Part.{Part}
use Rattle.layer_changes.proofs.named.add_parts.Goals as goal

pub returns-clause-added : goal.returns-clause-added
returns-clause-added c = subst (λ (ps : List Part). All (Contains c.add_all.new.set.keys) ps) (c.as_slice.ensures ∙ c.in_ok-parts.ensures) c.in_ok-add_all.ensures.added
