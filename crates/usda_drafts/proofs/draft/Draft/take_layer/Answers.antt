use Rattle.std.proofs.Common.{◌∙◌, ap, ℕ, List}
use Rattle.usda_drafts.specs.Drafts.{layer_by, layer_of}
use Rattle.usda_drafts.proofs.draft.Draft.take_layer.Goals as goal

pub returns : goal.returns
unfolding layer_of
returns c = c.take_parts.ensures ∙ ap (λ (k : List ℕ). layer_by k c.args.self.now) c.in_ok-key.ensures
