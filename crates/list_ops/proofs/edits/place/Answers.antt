use Rattle.std.proofs.Common.{◌≡◌, ◌∙◌, ◌<◌, ℕ, List, [], Bool, Option, Some, None, IfSome, length}
use Rattle.std.specs.List.{position_from}
use Rattle.list_ops.proofs.EditLemmas.{group_placed}
use Rattle.list_ops.proofs.edits.place.Goals as goal

inside : {T : Type 0} (same : T → T → Bool) (xs : List T) (x : T) (o : Option ℕ) → o ≡ position_from (λ y. same y x) 0 xs → IfSome o (λ at. at < length xs)
inside same xs x None h = tt
inside same xs x (Some at) h = (group_placed same [] xs x at h).0

pub returns-clause-within : goal.returns-clause-within
returns-clause-within g c = inside g.T.PartialEq.eq c.args.items.now c.args.item.now c.place.result (c.place.ensures ∙ c.requires c.args.item.now)
