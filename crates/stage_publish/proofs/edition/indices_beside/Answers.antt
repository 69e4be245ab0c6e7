use Rattle.std.proofs.Common.{◌≡◌, ◌∙◌, sym, ap, map}
use Rattle.std.specs.BTreeMap.{get, is_at}
use Rattle.stage_publish.proofs.Finding.{same_index}
use Rattle.stage_publish.proofs.edition.indices_beside.Goals as goal

pub returns-then-has_same_places : goal.returns-then-has_same_places
returns-then-has_same_places g c = let cmp = g.P.Ord.cmp in
    let same : map (λ e. e.0) c.args.items.now ≡ map (λ e. e.0) c.edition.inside.items
    = ap (map (λ e. e.0)) (sym c.as_slice.ensures) ∙ (c.has_same_places.ensures c.if-has_same_places.true ∙ ap (map (λ e. e.0)) c.as_slice-in-Some.ensures) in
    λ p. ap (λ m. get cmp m p) c.in_ok-shared.ensures ∙ (c.edition.invariant p ∙ same_index (is_at (cmp p)) c.args.items.now c.edition.inside.items same)
