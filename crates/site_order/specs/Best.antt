-- The best place of a site among those of a part.
use Rattle.std.specs.Prelude.{ℕ, ◌+◌, ◌==◌, nat_le, Bool, true, false, List, [], ◌∷◌, Option, Some, None}
use Rattle.std.specs.Option.{is_none}
use Rattle.std.specs.BTreeMap.{BTreeMap, get}
use Rattle.composition.specs.Texts.{both}
use Rattle.composition.specs.Paths.{same_path}
use Rattle.composition.specs.World.{same_stack}
use Rattle.composition.specs.Trees.{Tree, node_of}
use Rattle.composition.specs.Strength.{Ranked}
use Rattle.site_order.specs.contracts.best.SiteKeyOrd.TheImpl.{ghosts as key_order}
use Rattle.site_order.specs.declared.best.SiteKey.{SiteKey}
use Rattle.site_order.specs.declared.best.Place.{Place}

-- the site of a tree's node
abbrev pub site_in : Tree → SiteKey
site_in t = record { stack = (node_of t).stack; path = (node_of t).path }

-- the place is of the site
abbrev pub is_there : SiteKey → Ranked → Bool
is_there q x = both (same_stack (node_of x.0).stack q.stack) (same_path (node_of x.0).path q.path)

-- the place that is known has no greater rank
abbrev pub is_as_good : Option Place → ℕ → Bool
is_as_good None rank = false
is_as_good (Some p) rank = nat_le p.rank rank

-- the place that is known is the one of this number
abbrev pub stands_at : Option Place → ℕ → Bool
stands_at None at = false
stands_at (Some p) at = p.at == at

-- the place, where none of no greater rank is found
abbrev pub better : Option Place → ℕ → ℕ → Option Place
better None rank at = Some (record { rank = rank; at = at })
better (Some p) rank at = elim (nat_le p.rank rank) [ true ↦ Some p | false ↦ Some (record { rank = rank; at = at }) ]

-- the best place of a site so far, after one more place
abbrev pub next_best : SiteKey → Option Place → ℕ → Ranked → Option Place
next_best q found at x = elim (is_there q x) [ true ↦ better found x.1 at | false ↦ found ]

-- after more places, of which the first stands at a number
abbrev pub best_from : SiteKey → Option Place → ℕ → List Ranked → Option Place
best_from q found at [] = found
best_from q found at (x ∷ xs) = best_from q (next_best q found at x) (at + 1) xs

-- what a table says at a site
abbrev pub place_at : BTreeMap SiteKey Place → SiteKey → Option Place
place_at best q = get key_order.cmp best q

-- the places that are the best of their sites, as `best` tells
abbrev pub kept_by : (SiteKey → Option Place) → ℕ → List Ranked → List Ranked
kept_by best at [] = []
kept_by best at (x ∷ xs) = elim (stands_at (best (site_in x.0)) at) [ true ↦ x ∷ kept_by best (at + 1) xs | false ↦ kept_by best (at + 1) xs ]

-- no place of the same site is known
abbrev pub is_alone : (SiteKey → Option Place) → Ranked → Bool
is_alone best x = is_none (best (site_in x.0))
