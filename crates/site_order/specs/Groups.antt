-- Which items a group of faults tells of.
use Rattle.std.specs.Prelude.{Bool, not, List, map}
use Rattle.std.specs.Borrow.{Bor}
use Rattle.prim_nodes.specs.declared.here.Tried.{Tried}
use Rattle.composition.specs.Texts.{both}
use Rattle.composition.specs.Arcs.{Reason}
use Rattle.composition.specs.Faults.{is_level_0, gives_arc, any_reason, is_path_too_long}
use Rattle.site_order.specs.declared.faults.Group.{Group}
use Rattle.site_order.specs.declared.faults.Group.TheVariants.{NoArc, NotFollowed, TooLong}

-- the items that were tried, without their borrows
abbrev pub items : List (Bor Tried) → List Tried
items arcs = map (λ a. a.now) arcs

-- the items of a group: those of level 0 that give no arc, those of level 0 that give one, or those of the levels above
abbrev pub is_among : Group → Tried → Bool
is_among NoArc a = both (is_level_0 a) (not (gives_arc a.authored.outcome))
is_among NotFollowed a = both (is_level_0 a) (gives_arc a.authored.outcome)
is_among TooLong a = not (is_level_0 a)

-- of level 0 each fault is told, of the levels above `PathTooLong` alone
abbrev pub is_told : Group → Reason → Bool
is_told NoArc r = any_reason r
is_told NotFollowed r = any_reason r
is_told TooLong r = is_path_too_long r
