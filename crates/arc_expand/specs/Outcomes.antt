-- What becomes of an item.
use Rattle.std.specs.Prelude.{Bool, not, List, Option}
use Rattle.std.specs.List.{list_any}
use Rattle.sdf_values.specs.Scales.{Offset, composed}
use Rattle.composition.specs.Texts.{Text}
use Rattle.composition.specs.Paths.{Path, limits}
use Rattle.composition.specs.World.{World, Heading, headed, no_layer, refused, StackName, first_layer, in_range, stack_of}
use Rattle.composition.specs.Arcs.{Source, own, named, unanchored, Item, Outcome, gives_no_arc, missing_layer, broken_layer, bad_target, or_default, outcome_at}

-- what becomes of an item of this offset and target, in a layer that is there
unfoldable pub outcome_to : World → StackName → Offset → Option Path → Outcome
outcome_to w s o target = outcome_at limits w s o target

-- the item's layer holds a layer, nothing, or one that was refused
abbrev pub outcome_within : World → StackName → Item → Heading → Outcome
outcome_within w s i no_layer = gives_no_arc missing_layer
outcome_within w s i (refused r) = gives_no_arc (broken_layer r)
outcome_within w s i (headed h) = outcome_to w s i.offset (or_default i.path h)

-- what becomes of an item by where it leads; what cannot be anchored is `BadTarget`
abbrev pub outcome_by : World → StackName → Item → Source → Outcome
outcome_by w s i own = outcome_within w s i (w.heading (first_layer w s))
outcome_by w s i (named name) = outcome_within w (stack_of w name) i (w.heading name)
outcome_by w s i (unanchored asset) = gives_no_arc bad_target

-- what becomes of an item of a stack
unfoldable pub outcome_of : World → StackName → Item → Outcome
outcome_of w s i = outcome_by w s i i.source

-- the offset with one of the layers of a stack leaves the range
abbrev pub leaves_with : List (Text × Offset) → Offset → Bool
leaves_with layers o = list_any (λ e. not (in_range (composed e.1 o))) layers
