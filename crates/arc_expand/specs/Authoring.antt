-- What the layers of a stack author at a path: opinions, list edits, items with their authors and outcomes.
use Rattle.std.specs.Prelude.{◌≡◌, Bool, false, not, List, [], map, Option, option_map}
use Rattle.std.specs.List.{filter_map}
use Rattle.std.specs.Option.{unwrap_or}
use Rattle.list_ops.specs.declared.op.ListOp.{ListOp}
use Rattle.list_ops.specs.Opinions.{is_opinion}
use Rattle.path_maps.specs.declared.kind.ArcKind.{ArcKind}
use Rattle.path_maps.specs.declared.kind.ArcKind.TheVariants.{Inherits, Variant, Reference, Payload, Specializes}
use Rattle.sdf_values.specs.Scales.{Offset}
use Rattle.composition.specs.Texts.{Text}
use Rattle.composition.specs.Paths.{Path, limits}
use Rattle.composition.specs.World.{World, StackName}
use Rattle.composition.specs.Arcs.{Opinion, Item, Authored, items_of, opinions_at, same_item, strongest_folded, arcs_of, variant_sets_of, selections_of, is_empty}
use Rattle.layer_stack.specs.Meant.{defined_stack}
use Rattle.layer_stack.specs.declared.stacks.LayerStack.{LayerStack}
use Rattle.arc_expand.specs.Outcomes.{outcome_of}

-- the layers are those that the world defines for the stack's name
pub record IsStackOf (w : World) (stack : LayerStack) : Type 0 where
  pub layers : stack.layers ≡ (defined_stack w stack.name).layers

-- ---- opinions

-- what a layer of a stack says at a path, if it has a spec there
unfoldable pub opinion_of : World → Path → Text × Offset → Option Opinion
opinion_of w q e = option_map (λ spec. record { layer = e.0; offset = e.1; spec = spec }) (w.spec e.0 q)

-- what these layers say at a path, the strongest first
abbrev pub opinions_in : World → List (Text × Offset) → Path → List Opinion
opinions_in w layers q = filter_map (opinion_of w q) layers

-- what the layers of a stack say at a path, the strongest first
unfoldable pub opinions : World → StackName → Path → List Opinion
opinions w s q = opinions_at limits w (defined_stack w s) q

-- ---- edits

-- the list edits that an opinion has of a kind, with its layer
unfoldable pub edit_of : ArcKind → Opinion → Option (Text × ListOp Item)
edit_of k o = option_map (λ op. (o.layer, op)) (items_of k o)

-- it is an opinion on the items of a kind
abbrev pub says : ArcKind → Opinion → Bool
says Inherits o = is_opinion o.spec.arcs.inherits
says Variant o = false
says Reference o = is_opinion o.spec.arcs.references
says Payload o = is_opinion o.spec.arcs.payloads
says Specializes o = is_opinion o.spec.arcs.specializes

-- it is an opinion on the variant sets
abbrev pub says_sets : Opinion → Bool
says_sets o = is_opinion o.spec.arcs.variant_sets

-- the list edits of a kind, each with the layer that has it, the strongest first
abbrev pub edits : ArcKind → List Opinion → List (Text × ListOp Item)
edits k os = filter_map (edit_of k) os

-- the items that the edits make, the strongest edit given first
unfoldable pub folded_items : List (Text × ListOp Item) → List Item
folded_items edits = strongest_folded same_item (map (λ e. e.1) edits)

-- ---- what is authored

-- an item with its author, of those that `author` tells, and its outcome
unfoldable pub authored_by : World → StackName → (Item → Option Text) → Item → Authored
authored_by w s author i = record { item = i; author = unwrap_or (author i) []; outcome = outcome_of w s i }

-- the items of a kind that opinions make, with their authors and outcomes
unfoldable pub authored_in : World → StackName → List Opinion → ArcKind → List Authored
authored_in w s os k = arcs_of limits w s os k

-- the variant sets that opinions make
unfoldable pub sets_in : List Opinion → List Text
sets_in os = variant_sets_of os

-- the items of a kind, with their authors and outcomes
unfoldable pub authored : World → StackName → Path → ArcKind → List Authored
authored w s q k = arcs_of limits w s (opinions_at limits w (defined_stack w s) q) k

-- the variant sets at a path, folded from the weakest opinion to the strongest
unfoldable pub variant_sets : World → StackName → Path → List Text
variant_sets w s q = variant_sets_of (opinions_at limits w (defined_stack w s) q)

-- the variants that are selected, the strongest opinions first
unfoldable pub selections : World → StackName → Path → List (Text × Text)
selections w s q = selections_of (opinions_at limits w (defined_stack w s) q)

-- some layer has a spec
unfoldable pub has_spec : World → StackName → Path → Bool
has_spec w s q = not (is_empty (opinions_at limits w (defined_stack w s) q))
