-- Paths and edits through the arcs between a site and the stage, within the limits of this project.
use Rattle.std.specs.Prelude.{Bool, true, false, List, [], ◌∷◌, filter_map, option_map, Option, Some, None}
use Rattle.list_ops.specs.declared.op.ListOp.{ListOp}
use Rattle.path_maps.specs.Maps.{translated}
use Rattle.prim_view.specs.declared.fault.PrimFault.{PrimFault}
use Rattle.prim_view.specs.declared.fault.PrimFault.TheVariants.{TargetOutside}
use Rattle.spec_properties.specs.declared.property.Property.{Property as PropertySpec}
use Rattle.composition.specs.Arcs.{strongest_folded}
use Rattle.composition.specs.Nodes.{ArcMap}
use Rattle.composition.specs.Opinions.{Said}
use Rattle.composition.specs.Paths.{Path, limits, same_path}
use Rattle.composition.specs.Targets.{if_fits, through_maps, items_tried, edits_of_property}
use Rattle.composition.specs.Texts.{Text}

-- a path through one arc; what passes a limit has no translation
unfoldable pub through_arc : ArcMap → Path → Option Path
through_arc m p = if_fits limits (translated m.kind m.target m.author p)

-- a path of a site as a path of the stage; none where an arc on the way has no translation of it
unfoldable pub on_stage : List ArcMap → Path → Option Path
on_stage maps p = through_maps limits maps p

-- there is no translation
abbrev pub is_missing : Option Path → Bool
is_missing (Some p) = false
is_missing None = true

-- the path itself, where there is none that stands for it
abbrev pub if_missing : Option Path → Path → List Path
if_missing (Some q) p = []
if_missing None p = p ∷ []

-- the path has no translation
abbrev pub is_lost : List ArcMap → Path → Bool
is_lost maps p = is_missing (on_stage maps p)

-- edits with what has a translation
abbrev pub op_on_stage : List ArcMap → ListOp Path → ListOp Path
op_on_stage maps op = record {
  explicit = option_map (filter_map (on_stage maps)) op.explicit;
  deleted = filter_map (on_stage maps) op.deleted;
  added = filter_map (on_stage maps) op.added;
  prepended = filter_map (on_stage maps) op.prepended;
  appended = filter_map (on_stage maps) op.appended;
  ordered = filter_map (on_stage maps) op.ordered;
}

-- the fault of an item without a translation
abbrev pub outside : Text → Said → Path → PrimFault
outside name s p = TargetOutside (record { layer = s.layer; site = s.site.path; name = name; target = p })

-- what opinions, given from the strongest to the weakest, make of the empty list
unfoldable pub folded_paths : List (ListOp Path) → List Path
folded_paths ops = strongest_folded same_path ops

-- what they make together, where there is an opinion
abbrev pub if_any : List (ListOp Path) → Option (List Path)
if_any [] = None
if_any (op ∷ ops) = Some (folded_paths (op ∷ ops))

-- the edits of a property: of its targets, or of its connections
abbrev pub edits_of : PropertySpec → ListOp Path
edits_of p = edits_of_property limits p

-- the items of an opinion that are to have a translation: all but the deleted ones
abbrev pub tried : ListOp Path → List Path
tried op = items_tried limits op
