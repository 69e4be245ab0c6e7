-- Targets and connections: each translated towards the stage through the arcs of its site, then folded.
-- docs/COMPOSITION.md, 'Targets and connections'.
pub use Rattle.prim_view.specs.declared.fault.TargetFault.{TargetFault}
use Rattle.std.specs.Prelude.{true, false, List, [], ◌∷◌, ◌++◌, map, flat_map, filter, filter_map, option_map, Option, Some, None}
use Rattle.list_ops.specs.Opinions.{is_opinion}
use Rattle.list_ops.specs.declared.op.ListOp.{ListOp}
use Rattle.path_maps.specs.Maps.{translated}
use Rattle.spec_properties.specs.declared.property.Property.{Property}
use Rattle.spec_properties.specs.declared.property.Property.TheVariants.{Attr, Rel}
use Rattle.composition.specs.Texts.{Text}
use Rattle.composition.specs.Paths.{Path, Limits, fits, same_path}
use Rattle.composition.specs.Arcs.{strongest_folded}
use Rattle.composition.specs.Nodes.{ArcMap}
use Rattle.composition.specs.Opinions.{Said}
use Rattle.composition.specs.Values.{PropertySaid}

module _ (l : Limits) where
  -- the path, where it is within the limits of paths
  abbrev pub if_fits : Option Path → Option Path
  if_fits None = None
  if_fits (Some p) = elim (fits l p) [ true ↦ Some p | false ↦ None ]

  -- a path through the arcs between its site and the stage, the nearest to the site first; what passes a limit has no translation
  abbrev pub through_maps : List ArcMap → Path → Option Path
  through_maps [] p = Some p
  through_maps (m ∷ ms) p = elim (if_fits (translated m.kind m.target m.author p)) [ Some q ↦ through_maps ms q | None ↦ None ]

  -- an opinion's path as a path of the stage, if it has a translation
  abbrev pub to_stage : Said → Path → Option Path
  to_stage s p = through_maps s.site.maps p

  -- the edits of an opinion with what has a translation
  abbrev pub translated_op : Said → ListOp Path → ListOp Path
  translated_op s op = record {
    explicit = option_map (filter_map (to_stage s)) op.explicit;
    deleted = filter_map (to_stage s) op.deleted;
    added = filter_map (to_stage s) op.added;
    prepended = filter_map (to_stage s) op.prepended;
    appended = filter_map (to_stage s) op.appended;
    ordered = filter_map (to_stage s) op.ordered;
  }

  -- the items of an opinion that are a fault without a translation: all but those that are only deleted
  abbrev pub items_tried : ListOp Path → List Path
  items_tried op = elim op.explicit [ Some ps ↦ ps | None ↦ op.added ++ op.prepended ++ op.appended ++ op.ordered ]

  -- the fault of an item without a translation; it names property and target as the layer has them
  abbrev pub target_fault : Text → Said → Path → List TargetFault
  target_fault name s p = elim (to_stage s p) [ Some q ↦ [] | None ↦ (record { layer = s.layer; site = s.site.path; name = name; target = p }) ∷ [] ]

  -- the connections of an attribute, the targets of a relationship
  abbrev pub edits_of_property : Property → ListOp Path
  edits_of_property (Attr name ty custom uniform default samples connections meta) = connections
  edits_of_property (Rel name custom targets meta) = targets

  -- the faults of all opinions on a property's list, the strongest opinion first
  abbrev pub target_faults : Text → List PropertySaid → List TargetFault
  target_faults name ps = flat_map (λ p. flat_map (target_fault name p.said) (items_tried (edits_of_property p.property))) ps

  -- the opinions on a property's list, translated towards the stage, the strongest first
  abbrev pub translated_ops : List PropertySaid → List (ListOp Path)
  translated_ops ps = map (λ p. translated_op p.said (edits_of_property p.property)) (filter (λ p. is_opinion (edits_of_property p.property)) ps)

  -- the folded list; none where there is no opinion. An opinion all of whose items are left out is still one.
  abbrev pub targets_of : List PropertySaid → Option (List Path)
  targets_of ps = elim (translated_ops ps) [ [] ↦ None | op ∷ ops ↦ Some (strongest_folded same_path (op ∷ ops)) ]
