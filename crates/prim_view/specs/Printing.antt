-- The texts of faults.
use Rattle.std.specs.Prelude.{ℕ, codes, List, [], ◌++◌, Option, Some, None}
use Rattle.std.specs.Fmt.{decimal}
use Rattle.path_maps.specs.declared.kind.ArcKind.{ArcKind}
use Rattle.path_maps.specs.declared.kind.ArcKind.TheVariants as arc
use Rattle.prim_view.specs.declared.fault.ArcFault.{ArcFault}
use Rattle.prim_view.specs.declared.fault.ArcReason.{ArcReason}
use Rattle.prim_view.specs.declared.fault.ArcReason.TheVariants as reason
use Rattle.prim_view.specs.declared.fault.FaultItem.{FaultItem}
use Rattle.prim_view.specs.declared.fault.ItemSource.{ItemSource}
use Rattle.prim_view.specs.declared.fault.ItemSource.TheVariants.{Own, Named, Unanchored}
use Rattle.prim_view.specs.declared.fault.PrimFault.{PrimFault}
use Rattle.prim_view.specs.declared.fault.PrimFault.TheVariants as fault
use Rattle.prim_view.specs.declared.fault.SublayerFault.{SublayerFault}
use Rattle.prim_view.specs.declared.fault.SublayerReason.{SublayerReason}
use Rattle.prim_view.specs.declared.fault.SublayerReason.TheVariants as sublayer
use Rattle.prim_view.specs.declared.fault.TargetFault.{TargetFault}
use Rattle.prim_view.specs.declared.fault.TimeFault.{TimeFault}
use Rattle.sdf_paths.specs.Paths.{path_text, printed}
use Rattle.sdf_paths.specs.declared.element.Element.{Element}
use Rattle.sdf_values.specs.Print.{asset_text, offset_text, quoted}
use Rattle.sdf_values.specs.declared.refusal.RefusalKind.{RefusalKind}
use Rattle.sdf_values.specs.declared.refusal.RefusalKind.TheVariants as kind
use Rattle.spec_parts.specs.declared.items.Refusal.{Refusal}

-- a text, by its bytes
abbrev pub Text : Type 0
Text = List ℕ

-- an item by its layer and its path, as far as it names them, or `<>`
abbrev pub item_name : ItemSource → Option (List Element) → Text
item_name Own None = codes "<>"
item_name Own (Some p) = path_text p
item_name (Named name) None = asset_text name
item_name (Named name) (Some p) = asset_text name ++ path_text p
item_name (Unanchored asset) None = asset_text asset
item_name (Unanchored asset) (Some p) = asset_text asset ++ path_text p

-- an item as it is anchored, or as it is written where it cannot be, with its offset
abbrev pub item_text : FaultItem → Text
item_text i = item_name i.source i.path ++ offset_text i.offset

-- the word of the field that has the item
abbrev pub field_name : ArcKind → Text
field_name arc.Inherits = codes "inherits"
field_name arc.Variant = codes "variantSets"
field_name arc.Reference = codes "references"
field_name arc.Payload = codes "payload"
field_name arc.Specializes = codes "specializes"

-- the kind of a fault of an arc
abbrev pub reason_name : ArcReason → Text
reason_name reason.MissingLayer = codes "MissingLayer"
reason_name (reason.BrokenLayer r) = codes "BrokenLayer"
reason_name reason.NoDefaultPrim = codes "NoDefaultPrim"
reason_name reason.BadTarget = codes "BadTarget"
reason_name reason.OffsetRange = codes "OffsetRange"
reason_name reason.ArcCycle = codes "ArcCycle"
reason_name reason.TooDeep = codes "TooDeep"
reason_name reason.PathTooLong = codes "PathTooLong"
reason_name reason.UnresolvedPrim = codes "UnresolvedPrim"

-- the word of a refusal
abbrev pub refusal_name : RefusalKind → Text
refusal_name kind.TooLong = codes "TooLong"
refusal_name kind.Crate = codes "Crate"
refusal_name kind.Package = codes "Package"
refusal_name kind.NotUtf8 = codes "NotUtf8"
refusal_name kind.BadHeader = codes "BadHeader"
refusal_name kind.Syntax = codes "Syntax"
refusal_name kind.NumberTooLong = codes "NumberTooLong"
refusal_name kind.UnknownType = codes "UnknownType"
refusal_name kind.ValueShape = codes "ValueShape"
refusal_name kind.TimeRange = codes "TimeRange"
refusal_name kind.OffsetRange = codes "OffsetRange"
refusal_name kind.DuplicateSpec = codes "DuplicateSpec"
refusal_name kind.Relocates = codes "Relocates"
refusal_name kind.Spline = codes "Spline"
refusal_name kind.ReferenceData = codes "ReferenceData"
refusal_name kind.TooDeep = codes "TooDeep"

-- a refusal with its place, behind a blank
abbrev pub refusal_text : Refusal → Text
refusal_text r = codes " " ++ refusal_name r.kind ++ codes " " ++ decimal r.line ++ codes ":" ++ decimal r.column

-- the refusal of a layer that was refused
abbrev pub refusal_of : ArcReason → Text
refusal_of (reason.BrokenLayer r) = refusal_text r
refusal_of r = []

-- a layer, and what it says something of
abbrev pub place_text : Text → List Element → Text
place_text layer path = asset_text layer ++ path_text path

-- a property of a prim, by its name
abbrev pub property_text : List Element → Text → Text
property_text site name = codes "<" ++ printed site ++ codes "." ++ name ++ codes ">"

-- a layer, and the property of which it says something
abbrev pub property_place : Text → List Element → Text → Text
property_place layer site name = asset_text layer ++ property_text site name

-- why, and where the layer says it
abbrev pub arc_front : ArcFault → Text
arc_front f = reason_name f.reason ++ codes " " ++ place_text f.layer f.site

-- what the layer says there
abbrev pub arc_back : ArcFault → Text
arc_back f = field_name f.kind ++ codes " " ++ item_text f.item ++ refusal_of f.reason

-- a fault of an arc: why, where the layer says it, the field and the item
abbrev pub arc_text : ArcFault → Text
arc_text f = arc_front f ++ codes " " ++ arc_back f

-- the kind of a fault of a sublayer
abbrev pub sublayer_reason_name : SublayerReason → Text
sublayer_reason_name sublayer.Cycle = codes "SublayerCycle"
sublayer_reason_name sublayer.Missing = codes "SublayerMissing"
sublayer_reason_name sublayer.Broken = codes "SublayerBroken"
sublayer_reason_name sublayer.Offset = codes "SublayerOffset"

-- a fault of a sublayer: why, the layer that lists it, and the sublayer
abbrev pub sublayer_text : SublayerFault → Text
sublayer_text f = sublayer_reason_name f.reason ++ codes " " ++ asset_text f.layer ++ codes " " ++ asset_text f.asset

-- the word of a target or a connection that has no translation
unfoldable pub target_word : Text
target_word = codes "TargetOutside "

-- the word of an attribute of which something leaves the range of times
unfoldable pub time_word : Text
time_word = codes "TimeOutside "

-- the word of a child that is not listed, since its path would be too long
unfoldable pub child_word : Text
child_word = codes "PathTooLong "

-- an attribute of which something leaves the range of times
abbrev pub time_text : TimeFault → Text
time_text f = time_word ++ property_place f.layer f.site f.name

-- why, and the property of which the layer says it
abbrev pub target_front : TargetFault → Text
target_front f = target_word ++ property_place f.layer f.site f.name

-- a target or a connection that has no translation
abbrev pub target_text : TargetFault → Text
target_text f = target_front f ++ codes " " ++ path_text f.target

-- a child that is not listed, by its name
abbrev pub child_text : Text → Text
child_text name = child_word ++ quoted name

-- the text of a fault
abbrev pub fault_text : PrimFault → Text
fault_text (fault.Sublayer f) = sublayer_text f
fault_text (fault.Arc f) = arc_text f
fault_text (fault.TimeOutside f) = time_text f
fault_text (fault.TargetOutside f) = target_text f
fault_text (fault.ChildTooLong name) = child_text name
fault_text fault.Overgrown = codes "Overgrown"
