-- What the layers say of a prim: its opinions, by site and then by layer, the strongest first.
-- docs/COMPOSITION.md, 'Names and fields'.
pub use Rattle.prim_view.specs.declared.site.Site.{Site}
use Rattle.std.specs.Prelude.{Bool, true, false, List, map, flat_map}
use Rattle.std.specs.List.{list_any}
use Rattle.path_maps.specs.declared.kind.ArcKind.TheVariants.{Inherits, Specializes}
use Rattle.spec_parts.specs.declared.spec.Spec.{Spec}
use Rattle.sdf_values.specs.Scales.{Offset, composed}
use Rattle.composition.specs.Texts.{Text}
use Rattle.composition.specs.Paths.{Limits}
use Rattle.composition.specs.World.{World}
use Rattle.composition.specs.Stacks.{stack}
use Rattle.composition.specs.Arcs.{opinions_at, same_kind}
use Rattle.composition.specs.Nodes.{ArcMap}

-- what one layer says of a prim at one of its sites; the offset leads from the layer's times to the stage's
pub record Said : Type 0 where
  pub site : Site
  pub layer : Text
  pub offset : Offset
  pub spec : Spec

module _ (l : Limits) (w : World) where
  -- the opinions at one site, the strongest layer first
  abbrev pub said_at : Site → List Said
  said_at n = map (λ o. record { site = n; layer = o.layer; offset = composed o.offset n.offset; spec = o.spec }) (opinions_at l w (stack l w n.stack) n.path)

  -- the opinions on a prim of which the sites are given, the strongest first
  abbrev pub said_at_all : List Site → List Said
  said_at_all sites = flat_map said_at sites

-- a class arc: inherits or specializes
abbrev pub is_class_map : ArcMap → Bool
is_class_map m = elim (same_kind Inherits m.kind) [ true ↦ true | false ↦ same_kind Specializes m.kind ]

-- an inherits or specializes arc is on the way from the site to the stage
abbrev pub is_by_class : List ArcMap → Bool
is_by_class maps = list_any is_class_map maps
