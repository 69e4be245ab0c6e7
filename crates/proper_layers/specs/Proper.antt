-- Proper layers: layers that come back from their texts, in terms of the layer alone.
use Rattle.std.specs.Prelude.{◌≡◌, ◌≤◌, true, List, [], length}
use Rattle.plain_data.specs.Ends.{last}
use Rattle.sdf_paths.specs.declared.element.Element.{Element}
use Rattle.sdf_paths.specs.declared.element.Element.TheVariants.{Prim}
use Rattle.sdf_specs.specs.Layers.{LayerTable, SpecEntries, AreSpecs, has_parent}
use Rattle.spec_parts.specs.declared.spec.Spec.{Spec}
use Rattle.spec_properties.specs.Properties.{AreProperties}
use Rattle.usda_writer.specs.Canonical.{canonical}
use Rattle.value_returns.specs.Fields.{AreProperFields, IsProperHead}
use Rattle.value_returns.specs.Proper.{IsProperProperty}
use Rattle.value_texts.specs.Each.{AreAll}
use Rattle.trees_read.specs.Names.{IsPlace, AreNamesBelow, AreSetsBelow, IsVariantOf}
use Rattle.trees_read.specs.Trees.{has_spec}

-- a spec at its path, which has an owner, which names all that stands directly below it, and whose fields and properties are proper
pub record IsProperEntry (specs : SpecEntries) (path : List Element) (spec : Spec) : Type 0 where
  pub place : IsPlace path
  pub owned : has_parent path specs ≡ true
  pub variant : IsVariantOf (last path) spec.body.specifier spec.body.type_name
  pub children : AreNamesBelow (has_spec specs) path Prim spec.body.children
  pub sets : AreSetsBelow (has_spec specs) path spec.body.variant_names
  pub fields : AreProperFields spec
  pub once : AreProperties spec.body.properties
  pub properties : AreAll IsProperProperty spec.body.properties

-- A layer whose specs are in the order of paths, each at the path of a prim or a variant with an owner, where the names of root prims,
-- children and variants are exactly those of the specs, whose head, fields and properties are proper, and whose canonical text has at
-- most 64 MiB.
pub record IsProper (layer : LayerTable) : Type 0 where
  pub head : IsProperHead layer.head
  pub ordered : AreSpecs layer.specs
  pub roots : AreNamesBelow (has_spec layer.specs) [] Prim layer.head.root_names
  pub entries : AreAll (λ e. IsProperEntry layer.specs e.0 e.1) layer.specs
  pub size : length (canonical layer) ≤ 67108864
