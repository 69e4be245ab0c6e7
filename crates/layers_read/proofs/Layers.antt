-- Trees, fields and properties make layers.
use Rattle.std.proofs.Common.{◌≡◌, ◌≤◌, true, List, [], ◌∷◌, length, sym, subst}
use Rattle.std.specs.Str.{is_utf8}
use Rattle.sdf_paths.specs.declared.element.Element.{Element}
use Rattle.sdf_specs.specs.Layers.{SpecEntries}
use Rattle.spec_parts.specs.declared.spec.Spec.{Spec}
use Rattle.usda_drafts.specs.Drafts.{layer_of}
use Rattle.usda_drafts.specs.declared.draft.Draft.{Draft}
use Rattle.usda_reader.proofs.FirstBytes.{passed_is_utf8}
use Rattle.usda_writer.specs.Canonical.{canonical}
use Rattle.properties_read.specs.Drafts as properties
use Rattle.proper_layers.specs.Proper.{IsProperEntry, IsProper}
use Rattle.trees_read.specs.Laws.{IsReadToEnd}
use Rattle.trees_read.specs.Trees.{IsPlaced, IsProperTree}
use Rattle.trees_read.proofs.Texts.{read_trees}
use Rattle.value_returns.specs.Fields.{AreProperFields}
use Rattle.value_texts.specs.Each.{AreAll}
use Rattle.layers_read.specs.Laws.{IsAllSaid, LayersAreRead}
use Rattle.layers_read.proofs.Properties.{properties_read}
use Rattle.layers_read.proofs.Texts.{said_read}

-- ---- trees

entry : (specs : SpecEntries) (path : List Element) (spec : Spec) → IsPlaced specs path spec → AreProperFields spec → properties.AreProper spec.body.properties → IsProperEntry specs path spec
entry specs path spec placed said proper = record {
  place = placed.place;
  owned = placed.owned;
  variant = placed.variant;
  children = placed.children;
  sets = placed.sets;
  fields = said;
  once = proper.once;
  properties = proper.each;
}

entries : (specs es : SpecEntries) → AreAll (λ e. IsPlaced specs e.0 e.1) es → AreAll (λ e. AreProperFields e.1) es → AreAll properties.IsProperEntry es
    → AreAll (λ e. IsProperEntry specs e.0 e.1) es
entries specs [] placed said proper = tt
entries specs (e ∷ es) placed said proper = (entry specs e.0 e.1 placed.0 said.0 proper.0, entries specs es placed.1 said.1 proper.1)

-- ---- texts

made : (d : Draft) → IsProperTree (layer_of d) → IsAllSaid d → AreAll properties.IsProperEntry (layer_of d).specs → length (canonical (layer_of d)) ≤ 67108864 → IsProper (layer_of d)
made d tree said proper size = record {
  head = said.head;
  ordered = tree.ordered;
  roots = tree.roots;
  entries = entries (layer_of d).specs (layer_of d).specs tree.entries said.specs proper;
  size = size;
}

pub layers_read : LayersAreRead
layers_read bytes layer text size =
    let d : Draft = text.draft in
    let utf8 : is_utf8 bytes ≡ true = passed_is_utf8 bytes text.passes in
    let e : IsReadToEnd d = read_trees.read bytes d text.makes in
    subst IsProper (sym text.says)
    (made d e.proper (said_read bytes d utf8 text.makes) (properties_read bytes d utf8 text.makes) (subst (λ l. length (canonical l) ≤ 67108864) text.says size))
