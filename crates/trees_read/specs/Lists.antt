-- Lists of fields, of connections and of targets: each is read to its end, where repeats are dropped.
use Rattle.std.specs.Prelude.{◌≡◌, ℕ, Bool, List, Some}
use Rattle.list_ops.specs.ListEdits.{firsts}
use Rattle.list_ops.specs.declared.op.ListOp.{ListOp}
use Rattle.sdf_paths.specs.declared.element.Element.{Element}
use Rattle.spec_parts.specs.declared.spec.Spec.{Spec}
use Rattle.spec_properties.specs.declared.property.Property.{Property}
use Rattle.spec_properties.specs.declared.property.Property.TheVariants.{Attr, Rel}
use Rattle.usda_drafts.specs.Acts.{act}
use Rattle.usda_drafts.specs.Drafts.{blank, layer_of}
use Rattle.usda_drafts.specs.declared.draft.Draft.{Draft}
use Rattle.usda_lists.specs.References.{same_text, same_path, same_item}
use Rattle.usda_productions.specs.Rules.{layer_forms}
use Rattle.usda_productions.specs.Texts.{MakeBy}
use Rattle.usda_words.specs.Words.{words_of, word_kind}
use Rattle.value_texts.specs.Each.{AreAll}

-- in the explicit list, where there is one, and in the list of each edit word, each item stands once
pub record AreItemsOnce {T : Type 0} (same : T → T → Bool) (op : ListOp T) : Type 0 where
  pub explicit : (xs : List T) → op.explicit ≡ Some xs → firsts same xs ≡ xs
  pub deleted : firsts same op.deleted ≡ op.deleted
  pub added : firsts same op.added ≡ op.added
  pub prepended : firsts same op.prepended ≡ op.prepended
  pub appended : firsts same op.appended ≡ op.appended
  pub ordered : firsts same op.ordered ≡ op.ordered

-- the connections of an attribute, or the targets of a relationship
abbrev pub paths_of : Property → ListOp (List Element)
paths_of (Attr name ty custom uniform default samples connections meta) = connections
paths_of (Rel name custom targets meta) = targets

-- the lists of a prim or a variant, and of its properties
pub record AreListsMade (spec : Spec) : Type 0 where
  pub inherits : AreItemsOnce same_path spec.arcs.inherits
  pub specializes : AreItemsOnce same_path spec.arcs.specializes
  pub references : AreItemsOnce same_item spec.arcs.references
  pub payloads : AreItemsOnce same_item spec.arcs.payloads
  pub variant_sets : AreItemsOnce same_text spec.arcs.variant_sets
  pub api_schemas : AreItemsOnce same_text spec.body.api_schemas
  pub clip_sets : AreItemsOnce same_text spec.body.clip_sets
  pub properties : AreAll (λ p. AreItemsOnce same_path (paths_of p)) spec.body.properties

-- Of each text: no list of the layer that it says is still in the making, so each item stands once in it.
abbrev pub ListsAreClosed : Type 0
ListsAreClosed = (bytes : List ℕ) (d : Draft) → MakeBy word_kind act layer_forms blank (words_of bytes) d → AreAll (λ e. AreListsMade e.1) (layer_of d).specs
