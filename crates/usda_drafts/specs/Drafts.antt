-- The draft before the first token, and the layer of a draft.
use Rattle.std.specs.Prelude.{ℕ, false, pos, List, [], Option, Some, None, codes}
use Rattle.sdf_paths.specs.Order.{text_cmp}
use Rattle.sdf_specs.specs.Layers.{LayerTable}
use Rattle.sdf_values.specs.declared.value.Value.{Value}
use Rattle.sdf_values.specs.declared.value.Value.TheVariants as value
use Rattle.spec_parts.specs.declared.items.Specifier.TheVariants.{Over}
use Rattle.spec_parts.specs.declared.items.SubLayer.{SubLayer}
use Rattle.spec_parts.specs.declared.spec.BodyPart.{BodyPart}
use Rattle.spec_parts.specs.declared.spec.Head.{Head}
use Rattle.spec_tables.specs.Tables.{at_key, without_key}
use Rattle.usda_fields.specs.declared.owner.OrderWord.TheVariants.{NameChildren}
use Rattle.usda_lists.specs.declared.edit.ListEdit.TheVariants.{Explicit}
use Rattle.usda_lists.specs.declared.offset.OffsetKey.TheVariants as key
use Rattle.usda_values.specs.declared.shape.Shape.TheVariants.{Untyped}
use Rattle.usda_statements.specs.Headings.{begun}
use Rattle.usda_statements.specs.OpenValues.{no_value}
use Rattle.usda_statements.specs.PropertyDrafts.{no_property}
use Rattle.usda_drafts.specs.Owners.{owner_of, spec_of}
use Rattle.usda_drafts.specs.declared.owner.Owner.{Owner}
use Rattle.usda_drafts.specs.declared.aim.Goal.TheVariants as goal
use Rattle.usda_drafts.specs.declared.aim.Aim.{Aim}
use Rattle.usda_drafts.specs.declared.draft.OpenList.TheVariants as open_list
use Rattle.usda_drafts.specs.declared.draft.Opening.{Opening}
use Rattle.usda_drafts.specs.declared.draft.Draft.{Draft}

-- no prim has begun
abbrev pub no_opening : Opening
no_opening = record { specifier = Over; type_name = None; is_too_deep = false }

-- no value is expected
abbrev pub no_aim : Aim
no_aim = record { goal = goal.Nothing; shape = Untyped; key = []; time = pos 0 }

-- nothing is read yet
unfoldable pub blank : Draft
blank = record {
  specs = [];
  owner = owner_of [] Over None;
  outer = [];
  sublayers = [];
  has_sublayers = false;
  opening = no_opening;
  edit = Explicit;
  word = [];
  word_at = 0;
  heading = begun Explicit;
  property = no_property;
  name_at = 0;
  list = open_list.SubLayers;
  order = NameChildren;
  offset_key = key.Offset;
  aim = no_aim;
  value = no_value;
}

-- the text of the value of a key, where it is one
unfoldable pub text_of : Option Value → Option (List ℕ)
text_of (Some (value.Text text)) = Some text
text_of v = None

-- the head of a layer of whose root this is said; the default prim stands at a key of its metadata
unfoldable pub head_with : List ℕ → BodyPart → List SubLayer → Head
head_with key body sublayers = record {
  sublayers = sublayers;
  default_prim = text_of (at_key text_cmp key body.meta);
  meta = without_key text_cmp key body.meta;
  root_names = body.children;
  root_order = body.child_order;
}

-- the head of a layer, by the owner that stands for `/`
unfoldable pub head_from : List ℕ → Owner → List SubLayer → Head
head_from key o sublayers = head_with key (spec_of o).body sublayers

-- the layer that has been read, where the default prim stands at this key
unfoldable pub layer_by : List ℕ → Draft → LayerTable
layer_by key d = record { head = head_from key d.owner d.sublayers; specs = d.specs }

-- the layer that has been read; its default prim stood at the key `defaultPrim`
unfoldable pub layer_of : Draft → LayerTable
layer_of d = layer_by (codes "defaultPrim") d
