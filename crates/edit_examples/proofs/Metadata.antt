-- Metadata: it computes, but for what a key keeps of a value.
use Rattle.std.proofs.Common.{◌≡◌, ◌∙◌, ℕ, Bool, false, not, List, [], ◌∷◌, pos, codes, Some, Ok, refl, sym, ap}
use Rattle.std.specs.Result.{result_ok}
use Rattle.edit_batches.specs.declared.fault.EditFault.TheVariants.{NoSpec, ValueShape}
use Rattle.layer_apply.specs.Edits.{put_back}
use Rattle.layer_edit.specs.Metadata.{with_meta}
use Rattle.layer_edit.specs.Outcomes.{Made, passing, given as made_given}
use Rattle.layer_edit.specs.Places.{has_spec}
use Rattle.layer_edit.specs.Typing.{kept_step, kept_item, kept, judged_by}
use Rattle.layer_set.specs.Worlds.{WorldData}
use Rattle.sdf_paths.specs.declared.element.Element.{Element}
use Rattle.sdf_specs.specs.Layers.{LayerTable}
use Rattle.sdf_values.specs.declared.decimal.Num.{Num}
use Rattle.sdf_values.specs.declared.decimal.Num.TheVariants.{Finite}
use Rattle.sdf_values.specs.declared.type_name.ElementType.TheVariants as element
use Rattle.sdf_values.specs.declared.value.DictItem.{DictItem}
use Rattle.sdf_values.specs.declared.value.Value.{Value, fold-roll-Value}
use Rattle.sdf_values.specs.declared.value.Value.TheOpen.{Value-F}
use Rattle.sdf_values.specs.declared.value.Value.TheVariants as value
use Rattle.sdf_values.specs.declared.value.Value.TheVariants.{rolls-Number, rolls-Text}
use Rattle.sdf_values.specs.Conforms.{one}
use Rattle.spec_parts.specs.Blank.{blank_head}
use Rattle.usda_fields.specs.Keys.{key_rule}
use Rattle.usda_values.specs.Scalars.{Taken}
use Rattle.usda_values.specs.Shaping.{Taking}
use Rattle.edit_examples.proofs.Computing.{of_edits}
use Rattle.edit_examples.proofs.Taking.{takes_whole, takes_text}
use Rattle.edit_examples.specs.Fields.{headed}
use Rattle.edit_examples.specs.Metadata.{described, GivenAreTold, TakenAreTold, AreTold}
use Rattle.edit_examples.specs.Worlds.{a, whole, root, world}

-- what a key that takes any value keeps of a string and of a number
keeps_text : (s : List ℕ) → kept (value.Text s) ≡ kept_step (Value-F.Text s)
keeps_text s = ap kept (sym (rolls-Text s)) ∙ fold-roll-Value (Bool → Value) DictItem kept_step kept_item (Value-F.Text s)

keeps_number : (x : Num) → kept (value.Number x) ≡ kept_step (Value-F.Number x)
keeps_number x = ap kept (sym (rolls-Number x)) ∙ fold-roll-Value (Bool → Value) DictItem kept_step kept_item (Value-F.Number x)

-- the world with a value at a key, by what is taken of the value
abbrev with_taken : List ℕ → List Element → LayerTable → Taken → Made WorldData
with_taken key path layer taking =
    put_back root
    (passing ((not (has_spec path layer), NoSpec) ∷ []) (made_given ValueShape (judged_by (key_rule key) (result_ok taking)) (λ v. Ok (with_meta path key (Some v) layer))))
    (world layer)

-- the same by what is kept of it
abbrev with_kept : List ℕ → List Element → LayerTable → (Bool → Value) → Made WorldData
with_kept key path layer keep = with_taken key path layer (Ok (keep false))

-- and by what the type of the key takes
abbrev with_bool : LayerTable → Taking → Made WorldData
with_bool layer take = with_taken (codes "hidden") a layer (take (one element.Bool))

abbrev with_comment : LayerTable → Taking → Made WorldData
with_comment layer take = with_taken (codes "comment") [] layer (take (one element.String))

given : GivenAreTold
unfolding of_edits
given = record {
  text = ap (with_kept (codes "kind") a (described ((codes "lod", whole 2) ∷ []))) (keeps_text (codes "component"));
  number = ap (with_kept (codes "lod") a (described [])) (keeps_number (Finite (record { digits = pos 2; exp = pos 0 })));
  truth = ap (with_bool (described [])) (takes_whole (pos 1));
  no_truth = ap (with_bool (described [])) (takes_text (codes "yes"));
  layer = ap (with_kept (codes "upAxis") [] (headed blank_head)) (keeps_text (codes "Y"));
  comment = ap (with_comment (headed blank_head)) (takes_whole (pos 5));
  no_prim = refl;
}

taken : TakenAreTold
unfolding of_edits
taken = record { entry = refl; no_entry = refl; default_prim = refl; no_prim = refl }

pub are_told : AreTold
are_told = record { given = given; taken = taken }
