-- Which list is open behind a word.
use Rattle.std.proofs.Common.{◌≡◌, ◌∙◌, sym, ap, refl, ℕ, Bool, true, false, Ok, Err}
use Rattle.std.specs.Prelude.{Result, if◌then◌else◌}
use Rattle.sdf_values.specs.declared.refusal.RefusalKind.{RefusalKind}
use Rattle.sdf_values.specs.declared.value.Value.{Value}
use Rattle.usda_fields.specs.Fields as fields
use Rattle.usda_fields.specs.Owners as owner
use Rattle.usda_fields.specs.Variants as variants
use Rattle.usda_fields.specs.declared.field.ListField.{ListField}
use Rattle.usda_fields.specs.declared.field.ListField.TheVariants.{Paths, References, Texts}
use Rattle.usda_grammar.specs.declared.kinds.WordKind.{WordKind}
use Rattle.usda_grammar.specs.declared.kinds.WordKind.TheVariants as token
use Rattle.usda_lists.specs.Lists.{amend_last}
use Rattle.usda_lists.specs.Offsets.{offset_key}
use Rattle.usda_lists.specs.References.{sublayer_number}
use Rattle.usda_lists.specs.declared.edit.ListEdit.{ListEdit}
use Rattle.usda_statements.specs.OpenValues.{no_value, is_open, given, value_in}
use Rattle.usda_statements.specs.PropertyDrafts.{list_act, path_act, meta_act}
use Rattle.usda_statements.specs.declared.open_value.OpenValue.{OpenValue}
use Rattle.usda_statements.specs.declared.property.PropertyDraft.{PropertyDraft}
use Rattle.usda_words.specs.Words.{Word}
use Rattle.usda_drafts.specs.Bodies.{list_begun}
use Rattle.usda_drafts.specs.Lists.{string_act, list_path_act, asset_act, lone_path_act, item_path_act, end_act, in_list_act, in_references_act, offset_key_act, number_act}
use Rattle.usda_drafts.specs.Metadata.{in_field, field_act, string_field_act, path_field_act, reference_field_act}
use Rattle.usda_drafts.specs.Refusals.{Acted, then_with}
use Rattle.usda_drafts.specs.Values.{with_said, with_property, completed, after_token, token_act}
use Rattle.usda_drafts.specs.declared.aim.Goal.{Goal}
use Rattle.usda_drafts.specs.declared.aim.Goal.TheVariants as goal
use Rattle.usda_drafts.specs.declared.draft.Draft.{Draft}
use Rattle.usda_drafts.specs.declared.draft.OpenList.{OpenList}
use Rattle.usda_drafts.specs.declared.draft.OpenList.TheVariants as open_list
use Rattle.properties_read.specs.Drafts.{is_of_property}
use Rattle.properties_read.proofs.Drafts.{then_made}

-- the list of what an act makes
made_list : {A : Type 0} (l : OpenList) (at : ℕ) (r : Result A RefusalKind) (make : A → Draft) (next : Draft) → ((a : A) → (make a).list ≡ l) → then_with at r make ≡ Ok next → next.list ≡ l
made_list l at r make next so e = let m = then_made at r make next e in ap (λ (x : Draft). x.list) (sym m.1.1) ∙ so m.0

the_list : (l : OpenList) (made next : Draft) → made.list ≡ l → ◌≡◌ {A = Acted} (Ok made) (Ok next) → next.list ≡ l
the_list l made next so e = let same : next ≡ made = cc e in ap (λ (x : Draft). x.list) same ∙ so

-- ---- words that keep it

string_list : (l : OpenList) (w : Word) (d next : Draft) → string_act l w d ≡ Ok next → next.list ≡ d.list
unfolding string_act
string_list (open_list.Field (Texts field)) w d next e = made_list d.list w.start (fields.text_act field d.edit w.text d.owner.said) (with_said d) next (λ a. refl) e
string_list l w d next e = the_list d.list d next refl e

path_list : (l : OpenList) (w : Word) (d next : Draft) → list_path_act l w d ≡ Ok next → next.list ≡ d.list
unfolding list_path_act
path_list (open_list.Field (Paths field)) w d next e = made_list d.list w.start (fields.path_act field d.edit w.text d.owner.said) (with_said d) next (λ a. refl) e
path_list open_list.Property w d next e = made_list d.list w.start (path_act d.owner.said.base w.text d.property) (with_property d) next (λ a. refl) e
path_list l w d next e = the_list d.list d next refl e

asset_list : (l : OpenList) (w : Word) (d next : Draft) → asset_act l w d ≡ Ok next → next.list ≡ d.list
unfolding asset_act
asset_list (open_list.Field (References field)) w d next e = the_list d.list (with_said d (fields.asset_act field d.edit w.text d.owner.said)) next refl e
asset_list l w d next e = the_list d.list d next refl e

lone_path_list : (l : OpenList) (w : Word) (d next : Draft) → lone_path_act l w d ≡ Ok next → next.list ≡ d.list
unfolding lone_path_act
lone_path_list (open_list.Field (References field)) w d next e = made_list d.list w.start (fields.lone_path_act field d.edit w.text d.owner.said) (with_said d) next (λ a. refl) e
lone_path_list l w d next e = the_list d.list d next refl e

pub item_path_list : (l : OpenList) (w : Word) (d next : Draft) → item_path_act l w d ≡ Ok next → next.list ≡ d.list
unfolding item_path_act
item_path_list (open_list.Field (References field)) w d next e = made_list d.list w.start (fields.item_path_act field d.edit w.text d.owner.said) (with_said d) next (λ a. refl) e
item_path_list l w d next e = the_list d.list d next refl e

end_list : (l : OpenList) (d next : Draft) → end_act l d ≡ Ok next → next.list ≡ d.list
unfolding end_act
end_list (open_list.Field field) d next e = the_list d.list (with_said d (fields.close_field field d.edit d.owner.said)) next refl e
end_list open_list.Property d next e = the_list d.list (with_property d _) next refl e
end_list open_list.SubLayers d next e = the_list d.list d next refl e

pub in_list_list : (k : WordKind) (w : Word) (d next : Draft) → in_list_act k w d ≡ Ok next → next.list ≡ d.list
unfolding in_list_act
in_list_list token.Quoted w d next e = string_list d.list w d next e
in_list_list token.Path w d next e = path_list d.list w d next e
in_list_list token.CloseBracket w d next e = end_list d.list d next e
in_list_list k w d next e = the_list d.list d next refl e

pub in_references_list : (k : WordKind) (w : Word) (d next : Draft) → in_references_act k w d ≡ Ok next → next.list ≡ d.list
unfolding in_references_act
in_references_list token.Asset w d next e = asset_list d.list w d next e
in_references_list token.Path w d next e = lone_path_list d.list w d next e
in_references_list token.CloseBracket w d next e = end_list d.list d next e
in_references_list k w d next e = the_list d.list d next refl e

pub offset_key_list : (w : Word) (d next : Draft) → offset_key_act w d ≡ Ok next → next.list ≡ d.list
unfolding offset_key_act
offset_key_list w d next e = made_list d.list w.start (offset_key w.text) (λ k. record d { offset_key = k }) next (λ k. refl) e

pub number_list : (l : OpenList) (w : Word) (d next : Draft) → number_act l w d ≡ Ok next → next.list ≡ d.list
unfolding number_act
number_list (open_list.Field (References field)) w d next e = made_list d.list w.start (fields.item_number_act field d.edit d.offset_key w.text d.owner.said) (with_said d) next (λ a. refl) e
number_list open_list.SubLayers w d next e =
    made_list d.list w.start (amend_last (sublayer_number d.offset_key w.text) d.sublayers) (λ sublayers. record d { sublayers = sublayers }) next (λ a. refl) e
number_list l w d next e = the_list d.list d next refl e

-- ---- values

completed_list : (g : Goal) (v : Value) (at : ℕ) (d next : Draft) → completed g v at d ≡ Ok next → next.list ≡ d.list
unfolding completed
completed_list goal.Nothing v at d next e = the_list d.list d next refl e
completed_list goal.OwnerKey v at d next e = made_list d.list at (owner.value_act d.aim.key v d.owner.said) (with_said d) next (λ a. refl) e
completed_list goal.Variants v at d next e = the_list d.list (with_said d (variants.selections_act v d.owner.said)) next refl e
completed_list goal.PropertyKey v at d next e = made_list d.list at (meta_act d.aim.key v d.property) (with_property d) next (λ a. refl) e
completed_list goal.Default v at d next e = the_list d.list (with_property d _) next refl e
completed_list goal.Sample v at d next e = the_list d.list (with_property d _) next refl e

pub token_list : (w : Word) (d next : Draft) → token_act w d ≡ Ok next → next.list ≡ d.list
unfolding token_act
token_list w d next e = by (given d.owner.said.base w.token w.text d.value) e
  where
    whole : (v : OpenValue) (b : Bool) → (if b then Ok (record d { value = v }) else completed d.aim.goal (value_in v) w.start (record d { value = no_value })) ≡ Ok next → next.list ≡ d.list
    whole v true e = the_list d.list (record d { value = v }) next refl e
    whole v false e = completed_list d.aim.goal (value_in v) w.start (record d { value = no_value }) next e

    by : (a : Result OpenValue RefusalKind) → after_token a w.start d ≡ Ok next → next.list ≡ d.list
    by (Err k) e = absurd cc
    by (Ok v) e = whole v (is_open v) e

-- ---- words that begin a list

pub targets_list : (d next : Draft) → list_begun d ≡ Ok next → is_of_property next.list ≡ true
unfolding list_begun
targets_list d next e = ap is_of_property (made_list open_list.Property d.name_at (list_act d.property) (λ (p : PropertyDraft). record (with_property d p) { list = open_list.Property }) next (λ p. refl) e)

field_list : (field : ListField) (edit : ListEdit) (at : ℕ) (d next : Draft) → field_act field edit at d ≡ Ok next → is_of_property next.list ≡ false
unfolding field_act
field_list field edit at d next e = ap is_of_property (made_list (open_list.Field field) at (fields.field_act field edit d.owner.said) (in_field field edit d) next (λ said. refl) e)

pub string_field_list : (edit : ListEdit) (w : Word) (d next : Draft) → string_field_act edit w d ≡ Ok next → is_of_property next.list ≡ false
unfolding string_field_act
string_field_list edit w d next e = field_list (Texts (fields.text_field w.text)) edit w.start d next e

pub path_field_list : (edit : ListEdit) (w : Word) (d next : Draft) → path_field_act edit w d ≡ Ok next → is_of_property next.list ≡ false
unfolding path_field_act
path_field_list edit w d next e = field_list (Paths (fields.path_field w.text)) edit w.start d next e

pub reference_field_list : (edit : ListEdit) (w : Word) (d next : Draft) → reference_field_act edit w d ≡ Ok next → is_of_property next.list ≡ false
unfolding reference_field_act
reference_field_list edit w d next e = field_list (References (fields.reference_field w.text)) edit w.start d next e
