-- The merges of two values are proved, the inner ones first, and the rest computes.
use Rattle.std.proofs.Common.{◌≡◌, ◌∙◌, codes, pos, List, [], ◌∷◌}
use Rattle.sdf_values.specs.declared.value.DictItem.{DictItem}
use Rattle.sdf_values.specs.declared.value.DictType.TheVariants as dict_type
use Rattle.sdf_values.specs.declared.value.Value.TheVariants as value
use Rattle.composition.specs.Compose.{meaning}
use Rattle.composition.specs.Merging.{merged_within}
use Rattle.composition_worlds.specs.Short.{int}
use Rattle.composition_worlds.specs.WorldMetadata.{number_entry, text_entry, inner_entry}
use Rattle.composition_worlds.proofs.Merging.{of_whole, of_text, kept, kept_over, merges}
use Rattle.composition_worlds.proofs.fields.dictionaries_merge_and_all_else_is_the_strongest.Goals as goal

abbrev inner : List DictItem
inner = number_entry (codes "x") (pos 1) ∷ []

abbrev inner_weaker : List DictItem
inner_weaker = number_entry (codes "x") (pos 2) ∷ number_entry (codes "y") (pos 2) ∷ []

abbrev inner_merged : List DictItem
inner_merged = number_entry (codes "x") (pos 1) ∷ number_entry (codes "y") (pos 2) ∷ []

inner_merges : merged_within 63 (value.Dict inner) (value.Dict inner_weaker) ≡ value.Dict inner_merged
inner_merges =
    merges 62 inner inner_weaker
    ∙ (λ i. value.Dict (
    record { key = codes "x"; ty = dict_type.Plain int; value = kept 61 (value.Whole (pos 1)) (value.Whole (pos 2)) (of_whole (pos 1)) i }
    ∷ number_entry (codes "y") (pos 2)
    ∷ []))

abbrev outer : List DictItem
outer = number_entry (codes "a") (pos 1) ∷ inner_entry (codes "d") inner ∷ []

abbrev outer_weaker : List DictItem
outer_weaker = text_entry (codes "a") (codes "w") ∷ number_entry (codes "b") (pos 3) ∷ inner_entry (codes "d") inner_weaker ∷ []

abbrev outer_merged : List DictItem
outer_merged = number_entry (codes "a") (pos 1) ∷ number_entry (codes "b") (pos 3) ∷ inner_entry (codes "d") inner_merged ∷ []

outer_merges : merged_within 64 (value.Dict outer) (value.Dict outer_weaker) ≡ value.Dict outer_merged
outer_merges =
    merges 63 outer outer_weaker
    ∙ (λ i. value.Dict (
    record { key = codes "a"; ty = dict_type.Plain int; value = kept 62 (value.Whole (pos 1)) (value.Text (codes "w")) (of_whole (pos 1)) i }
    ∷ number_entry (codes "b") (pos 3)
    ∷ record { key = codes "d"; ty = dict_type.Dictionary; value = inner_merges i }
    ∷ []))

pub returns : goal.returns
unfolding meaning
returns c = λ i.
    (codes "comment", value.Text (codes "the weaker"))
    ∷ (codes "customData", outer_merges i)
    ∷ (codes "kind", kept 63 (value.Text (codes "component")) (value.Text (codes "group")) (of_text (codes "component")) i)
    ∷ (codes "note", kept_over 63 (number_entry (codes "a") (pos 1) ∷ []) (value.Text (codes "a text")) (of_text (codes "a text")) i)
    ∷ []
