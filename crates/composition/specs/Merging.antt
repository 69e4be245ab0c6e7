-- How metadata merges: dictionaries key by key, the stronger first, nested ones too; of all else the strongest is kept.
-- docs/COMPOSITION.md, 'Names and fields'.
use Rattle.std.specs.Prelude.{ℕ, zero, suc, List, [], map, fold, Option, Some, None}
use Rattle.sdf_paths.specs.Order.{text_cmp}
use Rattle.spec_properties.specs.Entries.{MetaEntries}
use Rattle.spec_tables.specs.Tables.{at_key, with_key}
use Rattle.sdf_values.specs.declared.value.DictItem.{DictItem, out-DictItem}
use Rattle.sdf_values.specs.declared.value.Value.{Value, out-Value}
use Rattle.sdf_values.specs.declared.value.Value.TheVariants as value
use Rattle.sdf_values.specs.declared.value.Value.TheOpen.{Value-F}
use Rattle.composition.specs.Texts.{Text}

-- the entries of a dictionary; none where the value is no dictionary
abbrev pub entries_in : Value-F Value DictItem → Option (List DictItem)
entries_in (Value-F.Dict is) = Some is
entries_in _ = None

-- the entries of a value that is a dictionary; none of any other
abbrev pub entries_of : Value → Option (List DictItem)
entries_of v = entries_in (out-Value v)

-- entries by key
abbrev pub with_item : List (Text × DictItem) → DictItem → List (Text × DictItem)
with_item so_far i = with_key text_cmp (out-DictItem i).key i so_far

-- what a value makes of a weaker one is given
module _ (over : Value → Value → Value) where
  -- an entry over the weaker one of its key, if there is one; the stronger keeps its type
  abbrev pub over_entry : DictItem → Option DictItem → DictItem
  over_entry i None = i
  over_entry i (Some weaker) =
      record { key = (out-DictItem i).key; ty = (out-DictItem i).ty; value = over (out-DictItem i).value (out-DictItem weaker).value }

  -- a dictionary so far with a stronger entry, put over the entry that has its key
  abbrev pub with_stronger : List (Text × DictItem) → DictItem → List (Text × DictItem)
  with_stronger so_far i = with_key text_cmp (out-DictItem i).key (over_entry i (at_key text_cmp (out-DictItem i).key so_far)) so_far

  -- the entries of a dictionary over those of a weaker one, in byte order of keys
  abbrev pub items_over : List DictItem → List DictItem → List DictItem
  items_over is weaker = map (λ e. e.1) (fold with_stronger (fold with_item [] weaker) is)

  -- two dictionaries merge; else the stronger value stands as it is
  abbrev pub dict_over : Value → Option (List DictItem) → Option (List DictItem) → Value
  dict_over v (Some is) (Some weaker) = value.Dict (items_over is weaker)
  dict_over v _ _ = v

-- a value over a weaker one, so many dictionaries deep
unfoldable pub merged_within : ℕ → Value → Value → Value
merged_within zero v weaker = v
merged_within (suc levels) v weaker = dict_over (merged_within levels) v (entries_of v) (entries_of weaker)

-- a value over a weaker one of the same key; values nest at most 64 deep
abbrev pub merged : Value → Value → Value
merged v weaker = merged_within 64 v weaker

-- metadata so far with a weaker entry: as it is where its key is new, else below the value that is there
abbrev pub with_weaker : MetaEntries → Text × Value → MetaEntries
with_weaker so_far e =
    elim (at_key text_cmp e.0 so_far) [ None ↦ with_key text_cmp e.0 e.1 so_far | Some v ↦ with_key text_cmp e.0 (merged v e.1) so_far ]

-- tables of metadata, the strongest first, as one
abbrev pub merged_all : List MetaEntries → MetaEntries
merged_all tables = fold (λ so_far table. fold with_weaker so_far table) [] tables
