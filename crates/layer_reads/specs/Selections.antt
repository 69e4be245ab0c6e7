-- Selected variants that come back from their text.
use Rattle.std.specs.Prelude.{◌≡◌, ℕ, Bool, true, false, List, []}
use Rattle.std.specs.Str.{is_utf8}
use Rattle.sdf_paths.specs.Order.{text_cmp}
use Rattle.spec_properties.specs.Entries.{SelectionEntries}
use Rattle.spec_tables.specs.Tables.{IsTable}
use Rattle.usda_fields.specs.declared.owner.OwnerDraft.{OwnerDraft}
use Rattle.usda_grammar.specs.declared.symbols.Symbol.TheVariants as symbol
use Rattle.layer_texts.specs.FieldWords.{selection_words}
use Rattle.value_texts.specs.Each.{AreAll}
use Rattle.layer_reads.specs.Items.{AreItems}
use Rattle.layer_reads.specs.Kept.{has_items}
use Rattle.layer_reads.specs.Standing.{Standing, saying, IsAt}

-- the set and the variant are any UTF-8
abbrev pub IsSelectionKept : List ℕ × List ℕ → Type 0
IsSelectionKept s = (is_utf8 s.0 ≡ true) × (is_utf8 s.1 ≡ true)

-- sets in byte order, each once
pub record AreSelectionsKept (selections : SelectionEntries) : Type 0 where
  pub ordered : IsTable text_cmp selections
  pub each : AreAll IsSelectionKept selections

-- an owner that selects these variants, where `given` tells whether it was said
abbrev pub with_selected : SelectionEntries → Bool → OwnerDraft → OwnerDraft
with_selected selections given s = record s { spec = record s.spec { arcs = record s.spec.arcs { selections = selections } }; given = record s.given { variants = given } }

-- The words of selected variants make an owner, of which none are said yet, select them.
abbrev pub AreSelectionsRead : Type 0
AreSelectionsRead =
    (selections : SelectionEntries) (s : OwnerDraft) (at : Standing) → AreSelectionsKept selections
    → AreItems symbol.PrimMetadata (selection_words selections) (IsAt (saying (with_selected [] false s) at)) (IsAt (saying (with_selected selections (has_items selections) s) at))
