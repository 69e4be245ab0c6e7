-- The replies to batches and publishes.
use Rattle.std.specs.Prelude.{ℕ, ◌-◌, ◌++◌, codes}
use Rattle.std.specs.Fmt.{decimal}
use Rattle.change_core.specs.declared.history.EditReply.{EditReply}
use Rattle.change_core.specs.declared.history.EditReply.TheVariants.{Accepted, Refused, JournalFull}
use Rattle.edit_batches.specs.declared.fault.EditFault.{EditFault}
use Rattle.edit_batches.specs.declared.fault.EditFault.TheVariants as fault
use Rattle.prim_view.specs.Printing.{refusal_text}
use Rattle.usda_writer.specs.Texts.{Text}

-- why an operation is refused
abbrev pub edit_fault_text : EditFault → Text
edit_fault_text fault.NoLayer = codes "NoLayer"
edit_fault_text fault.LayerThere = codes "LayerThere"
edit_fault_text fault.LayerLimit = codes "LayerLimit"
edit_fault_text fault.RootLayer = codes "RootLayer"
edit_fault_text (fault.LayerText r) = codes "LayerText" ++ refusal_text r
edit_fault_text fault.WrongPath = codes "WrongPath"
edit_fault_text fault.NoParent = codes "NoParent"
edit_fault_text fault.NoSpec = codes "NoSpec"
edit_fault_text fault.SpecThere = codes "SpecThere"
edit_fault_text fault.NoSuchType = codes "NoSuchType"
edit_fault_text fault.ValueShape = codes "ValueShape"
edit_fault_text fault.TimeRange = codes "TimeRange"
edit_fault_text fault.OffsetRange = codes "OffsetRange"
edit_fault_text fault.BadArc = codes "BadArc"

-- the reply to a batch that is the one of this number among those accepted
abbrev pub accepted_text : ℕ → Text
accepted_text number = codes "batch " ++ decimal number ++ codes " accepted\n"

-- what the reply to a refused batch begins with
unfoldable pub refused_word : Text
refused_word = codes "batch refused: op "

-- the operation of this number is refused
abbrev pub refused_op : ℕ → Text
refused_op op = refused_word ++ decimal op ++ codes " "

-- the reply to a batch whose operation of this number is refused
abbrev pub refused_text : ℕ → EditFault → Text
refused_text op fault = refused_op op ++ edit_fault_text fault ++ codes "\n"

-- the reply to a batch for which the journal has no room
abbrev pub full_text : Text
full_text = codes "batch refused: journal full\n"

-- the reply to a batch: accepted, refused at an operation, or no room for it
abbrev pub edit_text : EditReply EditFault → Text
edit_text (Accepted number) = accepted_text number
edit_text (Refused op fault) = refused_text op fault
edit_text JournalFull = full_text

-- the reply to a publish of so many places, the root among them
abbrev pub published_text : ℕ → ℕ → ℕ → Text
published_text version batches places = codes "published " ++ decimal version ++ codes ": batches " ++ decimal batches ++ codes ", prims " ++ decimal (places - 1) ++ codes "\n"
