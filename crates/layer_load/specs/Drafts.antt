-- A world that is being opened, as the code keeps it.
use Rattle.std.specs.Prelude.{◌≡◌}
use Rattle.std.specs.List.{list_any}
use Rattle.std.specs.Option.{is_some}
use Rattle.composition.specs.Texts.{Text, same_text}
use Rattle.layer_set.specs.Named.{at_name}
use Rattle.layer_load.specs.Opening.{Opening}
use Rattle.layer_load.specs.declared.names.Names.{Names}
use Rattle.layer_load.specs.declared.opening.WorldDraft.{WorldDraft}

-- the table has the names of the list
abbrev pub AreMet : Names → Type 0
AreMet names = (q : Text) → is_some (at_name q names.met) ≡ list_any (same_text q) names.listed

-- the opening that the code keeps so
abbrev pub opening_of : WorldDraft → Opening
opening_of draft = record { names = draft.names.listed; world = draft.world; bytes = draft.bytes }
