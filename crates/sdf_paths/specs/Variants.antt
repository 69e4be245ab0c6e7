-- The name of a variant, read character by character.
use Rattle.std.specs.Prelude.{ℕ, Bool, true, false, ◌==◌, if◌then◌else◌, List, Option, Some, None}
use Rattle.std.specs.List.{list_all}
use Rattle.usd_names.specs.Names.{is_variant_character, spells_run, spells_variant}
use Rattle.sdf_paths.specs.declared.variants.VariantPart.{VariantPart}
use Rattle.sdf_paths.specs.declared.variants.VariantPart.TheVariants.{Start, Dotted, Run}

-- these characters end a name of which this part stands before
abbrev pub ends_variant : VariantPart → List ℕ → Bool
ends_variant Start cs = spells_variant cs
ends_variant Dotted cs = spells_run cs
ends_variant Run cs = list_all is_variant_character cs

-- the name goes on where a character may stand in the name of a variant, and with no other
abbrev pub run_part : Bool → Option VariantPart
run_part true = Some Run
run_part false = None

-- the part of a name with one character more
abbrev pub part_after : VariantPart → ℕ → Option VariantPart
part_after Start c = if c == 46 then Some Dotted else run_part (is_variant_character c)
part_after part c = run_part (is_variant_character c)

-- what has been read may be a whole name: not the empty text, and not a `.` alone
abbrev pub is_whole : VariantPart → Bool
is_whole Run = true
is_whole part = false
