-- What is left of a table.
use Rattle.std.specs.Prelude.{List, [], ◌∷◌}
use Rattle.spec_tables.specs.declared.entries.Rest.{Rest}
use Rattle.spec_tables.specs.declared.entries.Rest.TheVariants.{Done, One, Few, Many, Part}

-- the entries that are left, in order
abbrev pub rest_entries : {K V : Type 0} → Rest K V → List (K × V)
rest_entries Done = []
rest_entries (One entry) = entry.now ∷ []
rest_entries (Few entries) = entries.now
rest_entries (Many entries) = entries
rest_entries (Part entries) = entries
