-- What answers show: values, lists, faults and sites.
use Rattle.std.specs.Prelude.{ℤ, List, ◌++◌, length, filter, codes}
use Rattle.std.specs.Fmt.{decimal}
use Rattle.std.specs.List.{flat_map}
use Rattle.prim_view.specs.Printing.{fault_text}
use Rattle.prim_view.specs.declared.site.Site.{Site}
use Rattle.prim_view.specs.declared.stack_name.StackName.{StackName}
use Rattle.prim_view.specs.declared.stack_name.StackName.TheVariants.{Root, Asset}
use Rattle.prim_view.specs.declared.view.PrimView.{PrimView}
use Rattle.sdf_paths.specs.Paths.{path_text, printed}
use Rattle.sdf_paths.specs.declared.element.Element.{Element}
use Rattle.sdf_values.specs.Print.{asset_text, print, quoted, time_text}
use Rattle.sdf_values.specs.declared.value.Value.{Value}
use Rattle.spec_properties.specs.Entries.{SampleEntries}
use Rattle.usda_writer.specs.Texts.{Text, bracketed, listed}

-- a value as a layer writes it, at no indentation
abbrev pub value_text : Value → Text
value_text v = print v 0

-- a sample as a layer writes it: its time and its value
abbrev pub sample_text : ℤ × Value → Text
sample_text e = time_text e.0 ++ codes ": " ++ print e.1 0

-- samples in braces, with commas between
abbrev pub samples_text : SampleEntries → Text
samples_text es = codes "{" ++ listed sample_text es ++ codes "}"

-- paths in brackets, each between `<` and `>`
abbrev pub paths_text : List (List Element) → Text
paths_text ps = bracketed path_text ps

-- names as strings
abbrev pub names_text : List Text → Text
names_text names = bracketed quoted names

-- what a line of its own begins with
abbrev pub line_start : Text
line_start = codes "\n  "

-- a text on a line of its own, behind two spaces
abbrev pub line_below : Text → Text
line_below t = line_start ++ t

-- how many there are, and then each
abbrev pub counted : {T : Type 0} → (T → Text) → List T → Text
counted f xs = decimal (length xs) ++ flat_map (λ x. line_below (f x)) xs

-- the first layer of a stack; of that of the root layer, before which the session layer may stand, the root layer
abbrev pub first_layer : Text → StackName → Text
first_layer root Root = root
first_layer root (Asset name) = name

-- a site as its layer and its path
abbrev pub site_text : Text → Site → Text
site_text root s = asset_text (first_layer root s.stack) ++ codes " " ++ printed s.path

-- the faults of a prim: their number, and each on a line of its own
abbrev pub faults_text : PrimView → Text
faults_text v = counted fault_text v.faults

-- the sites at which there is a spec
abbrev pub sites_with_spec : List Site → List Site
sites_with_spec sites = filter (λ s. s.has_spec) sites

-- the sites of a prim that have a spec: their number, and each on a line of its own
abbrev pub sites_text : Text → PrimView → Text
sites_text root v = counted (site_text root) (sites_with_spec v.sites)
