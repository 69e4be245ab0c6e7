-- The view at a plain prim path, by its index and the opinions on it.
-- docs/COMPOSITION.md, 'The stage'.
use Rattle.std.specs.Prelude.{List, ◌++◌, map, Option}
use Rattle.composition.specs.Faults.{Fault, Index, child_too_long}
use Rattle.composition.specs.Fields.{listed_children, unlisted_children}
use Rattle.composition.specs.Opinions.{Said}
use Rattle.composition.specs.Paths.{Path, limits}
use Rattle.composition.specs.Views.{PrimView, view_by_index}
use Rattle.composition.specs.World.{World}
use Rattle.field_resolve.specs.Activity.{active_names}
use Rattle.field_resolve.specs.Folding.{specifier_on, type_on, schemas_on, clips_on, meta_on}
use Rattle.prim_index.specs.Answer.{sites_in, choices_in, faults_in}
use Rattle.prim_index.specs.Once.{faults_once}
use Rattle.prim_compose.specs.Properties.{views_on, faults_on}

-- what an index has; an overgrown one has no choices and no sites, and that fault alone
abbrev pub index_in : Option Index → Index
index_in i = record { choices = choices_in i; sites = sites_in i; faults = faults_in i }

-- the faults of a prim, each text once: of its index, its properties, and the children whose paths pass a limit
abbrev pub all_faults : Path → List Fault → List Said → List Fault
all_faults p faults said = faults_once ((faults ++ faults_on said) ++ map child_too_long (unlisted_children limits p (active_names said)))

-- the view of a prim by its index and the opinions at its sites
abbrev pub seen : Path → Index → List Said → PrimView
seen p i said = record {
  specifier = specifier_on said;
  type_name = type_on said;
  meta = meta_on said;
  api_schemas = schemas_on said;
  clip_sets = clips_on said;
  properties = views_on said;
  children = listed_children limits p (active_names said);
  choices = i.choices;
  sites = i.sites;
  faults = all_faults p i.faults said;
  since = 0;
}

-- the view by an index, or that of an overgrown prim
unfoldable pub seen_by : World → Path → Option Index → PrimView
seen_by w p i = view_by_index limits w p i
