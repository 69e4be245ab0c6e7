-- What the stage has at `/`, by parts.
-- docs/COMPOSITION.md, 'The stage'.
use Rattle.std.specs.Prelude.{List, [], ◌∷◌, ◌++◌, map, fold, Option, Some, None}
use Rattle.sdf_paths.specs.Order.{text_cmp}
use Rattle.sdf_values.specs.declared.value.Value.TheVariants as value
use Rattle.spec_properties.specs.Entries.{MetaEntries}
use Rattle.spec_tables.specs.Tables.{with_key}
use Rattle.sdf_specs.specs.Keys.{default_key}
use Rattle.composition.specs.Merging.{with_weaker}
use Rattle.composition.specs.Texts.{Text}
use Rattle.composition.specs.Faults.{Fault, child_too_long}
use Rattle.composition.specs.Fields.{listed_children, unlisted_children}
use Rattle.composition.specs.Paths.{limits}
use Rattle.composition.specs.Views.{PrimView, empty_view, head_meta, root_site}
use Rattle.composition.specs.World.{World}
use Rattle.prim_index.specs.Once.{faults_once}

-- metadata with a default prim
abbrev pub with_default : Text → MetaEntries → MetaEntries
with_default name meta = with_key text_cmp default_key (value.Text name) meta

-- tables below what is there, the strongest first
abbrev pub merged_onto : MetaEntries → List MetaEntries → MetaEntries
merged_onto meta tables = fold (λ so_far table. fold with_weaker so_far table) meta tables

-- what the session layer says of `/`
abbrev pub said_by_session : (Text → List MetaEntries) → Option Text → List MetaEntries
said_by_session said None = []
said_by_session said (Some session) = said session

-- the metadata of the session layer, if there is one and it is there
abbrev pub session_tables : World → List MetaEntries
session_tables w = said_by_session (λ layer. head_meta (w.heading layer)) w.session

-- the view of `/` with this metadata, these names of children and these faults of sublayers
abbrev pub root_with : MetaEntries → List Text → List Fault → PrimView
root_with meta names faults = record empty_view {
  meta = meta;
  children = listed_children limits [] names;
  sites = root_site ∷ [];
  faults = faults_once (faults ++ map child_too_long (unlisted_children limits [] names));
}
