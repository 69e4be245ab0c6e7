-- A layer as its head and its specs in the order of paths.
use Rattle.std.specs.Prelude.{◌||◌, Bool, true, not, List, [], ◌∷◌, Option, Some, None, filter, is_some}
use Rattle.std.specs.List.{list_any}
use Rattle.sdf_paths.specs.Order.{path_cmp}
use Rattle.sdf_paths.specs.Paths.{has_prefix, parent, is_empty}
use Rattle.sdf_paths.specs.declared.element.Element.{Element}
use Rattle.spec_tables.specs.Tables.{IsTable, at_key, with_key, with_value, without_key, entries_from}
use Rattle.spec_parts.specs.declared.spec.Head.{Head}
use Rattle.spec_parts.specs.declared.spec.Spec.{Spec}

-- what a table has for paths
abbrev pub PathEntries : Type 0 → Type 0
PathEntries V = List (List Element × V)

-- paths and specs
abbrev pub SpecEntries : Type 0
SpecEntries = PathEntries Spec

-- a layer: its head, and the specs of its prims and variants by their paths
pub record LayerTable : Type 0 where
  pub head : Head
  pub specs : SpecEntries

-- the specs are in the order of paths, each path once
abbrev pub AreSpecs : SpecEntries → Type 0
AreSpecs specs = IsTable path_cmp specs

-- the spec at a path
abbrev pub spec_at : {V : Type 0} → List Element → PathEntries V → Option V
spec_at path specs = at_key path_cmp path specs

-- with a spec at a path
abbrev pub with_spec : {V : Type 0} → List Element → V → PathEntries V → PathEntries V
with_spec path spec specs = with_key path_cmp path spec specs

-- with another spec at a path that is there
abbrev pub with_spec_for : {V : Type 0} → List Element → V → PathEntries V → PathEntries V
with_spec_for path spec specs = with_value path_cmp path spec specs

-- the specs from a path on
abbrev pub specs_from : {V : Type 0} → List Element → PathEntries V → PathEntries V
specs_from path specs = entries_from path_cmp path specs

-- something stands at the path or below it
abbrev pub has_tree : {V : Type 0} → List Element → PathEntries V → Bool
has_tree front specs = list_any (λ e. has_prefix front e.0) specs

-- what stands at the path or below it
abbrev pub tree : {V : Type 0} → List Element → PathEntries V → PathEntries V
tree front specs = filter (λ e. has_prefix front e.0) specs

-- what does not stand at the path or below it
abbrev pub without_tree : {V : Type 0} → List Element → PathEntries V → PathEntries V
without_tree front specs = filter (λ e. not (has_prefix front e.0)) specs

-- without the entries of these paths, one after the other
abbrev pub without_paths : {V : Type 0} → List (List Element) → PathEntries V → PathEntries V
without_paths [] specs = specs
without_paths (path ∷ paths) specs = without_paths paths (without_key path_cmp path specs)

-- what stands at the path may own others: it is `/` or has a spec; above `/` there is nothing to ask for
abbrev pub is_owner : {V : Type 0} → Option (List Element) → PathEntries V → Bool
is_owner None specs = true
is_owner (Some path) specs = is_empty path || is_some (spec_at path specs)

-- the path without its last element is `/` or has a spec
abbrev pub has_parent : {V : Type 0} → List Element → PathEntries V → Bool
has_parent path specs = is_owner (parent path) specs
