-- Prims, variant sets and variants: how they are named, begun and ended.
use Rattle.std.specs.Prelude.{ℕ, true, false, ◌==◌, List, [], ◌∷◌, ◌++◌, Option, Some, None, Result, Ok, Err, codes, if◌then◌else◌}
use Rattle.std.specs.Cmp.Lexicographic.{pointwise}
use Rattle.plain_data.specs.Ends.{last, front}
use Rattle.sdf_paths.specs.declared.element.Element.{Element}
use Rattle.sdf_values.specs.declared.refusal.RefusalKind.{RefusalKind}
use Rattle.sdf_values.specs.declared.refusal.RefusalKind.TheVariants.{DuplicateSpec, TooDeep}
use Rattle.spec_parts.specs.declared.items.Specifier.{Specifier}
use Rattle.spec_parts.specs.declared.items.Specifier.TheVariants.{Def, Over, Class}
use Rattle.usda_fields.specs.Names.{identifier_of, variant_of}
use Rattle.usda_drafts.specs.Closed.{is_closed, with_closed}
use Rattle.usda_drafts.specs.Places.{prim_place, variant_place}
use Rattle.usda_lists.specs.Acts.{and_then}
use Rattle.usda_drafts.specs.Refusals.{Acted, refused}
use Rattle.usda_drafts.specs.Owners.{owner_of, with_child, has_set, with_set, with_variant, settled}
use Rattle.usda_drafts.specs.declared.owner.Owner.{Owner}
use Rattle.usda_drafts.specs.declared.draft.Draft.{Draft}
use Rattle.usda_drafts.specs.declared.draft.Opening.{Opening}
use Rattle.usda_statements.specs.PropertyDrafts.{no_property}

-- `def`, `class`, or else `over`
unfoldable pub specifier_of : List ℕ → Specifier
specifier_of word = if pointwise ◌==◌ word (codes "def") then Def else if pointwise ◌==◌ word (codes "class") then Class else Over

-- the specifier of a prim that begins
unfoldable pub specifier_act : List ℕ → Draft → Acted
specifier_act word d = Ok (record d { opening = record { specifier = specifier_of word; type_name = None; is_too_deep = false } })

-- the type of a prim that begins
unfoldable pub prim_type_act : List ℕ → Draft → Acted
prim_type_act word d = Ok (record d { opening = record d.opening { type_name = Some word } })

-- an owner inside the one that was the innermost
unfoldable pub entered : Owner → Draft → Draft
entered o d = record d { outer = d.outer ++ d.owner ∷ []; owner = o }

-- the prim that begins, at a path
unfoldable pub prim_at : List Element → Opening → Owner
prim_at path o = owner_of path o.specifier o.type_name

-- the same, below the innermost owner
unfoldable pub with_prim : List ℕ → List Element → Draft → Draft
with_prim name path d = entered (prim_at path d.opening) (record d { owner = with_child name d.owner })

-- A prim below the innermost owner. One that would be a 65th prim inside each other has no path; it is refused at the mark behind its
-- name.
unfoldable pub entered_prim : List ℕ → Option (List Element) → Draft → Result Draft RefusalKind
entered_prim name None d = Ok (record d { opening = record d.opening { is_too_deep = true } })
entered_prim name (Some path) d =
    if is_closed path d.specs then Err DuplicateSpec
    else Ok (with_prim name path d)

-- a prim of this name
unfoldable pub named_prim : List ℕ → Draft → Result Draft RefusalKind
named_prim name d = and_then (prim_place d.owner.said.path name) (λ path. entered_prim name path d)

-- the string that names a prim
unfoldable pub prim_name_act : List ℕ → Draft → Result Draft RefusalKind
prim_name_act token d = and_then (identifier_of token) (λ name. named_prim name d)

-- the mark that opens the metadata or the body of a prim
unfoldable pub open_act : ℕ → Draft → Acted
open_act at d = if d.opening.is_too_deep then Err (refused TooDeep at) else Ok d

-- a variant set of the innermost owner; a second of one name is refused
unfoldable pub begun_set : List ℕ → Draft → Result Draft RefusalKind
begun_set name d = if has_set name d.owner then Err DuplicateSpec else Ok (record d { owner = with_set name d.owner })

-- the string that names a variant set
unfoldable pub set_name_act : List ℕ → Draft → Result Draft RefusalKind
set_name_act token d = and_then (identifier_of token) (λ name. begun_set name d)

-- the variant that begins, at a path, inside the innermost owner
unfoldable pub with_variant_at : List ℕ → List Element → Draft → Draft
with_variant_at name path d = entered (owner_of path Over None) (record d { owner = with_variant name d.owner })

-- a variant of the set that is read; a second of one name is refused
unfoldable pub entered_variant : List ℕ → List Element → Draft → Result Draft RefusalKind
entered_variant name path d =
    if is_closed path d.specs then Err DuplicateSpec
    else Ok (with_variant_at name path d)

-- a variant of this name, of the set that is read
unfoldable pub named_variant : List ℕ → Draft → Result Draft RefusalKind
named_variant name d = and_then (variant_place d.owner.said.path d.owner.set name) (λ path. entered_variant name path d)

-- the string that names a variant
unfoldable pub variant_name_act : List ℕ → Draft → Result Draft RefusalKind
variant_name_act token d = and_then (variant_of token) (λ name. named_variant name d)

-- the statement in hand is over
unfoldable pub with_statement_over : Draft → Draft
with_statement_over d = record d { owner = settled d.property d.owner; property = no_property }

-- the spec of the owner that is over joins those of the layer, and the owner outside it goes on
abbrev pub left_for : Option Owner → Draft → Draft
left_for None d = record d { outer = front d.outer }
left_for (Some o) d = record d { specs = with_closed d.owner d.specs; owner = o; outer = front d.outer }

-- the innermost owner is over
unfoldable pub left : Draft → Draft
left d = left_for (last d.outer) d

-- the `}` of a prim or a variant
unfoldable pub body_end_act : Draft → Acted
body_end_act d = Ok (left (with_statement_over d))
