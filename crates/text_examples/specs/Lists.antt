-- Lists as a layer writes them, item by item, and the paths that texts mean below a prim.
use Rattle.std.specs.Prelude.{◌≡◌, ◌==◌, ℕ, pos, negsuc, true, List, [], ◌∷◌, codes, Some, None, Result, Ok, Err}
use Rattle.list_ops.specs.Blank.{no_edits}
use Rattle.list_ops.specs.declared.op.ListOp.{ListOp}
use Rattle.sdf_paths.specs.declared.element.Element.{Element}
use Rattle.sdf_paths.specs.declared.element.Element.TheVariants.{Prim, Property, Selection}
use Rattle.sdf_values.specs.declared.refusal.RefusalKind.{RefusalKind}
use Rattle.sdf_values.specs.declared.refusal.RefusalKind.TheVariants.{Syntax, DuplicateSpec, NumberTooLong, OffsetRange, ReferenceData}
use Rattle.usda_lists.specs.Acts.{and_then}
use Rattle.usda_lists.specs.Edits.{edit_of, none_given, give}
use Rattle.usda_lists.specs.Lists.{open_list, push_item, close_list}
use Rattle.usda_lists.specs.Offsets.{identity, offset_key, offset_act}
use Rattle.usda_lists.specs.Paths.{path_from, target_from, absolute_from}
use Rattle.usda_lists.specs.References.{asset_item, path_item, with_path, sublayer_of}
use Rattle.usda_lists.specs.declared.edit.GivenLists.{GivenLists}
use Rattle.usda_lists.specs.declared.edit.ListEdit.{ListEdit}
use Rattle.usda_lists.specs.declared.edit.ListEdit.TheVariants.{Explicit, Delete, Add, Prepend, Append, Reorder}
use Rattle.usda_lists.specs.declared.offset.OffsetKey.TheVariants as key

-- ---- lists of letters

abbrev pub pushed : ListEdit → List ℕ → ListOp ℕ → ListOp ℕ
pushed edit [] op = op
pushed edit (x ∷ xs) op = pushed edit xs (push_item edit x op)

-- an opinion with a list of this edit, whose items are read one by one
abbrev pub read_list : ListEdit → List ℕ → ListOp ℕ → ListOp ℕ
read_list edit items op = close_list ◌==◌ edit (pushed edit items (open_list edit op))

-- these lists are given one after the other
abbrev pub all_given : List ListEdit → Result GivenLists RefusalKind → Result GivenLists RefusalKind
all_given [] given = given
all_given (edit ∷ edits) given = all_given edits (and_then given (give edit))

abbrev pub given : List ListEdit → Result GivenLists RefusalKind
given edits = all_given edits (Ok none_given)

pub record ListsAreTold : Type 0 where
  pub prepend_word : edit_of (codes "prepend") ≡ Prepend
  pub no_edit_word : edit_of (codes "references") ≡ Explicit
  pub explicit : read_list Explicit (codes "ab") no_edits ≡ record no_edits { explicit = Some (codes "ab") }
  -- `[]` and `None` are a list too, the empty one
  pub empty : read_list Explicit [] no_edits ≡ record no_edits { explicit = Some [] }
  -- of equal items the first is kept
  pub repeats : read_list Append (codes "abab") no_edits ≡ record no_edits { appended = codes "ab" }
  -- each edit word has its own list
  pub two_edits : read_list Delete (codes "c") (read_list Prepend (codes "ab") no_edits) ≡ record no_edits { deleted = codes "c"; prepended = codes "ab" }

-- which lists one field may have
pub record FieldsAreTold : Type 0 where
  pub edits : given (Prepend ∷ Append ∷ Delete ∷ []) ≡ Ok (record none_given { prepended = true; appended = true; deleted = true })
  pub edit_twice : given (Prepend ∷ Append ∷ Prepend ∷ []) ≡ Err DuplicateSpec
  pub explicit_twice : given (Explicit ∷ Explicit ∷ []) ≡ Err DuplicateSpec
  -- an explicit list does not go with edits, whichever comes first
  pub explicit_later : given (Add ∷ Explicit ∷ []) ≡ Err Syntax
  pub edit_later : given (Explicit ∷ Reorder ∷ []) ≡ Err Syntax

-- ---- paths in the statements of the prim /A/B

abbrev pub here : List Element
here = Prim (codes "A") ∷ Prim (codes "B") ∷ []

abbrev pub Means : List ℕ → List Element → Type 0
Means text path = path_from here text ≡ Some path

abbrev pub IsNone : List ℕ → Type 0
IsNone text = path_from here text ≡ None

pub record PathsAreTold : Type 0 where
  pub absolute : Means (codes "/C") (Prim (codes "C") ∷ [])
  pub child : Means (codes "C") (Prim (codes "A") ∷ Prim (codes "B") ∷ Prim (codes "C") ∷ [])
  pub own_property : Means (codes ".p") (Prim (codes "A") ∷ Prim (codes "B") ∷ Property (codes "p") ∷ [])
  -- each `../` goes up one prim
  pub sibling : Means (codes "../C.p") (Prim (codes "A") ∷ Prim (codes "C") ∷ Property (codes "p") ∷ [])
  pub parents_property : Means (codes "../.p") (Prim (codes "A") ∷ Property (codes "p") ∷ [])
  pub root_prim : Means (codes "../../C") (Prim (codes "C") ∷ [])
  -- nothing is above `/`, which has no property
  pub above_root : IsNone (codes "../../../C")
  pub roots_property : IsNone (codes "../../.p")
  -- no name stands behind the `../`
  pub only_up : IsNone (codes "../")
  pub empty : IsNone []
  pub later_up : IsNone (codes "C/../D")
  -- arcs keep selections, and targets lose them
  pub arc : Means (codes "C{s=v}D") (Prim (codes "A") ∷ Prim (codes "B") ∷ Prim (codes "C") ∷ Selection (codes "s") (codes "v") ∷ Prim (codes "D") ∷ [])
  pub target : target_from here (codes "C{s=v}D") ≡ Some (Prim (codes "A") ∷ Prim (codes "B") ∷ Prim (codes "C") ∷ Prim (codes "D") ∷ [])
  -- in the head of a layer a path is taken from `/`
  pub head : path_from [] (codes "C") ≡ Some (Prim (codes "C") ∷ [])
  pub printed : absolute_from here (codes "../C") ≡ Some (codes "</A/C>")

-- ---- references, payloads and sublayers

pub record ItemsAreTold : Type 0 where
  pub asset : asset_item (codes "@a.usda@") ≡ record { asset = Some (codes "a.usda"); path = None; offset = identity }
  -- an empty asset is none, and so is the path of `<>`
  pub no_asset : asset_item (codes "@@") ≡ record { asset = None; path = None; offset = identity }
  pub no_path : path_item here (codes "<>") ≡ Ok (record { asset = None; path = None; offset = identity })
  pub path : path_item here (codes "</C>") ≡ Ok (record { asset = None; path = Some (Prim (codes "C") ∷ []); offset = identity })
  pub asset_and_path : with_path here (codes "</C>") (asset_item (codes "@a@")) ≡ Ok (record { asset = Some (codes "a"); path = Some (Prim (codes "C") ∷ []); offset = identity })
  pub bad_path : path_item here (codes "<C/>") ≡ Err Syntax
  pub sublayer : sublayer_of (codes "@a.usda@") ≡ record { asset = codes "a.usda"; offset = identity }

pub record OffsetsAreTold : Type 0 where
  pub offset_word : offset_key (codes "offset") ≡ Ok key.Offset
  pub other_word : offset_key (codes "shift") ≡ Err ReferenceData
  pub offset : offset_act key.Offset (codes "-24") identity ≡ Ok (record { offset = negsuc 23; scale = pos 1 })
  -- whole by its value, however it is written
  pub scale : offset_act key.Scale (codes "2.0") identity ≡ Ok (record { offset = pos 0; scale = pos 2 })
  pub half : offset_act key.Offset (codes "0.5") identity ≡ Err OffsetRange
  pub no_scale : offset_act key.Scale (codes "0") identity ≡ Err OffsetRange
  pub greatest : offset_act key.Offset (codes "1e9") identity ≡ Ok (record { offset = pos 1000000000; scale = pos 1 })
  pub too_great : offset_act key.Offset (codes "1000000001") identity ≡ Err OffsetRange
  pub infinite : offset_act key.Scale (codes "inf") identity ≡ Err OffsetRange
  pub too_long : offset_act key.Scale (codes "1e401") identity ≡ Err NumberTooLong

pub record AreTold : Type 0 where
  pub lists : ListsAreTold
  pub fields : FieldsAreTold
  pub paths : PathsAreTold
  pub items : ItemsAreTold
  pub offsets : OffsetsAreTold
