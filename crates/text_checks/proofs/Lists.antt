-- Lines, lists, and the items of lists.
use Rattle.std.proofs.Common.{◌≡◌, ℕ, Bool, true, false, List, [], ◌∷◌, Option, Some, None, refl}
use Rattle.std.specs.Prelude.{codes}
use Rattle.std.specs.List.{list_all}
use Rattle.std.specs.Str.{is_utf8}
use Rattle.std.proofs.lemmas.Bool.{and_parts}
use Rattle.list_ops.specs.declared.op.ListOp.{ListOp}
use Rattle.sdf_paths.specs.Paths.{printed}
use Rattle.sdf_paths.specs.declared.element.Element.{Element}
use Rattle.sdf_values.specs.Scales.{Offset}
use Rattle.spec_parts.specs.declared.items.RefItem.{RefItem}
use Rattle.spec_parts.specs.declared.items.SubLayer.{SubLayer}
use Rattle.usda_writer.specs.Texts.{more_items, listed, bracketed, explicit_list, path_text, is_identity, unless_identity, offset_text, target_text, reference_text, sublayer_text, metadata_block}
use Rattle.usda_writer.specs.Fields.{line, edit_line, explicit_line, edit_lines, list_lines}
use Rattle.layer_texts.specs.Writable.{none_or, are_writable_edits, is_writable_list}
use Rattle.text_checks.specs.Utf8.{is_utf8_path, is_utf8_reference, is_utf8_sublayer}
use Rattle.text_checks.proofs.Bytes.{IsValid, tested, two, nothing, ascii}
use Rattle.text_checks.proofs.Numbers.{signed_valid}
use Rattle.text_checks.proofs.Strings.{asset_valid}
use Rattle.text_checks.proofs.Values.{indent_valid}

pub line_valid : (level : ℕ) {t : List ℕ} → IsValid t → IsValid (line level t)
line_valid level h = two (two (indent_valid level) h) (ascii (codes "\n") refl)

-- metadata between brackets
pub block_valid : (level : ℕ) (t : List ℕ) → IsValid t → IsValid (metadata_block level t)
block_valid level [] h = nothing
block_valid level (c ∷ cs) h = two (two (two (ascii (codes " (\n") refl) h) (indent_valid level)) (ascii (codes ")") refl)

-- lists of which each item has a text that is UTF-8
module _ {T : Type 0} (f : T → List ℕ) (w : T → Bool) (each : (x : T) → w x ≡ true → IsValid (f x)) where
  more_valid : (xs : List T) → list_all w xs ≡ true → IsValid (more_items f xs)
  more_valid [] h = nothing
  more_valid (x ∷ xs) h = let p = and_parts (w x) (list_all w xs) h in two (two (ascii (codes ", ") refl) (each x p.0)) (more_valid xs p.1)

  listed_valid : (xs : List T) → list_all w xs ≡ true → IsValid (listed f xs)
  listed_valid [] h = nothing
  listed_valid (x ∷ xs) h = let p = and_parts (w x) (list_all w xs) h in two (each x p.0) (more_valid xs p.1)

  pub bracketed_valid : (xs : List T) → list_all w xs ≡ true → IsValid (bracketed f xs)
  bracketed_valid xs h = two (two (ascii (codes "[") refl) (listed_valid xs h)) (ascii (codes "]") refl)

  pub explicit_valid : (xs : List T) → list_all w xs ≡ true → IsValid (explicit_list f xs)
  explicit_valid [] h = ascii (codes "None") refl
  explicit_valid (x ∷ xs) h = bracketed_valid (x ∷ xs) h

  -- the lines of such a list
  pub edit_line_valid : (level : ℕ) {word name : List ℕ} → IsValid word → IsValid name → (xs : List T) → list_all w xs ≡ true → IsValid (edit_line level word name f xs)
  edit_line_valid level k n [] h = nothing
  edit_line_valid level k n (x ∷ xs) h = line_valid level (two (two (two k n) (ascii (codes " = ") refl)) (bracketed_valid (x ∷ xs) h))

  explicit_line_valid : (level : ℕ) {name : List ℕ} → IsValid name → (o : Option (List T)) → none_or (list_all w) o ≡ true → IsValid (explicit_line level name f o)
  explicit_line_valid level n None h = nothing
  explicit_line_valid level n (Some xs) h = line_valid level (two (two n (ascii (codes " = ") refl)) (explicit_valid xs h))

  pub edits_valid : (level : ℕ) {name : List ℕ} → IsValid name → (op : ListOp T) → are_writable_edits w op ≡ true → IsValid (edit_lines level name f op)
  edits_valid level n op h =
      let deleted = and_parts _ _ h in let added = and_parts _ _ deleted.1 in let prepended = and_parts _ _ added.1 in let appended = and_parts _ _ prepended.1 in
      two (two (two (two
      (edit_line_valid level (ascii (codes "delete ") refl) n op.deleted deleted.0)
      (edit_line_valid level (ascii (codes "add ") refl) n op.added added.0))
      (edit_line_valid level (ascii (codes "prepend ") refl) n op.prepended prepended.0))
      (edit_line_valid level (ascii (codes "append ") refl) n op.appended appended.0))
      (edit_line_valid level (ascii (codes "reorder ") refl) n op.ordered appended.1)

  pub list_valid : (level : ℕ) {name : List ℕ} → IsValid name → (op : ListOp T) → is_writable_list w op ≡ true → IsValid (list_lines level name f op)
  list_valid level n op h = let p = and_parts _ _ h in two (explicit_line_valid level n op.explicit p.0) (edits_valid level n op p.1)

-- ---- items

pub path_valid : (path : List Element) → is_utf8_path path ≡ true → IsValid (path_text path)
path_valid path h = two (two (ascii (codes "<") refl) (tested (printed path) h)) (ascii (codes ">") refl)

offset_valid : (o : Offset) → IsValid (offset_text o)
offset_valid o = test (is_identity o)
  where
    test : (b : Bool) → IsValid (unless_identity b o)
    test true = nothing
    test false = two (two (two (two (ascii (codes " (offset = ") refl) (signed_valid o.offset)) (ascii (codes "; scale = ") refl)) (signed_valid o.scale)) (ascii (codes ")") refl)

target_valid : (a : Option (List ℕ)) (p : Option (List Element)) → none_or is_utf8 a ≡ true → none_or is_utf8_path p ≡ true → IsValid (target_text a p)
target_valid None None h k = ascii (codes "<>") refl
target_valid None (Some p) h k = path_valid p k
target_valid (Some a) None h k = asset_valid a h
target_valid (Some a) (Some p) h k = two (asset_valid a h) (path_valid p k)

pub reference_valid : (r : RefItem) → is_utf8_reference r ≡ true → IsValid (reference_text r)
reference_valid r h = let p = and_parts _ _ h in two (target_valid r.asset r.path p.0 p.1) (offset_valid r.offset)

pub sublayer_valid : (s : SubLayer) → is_utf8_sublayer s ≡ true → IsValid (sublayer_text s)
sublayer_valid s h = two (asset_valid s.asset h) (offset_valid s.offset)
