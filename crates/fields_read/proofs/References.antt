-- Items of references and payloads, and sublayers: what tokens make of them.
use Rattle.std.proofs.Common.{◌≡◌, ◌≤◌, ℕ, nat_le, Bool, true, false, ◌&&◌, T, List, [], ◌∷◌, Option, Some, None, Result, Ok, Err, refl, sym, subst, arith}
use Rattle.std.specs.Prelude.{if◌then◌else◌, ℤ, pos, ◌≤ℤ◌, int_le, unsigned_abs}
use Rattle.std.proofs.lemmas.Bool.{and_parts}
use Rattle.std.proofs.lemmas.Bool.Decides.{nat_tests}
use Rattle.std.proofs.lemmas.Str.{IsUtf8-from_is_utf8}
use Rattle.sdf_paths.specs.Paths.{IsPath}
use Rattle.sdf_paths.specs.declared.element.Element.{Element}
use Rattle.sdf_values.specs.Scales.{Offset, IsOffset}
use Rattle.sdf_values.specs.declared.decimal.Num.{Num}
use Rattle.sdf_values.specs.declared.refusal.RefusalKind.{RefusalKind}
use Rattle.sdf_values.specs.declared.refusal.RefusalKind.TheVariants.{OffsetRange}
use Rattle.spec_parts.specs.declared.items.RefItem.{RefItem}
use Rattle.usda_lexer.specs.Meanings.{number_of, asset_text, path_text}
use Rattle.usda_lists.specs.Acts.{and_then}
use Rattle.usda_lists.specs.Offsets.{identity, whole_number, with_offset, with_scale, with_part, with_number, offset_act}
use Rattle.usda_lists.specs.Paths.{path_from}
use Rattle.usda_lists.specs.References.{asset_or_none, asset_item, some_path, path_or_none, path_item, with_path, with_number_of, sublayer_of, sublayer_number}
use Rattle.usda_lists.specs.declared.offset.OffsetKey.{OffsetKey}
use Rattle.usda_lists.specs.declared.offset.OffsetKey.TheVariants as key
use Rattle.value_returns.specs.Fields.{IsText, IsAssetName, IsAssetOrAbsent, IsProperReference, IsProperSublayer}
use Rattle.path_returns.specs.Returns.{IsPathOrAbsent}
use Rattle.path_returns.proofs.Meant.{path_means_one}
use Rattle.fields_read.proofs.Items.{Keeps}

-- ---- offsets

at_most_z : (a b : ℤ) → int_le a b ≡ true → a ≤ℤ b
at_most_z a b h = record { le = subst T (sym h) tt }

offset_bounded : (n : ℤ) (o p : Offset) → IsOffset o → with_offset n o ≡ Ok p → IsOffset p
offset_bounded n o p is h = by (nat_le (unsigned_abs n) 1000000000) refl h
  where
    by : (b : Bool) → nat_le (unsigned_abs n) 1000000000 ≡ b → (if b then Ok (record o { offset = n }) else Err OffsetRange) ≡ Ok p → IsOffset p
    by true e g =
        let new : record o { offset = n } ≡ p = cc in
        let within : unsigned_abs n ≤ 1000000000 = grind (arith, nat_tests) in
        subst IsOffset new (record { scale_least = is.scale_least; scale_most = is.scale_most; offset_within = within })
    by false e g = absurd cc

scale_bounded : (n : ℤ) (o p : Offset) → IsOffset o → with_scale n o ≡ Ok p → IsOffset p
scale_bounded n o p is h = by (int_le (pos 1) n && int_le n (pos 1000000)) refl h
  where
    by : (b : Bool) → (int_le (pos 1) n && int_le n (pos 1000000)) ≡ b → (if b then Ok (record o { scale = n }) else Err OffsetRange) ≡ Ok p → IsOffset p
    by true e g =
        let new : record o { scale = n } ≡ p = cc in
        let both = and_parts (int_le (pos 1) n) (int_le n (pos 1000000)) e in
        subst IsOffset new (record { scale_least = at_most_z (pos 1) n both.0; scale_most = at_most_z n (pos 1000000) both.1; offset_within = is.offset_within })
    by false e g = absurd cc

-- the number of an offset or a scale is within its limits
pub offset_kept : (k : OffsetKey) (token : List ℕ) (o p : Offset) → IsOffset o → offset_act k token o ≡ Ok p → IsOffset p
offset_kept k token o p is h = by (number_of token) h
  where
    part : (k : OffsetKey) (n : Option ℤ) → with_part k n o ≡ Ok p → IsOffset p
    part key.Offset None g = absurd cc
    part key.Scale None g = absurd cc
    part key.Offset (Some n) g = offset_bounded n o p is g
    part key.Scale (Some n) g = scale_bounded n o p is g

    by : (x : Option Num) → with_number k x o ≡ Ok p → IsOffset p
    by None g = absurd cc
    by (Some x) g = part k (whole_number x) g

identity_offset : IsOffset identity
identity_offset = record { scale_least = at_most_z (pos 1) (pos 1) refl; scale_most = at_most_z (pos 1) (pos 1000000) refl; offset_within = omega arith }

-- ---- items

asset_proper : (t : List ℕ) → IsAssetName t → IsAssetOrAbsent (asset_or_none t)
asset_proper [] is = tt
asset_proper (c ∷ cs) is = is

pub asset_item_proper : (token : List ℕ) → IsAssetName (asset_text token) → IsProperReference (asset_item token)
asset_item_proper token is = record { asset = asset_proper (asset_text token) is; path = tt; offset = identity_offset }

path_proper : (base : List Element) (text : List ℕ) (o : Option (List Element)) → IsPath base → IsText text → path_or_none base text ≡ Ok o → IsPathOrAbsent o
path_proper base [] o is u h = (let none : None ≡ o = cc in subst IsPathOrAbsent none tt)
path_proper base (c ∷ cs) o is u h = by (path_from base (c ∷ cs)) refl h
  where
    by : (p : Option (List Element)) → path_from base (c ∷ cs) ≡ p → some_path p ≡ Ok o → IsPathOrAbsent o
    by None e g = absurd cc
    by (Some path) e g =
        let some : Some path ≡ o = cc in
        subst IsPathOrAbsent some (path_means_one base (c ∷ cs) path is (IsUtf8-from_is_utf8 (c ∷ cs) u) e)

pub path_item_proper : (base : List Element) (token : List ℕ) (item : RefItem) → IsPath base → IsText (path_text token) → path_item base token ≡ Ok item → IsProperReference item
path_item_proper base token item is u h = by (path_or_none base (path_text token)) refl h
  where
    by : (r : Result (Option (List Element)) RefusalKind) → path_or_none base (path_text token) ≡ r → and_then r (λ path. Ok (record { asset = None; path = path; offset = identity })) ≡ Ok item → IsProperReference item
    by (Ok path) e g =
        let so : record { asset = None; path = path; offset = identity } ≡ item = cc in
        subst IsProperReference so (record { asset = tt; path = path_proper base (path_text token) path is u e; offset = identity_offset })
    by (Err k) e g = absurd cc

pub path_keeps : (base : List Element) (token : List ℕ) → IsPath base → IsText (path_text token) → Keeps IsProperReference (with_path base token)
path_keeps base token is u x y proper h = by (path_or_none base (path_text token)) refl h
  where
    by : (r : Result (Option (List Element)) RefusalKind) → path_or_none base (path_text token) ≡ r → and_then r (λ path. Ok (record x { path = path })) ≡ Ok y → IsProperReference y
    by (Ok path) e g =
        let so : record x { path = path } ≡ y = cc in
        subst IsProperReference so (record { asset = proper.asset; path = path_proper base (path_text token) path is u e; offset = proper.offset })
    by (Err k) e g = absurd cc

pub number_keeps : (k : OffsetKey) (token : List ℕ) → Keeps IsProperReference (with_number_of k token)
number_keeps k token x y proper h = by (offset_act k token x.offset) refl h
  where
    by : (r : Result Offset RefusalKind) → offset_act k token x.offset ≡ r → and_then r (λ offset. Ok (record x { offset = offset })) ≡ Ok y → IsProperReference y
    by (Ok offset) e g =
        let so : record x { offset = offset } ≡ y = cc in
        subst IsProperReference so (record { asset = proper.asset; path = proper.path; offset = offset_kept k token x.offset offset proper.offset e })
    by (Err r) e g = absurd cc

-- ---- sublayers

pub sublayer_proper : (token : List ℕ) → IsAssetName (asset_text token) → IsProperSublayer (sublayer_of token)
sublayer_proper token is = record { asset = is; offset = identity_offset }

pub sublayer_keeps : (k : OffsetKey) (token : List ℕ) → Keeps IsProperSublayer (sublayer_number k token)
sublayer_keeps k token x y proper h = by (offset_act k token x.offset) refl h
  where
    by : (r : Result Offset RefusalKind) → offset_act k token x.offset ≡ r → and_then r (λ offset. Ok (record x { offset = offset })) ≡ Ok y → IsProperSublayer y
    by (Ok offset) e g =
        let so : record x { offset = offset } ≡ y = cc in
        subst IsProperSublayer so (record { asset = proper.asset; offset = offset_kept k token x.offset offset proper.offset e })
    by (Err r) e g = absurd cc
