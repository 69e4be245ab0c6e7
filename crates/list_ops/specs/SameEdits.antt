-- Edits whose lists compare as one are one.
use Rattle.std.specs.Prelude.{◌≡◌, ◌&&◌, Bool, true}
use Rattle.std.specs.Cmp.Lexicographic.{pointwise}
use Rattle.std.specs.Option.{option_eq}
use Rattle.plain_data.specs.Exact.{both_true, option_same, pointwise_same}
use Rattle.list_ops.specs.declared.op.ListOp.{ListOp}

module _ {T : Type 0} (E : T → T → Bool) (exact : (x y : T) → E x y ≡ true → x ≡ y) where
  -- whether two edits are one, list by list
  abbrev pub same_edits : ListOp T → ListOp T → Bool
  same_edits x y =
      option_eq (pointwise E) x.explicit y.explicit
      && (pointwise E x.deleted y.deleted
      && (pointwise E x.added y.added
      && (pointwise E x.prepended y.prepended
      && (pointwise E x.appended y.appended
      && pointwise E x.ordered y.ordered))))

  -- edits that pass the test are one
  pub edits_same : (x y : ListOp T) → same_edits x y ≡ true → x ≡ y
  edits_same x y h =
      let first = both_true (option_eq (pointwise E) x.explicit y.explicit) _ h in
      let second = both_true (pointwise E x.deleted y.deleted) _ first.1 in
      let third = both_true (pointwise E x.added y.added) _ second.1 in
      let fourth = both_true (pointwise E x.prepended y.prepended) _ third.1 in
      let fifth = both_true (pointwise E x.appended y.appended) _ fourth.1 in
      let explicit = option_same (pointwise E) (pointwise_same E exact) x.explicit y.explicit first.0 in
      let deleted = pointwise_same E exact x.deleted y.deleted second.0 in
      let added = pointwise_same E exact x.added y.added third.0 in
      let prepended = pointwise_same E exact x.prepended y.prepended fourth.0 in
      let appended = pointwise_same E exact x.appended y.appended fifth.0 in
      let ordered = pointwise_same E exact x.ordered y.ordered fifth.1 in
      λ i. record { explicit = explicit i; deleted = deleted i; added = added i; prepended = prepended i; appended = appended i; ordered = ordered i }
