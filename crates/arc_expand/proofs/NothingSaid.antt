-- Opinions that say nothing of a list make none.
use Rattle.std.proofs.Common.{◌≡◌, ◌∙◌, ap, sym, refl, Bool, true, false, ◌||◌, List, [], ◌∷◌, map, reverse, Option, Some, None}
use Rattle.std.specs.List.{list_any, filter_map}
use Rattle.std.specs.Option.{option_map}
use Rattle.std.proofs.lemmas.List.{reverse-append}
use Rattle.std.proofs.lemmas.List.Folds.{list_any-append}
use Rattle.list_ops.specs.declared.op.ListOp.{ListOp}
use Rattle.list_ops.specs.ListEdits.{all_applied, applied, folded}
use Rattle.list_ops.specs.Opinions.{has_items, is_opinion}
use Rattle.list_ops.proofs.Skipped.{nothing_applied}
use Rattle.path_maps.specs.declared.kind.ArcKind.{ArcKind}
use Rattle.path_maps.specs.declared.kind.ArcKind.TheVariants.{Inherits, Variant, Reference, Payload, Specializes}
use Rattle.composition.specs.Texts.{Text, same_text}
use Rattle.composition.specs.Paths.{limits}
use Rattle.composition.specs.World.{World, StackName}
use Rattle.composition.specs.Arcs.{Opinion, Item, items_of, class_item, reference_item, map_op, same_item}
use Rattle.arc_expand.specs.Authoring.{says, says_sets, edits, authored_in, sets_in}

neither : (a b : Bool) → (a || b) ≡ false → (a ≡ false) × (b ≡ false)
neither false b h = (refl, h)
neither true b h = absurd (cc h)

-- ---- edits that are no opinions

none_applied : {T : Type 0} (same : T → T → Bool) (ops : List (ListOp T)) → list_any is_opinion ops ≡ false → all_applied same ops [] ≡ []
none_applied same [] h = refl
none_applied same (op ∷ ops) h =
    let parts = neither (is_opinion op) (list_any is_opinion ops) h in
    ap (all_applied same ops) (nothing_applied same op [] parts.0) ∙ none_applied same ops parts.1

none_reversed : {T : Type 0} (p : T → Bool) (xs : List T) → list_any p xs ≡ false → list_any p (reverse xs) ≡ false
none_reversed p [] h = refl
none_reversed p (x ∷ xs) h =
    let parts = neither (p x) (list_any p xs) h in
    ap (list_any p) (reverse-append (x ∷ []) xs) ∙ (list_any-append p (reverse xs) (x ∷ []) ∙ (λ i. none_reversed p xs parts.1 i || (parts.0 i || false)))

-- opinions of which none says something, the strongest first
none_folded : {T : Type 0} (same : T → T → Bool) (ops : List (ListOp T)) → list_any is_opinion ops ≡ false → folded same (reverse ops) ≡ []
none_folded same ops h = none_applied same (reverse ops) (none_reversed is_opinion ops h)

-- ---- the items of arcs

items_there : {A B : Type 0} (f : A → B) (xs : List A) → has_items (map f xs) ≡ has_items xs
items_there f [] = refl
items_there f (x ∷ xs) = refl

opinion_there : {A B : Type 0} (f : A → B) (op : ListOp A) → is_opinion (map_op f op) ≡ is_opinion op
opinion_there {A = A} f op = by op.explicit
  where
    edits_there : (((has_items (map f op.deleted) || has_items (map f op.added)) || has_items (map f op.prepended)) || has_items (map f op.appended)) || has_items (map f op.ordered)
        ≡ (((has_items op.deleted || has_items op.added) || has_items op.prepended) || has_items op.appended) || has_items op.ordered
    edits_there i = (((items_there f op.deleted i || items_there f op.added i) || items_there f op.prepended i) || items_there f op.appended i) || items_there f op.ordered i

    by : (e : Option (List A))
        → (elim (option_map (map f) e) as (λ _. Bool) [ Some xs ↦ true | None ↦ (((has_items (map f op.deleted) || has_items (map f op.added)) || has_items (map f op.prepended)) || has_items (map f op.appended)) || has_items (map f op.ordered) ])
        ≡ (elim e as (λ _. Bool) [ Some xs ↦ true | None ↦ (((has_items op.deleted || has_items op.added) || has_items op.prepended) || has_items op.appended) || has_items op.ordered ])
    by (Some xs) = refl
    by None = edits_there

-- the edits of a kind, without their layers
abbrev ops_of : ArcKind → List Opinion → List (ListOp Item)
ops_of k os = map (λ (e : Text × ListOp Item). e.1) (filter_map (λ o. option_map (λ op. (o.layer, op)) (items_of k o)) os)

silent : (k : ArcKind) (os : List Opinion) → list_any (says k) os ≡ false → list_any is_opinion (ops_of k os) ≡ false
silent k [] h = refl
silent Inherits (o ∷ os) h = let parts = neither (says Inherits o) (list_any (says Inherits) os) h in λ i. (opinion_there class_item o.spec.arcs.inherits ∙ parts.0) i || silent Inherits os parts.1 i
silent Variant (o ∷ os) h = silent Variant os h
silent Reference (o ∷ os) h = let parts = neither (says Reference o) (list_any (says Reference) os) h in λ i. (opinion_there (reference_item o.layer o.offset) o.spec.arcs.references ∙ parts.0) i || silent Reference os parts.1 i
silent Payload (o ∷ os) h = let parts = neither (says Payload o) (list_any (says Payload) os) h in λ i. (opinion_there (reference_item o.layer o.offset) o.spec.arcs.payloads ∙ parts.0) i || silent Payload os parts.1 i
silent Specializes (o ∷ os) h = let parts = neither (says Specializes o) (list_any (says Specializes) os) h in λ i. (opinion_there class_item o.spec.arcs.specializes ∙ parts.0) i || silent Specializes os parts.1 i

pub nothing_authored : (w : World) (s : StackName) (os : List Opinion) (k : ArcKind) → list_any (says k) os ≡ false → [] ≡ authored_in w s os k
unfolding authored_in
nothing_authored w s os k h = sym (ap (map _) (none_folded same_item (ops_of k os) (silent k os h)))

sets_silent : (os : List Opinion) → list_any says_sets os ≡ false → list_any is_opinion (map (λ o. o.spec.arcs.variant_sets) os) ≡ false
sets_silent [] h = refl
sets_silent (o ∷ os) h = let parts = neither (says_sets o) (list_any says_sets os) h in λ i. parts.0 i || sets_silent os parts.1 i

pub no_sets : (os : List Opinion) → list_any says_sets os ≡ false → [] ≡ sets_in os
unfolding sets_in
no_sets os h = sym (none_folded same_text (map (λ o. o.spec.arcs.variant_sets) os) (sets_silent os h))
