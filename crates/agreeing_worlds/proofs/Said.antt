-- What composition takes of opinions on arcs is told by their layers, offsets and arcs.
use Rattle.std.proofs.Common.{◌≡◌, refl, sym, ap, ◌∙◌, List, [], ◌∷◌, ◌++◌, map, flat_map, filter_map, Option, Some, None}
use Rattle.std.specs.List.{cons_option}
use Rattle.std.specs.Option.{option_map}
use Rattle.list_ops.specs.declared.op.ListOp.{ListOp}
use Rattle.path_maps.specs.declared.kind.ArcKind.{ArcKind}
use Rattle.path_maps.specs.declared.kind.ArcKind.TheVariants.{Inherits, Variant, Reference, Payload, Specializes}
use Rattle.spec_parts.specs.declared.spec.ArcPart.{ArcPart}
use Rattle.spec_parts.specs.declared.spec.Spec.{Spec}
use Rattle.sdf_values.specs.Scales.{Offset}
use Rattle.composition.specs.Texts.{Text, same_text}
use Rattle.composition.specs.Paths.{Path, Limits}
use Rattle.composition.specs.World.{World}
use Rattle.composition.specs.Stacks.{LayerStack}
use Rattle.composition.specs.Arcs.{Item, Opinion, items_of, map_op, class_item, reference_item, opinions_at, edits_of, strongest_folded, variant_sets_of, selections_of, is_empty}
use Rattle.agreeing_worlds.proofs.Each.{Each}

-- an opinion without what it says of the prim's body
abbrev pub Part : Type 0
Part = Text × Offset × ArcPart

abbrev pub part_of : Opinion → Part
part_of o = (o.layer, o.offset, o.spec.arcs)

-- the opinions are of the same layers and say the same of arcs
abbrev pub SameParts : List Opinion → List Opinion → Type 0
SameParts os ps = map part_of os ≡ map part_of ps

-- ---- the opinions at a path

-- an opinion of a layer, if it has a spec
abbrev opinion_by : Text × Offset → Option Spec → Option Opinion
opinion_by e spec = option_map (λ s. record { layer = e.0; offset = e.1; spec = s }) spec

abbrev part_by : Text × Offset → Option ArcPart → Option Part
part_by e arcs = option_map (λ a. (e.0, e.1, a)) arcs

one_more : (e : Text × Offset) (spec : Option Spec) (os : List Opinion)
    → map part_of (cons_option (opinion_by e spec) os) ≡ cons_option (part_by e (option_map (λ s. s.arcs) spec)) (map part_of os)
one_more e None os = refl
one_more e (Some s) os = refl

pub same_opinions : (l : Limits) (w v : World) (s : LayerStack) (q : Path) → Each (λ e. option_map (λ x. x.arcs) (w.spec e.0 q) ≡ option_map (λ x. x.arcs) (v.spec e.0 q)) s.layers
    → SameParts (opinions_at l v s q) (opinions_at l w s q)
same_opinions l w v s q h = by s.layers h
  where
    by : (es : List (Text × Offset)) → Each (λ e. option_map (λ x. x.arcs) (w.spec e.0 q) ≡ option_map (λ x. x.arcs) (v.spec e.0 q)) es
        → map part_of (filter_map (λ e. opinion_by e (v.spec e.0 q)) es) ≡ map part_of (filter_map (λ e. opinion_by e (w.spec e.0 q)) es)
    by [] h = refl
    by (e ∷ es) h =
        let rest : map part_of (filter_map (λ x. opinion_by x (v.spec x.0 q)) es) ≡ map part_of (filter_map (λ x. opinion_by x (w.spec x.0 q)) es) = by es h.1 in
        let arcs : option_map (λ x. x.arcs) (v.spec e.0 q) ≡ option_map (λ x. x.arcs) (w.spec e.0 q) = sym h.0 in
        one_more e (v.spec e.0 q) (filter_map (λ x. opinion_by x (v.spec x.0 q)) es)
        ∙ (λ i. cons_option (part_by e (arcs i)) (rest i))
        ∙ sym (one_more e (w.spec e.0 q) (filter_map (λ x. opinion_by x (w.spec x.0 q)) es))

-- ---- what is made of them

module _ {Y : Type 0} (f : Opinion → Option Y) (g : Part → Option Y) (alike : (o : Opinion) → f o ≡ g (part_of o)) where
  given_by_parts : (os : List Opinion) → filter_map f os ≡ filter_map g (map part_of os)
  given_by_parts [] = refl
  given_by_parts (o ∷ os) = let rest : filter_map f os ≡ filter_map g (map part_of os) = given_by_parts os in λ i. cons_option (alike o i) (rest i)

mapped_by_parts : {Y : Type 0} (g : Part → Y) (os : List Opinion) → map (λ o. g (part_of o)) os ≡ map g (map part_of os)
mapped_by_parts g [] = refl
mapped_by_parts g (o ∷ os) = ap (λ ys. g (part_of o) ∷ ys) (mapped_by_parts g os)

joined_by_parts : {Y : Type 0} (g : Part → List Y) (os : List Opinion) → flat_map (λ o. g (part_of o)) os ≡ flat_map g (map part_of os)
joined_by_parts g [] = refl
joined_by_parts g (o ∷ os) = ap (λ ys. g (part_of o) ++ ys) (joined_by_parts g os)

none_by_parts : (os : List Opinion) → is_empty os ≡ is_empty (map part_of os)
none_by_parts [] = refl
none_by_parts (o ∷ os) = refl

abbrev items_in : ArcKind → Part → Option (ListOp Item)
items_in Inherits t = Some (map_op class_item t.2.inherits)
items_in Variant t = None
items_in Reference t = Some (map_op (reference_item t.0 t.1) t.2.references)
items_in Payload t = Some (map_op (reference_item t.0 t.1) t.2.payloads)
items_in Specializes t = Some (map_op class_item t.2.specializes)

abbrev edit_in : ArcKind → Part → Option (Text × ListOp Item)
edit_in k t = option_map (λ op. (t.0, op)) (items_in k t)

same_items : (k : ArcKind) (o : Opinion) → items_of k o ≡ items_in k (part_of o)
same_items Inherits o = refl
same_items Variant o = refl
same_items Reference o = refl
same_items Payload o = refl
same_items Specializes o = refl

edits_by_parts : (k : ArcKind) (os : List Opinion) → filter_map (λ o. option_map (λ op. (o.layer, op)) (items_of k o)) os ≡ filter_map (edit_in k) (map part_of os)
edits_by_parts k os =
    given_by_parts (λ o. option_map (λ op. (o.layer, op)) (items_of k o)) (edit_in k) (λ o. ap (λ (x : Option (ListOp Item)). option_map (λ op. (o.layer, op)) x) (same_items k o)) os

pub same_edits : (l : Limits) (w v : World) (k : ArcKind) (os ps : List Opinion) → SameParts os ps → edits_of l v k os ≡ edits_of l w k ps
same_edits l w v k os ps same = edits_by_parts k os ∙ ap (λ (ts : List Part). filter_map (edit_in k) ts) same ∙ sym (edits_by_parts k ps)

pub same_sets : (os ps : List Opinion) → SameParts os ps → variant_sets_of os ≡ variant_sets_of ps
same_sets os ps same =
    ap (λ (ops : List (ListOp Text)). strongest_folded same_text ops)
    (mapped_by_parts (λ t. t.2.variant_sets) os ∙ ap (λ (ts : List Part). map (λ t. t.2.variant_sets) ts) same ∙ sym (mapped_by_parts (λ t. t.2.variant_sets) ps))

pub same_selections : (os ps : List Opinion) → SameParts os ps → selections_of os ≡ selections_of ps
same_selections os ps same =
    joined_by_parts (λ t. t.2.selections) os ∙ ap (λ (ts : List Part). flat_map (λ t. t.2.selections) ts) same ∙ sym (joined_by_parts (λ t. t.2.selections) ps)

pub same_presence : (os ps : List Opinion) → SameParts os ps → is_empty os ≡ is_empty ps
same_presence os ps same = none_by_parts os ∙ ap (λ (ts : List Part). is_empty ts) same ∙ sym (none_by_parts ps)
