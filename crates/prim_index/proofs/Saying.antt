-- What the layers say at a node, part by part.
use Rattle.std.proofs.Common.{◌≡◌, ◌∙◌, sym, ap, refl, arith, ℕ, zero, suc, ◌+◌, ◌-◌, Bool, true, false, IsTrue, ◌↔◌, List, [], ◌∷◌, ◌++◌, append-nil, length, take, map, flat_map, Option, Some, None, Result, Ok, Err, IfOk, add-one}
use Rattle.std.specs.Prelude.{slice_get, not}
use Rattle.std.specs.BTreeMap.{BTreeMap}
use Rattle.std.specs.List.{filter_map}
use Rattle.std.proofs.lemmas.List.{length-take, map-append, take-take}
use Rattle.path_maps.specs.declared.kind.ArcKind.{ArcKind}
use Rattle.path_maps.specs.declared.kind.ArcKind.TheVariants.{Inherits, Variant, Reference, Payload, Specializes}
use Rattle.prim_view.specs.declared.fault.PrimFault.{PrimFault}
use Rattle.prim_view.specs.declared.fault.PrimFault.TheVariants.{Sublayer}
use Rattle.composition.specs.Texts.{Text, same_text, find_at}
use Rattle.composition.specs.Paths.{Path, limits, up, below}
use Rattle.composition.specs.World.{World, StackName}
use Rattle.composition.specs.Stacks.{SublayerFault}
use Rattle.composition.specs.Arcs.{Authored, Opinion, Lead, Reason, leads, gives_no_arc, selections_of, is_empty}
use Rattle.composition.specs.Nodes.{Node, Frame, Tried, Choices, bare, nth_frame, frame_at, fault_of, tried_at, chosen_at, said_at_levels, variant_target}
use Rattle.layer_stack.specs.Meant.{defined_stack}
use Rattle.layer_stack.specs.declared.stacks.LayerStack.{LayerStack}
use Rattle.arc_expand.specs.Authoring.{IsStackOf, opinions_in, opinions, authored_in, sets_in}
use Rattle.arc_expand.proofs.Authoring as authoring
use Rattle.site_order.specs.ChoiceTables.{noted_for, Tells}
use Rattle.prim_index.specs.Reading.{said, said_levels, sublayers_said, sublayer_faults, tried_of, looked_at, tried_level, tried_kind, tried_all, variant_at, chosen_for, chosen_by, chosen_of, chosen_level, chosen_all, parts}

-- ---- faults of sublayers

kept : (xs : List SublayerFault) → sublayer_faults (map Sublayer xs) ≡ xs
kept [] = refl
kept (x ∷ xs) = ap (λ (r : List SublayerFault). x ∷ r) (kept xs)

pub sublayers_lead : (w : World) (a : Lead) (faults : List PrimFault) → faults ≡ map Sublayer (defined_stack w a.stack).faults → sublayer_faults faults ≡ sublayers_said w (leads a)
unfolding sublayers_said defined_stack
sublayers_lead w a faults is = ap sublayer_faults is ∙ kept (defined_stack w a.stack).faults

pub sublayers_none : (w : World) (r : Reason) → sublayers_said w (gives_no_arc r) ≡ []
unfolding sublayers_said
sublayers_none w r = refl

pub tried_made : (w : World) (n : Node) (k : ArcKind) (j : ℕ) (a item : Authored) (fault : Option Reason) (faults : List SublayerFault) → item ≡ a
    → fault ≡ fault_of limits n j a.outcome → faults ≡ sublayers_said w a.outcome
    → (let t : Tried = record { kind = k; level = j; authored = item; fault = fault; sublayers = faults } in t) ≡ tried_of w n k j a
unfolding tried_of sublayers_said
tried_made w n k j a item fault faults same told said = λ i. record { kind = k; level = j; authored = same i; fault = told i; sublayers = said i }

-- ---- levels

pub opinions_are : (w : World) (s : LayerStack) (q : Path) → IsStackOf w s → opinions_in w s.layers q ≡ opinions w s.name q
unfolding opinions
opinions_are w s q is = authoring.opinions_are w s q is

pub empty_told : {T : Type 0} (xs : List T) (r : Bool) → IsTrue r ↔ (xs ≡ []) → r ≡ is_empty xs
empty_told xs r told = authoring.empty_told xs r told

one_more : {A : Type 0} → (f : ℕ → A) (j : ℕ) → map f (below (j + 1)) ≡ map f (below j) ++ f j ∷ []
one_more f j = rw add-one (map-append f (below j) (j ∷ []))

-- one more level is said, and the author goes up by one
pub said_more : (w : World) (s : StackName) (p : Path) (j : ℕ) (before after : List (ℕ × List Opinion)) (a : Path) → before ≡ map (λ k. (k, opinions w s (up p k))) (below j)
    → a ≡ up p j → after ≡ before ++ (j, opinions w s a) ∷ [] → after ≡ map (λ k. (k, opinions w s (up p k))) (below (j + 1))
said_more w s p j before after a so_far at made =
    made ∙ ((λ i. so_far i ++ (j, opinions w s (at i)) ∷ []) ∙ sym (one_more (λ k. (k, opinions w s (up p k))) j))

pub above_more : (p a b : Path) (j : ℕ) → a ≡ up p j → b ≡ up a 1 → b ≡ up p (j + 1)
above_more p a b j at is =
    let n : length (up p j) ≡ length p - j = length-take (length p - j) p ∙ omega arith in
    let less : length (up p j) - 1 ≡ length p - (j + 1) = omega (arith, n) in
    is ∙ ap (λ (x : Path). take (length x - 1) x) at ∙ ap (λ k. take k (up p j)) less ∙ take-take (length p - (j + 1)) (length p - j) p (omega arith)

module _ (w : World) (n : Node) where
  abbrev when_seen : ArcKind → ℕ → List Opinion → Bool → List Tried
  when_seen k j os b = elim b as (λ _. List Tried) [ true ↦ map (tried_of w n k j) (authored_in w n.stack os k) | false ↦ [] ]

  pub tried_unseen : (k : ArcKind) (j : ℕ) (os : List Opinion) (r : Bool) → r ≡ looked_at k (frame_at n j) → r ≡ false → tried_level w n k (j, os) ≡ []
  unfolding tried_level
  tried_unseen k j os r is off = ap (when_seen k j os) (sym is ∙ off)

  pub tried_seen : (k : ArcKind) (j : ℕ) (os : List Opinion) (r : Bool) (s : StackName) (items : List Authored) → r ≡ looked_at k (frame_at n j) → r ≡ true → s ≡ n.stack
      → items ≡ authored_in w s os k → tried_level w n k (j, os) ≡ map (tried_of w n k j) items
  unfolding tried_level
  tried_seen k j os r s items is on stack all =
      ap (when_seen k j os) (sym is ∙ on) ∙ sym (ap (map (tried_of w n k j)) (all ∙ (λ i. authored_in w (stack i) os k)))

  pub chosen_seen : (j : ℕ) (os : List Opinion) (sets : List Text) (f : Frame) → sets ≡ sets_in os → frame_at n j ≡ f → chosen_level n (j, os) ≡ chosen_of n j f.choices sets
  unfolding chosen_level
  chosen_seen j os sets f all frame = λ i. chosen_of n j (frame i).choices (sym all i)

-- without choices no variant is decided
nothing_chosen : (n : Node) (j : ℕ) (sets : List Text) → chosen_of n j [] sets ≡ []
unfolding chosen_of
nothing_chosen n j [] = refl
nothing_chosen n j (s ∷ sets) = nothing_chosen n j sets

pub chosen_unseen : (n : Node) (j : ℕ) (os : List Opinion) → frame_at n j ≡ bare → chosen_level n (j, os) ≡ []
unfolding chosen_level
chosen_unseen n j os is = ap (λ (f : Frame). chosen_of n j f.choices (sets_in os)) is ∙ nothing_chosen n j (sets_in os)

-- a table of choices decides for sets what the choices decide
pub chosen_by_table : (n : Node) (j : ℕ) (choices : Choices) (table : BTreeMap Text Text) (sets : List Text) → Tells table (λ q. find_at same_text q choices)
    → chosen_by n j (noted_for table) sets ≡ chosen_of n j choices sets
unfolding chosen_by chosen_of
chosen_by_table n j choices table sets tells = λ i. filter_map (λ set. chosen_for n j set (tells set i)) sets

-- ---- frames

pub frame_some : (fs : List Frame) (j : ℕ) (f : Frame) → Some f ≡ slice_get fs j → nth_frame fs j ≡ f
frame_some [] j f is = absurd cc
frame_some (x ∷ fs) zero f is = cc
frame_some (x ∷ fs) (suc j) f is = frame_some fs j f is

pub frame_none : (fs : List Frame) (j : ℕ) → None ≡ slice_get fs j → nth_frame fs j ≡ bare
frame_none [] j is = refl
frame_none (x ∷ fs) zero is = absurd cc
frame_none (x ∷ fs) (suc j) is = frame_none fs j is

pub choices_some : {E : Type 0} → (fs : List Frame) (j : ℕ) (f : Frame) (r : Result Choices E) → Some f ≡ slice_get fs j → IfOk r (λ x. x ≡ f.choices) → IfOk r (λ x. x ≡ (nth_frame fs j).choices)
choices_some fs j f (Ok x) is made = made ∙ sym (ap (λ (g : Frame). g.choices) (frame_some fs j f is))
choices_some fs j f (Err e) is made = made

-- ---- all of it

module _ (w : World) (n : Node) where
  levels_are : said_at_levels limits w (defined_stack w n.stack) n ≡ said_levels w n.stack n.path
  unfolding said_levels opinions
  levels_are = refl

  pub tried_same : (k : ArcKind) (there : ℕ × List Opinion) → tried_at limits w n k there ≡ tried_level w n k there
  unfolding tried_level tried_of authored_in
  tried_same Inherits there = refl
  tried_same Variant there = refl
  tried_same Reference there = refl
  tried_same Payload there = refl
  tried_same Specializes there = refl

  kind_same : (k : ArcKind) (levels : List (ℕ × List Opinion)) → flat_map (tried_at limits w n k) levels ≡ tried_kind w n levels k
  unfolding tried_kind
  kind_same k levels = λ i. flat_map (λ there. tried_same k there i) levels

  one_same : (j : ℕ) (set : Text) (o : Option Text) → variant_target limits w n j set o ≡ chosen_for n j set o
  unfolding variant_at
  one_same j set None = refl
  one_same j set (Some v) = refl

  pub chosen_same : (there : ℕ × List Opinion) → chosen_at limits w n there ≡ chosen_level n there
  unfolding chosen_level chosen_of sets_in
  chosen_same there = λ i. filter_map (λ set. one_same there.0 set (find_at same_text set (frame_at n there.0).choices) i) (sets_in there.1)

  all_same : (levels : List (ℕ × List Opinion)) → flat_map (chosen_at limits w n) levels ≡ chosen_all n levels
  unfolding chosen_all
  all_same levels = λ i. flat_map (λ there. chosen_same there i) levels

  kinds_same : (levels : List (ℕ × List Opinion)) → flat_map (λ k. flat_map (tried_at limits w n k) levels) (Inherits ∷ Reference ∷ Payload ∷ Specializes ∷ []) ≡ tried_all w n levels
  kinds_same levels =
      (λ i. kind_same Inherits levels i ++ (kind_same Reference levels i ++ (kind_same Payload levels i ++ (kind_same Specializes levels i ++ []))))
      ∙ ap (λ r. tried_kind w n levels Inherits ++ (tried_kind w n levels Reference ++ (tried_kind w n levels Payload ++ r))) (append-nil (tried_kind w n levels Specializes))

  all_said : said limits w n ≡ parts w n (said_at_levels limits w (defined_stack w n.stack) n) (opinions w n.stack n.path)
  unfolding said defined_stack sets_in opinions
  all_said = λ i. record {
    arcs = kinds_same (said_at_levels limits w (defined_stack w n.stack) n) i;
    variants = all_same (said_at_levels limits w (defined_stack w n.stack) n) i;
    sets = sets_in (opinions w n.stack n.path);
    selections = selections_of (opinions w n.stack n.path);
    has_spec = not (is_empty (opinions w n.stack n.path));
  }

  pub said_is : said limits w n ≡ parts w n (said_levels w n.stack n.path) (opinions w n.stack n.path)
  said_is = all_said ∙ ap (λ (levels : List (ℕ × List Opinion)). parts w n levels (opinions w n.stack n.path)) levels_are
