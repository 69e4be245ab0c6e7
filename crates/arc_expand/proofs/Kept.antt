-- One more step of a list of what is kept.
use Rattle.std.proofs.Common.{◌≡◌, ◌∙◌, sym, ap, ℕ, ◌+◌, ◌<◌, List, [], ◌∷◌, ◌++◌, length, take, get_or, Option, Some, None, option_map, append-nil}
use Rattle.std.specs.List.{filter_map, cons_option}
use Rattle.std.proofs.lemmas.List.{take_more}
use Rattle.std.proofs.lemmas.List.Elements.{filter_map-append}
use Rattle.sdf_values.specs.Scales.{Offset}
use Rattle.spec_parts.specs.declared.spec.Spec.{Spec}
use Rattle.list_ops.specs.declared.op.ListOp.{ListOp}
use Rattle.path_maps.specs.declared.kind.ArcKind.{ArcKind}
use Rattle.composition.specs.Texts.{Text}
use Rattle.composition.specs.Paths.{Path}
use Rattle.composition.specs.World.{World}
use Rattle.composition.specs.Arcs.{Opinion, Item, items_of}
use Rattle.arc_expand.specs.Authoring.{opinion_of, edit_of}

module _ {X Y : Type 0} (f : X → Option Y) (xs : List X) (i : ℕ) (x : X) (within : i < length xs) (is : x ≡ get_or xs i x) where
  more : filter_map f (take (i + 1) xs) ≡ filter_map f (take i xs) ++ cons_option (f x) []
  more =
      ap (λ (l : List X). filter_map f l) (take_more xs i x within)
      ∙ (filter_map-append f (take i xs) (get_or xs i x ∷ []) ∙ ap (λ (y : X). filter_map f (take i xs) ++ cons_option (f y) []) (sym is))

  pub kept_more : (y : Y) (old new : List Y) → f x ≡ Some y → new ≡ old ++ y ∷ [] → old ≡ filter_map f (take i xs) → new ≡ filter_map f (take (i + 1) xs)
  kept_more y old new gives pushed so_far =
      pushed
      ∙ (ap (λ (l : List Y). l ++ y ∷ []) so_far
      ∙ sym (more ∙ ap (λ (o : Option Y). filter_map f (take i xs) ++ cons_option o []) gives))

  pub kept_same : (old new : List Y) → f x ≡ None → new ≡ old → old ≡ filter_map f (take i xs) → new ≡ filter_map f (take (i + 1) xs)
  kept_same old new none same so_far =
      same
      ∙ (so_far
      ∙ sym (more ∙ (ap (λ (o : Option Y). filter_map f (take i xs) ++ cons_option o []) none ∙ append-nil (filter_map f (take i xs)))))

map_some : {X Y : Type 0} (f : X → Y) (o : Option X) (x : X) → o ≡ Some x → option_map f o ≡ Some (f x)
map_some f o x is = ap (option_map f) is

map_none : {X Y : Type 0} (f : X → Y) (o : Option X) → o ≡ None → option_map f o ≡ None
map_none f o is = ap (option_map f) is

module _ (w : World) (q : Path) (e : Text × Offset) where
  pub opinion_some : (spec : Spec) → w.spec e.0 q ≡ Some spec → opinion_of w q e ≡ Some (record { layer = e.0; offset = e.1; spec = spec })
  unfolding opinion_of
  opinion_some spec is = let f : Spec → Opinion = λ s. record { layer = e.0; offset = e.1; spec = s } in map_some f (w.spec e.0 q) spec is

  pub opinion_none : w.spec e.0 q ≡ None → opinion_of w q e ≡ None
  unfolding opinion_of
  opinion_none is = let f : Spec → Opinion = λ s. record { layer = e.0; offset = e.1; spec = s } in map_none f (w.spec e.0 q) is

module _ (k : ArcKind) (o : Opinion) where
  pub edit_some : (op : ListOp Item) → items_of k o ≡ Some op → edit_of k o ≡ Some (o.layer, op)
  unfolding edit_of
  edit_some op is = let f : ListOp Item → Text × ListOp Item = λ op. (o.layer, op) in map_some f (items_of k o) op is

  pub edit_none : items_of k o ≡ None → edit_of k o ≡ None
  unfolding edit_of
  edit_none is = let f : ListOp Item → Text × ListOp Item = λ op. (o.layer, op) in map_none f (items_of k o) is
