-- Layers whose sublayers are being visited, and what they make of a stack so far.
use Rattle.std.specs.Prelude.{◌≡◌, ℕ, zero, suc, ◌+◌, ◌-◌, ◌<◌, Bool, true, false, List, [], ◌∷◌, length, fold, Option, Some, None}
use Rattle.std.specs.List.{list_any}
use Rattle.spec_parts.specs.declared.items.SubLayer.{SubLayer}
use Rattle.sdf_values.specs.Scales.{Offset, composed}
use Rattle.composition.specs.Texts.{Text, same_text}
use Rattle.composition.specs.Assets.{anchor}
use Rattle.composition.specs.World.{World, Heading, headed, no_layer, refused}
use Rattle.composition.specs.Stacks.{LayerStack, with_layer, is_listed, sublayers_of, not_followed, with_asked, with_sublayer, listed}
use Rattle.layer_set.specs.Named.{at_name}

-- a layer on the chain, and its sublayers that were not visited yet
pub record OpenLayer : Type 0 where
  pub layer : Text
  pub offset : Offset
  pub rest : List SubLayer

-- the names on the chain, the innermost one first
abbrev pub chain_of : List OpenLayer → List Text
chain_of [] = []
chain_of (f ∷ fs) = f.layer ∷ chain_of fs

-- a layer stands at a name
abbrev pub is_present : Heading → Bool
is_present (headed h) = true
is_present no_layer = false
is_present (refused r) = false

-- layers by name: true for those on the chain, false for others that are listed
abbrev pub Marks : Type 0
Marks = List (Text × Bool)

-- a name without a mark is not on the chain
abbrev pub is_on : Option Bool → Bool
is_on None = false
is_on (Some on) = on

-- whether a name stands on the chain
abbrev pub is_above : Marks → Text → Bool
is_above marks name = is_on (at_name name marks)

-- the mark of a name: true where it stands on the chain, else false where it is listed, and none where it is neither
abbrev pub mark : Bool → Bool → Option Bool
mark true listed = Some true
mark false true = Some false
mark false false = None

-- no name stands on the chain twice
abbrev pub AreApart : List Text → Type 0
AreApart [] = Unit {0}
AreApart (name ∷ names) = (list_any (same_text name) names ≡ false) × AreApart names

-- a layer of this name is listed, with whatever offset
abbrev pub is_among : Text → List (Text × Offset) → Bool
is_among name layers = list_any (λ e. same_text name e.0) layers

-- the marks tell which names are listed, and which of them stand on the chain
pub record Marked (marks : Marks) (chain : List Text) (layers : List (Text × Offset)) : Type 0 where
  pub apart : AreApart chain
  pub within : (name : Text) → list_any (same_text name) chain ≡ true → is_among name layers ≡ true
  pub tell : (name : Text) → at_name name marks ≡ mark (list_any (same_text name) chain) (is_among name layers)

module _ (w : World) (most : ℕ) where
  -- the stack after all that is open has been visited
  unfoldable pub visited : List OpenLayer → LayerStack → LayerStack
  visited [] s = s
  visited (f ∷ fs) s = visited fs (fold (with_sublayer w (listed w (most - length (f ∷ fs))) (chain_of (f ∷ fs)) f.layer f.offset) s f.rest)

  -- how many steps that takes: one for each sublayer, and one for each layer that is listed
  abbrev pub Steps : Type 0
  Steps = List Text → Text → Offset → LayerStack → ℕ

  -- the steps below one sublayer: those of its layer, and none where it is not followed
  abbrev pub steps_of_sublayer : Steps → List Text → Text → Offset → LayerStack → SubLayer → ℕ
  steps_of_sublayer below chain layer o s sub =
      elim (anchor layer sub.asset) [
        | None ↦ 0
        | Some name ↦ elim (not_followed w chain name (composed sub.offset o)) [
          | Some r ↦ 0
          | None ↦ below (name ∷ chain) name (composed sub.offset o) (with_asked s name)
        ]
      ]

  -- the steps of the sublayers of a layer that are left, where so many more layers may be open, and one for the layer itself
  unfoldable pub steps_of_rest : ℕ → Steps → List Text → Text → Offset → LayerStack → List SubLayer → ℕ
  steps_of_rest deep below chain layer o s [] = 1
  steps_of_rest deep below chain layer o s (sub ∷ rest) =
      1 + (steps_of_sublayer below chain layer o s sub + steps_of_rest deep below chain layer o (with_sublayer w (listed w deep) chain layer o s sub) rest)

  -- the steps of a layer that is met, where so many more layers may be open; none where it is listed already, or where none may be
  unfoldable pub steps_below : ℕ → Steps
  steps_below zero chain layer o s = 0
  steps_below (suc deep) chain layer o s =
      elim (is_listed s layer) [
        | true ↦ 0
        | false ↦ steps_of_rest deep (steps_below deep) chain layer o (with_layer s layer o) (sublayers_of (w.heading layer))
      ]

  -- the steps of all layers that are open, the innermost one first
  unfoldable pub steps : List OpenLayer → LayerStack → ℕ
  steps [] s = 0
  steps (f ∷ fs) s =
      steps_of_rest (most - length (f ∷ fs)) (steps_below (most - length (f ∷ fs))) (chain_of (f ∷ fs)) f.layer f.offset s f.rest
      + steps fs (fold (with_sublayer w (listed w (most - length (f ∷ fs))) (chain_of (f ∷ fs)) f.layer f.offset) s f.rest)

  -- a layer is listed next, or passed over, or no more layers may be open
  pub record Opens (fs : List OpenLayer) (name : Text) (o : Offset) (s : LayerStack) (gs : List OpenLayer) (t : LayerStack) : Type 0 where
    pub stack : visited gs t ≡ visited fs (listed w (most - length fs) (name ∷ chain_of fs) name o s)
    pub steps : steps gs t ≡ steps_below (most - length fs) (name ∷ chain_of fs) name o s + steps fs (listed w (most - length fs) (name ∷ chain_of fs) name o s)

  -- one step: what is left makes the same stack, in fewer steps
  pub record Visits (fs : List OpenLayer) (s : LayerStack) (gs : List OpenLayer) (t : LayerStack) : Type 0 where
    pub stack : visited gs t ≡ visited fs s
    pub fewer : steps gs t < steps fs s
