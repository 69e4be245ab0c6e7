-- Worlds that agree on the heads that a stack asks have the same stack.
use Rattle.std.proofs.Common.{◌≡◌, refl, sym, ap, ◌∙◌, ℕ, zero, suc, Bool, true, false, List, [], ◌∷◌, ◌++◌, fold, map, Option, Some, None}
use Rattle.std.specs.List.{list_any}
use Rattle.spec_parts.specs.declared.items.SubLayer.{SubLayer}
use Rattle.sdf_values.specs.Scales.{Offset, composed}
use Rattle.composition.specs.Texts.{Text, same_text}
use Rattle.composition.specs.Paths.{Limits}
use Rattle.composition.specs.Assets.{anchor}
use Rattle.composition.specs.World.{World, Heading, identity, in_range, StackName, Root, Asset, first_layer}
use Rattle.composition.specs.Stacks.{LayerStack, SublayerReason, sublayer_cycle, sublayer_missing, sublayer_offset, nothing_listed, with_layer, with_fault, with_asked, is_listed, sublayers_of, not_held, not_followed, Listing, with_sublayer, listed, from_layer, stack}
use Rattle.composition.specs.Keys.{value_of, head}
use Rattle.agreeing_worlds.proofs.Values.{heading_in, root_in, session_in}
use Rattle.agreeing_worlds.proofs.Each.{Each, front_of, back_of, of_map, weaker}

-- ---- what a sublayer makes of a stack so far, by its name and the reason against it

module _ (chain : List Text) (layer : Text) (o : Offset) where
  abbrev after_reason : Listing → LayerStack → Text → Offset → Option SublayerReason → LayerStack
  after_reason f s name to reason = elim reason as (λ _. LayerStack) [
    | Some r ↦ with_fault (with_asked s name) r layer name
    | None ↦ f (name ∷ chain) name to (with_asked s name)
  ]

  abbrev after_name : World → Listing → LayerStack → SubLayer → Option Text → LayerStack
  after_name w f s sub name = elim name as (λ _. LayerStack) [
    | None ↦ with_fault s sublayer_missing layer sub.asset
    | Some n ↦ after_reason f s n (composed sub.offset o) (not_followed w chain n (composed sub.offset o))
  ]

-- ---- what was asked before stays asked

module _ (w : World) (P : Text → Type 0) where
  abbrev Keeps : Listing → Type 0
  Keeps f = (chain : List Text) (layer : Text) (o : Offset) (s : LayerStack) → Each P (f chain layer o s).asked → Each P s.asked

  kept_by_reason : (f : Listing) → Keeps f → (chain : List Text) (layer : Text) (o : Offset) (s : LayerStack) (name : Text) (to : Offset) (reason : Option SublayerReason)
      → Each P (after_reason chain layer o f s name to reason).asked → Each P (s.asked ++ name ∷ [])
  kept_by_reason f keeps chain layer o s name to (Some r) h = h
  kept_by_reason f keeps chain layer o s name to None h = keeps (name ∷ chain) name to (with_asked s name) h

  kept_by_name : (f : Listing) → Keeps f → (chain : List Text) (layer : Text) (o : Offset) (s : LayerStack) (sub : SubLayer) (name : Option Text)
      → Each P (after_name chain layer o w f s sub name).asked → Each P s.asked
  kept_by_name f keeps chain layer o s sub None h = h
  kept_by_name f keeps chain layer o s sub (Some n) h =
      front_of P s.asked (n ∷ []) (kept_by_reason f keeps chain layer o s n (composed sub.offset o) (not_followed w chain n (composed sub.offset o)) h)

  kept_by_all : (f : Listing) → Keeps f → (chain : List Text) (layer : Text) (o : Offset) (subs : List SubLayer) (s : LayerStack)
      → Each P (fold (with_sublayer w f chain layer o) s subs).asked → Each P s.asked
  kept_by_all f keeps chain layer o [] s h = h
  kept_by_all f keeps chain layer o (sub ∷ subs) s h =
      kept_by_name f keeps chain layer o s sub (anchor layer sub.asset) (kept_by_all f keeps chain layer o subs (with_sublayer w f chain layer o s sub) h)

  keeps_listed : (deep : ℕ) → Keeps (listed w deep)
  keeps_listed zero chain layer o s h = h
  keeps_listed (suc deep) chain layer o s h = by (keeps_listed deep) (is_listed s layer) h
    where
      by : Keeps (listed w deep) → (b : Bool)
          → Each P (elim b as (λ _. LayerStack) [ true ↦ s | false ↦ fold (with_sublayer w (listed w deep) chain layer o) (with_layer s layer o) (sublayers_of (w.heading layer)) ]).asked
          → Each P s.asked
      by keeps true h = h
      by keeps false h = kept_by_all (listed w deep) keeps chain layer o (sublayers_of (w.heading layer)) (with_layer s layer o) h

-- ---- two worlds

-- the worlds have the same at a name of a layer, and the same names of the root and the session layer
abbrev pub SameAt : World → World → Text → Type 0
SameAt w v name = (w.heading name ≡ v.heading name) × (w.root ≡ v.root) × (w.session ≡ v.session)

module _ (w v : World) where
  abbrev Alike : Listing → Listing → Type 0
  Alike f g = (chain : List Text) (layer : Text) (o : Offset) (s : LayerStack) → SameAt w v layer → Each (SameAt w v) (f chain layer o s).asked
      → g chain layer o s ≡ f chain layer o s

  -- why a name is not followed, by what stands there
  abbrev reason_by : List Text → Text → Offset → Heading → Option SublayerReason
  reason_by chain name o h = elim (list_any (same_text name) chain) as (λ _. Option SublayerReason) [
    | true ↦ Some sublayer_cycle
    | false ↦ elim (not_held h) as (λ _. Option SublayerReason) [
      | Some r ↦ Some r
      | None ↦ elim (in_range o) as (λ _. Option SublayerReason) [ true ↦ None | false ↦ Some sublayer_offset ]
    ]
  ]

  alike_by_reason : (f g : Listing) → Alike f g → (chain : List Text) (layer : Text) (o : Offset) (s : LayerStack) (name : Text) (to : Offset) (reason : Option SublayerReason)
      → SameAt w v name → Each (SameAt w v) (after_reason chain layer o f s name to reason).asked → after_reason chain layer o g s name to reason ≡ after_reason chain layer o f s name to reason
  alike_by_reason f g alike chain layer o s name to (Some r) here h = refl
  alike_by_reason f g alike chain layer o s name to None here h = alike (name ∷ chain) name to (with_asked s name) here h

  alike_by_name : (f g : Listing) → Keeps w (SameAt w v) f → Alike f g → (chain : List Text) (layer : Text) (o : Offset) (s : LayerStack) (sub : SubLayer) (name : Option Text)
      → Each (SameAt w v) (after_name chain layer o w f s sub name).asked → after_name chain layer o v g s sub name ≡ after_name chain layer o w f s sub name
  alike_by_name f g keeps alike chain layer o s sub None h = refl
  alike_by_name f g keeps alike chain layer o s sub (Some n) h =
      let to : Offset = composed sub.offset o in
      let asked : Each (SameAt w v) (s.asked ++ n ∷ []) = kept_by_reason w (SameAt w v) f keeps chain layer o s n to (not_followed w chain n to) h in
      let here : SameAt w v n = (back_of (SameAt w v) s.asked (n ∷ []) asked).0 in
      ap (λ (x : Heading). after_reason chain layer o g s n to (reason_by chain n to x)) (sym here.0)
      ∙ alike_by_reason f g alike chain layer o s n to (not_followed w chain n to) here h

  alike_by_all : (f g : Listing) → Keeps w (SameAt w v) f → Alike f g → (chain : List Text) (layer : Text) (o : Offset) (subs : List SubLayer) (s : LayerStack)
      → Each (SameAt w v) (fold (with_sublayer w f chain layer o) s subs).asked → fold (with_sublayer v g chain layer o) s subs ≡ fold (with_sublayer w f chain layer o) s subs
  alike_by_all f g keeps alike chain layer o [] s h = refl
  alike_by_all f g keeps alike chain layer o (sub ∷ subs) s h =
      let next : LayerStack = with_sublayer w f chain layer o s sub in
      let asked : Each (SameAt w v) next.asked = kept_by_all w (SameAt w v) f keeps chain layer o subs next h in
      let one : with_sublayer v g chain layer o s sub ≡ with_sublayer w f chain layer o s sub = alike_by_name f g keeps alike chain layer o s sub (anchor layer sub.asset) asked in
      ap (λ (t : LayerStack). fold (with_sublayer v g chain layer o) t subs) one ∙ alike_by_all f g keeps alike chain layer o subs next h

  alike_listed : (deep : ℕ) → Alike (listed w deep) (listed v deep)
  alike_listed zero chain layer o s here h = refl
  alike_listed (suc deep) chain layer o s here h = by (alike_listed deep) (is_listed s layer) h
    where
      by : Alike (listed w deep) (listed v deep) → (b : Bool)
          → Each (SameAt w v) (elim b as (λ _. LayerStack) [ true ↦ s | false ↦ fold (with_sublayer w (listed w deep) chain layer o) (with_layer s layer o) (sublayers_of (w.heading layer)) ]).asked
          → elim b as (λ _. LayerStack) [ true ↦ s | false ↦ fold (with_sublayer v (listed v deep) chain layer o) (with_layer s layer o) (sublayers_of (v.heading layer)) ]
          ≡ elim b as (λ _. LayerStack) [ true ↦ s | false ↦ fold (with_sublayer w (listed w deep) chain layer o) (with_layer s layer o) (sublayers_of (w.heading layer)) ]
      by alike true h = refl
      by alike false h =
          ap (λ (x : Heading). fold (with_sublayer v (listed v deep) chain layer o) (with_layer s layer o) (sublayers_of x)) (sym here.0)
          ∙ alike_by_all (listed w deep) (listed v deep) (keeps_listed w (SameAt w v) deep) alike chain layer o (sublayers_of (w.heading layer)) (with_layer s layer o) h

module _ (l : Limits) (w v : World) where
  abbrev by_held : World → Text → LayerStack → Option SublayerReason → LayerStack
  by_held x name s reason = elim reason as (λ _. LayerStack) [
    | Some r ↦ with_asked s name
    | None ↦ listed x l.layers (name ∷ []) name identity (with_asked s name)
  ]

  asked_from : (name : Text) (s : LayerStack) → Each (SameAt w v) (from_layer l w name s).asked → Each (SameAt w v) (s.asked ++ name ∷ [])
  asked_from name s h = by (not_held (w.heading name)) h
    where
      by : (reason : Option SublayerReason) → Each (SameAt w v) (by_held w name s reason).asked → Each (SameAt w v) (s.asked ++ name ∷ [])
      by (Some r) h = h
      by None h = keeps_listed w (SameAt w v) l.layers (name ∷ []) name identity (with_asked s name) h

  same_from : (name : Text) (s : LayerStack) → Each (SameAt w v) (from_layer l w name s).asked → from_layer l v name s ≡ from_layer l w name s
  same_from name s h =
      let here : SameAt w v name = (back_of (SameAt w v) s.asked (name ∷ []) (asked_from name s h)).0 in
      ap (λ (x : Heading). by_held v name s (not_held x)) (sym here.0) ∙ by here (not_held (w.heading name)) h
    where
      by : SameAt w v name → (reason : Option SublayerReason) → Each (SameAt w v) (by_held w name s reason).asked → by_held v name s reason ≡ by_held w name s reason
      by here (Some r) h = refl
      by here None h = alike_listed w v l.layers (name ∷ []) name identity (with_asked s name) here h

  -- the root stack, by the names of the session and the root layer
  abbrev root_stack : World → Option Text → Text → LayerStack
  root_stack x session root = elim session as (λ _. LayerStack) [
    | Some s ↦ from_layer l x root (from_layer l x s nothing_listed)
    | None ↦ from_layer l x root nothing_listed
  ]

  root_asked : (session : Option Text) → Each (SameAt w v) (root_stack w session w.root).asked → SameAt w v w.root
  root_asked (Some s) h =
      let before : LayerStack = from_layer l w s nothing_listed in (back_of (SameAt w v) before.asked (w.root ∷ []) (asked_from w.root before h)).0
  root_asked None h = (back_of (SameAt w v) [] (w.root ∷ []) (asked_from w.root nothing_listed h)).0

  same_root : (session : Option Text) → Each (SameAt w v) (root_stack w session w.root).asked → root_stack v session w.root ≡ root_stack w session w.root
  same_root (Some s) h =
      let before : LayerStack = from_layer l w s nothing_listed in
      let first : from_layer l v s nothing_listed ≡ before = same_from s nothing_listed (front_of (SameAt w v) before.asked (w.root ∷ []) (asked_from w.root before h)) in
      ap (λ (t : LayerStack). from_layer l v w.root t) first ∙ same_from w.root before h
  same_root None h = same_from w.root nothing_listed h

  -- what is made of the heading of the session layer, if there is one, is the same
  pub session_alike : {Y : Type 0} (f : Heading → Y) (other : Y) (session : Option Text) → Each (SameAt w v) (root_stack w session w.root).asked
      → elim session as (λ _. Y) [ None ↦ other | Some s ↦ f (v.heading s) ] ≡ elim session as (λ _. Y) [ None ↦ other | Some s ↦ f (w.heading s) ]
  session_alike f other None h = refl
  session_alike f other (Some s) h =
      let before : LayerStack = from_layer l w s nothing_listed in
      let asked : Each (SameAt w v) before.asked = front_of (SameAt w v) before.asked (w.root ∷ []) (asked_from w.root before h) in
      ap f (sym (back_of (SameAt w v) [] (s ∷ []) (asked_from s nothing_listed asked)).0.0)

  -- the layer that a stack is named for is asked
  pub first_asked : (s : StackName) → Each (SameAt w v) (stack l w s).asked → SameAt w v (first_layer w s)
  first_asked Root h = root_asked w.session h
  first_asked (Asset name) h = (back_of (SameAt w v) [] (name ∷ []) (asked_from name nothing_listed h)).0

  pub same_stack : (s : StackName) → Each (SameAt w v) (stack l w s).asked → stack l v s ≡ stack l w s
  same_stack Root h =
      let here : SameAt w v w.root = root_asked w.session h in
      ap (λ (session : Option Text). root_stack v session v.root) (sym here.2) ∙ ap (λ (root : Text). root_stack v w.session root) (sym here.1) ∙ same_root w.session h
  same_stack (Asset name) h = same_from name nothing_listed h

-- ---- heads as keys

pub same_head : (w v : World) (name : Text) → value_of w (head name) ≡ value_of v (head name) → SameAt w v name
same_head w v name e = (ap (heading_in (w.heading name)) e, ap (root_in w.root) e, ap (session_in w.session) e)

pub same_heads : (w v : World) (names : List Text) → Each (λ key. value_of w key ≡ value_of v key) (map head names) → Each (SameAt w v) names
same_heads w v names h =
    weaker (λ name. value_of w (head name) ≡ value_of v (head name)) (SameAt w v) (same_head w v) names (of_map (λ key. value_of w key ≡ value_of v key) head names h)
