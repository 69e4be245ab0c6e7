-- The rounds of choices of a child, each of which extends the tree of its parent.
use Rattle.std.proofs.Common.{◌≡◌, ◌∙◌, sym, ap, refl, arith, ℕ, zero, suc, ◌-◌, ◌<◌, ◌≤◌, ◌==◌, Bool, true, false, List, [], ◌∷◌, ◌++◌, length, take, Option, Some, None}
use Rattle.std.specs.Prelude.{slice_get, option_map}
use Rattle.std.specs.List.{list_all}
use Rattle.std.proofs.lemmas.Bool.{eqb-true}
use Rattle.sdf_paths.specs.declared.element.Element.{Element}
use Rattle.sdf_paths.specs.declared.element.Element.TheVariants.{Prim, Property, Selection}
use Rattle.sdf_paths.specs.Paths.{is_prim_name, name_of, last_name}
use Rattle.composition.specs.Texts.{Text}
use Rattle.composition.specs.Paths.{Path, limits, up}
use Rattle.composition.specs.World.{World, is_loaded}
use Rattle.composition.specs.Nodes.{Node, Frame, bare, here}
use Rattle.composition.specs.Trees.{Tree}
use Rattle.composition.specs.Compose.{decides_nothing}
use Rattle.laws_extending.proofs.Stages.{trees_extend}
use Rattle.prim_index.specs.Answer.{stage_tree_at}
use Rattle.prim_index.specs.Extending.{extended_by, unmarked, rounds_by, child_by}
use Rattle.prim_index.specs.Grown.{with_round}
use Rattle.prim_index.specs.Loading.{loads}
use Rattle.prim_index.specs.Reading.{said}
use Rattle.prim_index.specs.declared.grow.Payloads.TheVariants.{Ruled}
use Rattle.prim_index.proofs.Answering.{ruled}
use Rattle.prim_index.proofs.Settled.{same_frame}

module _ (w : World) (name : Text) (p : Tree) where
  abbrev round_of : Frame → Frame
  round_of f = with_round limits (extended_by w (unmarked f) name p 4096) f

  no_rounds : (f : Frame) → rounds_by w name p 0 f ≡ f
  unfolding rounds_by
  no_rounds f = refl

  abbrev after_round : ℕ → Frame → Bool → Frame
  after_round k g b = elim b as (λ _. Frame) [ true ↦ g | false ↦ rounds_by w name p k g ]

  rounds_suc : (k : ℕ) (f : Frame) → rounds_by w name p (suc k) f ≡ after_round k (round_of f) (decides_nothing f (round_of f))
  unfolding rounds_by with_round extended_by
  rounds_suc k f = refl

  pub rounds_over : (k : ℕ) (f : Frame) → k ≡ 0 → f ≡ rounds_by w name p k f
  rounds_over k f end = sym (ap (λ (i : ℕ). rounds_by w name p i f) end ∙ no_rounds f)

  made_by : (f g : Frame) (t : Tree) → t ≡ extended_by w (unmarked f) name p 4096 → g ≡ with_round limits t f → g ≡ round_of f
  made_by f g t made after = after ∙ ap (λ (x : Tree). with_round limits x f) made

  round_decided : (k : ℕ) (f g : Frame) → g ≡ round_of f → rounds_by w name p (suc k) f ≡ after_round k g (decides_nothing f g)
  round_decided k f g is = rounds_suc k f ∙ ap (λ (x : Frame). after_round k x (decides_nothing f x)) (sym is)

  nothing_decided : (f g : Frame) (count : ℕ) (settled b : Bool) → count ≡ length f.choices → settled ≡ (length g.choices == count) → settled ≡ b → decides_nothing f g ≡ b
  nothing_decided f g count settled b counted told on = ap (λ (i : ℕ). length g.choices == i) (sym counted) ∙ sym told ∙ on

  pub child_settled : (k count : ℕ) (f g : Frame) (t : Tree) (settled : Bool) → 0 < k → t ≡ extended_by w (unmarked f) name p 4096 → g ≡ with_round limits t f
      → count ≡ length f.choices → settled ≡ (length g.choices == count) → settled ≡ true → g ≡ rounds_by w name p k f
  child_settled zero count f g t settled some made after counted told on = absurd (omega arith)
  child_settled (suc k) count f g t settled some made after counted told on =
      sym (round_decided k f g (made_by f g t made after) ∙ ap (after_round k g) (nothing_decided f g count settled true counted told on))

  pub child_moved : (k count : ℕ) (f g last : Frame) (t : Tree) (settled : Bool) → 0 < k → t ≡ extended_by w (unmarked f) name p 4096 → g ≡ with_round limits t f
      → count ≡ length f.choices → settled ≡ (length g.choices == count) → settled ≡ false → last ≡ rounds_by w name p (k - 1) g → last ≡ rounds_by w name p k f
  child_moved zero count f g last t settled some made after counted told off goes = absurd (omega arith)
  child_moved (suc k) count f g last t settled some made after counted told off goes =
      let e : suc k - 1 ≡ k = omega arith in
      goes ∙ ap (λ (i : ℕ). rounds_by w name p i g) e
      ∙ sym (round_decided k f g (made_by f g t made after) ∙ ap (after_round k g) (nothing_decided f g count settled false counted told off))

  -- after a round that decides nothing and rests on no overgrown listing the tree stays
  pub child_tree_kept : (count : ℕ) (f g : Frame) (t : Tree) (settled : Bool) → t ≡ extended_by w (unmarked f) name p 4096 → g ≡ with_round limits t f
      → count ≡ length f.choices → settled ≡ (length g.choices == count) → settled ≡ true → g.overgrown ≡ false → t ≡ extended_by w g name p 4096
  child_tree_kept count f g t settled made after counted told on off =
      let same : length g.choices ≡ count = eqb-true (length g.choices) count (sym told ∙ on) in
      made ∙ ap (λ (x : Frame). extended_by w x name p 4096) (same_frame limits (said limits w) t f g after (same ∙ counted) off)

  child_by_is : (loaded : Bool) → child_by w name p loaded ≡ extended_by w (rounds_by w name p 16 (record bare { loaded = loaded })) name p 4096
  unfolding child_by rounds_by extended_by
  child_by_is loaded = refl

  pub child_made : (loaded : Bool) (first frame : Frame) (t : Tree) → first ≡ record bare { loaded = loaded } → frame ≡ rounds_by w name p 16 first
      → t ≡ extended_by w frame name p 4096 → t ≡ child_by w name p loaded
  child_made loaded first frame t began made is =
      is ∙ ap (λ (f : Frame). extended_by w f name p 4096) (made ∙ ap (λ (f : Frame). rounds_by w name p 16 f) began) ∙ sym (child_by_is loaded)

-- ---- the path above

pub last_apart : (p : Path) (name : Text) → list_all is_prim_name p ≡ true → Some name ≡ last_name p → p ≡ up p 1 ++ Prim name ∷ []
last_apart [] name prims is = absurd cc
last_apart (Prim x ∷ []) name prims is =
    let same : name ≡ x = cc in
    ap (λ (t : Text). Prim t ∷ []) (sym same)
last_apart (Property x ∷ []) name prims is = absurd cc
last_apart (Selection s x ∷ []) name prims is = absurd cc
last_apart (Property x ∷ d ∷ q) name prims is = absurd cc
last_apart (Selection s x ∷ d ∷ q) name prims is = absurd cc
last_apart (Prim x ∷ d ∷ q) name prims is =
    let long : length (Prim x ∷ d ∷ q) - 1 ≡ suc (length q) = omega arith in
    let short : length (d ∷ q) - 1 ≡ length q = omega arith in
    let there : Some name ≡ last_name (d ∷ q) =
    is ∙ ap (λ (k : ℕ). option_map name_of (slice_get (Prim x ∷ d ∷ q) k)) long ∙ ap (λ (k : ℕ). option_map name_of (slice_get (d ∷ q) k)) (sym short) in
    let rest : d ∷ q ≡ up (d ∷ q) 1 ++ Prim name ∷ [] = last_apart (d ∷ q) name prims there in
    ap (λ (r : Path). Prim x ∷ r) (rest ∙ ap (λ (k : ℕ). take k (d ∷ q) ++ Prim name ∷ []) short)
    ∙ sym (ap (λ (k : ℕ). take k (Prim x ∷ d ∷ q) ++ Prim name ∷ []) long)

module _ (w : World) where
  child_is : (p : Path) (name : Text) → stage_tree_at limits w (p ++ Prim name ∷ []) ≡ child_by w name (stage_tree_at limits w p) (is_loaded w (p ++ Prim name ∷ []))
  unfolding stage_tree_at child_by said
  child_is p name = trees_extend.on_the_stage limits w p name (omega arith)

  pub child_there : (q : Path) (name : Text) (parent t : Tree) (loaded : Bool) → list_all is_prim_name q ≡ true → Some name ≡ last_name q
      → parent ≡ stage_tree_at limits w (up q 1) → loaded ≡ loads w Ruled q → t ≡ child_by w name parent loaded → t ≡ stage_tree_at limits w q
  child_there q name parent t loaded prims last above told made =
      let apart : q ≡ up q 1 ++ Prim name ∷ [] = last_apart q name prims last in
      let on : loaded ≡ is_loaded w (up q 1 ++ Prim name ∷ []) = told ∙ ap (λ (g : Path → Bool). g q) (ruled w) ∙ ap (λ (x : Path). is_loaded w x) apart in
      made ∙ (λ i. child_by w name (above i) (on i)) ∙ sym (child_is (up q 1) name) ∙ ap (λ (x : Path). stage_tree_at limits w x) (sym apart)
