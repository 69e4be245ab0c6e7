-- A node one level down: its levels, authors, chains and children are those of the node, one level further up.
use Rattle.std.proofs.Common.{◌≡◌, refl, sym, ap, ◌∙◌, ℕ, zero, suc, ◌+◌, ◌-◌, ◌≤◌, nat_le, Bool, true, false, true≢false, cond, ◌||◌, List, [], ◌∷◌, ◌++◌, map, length, take, drop, filter, arith}
use Rattle.std.proofs.lemmas.Bool.{leb-true, le-leb}
use Rattle.std.proofs.lemmas.List.{length-append, take-append-le, drop-append-le, append_assoc, map-append}
use Rattle.std.proofs.lemmas.List.Sums.{length-filter}
use Rattle.sdf_paths.specs.Paths.{is_selection, is_prim_name, plain, written, written_all, printed, depth}
use Rattle.sdf_paths.specs.declared.element.Element.{Element}
use Rattle.sdf_paths.specs.declared.element.Element.TheVariants.{Prim}
use Rattle.composition.specs.Texts.{Text, both}
use Rattle.composition.specs.Paths.{Path, Limits, fits, up, tail, levels, below, levels_of, has_selections}
use Rattle.composition.specs.Nodes.{Node, Frame, author, child_path, child_chain}
use Rattle.composition.specs.Trees.{Branch, Meaning, arc_child, variant_child}
use Rattle.sdf_values.specs.Scales.{composed}
use Rattle.path_maps.specs.declared.kind.ArcKind.TheVariants.{Variant}
use Rattle.laws_extending.specs.Extending.{lowered, lowered_branch}

one_longer : (p : Path) (e : Element) → length (p ++ e ∷ []) ≡ suc (length p)
one_longer p e = let sum = length-append p (e ∷ []) in omega (arith, sum)

same_front : (p : Path) (e : Element) (j : ℕ) → length (p ++ e ∷ []) - suc j ≡ length p - j
same_front p e j = let longer = one_longer p e in omega (arith, longer)

-- the authors of the arcs of a level are those of the level below in the longer path
pub up_below : (p : Path) (e : Element) (j : ℕ) → up (p ++ e ∷ []) (suc j) ≡ up p j
up_below p e j = ap (λ (k : ℕ). take k (p ++ e ∷ [])) (same_front p e j) ∙ take-append-le (length p - j) p (e ∷ []) (omega arith)

pub tail_below : (p : Path) (e : Element) (j : ℕ) → tail (p ++ e ∷ []) (suc j) ≡ tail p j ++ e ∷ []
tail_below p e j = ap (λ (k : ℕ). drop k (p ++ e ∷ [])) (same_front p e j) ∙ drop-append-le (length p - j) p (e ∷ []) (omega arith)

-- ---- levels

no_more : (p : Path) (name : Text) → has_selections (p ++ Prim name ∷ []) ≡ has_selections p
no_more [] name = refl
no_more (e ∷ p) name = ap (λ (b : Bool). is_selection e || b) (no_more p name)

levels_below : (p : Path) (name : Text) → levels (p ++ Prim name ∷ []) ≡ suc (levels p)
levels_below [] name = refl
levels_below (e ∷ p) name =
    ap (λ (b : Bool). elim b as (λ _. ℕ) [ true ↦ levels (p ++ Prim name ∷ []) | false ↦ length (e ∷ p ++ Prim name ∷ []) ]) (no_more p name)
    ∙ by (has_selections p) (levels_below p name)
  where
    by : (b : Bool) → levels (p ++ Prim name ∷ []) ≡ suc (levels p)
        → (elim b as (λ _. ℕ) [ true ↦ levels (p ++ Prim name ∷ []) | false ↦ length (e ∷ p ++ Prim name ∷ []) ]) ≡ suc (elim b as (λ _. ℕ) [ true ↦ levels p | false ↦ length (e ∷ p) ])
    by true h = h
    by false h = one_longer (e ∷ p) (Prim name)

from_0 : (n : ℕ) → below (suc n) ≡ 0 ∷ map suc (below n)
from_0 zero = refl
from_0 (suc n) =
    ap (λ (js : List ℕ). js ++ suc n ∷ []) (from_0 n)
    ∙ ap (λ (js : List ℕ). 0 ∷ js) (sym (map-append suc (below n) (n ∷ [])))

-- level 0 is the new one, and the others are those of the shorter path
pub levels_of_below : (p : Path) (name : Text) → levels_of (p ++ Prim name ∷ []) ≡ 0 ∷ map suc (levels_of p)
levels_of_below p name = ap below (levels_below p name) ∙ from_0 (levels p)

-- ---- limits of paths

both_parts : (b c : Bool) → both b c ≡ true → (b ≡ true) × (c ≡ true)
both_parts true c h = (refl, h)
both_parts false c h = absurd (true≢false (sym h))

fewer_names : (p : Path) (e : Element) → length (filter is_prim_name p) ≤ length (filter is_prim_name (p ++ e ∷ []))
fewer_names [] e = omega arith
fewer_names (x ∷ p) e = by (is_prim_name x) (fewer_names p e)
  where
    by : (b : Bool) → length (filter is_prim_name p) ≤ length (filter is_prim_name (p ++ e ∷ []))
        → length (cond b (x ∷ filter is_prim_name p) (filter is_prim_name p)) ≤ length (cond b (x ∷ filter is_prim_name (p ++ e ∷ [])) (filter is_prim_name (p ++ e ∷ [])))
    by true h = omega (arith, h)
    by false h = h

less_deep : (p : Path) (e : Element) → depth p ≤ depth (p ++ e ∷ [])
less_deep p e =
    let one = length-filter is_prim_name p in
    let two = length-filter is_prim_name (p ++ e ∷ []) in
    let fewer = fewer_names p e in
    omega (arith, one, two, fewer)

less_written : (after : Bool) (p : Path) (e : Element) → length (written_all after p) ≤ length (written_all after (p ++ e ∷ []))
less_written after [] e = omega arith
less_written after (x ∷ p) e =
    let one = length-append (written after x) (written_all (is_selection x) p) in
    let two = length-append (written after x) (written_all (is_selection x) (p ++ e ∷ [])) in
    let less = less_written (is_selection x) p e in
    omega (arith, one, two, less)

less_printed : (p : Path) (name : Text) → length (printed p) ≤ length (printed (p ++ Prim name ∷ []))
less_printed [] name = omega arith
less_printed (x ∷ p) name = less_written false (x ∷ p) (Prim name)

-- a path fits that is shorter than one that does
pub shorter_fits : (l : Limits) (p : Path) (name : Text) → fits l (p ++ Prim name ∷ []) ≡ true → fits l p ≡ true
shorter_fits l p name h =
    let longer : (nat_le (depth (p ++ Prim name ∷ [])) l.names ≡ true) × (nat_le (length (printed (p ++ Prim name ∷ []))) l.bytes ≡ true) =
    both_parts (nat_le (depth (p ++ Prim name ∷ [])) l.names) (nat_le (length (printed (p ++ Prim name ∷ []))) l.bytes) h in
    let deep : depth (p ++ Prim name ∷ []) ≤ l.names = leb-true (depth (p ++ Prim name ∷ [])) l.names longer.0 in
    let long : length (printed (p ++ Prim name ∷ [])) ≤ l.bytes = leb-true (length (printed (p ++ Prim name ∷ []))) l.bytes longer.1 in
    let less = less_deep p (Prim name) in
    let less_long = less_printed p name in
    let names : nat_le (depth p) l.names ≡ true = le-leb (depth p) l.names (omega (arith, deep, less)) in
    let bytes : nat_le (length (printed p)) l.bytes ≡ true = le-leb (length (printed p)) l.bytes (omega (arith, long, less_long)) in
    λ i. both (names i) (bytes i)

-- ---- nodes

module _ (f : Frame) (name : Text) where
  pub author_below : (n : Node) (j : ℕ) → author (lowered f name n) (suc j) ≡ author n j
  author_below n j = up_below n.path (Prim name) j

  -- the child's path is longer by the same name
  pub path_below : (n : Node) (j : ℕ) (target : Path) → child_path (lowered f name n) (suc j) target ≡ child_path n j target ++ Prim name ∷ []
  path_below n j target = ap (λ (q : Path). target ++ q) (tail_below n.path (Prim name) j) ∙ sym (append_assoc target (tail n.path j) (Prim name ∷ []))

  pub chain_below : (n : Node) (j : ℕ) → child_chain (lowered f name n) (suc j) ≡ child_chain n j
  chain_below n j = ap (λ (q : Path). n.chain ++ (n.stack, plain q) ∷ []) (author_below n j)

  frames_below : (fs : List Frame) (j : ℕ) → take (suc j + 1) (f ∷ fs) ≡ f ∷ take (j + 1) fs
  frames_below fs j = let one : suc j + 1 ≡ suc (j + 1) = omega arith in ap (λ (k : ℕ). take k (f ∷ fs)) one

  module _ (deeper : Meaning) where
    -- the child of an arc, one level down, is what that arc leads to from the node one level down
    pub arc_below : (n : Node) (b : Branch) → arc_child deeper (lowered f name n) (lowered_branch b) ≡ lowered f name (arc_child deeper n b)
    arc_below n b =
        let path : child_path (lowered f name n) (suc b.level) b.lead.target ≡ child_path n b.level b.lead.target ++ Prim name ∷ [] = path_below n b.level b.lead.target in
        let chain : child_chain (lowered f name n) (suc b.level) ≡ child_chain n b.level = chain_below n b.level in
        let frames : take (suc b.level + 1) (f ∷ n.frames) ≡ f ∷ take (b.level + 1) n.frames = frames_below n.frames b.level in
        let by : author (lowered f name n) (suc b.level) ≡ author n b.level = author_below n b.level in
        λ i. record {
          stack = b.lead.stack;
          path = path i;
          frames = frames i ++ deeper.frames b.lead.stack (up b.lead.target 1) (chain i) (composed b.lead.offset n.offset);
          chain = chain i;
          depth = n.depth - 1;
          offset = composed b.lead.offset n.offset;
          maps = (record { kind = b.kind; target = b.lead.target; author = by i }) ∷ n.maps;
        }

    pub variant_below : (n : Node) (b : Branch) → variant_child deeper (lowered f name n) (lowered_branch b) ≡ lowered f name (variant_child deeper n b)
    variant_below n b =
        let path : child_path (lowered f name n) (suc b.level) b.lead.target ≡ child_path n b.level b.lead.target ++ Prim name ∷ [] = path_below n b.level b.lead.target in
        let frames : take (suc b.level + 1) (f ∷ n.frames) ≡ f ∷ take (b.level + 1) n.frames = frames_below n.frames b.level in
        let by : author (lowered f name n) (suc b.level) ≡ author n b.level = author_below n b.level in
        λ i. record (lowered f name n) {
          path = path i;
          frames = frames i;
          maps = (record { kind = Variant; target = b.lead.target; author = by i }) ∷ n.maps;
        }
