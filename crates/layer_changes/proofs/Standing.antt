-- The keys of what stands at a name.
use Rattle.std.proofs.Common.{◌≡◌, sym, subst, ℕ, List}
use Rattle.std.specs.List.{All, Contains}
use Rattle.std.specs.Map.{keys_of}
use Rattle.std.proofs.lemmas.List.Elements.{All-contains}
use Rattle.sdf_paths.specs.declared.element.Element.{Element}
use Rattle.sdf_specs.specs.Layers.{LayerTable, tree}
use Rattle.spec_parts.specs.declared.items.Refusal.{Refusal}
use Rattle.layer_set.specs.Worlds.{WorldData, held_at}
use Rattle.layer_set.specs.declared.held.Held.{Held}
use Rattle.layer_set.specs.declared.held.Held.TheVariants.{Present, Absent, Broken}
use Rattle.layer_set.specs.declared.key.Key.{Key}
use Rattle.layer_changes.specs.Covering.{HasSpec, HasTree, Names}
use Rattle.layer_changes.specs.declared.part.Part.{Part}
use Rattle.layer_changes.specs.declared.part.Part.TheVariants.{At, Below}
use Rattle.layer_changes.proofs.Keys.{in_tree, at_named, below_named, spec_kept, tree_kept}
use Rattle.layer_changes.proofs.Walks.{Grows}

pub layer_has : (keys : List Key) (layer : LayerTable) (name : List ℕ) (front : List Element) → All (HasSpec keys name) (keys_of (tree front layer.specs)) → HasTree keys (Present layer) name front
layer_has keys layer name front all path in' some = All-contains (HasSpec keys name) (keys_of (tree front layer.specs)) path all (in_tree front path layer.specs in' some)

pub absent_has : (keys : List Key) (name : List ℕ) (front : List Element) → HasTree keys Absent name front
absent_has keys name front path in' some = absurd cc

pub broken_has : (keys : List Key) (refusal : Refusal) (name : List ℕ) (front : List Element) → HasTree keys (Broken refusal) name front
broken_has keys refusal name front path in' some = absurd cc

pub key_named : (w v : WorldData) (keys : List Key) (key copied : Key) (part : Part) → part ≡ At key → copied ≡ key → Contains keys copied → Names w v keys part
key_named w v keys key copied part is same has = subst (λ (p : Part). Names w v keys p) (sym is) (at_named w v keys key (subst (λ (k : Key). Contains keys k) same has))

-- the keys grow step by step: the top, the tree in the world before, the tree in the world after
pub tree_named : (w v : WorldData) (first second third : List Key) (name : List ℕ) (front : List Element) (before after : Held) (part : Part) → part ≡ Below name front → before ≡ held_at w name → after ≡ held_at v name
    → HasSpec first name front → Grows first second → HasTree second before name front → Grows second third → HasTree third after name front → Names w v third part
tree_named w v first second third name front before after part is old new top grown old_has more new_has =
    subst (λ (p : Part). Names w v third p) (sym is)
    (below_named w v third name front
    (spec_kept second third name front more (spec_kept first second name front grown top))
    (subst (λ (h : Held). HasTree third h name front) old (tree_kept second third before name front more old_has))
    (subst (λ (h : Held). HasTree third h name front) new new_has))
