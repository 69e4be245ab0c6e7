-- What the specs of a property say of its list, one after the other.
use Rattle.std.proofs.Common.{◌≡◌, ◌∙◌, sym, ap, refl, ℕ, ◌+◌, ◌<◌, length, take, get_or, Bool, true, false, cond, List, [], ◌∷◌, ◌++◌, map, Option, Some, None, append-nil}
use Rattle.std.specs.Prelude.{filter, flat_map}
use Rattle.std.proofs.lemmas.List.{map-append, take_more}
use Rattle.std.proofs.lemmas.Grind.{flat_map-append}
use Rattle.list_ops.specs.declared.op.ListOp.{ListOp}
use Rattle.prim_view.specs.declared.fault.TargetFault.{TargetFault}
use Rattle.prim_view.specs.declared.fault.PrimFault.{PrimFault}
use Rattle.prim_view.specs.declared.fault.PrimFault.TheVariants.{TargetOutside}
use Rattle.composition.specs.Nodes.{ArcMap}
use Rattle.composition.specs.Opinions.{Said}
use Rattle.list_ops.specs.Opinions.{is_opinion}
use Rattle.composition.specs.Paths.{Path, limits}
use Rattle.composition.specs.Targets.{translated_op, translated_ops, target_fault, target_faults}
use Rattle.composition.specs.Texts.{Text}
use Rattle.composition.specs.Values.{PropertySaid}
use Rattle.target_resolve.specs.Translating.{on_stage, is_missing, is_lost, op_on_stage, outside, folded_paths, if_any, edits_of, tried}
use Rattle.target_resolve.specs.Resolving.{ops_by, targets_by, faults_by, with_op}
use Rattle.target_resolve.proofs.Moved.{filter_append}

op_is : (s : Said) (op : ListOp Path) → op_on_stage s.site.maps op ≡ translated_op limits s op
unfolding on_stage
op_is s op = refl

faults_of : (name : Text) (s : Said) (paths : List Path) → map TargetOutside (flat_map (target_fault limits name s) paths) ≡ map (outside name s) (filter (is_lost s.site.maps) paths)
unfolding on_stage
faults_of name s [] = refl
faults_of name s (p ∷ ps) =
    map-append TargetOutside (target_fault limits name s p) (flat_map (target_fault limits name s) ps)
    ∙ (ap (λ (more : List PrimFault). map TargetOutside (target_fault limits name s p) ++ more) (faults_of name s ps) ∙ by_moved (on_stage s.site.maps p))
  where
    by_moved : (o : Option Path)
        → map TargetOutside (elim o as (λ _. List TargetFault) [ Some q ↦ [] | None ↦ (record { layer = s.layer; site = s.site.path; name = name; target = p }) ∷ [] ]) ++ map (outside name s) (filter (is_lost s.site.maps) ps)
        ≡ map (outside name s) (cond (is_missing o) (p ∷ filter (is_lost s.site.maps) ps) (filter (is_lost s.site.maps) ps))
    by_moved (Some q) = refl
    by_moved None = refl

ops_more : (ps : List PropertySaid) (p : PropertySaid)
    → ops_by (ps ++ p ∷ []) ≡ with_op (ops_by ps) (edits_of p.property) (op_on_stage p.said.site.maps (edits_of p.property))
unfolding ops_by
ops_more ps p =
    ap (map (λ (q : PropertySaid). translated_op limits q.said (edits_of q.property))) (filter_append (λ (q : PropertySaid). is_opinion (edits_of q.property)) ps (p ∷ []))
    ∙ (map-append (λ (q : PropertySaid). translated_op limits q.said (edits_of q.property)) (filter (λ (q : PropertySaid). is_opinion (edits_of q.property)) ps) (cond (is_opinion (edits_of p.property)) (p ∷ []) [])
    ∙ (by_opinion (is_opinion (edits_of p.property))
    ∙ ap (λ (op : ListOp Path). with_op (translated_ops limits ps) (edits_of p.property) op) (sym (op_is p.said (edits_of p.property)))))
  where
    by_opinion : (b : Bool) → translated_ops limits ps ++ map (λ (q : PropertySaid). translated_op limits q.said (edits_of q.property)) (cond b (p ∷ []) [])
        ≡ cond b (translated_ops limits ps ++ translated_op limits p.said (edits_of p.property) ∷ []) (translated_ops limits ps)
    by_opinion true = refl
    by_opinion false = append-nil (translated_ops limits ps)

faults_more : (name : Text) (ps : List PropertySaid) (p : PropertySaid)
    → faults_by name (ps ++ p ∷ []) ≡ faults_by name ps ++ map (outside name p.said) (filter (is_lost p.said.site.maps) (tried (edits_of p.property)))
unfolding faults_by
faults_more name ps p =
    ap (map TargetOutside) (flat_map-append (λ (q : PropertySaid). flat_map (target_fault limits name q.said) (tried (edits_of q.property))) ps (p ∷ []))
    ∙ (map-append TargetOutside (target_faults limits name ps) (flat_map (target_fault limits name p.said) (tried (edits_of p.property)) ++ [])
    ∙ ap (λ (more : List PrimFault). map TargetOutside (target_faults limits name ps) ++ more)
    (ap (map TargetOutside) (append-nil (flat_map (target_fault limits name p.said) (tried (edits_of p.property))))
    ∙ faults_of name p.said (tried (edits_of p.property))))

module _ (ps : List PropertySaid) (i : ℕ) (p : PropertySaid) (within : i < length ps) (item : p ≡ get_or ps i p) where
  taken : take (i + 1) ps ≡ take i ps ++ p ∷ []
  taken = take_more ps i p within ∙ ap (λ (q : PropertySaid). take i ps ++ q ∷ []) (sym item)

  pub ops_next : with_op (ops_by (take i ps)) (edits_of p.property) (op_on_stage p.said.site.maps (edits_of p.property)) ≡ ops_by (take (i + 1) ps)
  ops_next = sym (ap ops_by taken ∙ ops_more (take i ps) p)

  pub faults_next : (name : Text)
      → faults_by name (take i ps) ++ map (outside name p.said) (filter (is_lost p.said.site.maps) (tried (edits_of p.property))) ≡ faults_by name (take (i + 1) ps)
  faults_next name = sym (ap (faults_by name) taken ∙ faults_more name (take i ps) p)

pub ops_at : (ps : List PropertySaid) (i : ℕ) (p : PropertySaid) → i < length ps → p ≡ get_or ps i p
    → (maps : List ArcMap) (edits op : ListOp Path) → maps ≡ p.said.site.maps → edits ≡ edits_of p.property → op ≡ op_on_stage maps edits
    → with_op (ops_by (take i ps)) edits op ≡ ops_by (take (i + 1) ps)
ops_at ps i p within item maps edits op arcs own is =
    ap (λ (x : ListOp Path). with_op (ops_by (take i ps)) edits x) is
    ∙ ((λ j. with_op (ops_by (take i ps)) (own j) (op_on_stage (arcs j) (own j)))
    ∙ ops_next ps i p within item)

pub faults_at : (name : Text) (ps : List PropertySaid) (i : ℕ) (p : PropertySaid) → i < length ps → p ≡ get_or ps i p
    → (s : Said) (maps : List ArcMap) (edits : ListOp Path) (lost : List Path) → s ≡ p.said → maps ≡ p.said.site.maps → edits ≡ edits_of p.property → lost ≡ filter (is_lost maps) (tried edits)
    → faults_by name (take i ps) ++ map (outside name s) lost ≡ faults_by name (take (i + 1) ps)
faults_at name ps i p within item s maps edits lost said arcs own is =
    ap (λ (x : List Path). faults_by name (take i ps) ++ map (outside name s) x) is
    ∙ ((λ j. faults_by name (take i ps) ++ map (outside name (said j)) (filter (is_lost (arcs j)) (tried (own j))))
    ∙ faults_next ps i p within item name)

pub no_ops : ops_by [] ≡ []
unfolding ops_by
no_ops = refl

pub no_faults : (name : Text) → faults_by name [] ≡ []
unfolding faults_by
no_faults name = refl

-- the folded opinions are the targets
pub any_is : (ps : List PropertySaid) → if_any (ops_by ps) ≡ targets_by ps
unfolding ops_by targets_by folded_paths
any_is ps = by_ops (translated_ops limits ps)
  where
    by_ops : (ops : List (ListOp Path)) → if_any ops ≡ (elim ops as (λ _. Option (List Path)) [ [] ↦ None | op ∷ more ↦ Some (folded_paths (op ∷ more)) ])
    by_ops [] = refl
    by_ops (op ∷ more) = refl
