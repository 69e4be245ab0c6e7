-- What the opinions decide, one after the other, is what the definitions say.
use Rattle.std.proofs.Common.{◌≡◌, ◌∙◌, sym, ap, refl, ℕ, ◌+◌, ◌<◌, length, take, get_or, Bool, true, false, cond, List, [], ◌∷◌, ◌++◌, map, Option, Some, None, append-nil}
use Rattle.std.specs.Prelude.{fold}
use Rattle.std.proofs.lemmas.List.{map-append, take_more}
use Rattle.std.proofs.lemmas.Grind.{flat_map-append}
use Rattle.sdf_values.specs.declared.value.Value.{Value}
use Rattle.spec_properties.specs.Entries.{SampleEntries}
use Rattle.prim_view.specs.declared.fault.PrimFault.{PrimFault}
use Rattle.prim_view.specs.declared.fault.PrimFault.TheVariants.{TimeOutside}
use Rattle.composition.specs.Arcs.{is_empty}
use Rattle.composition.specs.Fields.{or_else}
use Rattle.composition.specs.Opinions.{Said}
use Rattle.composition.specs.Texts.{Text}
use Rattle.composition.specs.Values.{PropertySaid, Given, given, deciding_default, deciding_samples, time_fault, time_faults}
use Rattle.value_resolve.specs.declared.decision.Decision.{Decision}
use Rattle.value_resolve.specs.Deciding.{undecided, decided_next}
use Rattle.value_resolve.specs.Missing.{is_missing}
use Rattle.value_resolve.specs.Resolving.{default_by, samples_by, faults_by, fault_if}

-- what the specs decide together
unfoldable pub decided : List PropertySaid → Decision
decided ps = fold decided_next undecided (map given ps)

or_none : {T : Type 0} (x : Option T) → or_else x None ≡ x
or_none (Some x) = refl
or_none None = refl

or_or : {T : Type 0} (x y z : Option T) → or_else (or_else x y) z ≡ or_else x (or_else y z)
or_or (Some x) y z = refl
or_or None y z = refl

first_or : (g : Given) (gs : List Given) → or_else g.default (deciding_default gs) ≡ deciding_default (g ∷ gs)
first_or g gs = by_default g.default
  where
    by_default : (o : Option Value) → or_else o (deciding_default gs) ≡ (elim o as (λ _. Option Value) [ Some y ↦ Some y | None ↦ deciding_default gs ])
    by_default (Some y) = refl
    by_default None = refl

default_from : (d : Decision) (gs : List Given) → (fold decided_next d gs).default ≡ or_else d.default (deciding_default gs)
default_from d [] = sym (or_none d.default)
default_from d (g ∷ gs) = default_from (decided_next d g) gs ∙ (or_or d.default g.default (deciding_default gs) ∙ ap (or_else d.default) (first_or g gs))

closed_from : (default : Option Value) (samples : SampleEntries) (gs : List Given) → (fold decided_next (record { default = default; samples = samples; waits = false }) gs).samples ≡ samples
closed_from default samples [] = refl
closed_from default samples (g ∷ gs) = closed_from (or_else default g.default) samples gs

open_from : (default : Option Value) (gs : List Given) → (fold decided_next (record { default = default; samples = []; waits = true }) gs).samples ≡ deciding_samples gs
open_from default [] = refl
open_from default (g ∷ gs) = by_given g.samples g.default (or_else default g.default) (open_from (or_else default g.default) gs)
  where
    by_given : (samples : SampleEntries) (own next : Option Value)
        → (fold decided_next (record { default = next; samples = []; waits = true }) gs).samples ≡ deciding_samples gs
        → (fold decided_next (record { default = next; samples = samples; waits = elim (is_empty samples) as (λ _. Bool) [ true ↦ is_missing own | false ↦ false ] }) gs).samples
        ≡ (elim (is_empty samples) as (λ _. SampleEntries) [ false ↦ samples | true ↦ elim own as (λ _. SampleEntries) [ Some v ↦ [] | None ↦ deciding_samples gs ] ])
    by_given (e ∷ es) own next h = closed_from next (e ∷ es) gs
    by_given [] (Some v) next h = closed_from next [] gs
    by_given [] None next h = h

pub default_decided : (ps : List PropertySaid) → (decided ps).default ≡ default_by ps
unfolding decided default_by
default_decided ps = default_from undecided (map given ps)

pub samples_decided : (ps : List PropertySaid) → (decided ps).samples ≡ samples_by ps
unfolding decided samples_by
samples_decided ps = open_from None (map given ps)

fold_more : {X A : Type 0} (f : A → X → A) (a : A) (xs : List X) (x : X) → fold f a (xs ++ x ∷ []) ≡ f (fold f a xs) x
fold_more f a [] x = refl
fold_more f a (y ∷ ys) x = fold_more f (f a y) ys x

pub decided_more : (ps : List PropertySaid) (p : PropertySaid) → decided (ps ++ p ∷ []) ≡ decided_next (decided ps) (given p)
unfolding decided
decided_more ps p = ap (λ (gs : List Given). fold decided_next undecided gs) (map-append given ps (p ∷ [])) ∙ fold_more decided_next undecided (map given ps) (given p)

pub faults_more : (name : Text) (ps : List PropertySaid) (p : PropertySaid) → faults_by name (ps ++ p ∷ []) ≡ faults_by name ps ++ fault_if name p.said (given p).left_out
unfolding faults_by
faults_more name ps p =
    ap (map TimeOutside) (flat_map-append (time_fault name) ps (p ∷ []))
    ∙ (map-append TimeOutside (time_faults name ps) (time_fault name p ++ [])
    ∙ ap (λ (more : List PrimFault). map TimeOutside (time_faults name ps) ++ more) (ap (map TimeOutside) (append-nil (time_fault name p)) ∙ by_left (given p).left_out))
  where
    by_left : (b : Bool) → map TimeOutside (cond b ((record { layer = p.said.layer; site = p.said.site.path; name = name }) ∷ []) []) ≡ fault_if name p.said b
    by_left true = refl
    by_left false = refl

pub none_decided : undecided ≡ decided []
unfolding decided
none_decided = refl

pub none_fault : (name : Text) → [] ≡ faults_by name []
unfolding faults_by
none_fault name = refl

module _ (ps : List PropertySaid) (i : ℕ) (p : PropertySaid) (within : i < length ps) (item : p ≡ get_or ps i p) where
  taken : take (i + 1) ps ≡ take i ps ++ p ∷ []
  taken = take_more ps i p within ∙ ap (λ (q : PropertySaid). take i ps ++ q ∷ []) (sym item)

  pub decided_at : decided_next (decided (take i ps)) (given p) ≡ decided (take (i + 1) ps)
  decided_at = sym (ap decided taken ∙ decided_more (take i ps) p)

-- the name comes before the specs, as the calls have it
pub faults_at : (name : Text) (ps : List PropertySaid) (i : ℕ) (p : PropertySaid) → i < length ps → p ≡ get_or ps i p
    → (s : Said) (left_out : Bool) → s ≡ p.said → left_out ≡ (given p).left_out → faults_by name (take i ps) ++ fault_if name s left_out ≡ faults_by name (take (i + 1) ps)
faults_at name ps i p within item s left_out said left =
    ap (λ (x : Said). faults_by name (take i ps) ++ fault_if name x left_out) said
    ∙ (ap (λ (b : Bool). faults_by name (take i ps) ++ fault_if name p.said b) left
    ∙ sym (ap (faults_by name) (taken ps i p within item) ∙ faults_more name (take i ps) p))
