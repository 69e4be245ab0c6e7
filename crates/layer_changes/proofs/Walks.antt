-- Walks over lists, as far as they have come.
use Rattle.std.proofs.Common.{◌≡◌, ◌∙◌, sym, ap, refl, subst, Bool, true, false, ℕ, ◌+◌, ◌<◌, ◌≤◌, length, take, get_or, List, [], ◌∷◌, ◌++◌}
use Rattle.std.specs.Prelude.{if◌then◌else◌}
use Rattle.std.specs.List.{All, Contains}
use Rattle.std.proofs.lemmas.List.{take_more, take_all}
use Rattle.std.proofs.lemmas.List.Elements.{All-more, All-weaker}
use Rattle.layer_set.specs.Worlds.{WorldData}
use Rattle.layer_set.specs.declared.key.Key.{Key}
use Rattle.edit_batches.specs.declared.op.Op.{Op}
use Rattle.layer_changes.specs.Covering.{HasSpec, Names, Keeps}
use Rattle.layer_changes.specs.Parts.{parts_of}
use Rattle.layer_changes.specs.declared.part.Part.{Part}
use Rattle.sdf_paths.specs.declared.element.Element.{Element}
use Rattle.layer_changes.proofs.Keys.{spec_kept, named_kept, keeps_one, drops_one}

module _ {X : Type 0} (P : X → Type 0) where
  pub more_hold : (xs : List X) (i : ℕ) (x : X) → i < length xs → x ≡ get_or xs i x → All P (take i xs) → P x → All P (take (i + 1) xs)
  more_hold xs i x within is all p = All-more P xs i x within all (subst P is p)

  pub all_hold : (xs : List X) (i : ℕ) → length xs ≤ i → All P (take i xs) → All P xs
  all_hold xs i end all = subst (λ (ys : List X). All P ys) (take_all i xs end) all

  one_further : (ks : List X) (i : ℕ) (k : X) → i < length ks → k ≡ get_or ks i k → take i ks ++ k ∷ [] ≡ take (i + 1) ks
  one_further ks i k within is = ap (λ (x : X). take i ks ++ x ∷ []) is ∙ sym (take_more ks i k within)

  pub keeps_further : (ks kept : List X) (i : ℕ) (k : X) → i < length ks → k ≡ get_or ks i k → Keeps P (take i ks) kept → P k → Keeps P (take (i + 1) ks) (kept ++ k ∷ [])
  keeps_further ks kept i k within is h p = subst (λ (xs : List X). Keeps P xs (kept ++ k ∷ [])) (one_further ks i k within is) (keeps_one P (take i ks) kept k h p)

  pub drops_further : (ks kept : List X) (i : ℕ) (k : X) → i < length ks → k ≡ get_or ks i k → Keeps P (take i ks) kept → ¬ (P k) → Keeps P (take (i + 1) ks) kept
  drops_further ks kept i k within is h p = subst (λ (xs : List X). Keeps P xs kept) (one_further ks i k within is) (drops_one P (take i ks) kept k h p)

  pub keeps_whole : (ks kept : List X) (i : ℕ) → length ks ≤ i → Keeps P (take i ks) kept → Keeps P ks kept
  keeps_whole ks kept i end h = subst (λ (xs : List X). Keeps P xs kept) (take_all i ks end) h

module _ {X : Type 0} (P : X → Type 0) where
  -- what a test tells is kept
  pub keeps_told : (ks kept new : List X) (i : ℕ) (k : X) (same : Bool) → i < length ks → k ≡ get_or ks i k → Keeps P (take i ks) kept → (same ≡ true → ¬ (P k)) → ((same ≡ true → ⊥) → P k)
      → new ≡ (if same then kept else kept ++ k ∷ []) → Keeps P (take (i + 1) ks) new
  keeps_told ks kept new i k true within is h off on made = subst (λ (xs : List X). Keeps P (take (i + 1) ks) xs) (sym made) (drops_further P ks kept i k within is h (off refl))
  keeps_told ks kept new i k false within is h off on made = subst (λ (xs : List X). Keeps P (take (i + 1) ks) xs) (sym made) (keeps_further P ks kept i k within is h (on (λ e. absurd cc)))

-- ---- sets that grow

abbrev pub Grows : {K : Type 0} → List K → List K → Type 0
Grows {K} old new = (k : K) → Contains old k → Contains new k

pub specs_kept : (old new : List Key) (name : List ℕ) (paths : List (List Element)) → Grows old new → All (HasSpec old name) paths → All (HasSpec new name) paths
specs_kept old new name paths kept all = All-weaker (HasSpec old name) (HasSpec new name) (λ path has. spec_kept old new name path kept has) paths all

pub parts_kept : (old new parts : List Part) → Grows old new → All (Contains old) parts → All (Contains new) parts
parts_kept old new parts kept all = All-weaker (Contains old) (Contains new) kept parts all

pub ops_kept : (old new : List Part) (ops : List Op) → Grows old new → All (λ op. All (Contains old) (parts_of op)) ops → All (λ op. All (Contains new) (parts_of op)) ops
ops_kept old new ops kept all =
    All-weaker (λ (op : Op). All (Contains old) (parts_of op)) (λ (op : Op). All (Contains new) (parts_of op)) (λ op had. parts_kept old new (parts_of op) kept had) ops all

pub all_named_kept : (w v : WorldData) (old new : List Key) (parts : List Part) → Grows old new → All (Names w v old) parts → All (Names w v new) parts
all_named_kept w v old new parts kept all = All-weaker (Names w v old) (Names w v new) (λ part names. named_kept w v old new part kept names) parts all
