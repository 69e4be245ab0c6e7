-- Which variants may be chosen.
use Rattle.std.proofs.Common.{◌≡◌, ◌∙◌, sym, ap, refl, subst, arith, ℕ, ◌≤◌, ◌+◌, Bool, true, false, [], ◌∷◌, ◌++◌, length, length-append, Option, Some, None}
use Rattle.std.specs.Prelude.{nat_le}
use Rattle.std.specs.Option.{is_some}
use Rattle.std.specs.Str.{IsUtf8}
use Rattle.std.proofs.lemmas.Bool.{leb-true, and_parts}
use Rattle.sdf_paths.specs.declared.element.Element.TheVariants.{Selection}
use Rattle.sdf_paths.specs.Paths.{IsPath, is_empty, is_property, depth, printed, written, written_all, ends_selected}
use Rattle.sdf_paths.proofs.Shapes.{length_joined, length_printed}
use Rattle.sdf_paths.proofs.Selections.{select_path, select_named}
use Rattle.usd_names.specs.Names.{is_identifier, is_variant}
use Rattle.composition.specs.Texts.{Text, both}
use Rattle.composition.specs.Names.{is_name, is_variant_name}
use Rattle.composition.specs.Paths.{Path, limits, fits, tail}
use Rattle.composition.specs.Nodes.{Node, Chosen, author, child_path}
use Rattle.node_branches.specs.Following.{if_fits}
use Rattle.prim_index.specs.Reading.{variant_at, chosen_if_fits}
use Rattle.prim_index.proofs.Names.{name_is, variant_name_is}
use Rattle.composition.proofs.Tests.{by_test, both_hold, both_parts}
use Rattle.composition.proofs.Fitting.{kept_if}

abbrev if_true : Chosen → Bool → Option Chosen
if_true c b = elim b as (λ _. Option Chosen) [ true ↦ Some c | false ↦ None ]

some_of : (p : Path) (b : Bool) → is_some (kept_if p b) ≡ b
some_of p true = refl
some_of p false = refl

pub chosen_fits : (n : Node) (j : ℕ) (t : Path) (o : Option Path) → o ≡ if_fits (child_path n j t) → true ≡ is_some o
    → Some (let c : Chosen = record { level = j; target = t } in c) ≡ chosen_if_fits n j t
chosen_fits n j t o is on =
    sym (ap (if_true (record { level = j; target = t })) (sym (on ∙ ap (λ (x : Option Path). is_some x) is ∙ some_of (child_path n j t) (fits limits (child_path n j t)))))

pub chosen_too_long : (n : Node) (j : ℕ) (t : Path) (o : Option Path) → o ≡ if_fits (child_path n j t) → false ≡ is_some o → None ≡ chosen_if_fits n j t
chosen_too_long n j t o is off =
    sym (ap (if_true (record { level = j; target = t })) (sym (off ∙ ap (λ (x : Option Path). is_some x) is ∙ some_of (child_path n j t) (fits limits (child_path n j t)))))

module _ (n : Node) (j : ℕ) (s v : Text) where
  abbrev target : Path
  target = author n j ++ Selection s v ∷ []

  abbrev chosen : Chosen
  chosen = record { level = j; target = target }

  abbrev tests : Bool
  tests = both (is_name s) (both (is_variant_name v) (fits limits (child_path n j target)))

  named : IsUtf8 s → IsUtf8 v → IsPath target → both (is_name s) (is_variant_name v) ≡ true
  named us uv good =
      let parts = and_parts (is_identifier s) (is_variant v) (select_named (author n j) s v good) in
      both_hold (is_name s) (is_variant_name v) (name_is s us ∙ parts.0) (variant_name_is v uv ∙ parts.1)

  pub variant_good : (t : Path) (r : Option Chosen) → IsUtf8 s → IsUtf8 v → t ≡ target → IsPath t → r ≡ chosen_if_fits n j t → r ≡ variant_at n j s v
  unfolding variant_at
  variant_good t r us uv at good told =
      let names = both_parts (is_name s) (is_variant_name v) (named us uv (subst IsPath at good)) in
      let fitting = fits limits (child_path n j target) in
      told ∙ ap (λ (p : Path). chosen_if_fits n j p) at
      ∙ ap (if_true chosen) (sym (ap (λ b. both b (both (is_variant_name v) fitting)) names.0 ∙ ap (λ b. both b fitting) names.1))

  short : fits limits (child_path n j target) ≡ true → length (written_all false (author n j)) + (3 + length s + length v) ≤ 4096
  short fit =
      let parts = both_parts (nat_le (depth (target ++ tail n.path j)) 64) (nat_le (length (printed (target ++ tail n.path j))) 4096) fit in
      omega (
        arith,
        leb-true (length (printed (target ++ tail n.path j))) 4096 parts.1,
        length_printed (target ++ tail n.path j),
        length_joined target (tail n.path j) false,
        length_joined (author n j) (Selection s v ∷ []) false,
        length-append (written (ends_selected false (author n j)) (Selection s v)) [],
        length-append (123 ∷ s ++ (61 ∷ v)) (125 ∷ []),
        length-append (123 ∷ s) (61 ∷ v),
      )

  pub variant_bad : IsUtf8 s → IsUtf8 v → IsPath (author n j) → is_property (author n j) ≡ false → is_empty (author n j) ≡ false → (IsPath target → ⊥) → None ≡ variant_at n j s v
  unfolding variant_at
  variant_bad us uv good prim some bad = by_test tests
      (λ on.
      let parts = both_parts (is_name s) (both (is_variant_name v) (fits limits (child_path n j target))) on in
      let rest = both_parts (is_variant_name v) (fits limits (child_path n j target)) parts.1 in
      absurd (bad (select_path (author n j) s v good prim some (sym (name_is s us) ∙ parts.0) (sym (variant_name_is v uv) ∙ rest.0) (short rest.1))))
      (λ off. sym (ap (if_true chosen) off))

  pub variant_ok : (a t : Path) (s' v' : Text) (r : Option Chosen) → a ≡ author n j → IsUtf8 s → IsUtf8 v → s' ≡ s → v' ≡ v → t ≡ a ++ Selection s' v' ∷ [] → IsPath t
      → r ≡ chosen_if_fits n j t → r ≡ variant_at n j s v
  variant_ok a t s' v' r up us uv es ev at good told =
      variant_good t r us uv (at ∙ (λ i. up i ++ Selection (es i) (ev i) ∷ [])) good told

  not_empty : (a : Path) → (a ≡ [] → ⊥) → is_empty a ≡ false
  not_empty [] some = absurd (some refl)
  not_empty (e ∷ a) some = refl

  pub variant_refused : (a : Path) (s' v' : Text) → a ≡ author n j → IsUtf8 s → IsUtf8 v → s' ≡ s → v' ≡ v → IsPath a → (a ≡ [] → ⊥) → is_property a ≡ false
      → (IsPath (a ++ Selection s' v' ∷ []) → ⊥) → None ≡ variant_at n j s v
  variant_refused a s' v' up us uv es ev good some prim bad =
      variant_bad us uv (subst IsPath up good) (ap is_property (sym up) ∙ prim) (ap is_empty (sym up) ∙ not_empty a some)
      (λ path. bad (subst IsPath (sym (λ i. up i ++ Selection (es i) (ev i) ∷ [])) path))
