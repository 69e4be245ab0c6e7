-- Paths with one prim or one selection more.
use Rattle.std.proofs.Common.{◌≡◌, ◌∙◌, ℕ, ◌≤◌, ◌+◌, Bool, true, false, not, ◌&&◌, ◌||◌, cond, List, [], ◌∷◌, ◌++◌, length, ap, sym, refl, subst, append-nil, length-append, arith, ◌<◌, ◌⊎◌, inl, inr, Result, Ok, Err}
use Rattle.std.specs.Prelude.{if◌then◌else◌}
use Rattle.std.proofs.lemmas.Bool.Decides.{nat_tests}
use Rattle.sdf_values.specs.declared.refusal.RefusalKind.TheVariants.{TooLong}
use Rattle.usda_fields.specs.Names.{is_long, has_variants, variant_path}
use Rattle.sdf_paths.specs.declared.fault.PathFault.{PathFault}
use Rattle.sdf_paths.specs.declared.fault.PathFault.TheVariants.{Bad, NoMemory}
use Rattle.sdf_paths.proofs.ParseExact.{read_printed}
use Rattle.std.specs.List.{list_all}
use Rattle.std.proofs.lemmas.Bool.{and_from, and_parts}
use Rattle.std.proofs.lemmas.List.Folds.{list_all-append}
use Rattle.usd_names.specs.Names.{is_identifier, is_variant}
use Rattle.sdf_paths.specs.Paths.{IsPath, IsReadAs, is_ordered, is_empty, is_property, is_well_named, depth, written, written_all, printed, ends_selected}
use Rattle.sdf_paths.specs.declared.element.Element.{Element}
use Rattle.sdf_paths.specs.declared.element.Element.TheVariants.{Prim, Property, Selection}
use Rattle.sdf_paths.proofs.Shapes.{written_append, length_printed, depth_joined, path_of, append_path}
use Rattle.sdf_paths.proofs.Complete.{depth_selection}

pub printed_more : (owner : List Element) (e : Element) → printed (owner ++ e ∷ []) ≡ written_all false owner ++ written (ends_selected false owner) e
printed_more [] e = append-nil (written false e)
printed_more (x ∷ owner) e =
    written_append (x ∷ owner) (e ∷ []) false ∙ ap (λ l. written_all false (x ∷ owner) ++ l) (append-nil (written (ends_selected false (x ∷ owner)) e))

-- all but `/` is printed element by element
pub printed_some : (owner : List Element) → (owner ≡ [] → ⊥) → printed owner ≡ written_all false owner
printed_some [] some = absurd (some refl)
printed_some (e ∷ owner) some = refl

ordered_selection : (path : List Element) (named : Bool) (s v : List ℕ) → is_ordered named path ≡ true → is_property path ≡ false → (named || not (is_empty path)) ≡ true
    → is_ordered named (path ++ Selection s v ∷ []) ≡ true
ordered_selection [] true s v h prim some = refl
ordered_selection [] false s v h prim some = absurd cc
ordered_selection (Prim n ∷ path) named s v h prim some = ordered_selection path true s v h prim refl
ordered_selection (Selection t w ∷ path) named s v h prim some =
    let both = and_parts named (is_ordered true path) h in and_from _ _ both.0 (ordered_selection path true s v both.1 prim refl)
ordered_selection (Property n ∷ path) named s v h prim some = absurd cc

some_path : (path : List Element) → (path ≡ [] → ⊥) → not (is_empty path) ≡ true
some_path [] h = absurd (h refl)
some_path (e ∷ path) h = refl

-- a path with a selection more, where it is short enough
selection_path : (owner : List Element) (s v : List ℕ) → IsPath owner → is_property owner ≡ false → (owner ≡ [] → ⊥) → is_identifier s ≡ true → is_variant v ≡ true
    → length (printed (owner ++ Selection s v ∷ [])) ≤ 4096 → IsPath (owner ++ Selection s v ∷ [])
selection_path owner s v h prim some set variant short =
    path_of (owner ++ Selection s v ∷ []) (ordered_selection owner false s v h.well_formed.ordered prim (some_path owner some))
    (list_all-append is_well_named owner (Selection s v ∷ []) ∙ and_from _ _ h.well_formed.named (and_from _ _ (and_from _ _ set variant) refl))
    (omega (arith, h.well_formed.few, depth_joined owner (Selection s v ∷ []), depth_selection s v []))
    (omega (arith, short, length_printed (owner ++ Selection s v ∷ [])))

-- how long a path with a prim more is
prim_length : (owner : List Element) (n : List ℕ) → length (printed (owner ++ Prim n ∷ [])) ≡ length (written_all false owner) + (cond (ends_selected false owner) 0 1 + length n)
prim_length owner n =
    ap length (printed_more owner (Prim n)) ∙ length-append (written_all false owner) (written (ends_selected false owner) (Prim n))
    ∙ ap (λ k. length (written_all false owner) + k) (written_prim (ends_selected false owner))
  where
    written_prim : (a : Bool) → length (written a (Prim n)) ≡ cond a 0 1 + length n
    written_prim true = omega arith
    written_prim false = omega arith

-- a path with a prim more, where it is short enough
pub prim_path : (owner : List Element) (n : List ℕ) → IsPath owner → is_property owner ≡ false → is_identifier n ≡ true → depth owner < 64
    → length (printed (owner ++ Prim n ∷ [])) ≤ 4096 → IsPath (owner ++ Prim n ∷ [])
prim_path owner n h prim name few short = append_path owner n h prim name few (omega (arith, short, prim_length owner n))

pub fits : (path : List Element) → length (printed path) ≤ 4096 → is_long path ≡ false
fits path short = grind (arith, nat_tests)

both_parts : (owner : List Element) → has_variants owner ≡ true → (is_property owner ≡ false) × (owner ≡ [] → ⊥)
both_parts [] h = absurd cc
both_parts (e ∷ owner) h = (off (is_property (e ∷ owner)) h, λ no. cc)
  where
    off : (b : Bool) → (true && not b) ≡ true → b ≡ false
    off true h = absurd cc
    off false h = refl

-- the text of a variant's path is read as that path
pub variant_read : (owner : List Element) (s v text : List ℕ) → IsPath owner → has_variants owner ≡ true → is_identifier s ≡ true → is_variant v ≡ true
    → text ≡ printed (owner ++ Selection s v ∷ []) → length text ≤ 4096 → IsReadAs text (owner ++ Selection s v ∷ [])
variant_read owner s v text h has set variant is short =
    let parts = both_parts owner has in
    let path : IsPath (owner ++ Selection s v ∷ []) = selection_path owner s v h parts.0 parts.1 set variant (subst (λ (t : List ℕ). length t ≤ 4096) is short) in
    subst (λ (t : List ℕ). IsReadAs t (owner ++ Selection s v ∷ [])) (sym is) (read_printed (owner ++ Selection s v ∷ []) path)

pub variant_fits : (owner : List Element) (s v text : List ℕ) → text ≡ printed (owner ++ Selection s v ∷ []) → length text ≤ 4096 → variant_path owner s v ≡ Ok (owner ++ Selection s v ∷ [])
variant_fits owner s v text is short =
    ap (λ b. if b then Err TooLong else Ok (owner ++ Selection s v ∷ [])) (fits (owner ++ Selection s v ∷ []) (subst (λ (t : List ℕ). length t ≤ 4096) is short))

-- what is read is the one path
pub read_is : (r : Result (List Element) PathFault) (p q : List Element) → (r ≡ Ok q) ⊎ (r ≡ Err NoMemory) → r ≡ Ok p → q ≡ p
read_is r p q (inl is) h = cc
read_is r p q (inr is) h = absurd cc

pub read_some : (r : Result (List Element) PathFault) (q : List Element) (at : ℕ) (e : PathFault) → (r ≡ Ok q) ⊎ (r ≡ Err NoMemory) → r ≡ Err e → e ≡ Bad at → ⊥
read_some r q at e (inl is) h bad = cc
read_some r q at e (inr is) h bad = cc
