-- Names of what stands below a path, where other things stand, and with one name more.
use Rattle.std.proofs.Common.{◌≡◌, ◌∙◌, ℕ, Bool, true, false, ◌||◌, List, [], ◌∷◌, ◌++◌, ap, sym, refl, subst}
use Rattle.std.specs.Cmp.Lexicographic.{bytes_decides}
use Rattle.std.specs.List.{IsDistinct, AllByRecursion}
use Rattle.std.proofs.lemmas.Cmp.{nat_list_eq_equiv}
use Rattle.std.proofs.lemmas.List.Folds.{list_any-append}
use Rattle.std.proofs.lemmas.Map.Keys.{IsDistinct-push, IsDistinct-head, IsDistinct-tail}
use Rattle.std.proofs.lemmas.Bool.{or_right, or_left, false_from_ne_true}
use Rattle.plain_data.specs.Exact.{text_same}
use Rattle.sdf_paths.specs.declared.element.Element.{Element}
use Rattle.sdf_paths.specs.declared.element.Element.TheVariants.{Prim, Selection}
use Rattle.sdf_specs.proofs.PathLemmas.{finds_itself, same_path}
use Rattle.spec_parts.specs.declared.items.VariantSet.{VariantSet}
use Rattle.spec_properties.specs.Properties.{same_name}
use Rattle.usd_names.specs.Names.{is_identifier}
use Rattle.value_texts.specs.Each.{AreAll}
use Rattle.value_texts.proofs.EachOf.{all_so, all_push}
use Rattle.trees_read.specs.Names.{is_among, set_names, AreNamesBelow, AreSetsBelow, AreBelow}
use Rattle.trees_read.specs.Trees.{is_one}
use Rattle.trees_read.proofs.Paths.{either, or_false, push_last, one_apart}

-- what holds of each name holds of one that is among them
pub among_each : (P : List ℕ → Type 0) (name : List ℕ) (names : List (List ℕ)) → AreAll P names → is_among name names ≡ true → P name
among_each P name [] all h = absurd cc
among_each P name (n ∷ names) all h = either (same_name name n) (is_among name names) h (λ same. subst P (sym (text_same name n same)) all.0) (λ more. among_each P name names all.1 more)

among_push : (n name : List ℕ) (names : List (List ℕ)) → is_among n (names ++ name ∷ []) ≡ (is_among n names || (same_name n name || false))
among_push n name names = list_any-append (same_name n) names (name ∷ [])

pub among_more : (n name : List ℕ) (names : List (List ℕ)) → is_among n names ≡ true → is_among n (names ++ name ∷ []) ≡ true
among_more n name names h = among_push n name names ∙ or_left (is_among n names) (same_name n name || false) h

pub among_last : (n name : List ℕ) (names : List (List ℕ)) → n ≡ name → is_among n (names ++ name ∷ []) ≡ true
among_last n name names h = among_push n name names ∙ or_right (is_among n names) (same_name n name || false) (or_left (same_name n name) false ((bytes_decides n name).1 h))

pub distinct_more : (name : List ℕ) (names : List (List ℕ)) → IsDistinct same_name names → is_among name names ≡ false → IsDistinct same_name (names ++ name ∷ [])
distinct_more name names once new = IsDistinct-push nat_list_eq_equiv names name once new

-- of names that stand once each, the last is none of those before it
pub last_differs : (names : List (List ℕ)) (name : List ℕ) → IsDistinct same_name (names ++ name ∷ []) → AreAll (λ n. n ≡ name → ⊥) names
last_differs [] name once = tt
last_differs (n ∷ names) name once = (of_last names (IsDistinct-head same_name n (names ++ name ∷ []) once), last_differs names name (IsDistinct-tail same_name n (names ++ name ∷ []) once))
  where
    of_last : (more : List (List ℕ)) → AllByRecursion (λ y. same_name n y ≡ false) (more ++ name ∷ []) → n ≡ name → ⊥
    of_last [] all same = let one : same_name n name ≡ true = (bytes_decides n name).1 same in let other : same_name n name ≡ false = all.0 in let bad : true ≡ false = sym one ∙ other in absurd cc
    of_last (m ∷ more) all same = of_last more all.1 same

-- ---- where the same stands below a path

module _ (at new : List Element → Bool) (path : List Element) where
  pub names_by : (named : List ℕ → Element) (names : List (List ℕ)) → ((name : List ℕ) → new (path ++ named name ∷ []) ≡ at (path ++ named name ∷ [])) → AreNamesBelow at path named names → AreNamesBelow new path named names
  names_by named names same h = record {
    once = h.once;
    each = all_so (λ n. at (path ++ named n ∷ []) ≡ true) (λ n. new (path ++ named n ∷ []) ≡ true) (λ n e. same n ∙ e) names h.each;
    all = λ n e. h.all n (sym (same n) ∙ e);
  }

  pub sets_by : (sets : List VariantSet) → ((set variant : List ℕ) → new (path ++ Selection set variant ∷ []) ≡ at (path ++ Selection set variant ∷ [])) → AreSetsBelow at path sets → AreSetsBelow new path sets
  sets_by sets same h = record {
    once = h.once;
    named = h.named;
    each = all_so (λ s. AreNamesBelow at path (Selection s.set) s.variants) (λ s. AreNamesBelow new path (Selection s.set) s.variants) (λ s e. names_by (Selection s.set) s.variants (λ n. same s.set n) e) sets h.each;
    all = λ set variant e. h.all set variant (sym (same set variant) ∙ e);
  }

  pub below_by : (child_names : List (List ℕ)) (sets : List VariantSet) → ((e : Element) → new (path ++ e ∷ []) ≡ at (path ++ e ∷ [])) → AreBelow at path child_names sets → AreBelow new path child_names sets
  below_by child_names sets same h = record { children = names_by Prim child_names (λ n. same (Prim n)) h.children; sets = sets_by sets (λ s v. same (Selection s v)) h.sets }

-- nothing stands below a path
module _ (at : List Element → Bool) (path : List Element) where
  no_names : (named : List ℕ → Element) → ((name : List ℕ) → at (path ++ named name ∷ []) ≡ false) → AreNamesBelow at path named []
  unfolding IsDistinct
  no_names named none = record { once = tt; each = tt; all = λ n e. let bad : true ≡ false = sym e ∙ none n in absurd cc }

  no_sets : ((set variant : List ℕ) → at (path ++ Selection set variant ∷ []) ≡ false) → AreSetsBelow at path []
  unfolding IsDistinct
  no_sets none = record { once = tt; named = tt; each = tt; all = λ s v e. let bad : true ≡ false = sym e ∙ none s v in absurd cc }

  pub none_below : ((e : Element) → at (path ++ e ∷ []) ≡ false) → AreBelow at path [] []
  none_below none = record { children = no_names Prim (λ n. none (Prim n)); sets = no_sets (λ s v. none (Selection s v)) }

-- ---- something more stands directly below the path

module _ (at new : List Element → Bool) (path : List Element) (e : Element) (free : at (path ++ e ∷ []) ≡ false) (grown : (q : List Element) → new q ≡ (at q || is_one q (path ++ e ∷ []))) where
  pub other_element : (x : Element) → (x ≡ e → ⊥) → new (path ++ x ∷ []) ≡ at (path ++ x ∷ [])
  other_element x apart = grown (path ++ x ∷ []) ∙ or_false (at (path ++ x ∷ [])) (is_one (path ++ x ∷ []) (path ++ e ∷ [])) (one_apart (path ++ x ∷ []) (path ++ e ∷ []) (λ h. apart (push_last path path x e h)))

  still : (q : List Element) → at q ≡ true → new q ≡ true
  still q h = grown q ∙ or_left (at q) (is_one q (path ++ e ∷ [])) h

  -- with the name of what stands there now
  names_more : (named : List ℕ → Element) (name : List ℕ) → e ≡ named name → ((a b : List ℕ) → named a ≡ named b → a ≡ b) → (names : List (List ℕ)) → AreNamesBelow at path named names → AreNamesBelow new path named (names ++ name ∷ [])
  names_more named name is apart names h = record {
    once = distinct_more name names h.once (false_from_ne_true (is_among name names) (λ m. unlike (among_each (λ n. at (path ++ named n ∷ []) ≡ true) name names h.each m)));
    each =
        all_push (λ n. new (path ++ named n ∷ []) ≡ true) names name
        (all_so (λ n. at (path ++ named n ∷ []) ≡ true) (λ n. new (path ++ named n ∷ []) ≡ true) (λ n g. still (path ++ named n ∷ []) g) names h.each)
        (subst (λ x. new (path ++ x ∷ []) ≡ true) is (grown (path ++ e ∷ []) ∙ or_right (at (path ++ e ∷ [])) (is_one (path ++ e ∷ []) (path ++ e ∷ [])) (finds_itself (path ++ e ∷ []))));
    all = λ n g. either (at (path ++ named n ∷ [])) (is_one (path ++ named n ∷ []) (path ++ e ∷ [])) (sym (grown (path ++ named n ∷ [])) ∙ g)
        (λ old. among_more n name names (h.all n old))
        (λ one. among_last n name names (apart n name (push_last path path (named n) e (same_path (path ++ named n ∷ []) (path ++ e ∷ []) one) ∙ is)));
  }
    where
      unlike : at (path ++ named name ∷ []) ≡ true → ⊥
      unlike h = let bad : true ≡ false = sym h ∙ subst (λ x. at (path ++ x ∷ []) ≡ false) is free in absurd cc

  prim_apart : (a b : List ℕ) → Prim a ≡ Prim b → a ≡ b
  prim_apart a b h = cc

  set_apart : (s t a b : List ℕ) → Selection s a ≡ Selection t b → s ≡ t
  set_apart s t a b h = cc

  variant_apart : (s a b : List ℕ) → Selection s a ≡ Selection s b → a ≡ b
  variant_apart s a b h = cc

  kinds_apart : (n s v : List ℕ) → Prim n ≡ Selection s v → ⊥
  kinds_apart n s v h = absurd cc

  -- a prim
  pub child_more : (name : List ℕ) → e ≡ Prim name → (child_names : List (List ℕ)) (sets : List VariantSet) → AreBelow at path child_names sets → AreBelow new path (child_names ++ name ∷ []) sets
  child_more name is child_names sets h = record {
    children = names_more Prim name is prim_apart child_names h.children;
    sets = sets_by at new path sets (λ s v. other_element (Selection s v) (λ same. kinds_apart name s v (sym is ∙ sym same))) h.sets;
  }

  -- a variant of the last set
  pub variant_more : (name : List ℕ) (child_names : List (List ℕ)) (sets : List VariantSet) (s : VariantSet) → e ≡ Selection s.set name → AreBelow at path child_names (sets ++ s ∷ [])
      → AreBelow new path child_names (sets ++ record s { variants = s.variants ++ name ∷ [] } ∷ [])
  variant_more name child_names sets s is h = record {
    children = names_by at new path Prim child_names (λ n. other_element (Prim n) (λ same. kinds_apart n s.set name (same ∙ is))) h.children;
    sets = record {
      once = subst (IsDistinct same_name) (sym names_stay) h.sets.once;
      named = swapped (λ t. is_identifier t.set ≡ true) sets h.sets.named (last_of (λ t. is_identifier t.set ≡ true) sets h.sets.named);
      each = each_more sets (apart_sets sets (last_differs (set_names sets) s.set (subst (IsDistinct same_name) (names_push sets s) h.sets.once))) h.sets.each;
      all = λ set variant g. subst (λ ns. is_among set ns ≡ true) (sym names_stay) (either (at (path ++ Selection set variant ∷ [])) (is_one (path ++ Selection set variant ∷ []) (path ++ e ∷ [])) (sym (grown (path ++ Selection set variant ∷ [])) ∙ g)
          (λ old. h.sets.all set variant old)
          (λ one. subst (λ ns. is_among set ns ≡ true) (sym (names_push sets s)) (among_last set s.set (set_names sets) (set_apart set s.set variant name (push_last path path (Selection set variant) e (same_path (path ++ Selection set variant ∷ []) (path ++ e ∷ []) one) ∙ is)))));
    };
  }
    where
      more : VariantSet
      more = record s { variants = s.variants ++ name ∷ [] }

      names_push : (ts : List VariantSet) (t : VariantSet) → set_names (ts ++ t ∷ []) ≡ set_names ts ++ t.set ∷ []
      names_push [] t = refl
      names_push (u ∷ ts) t = ap (λ (l : List (List ℕ)). u.set ∷ l) (names_push ts t)

      names_stay : set_names (sets ++ more ∷ []) ≡ set_names (sets ++ s ∷ [])
      names_stay = names_push sets more ∙ sym (names_push sets s)

      last_of : (P : VariantSet → Type 0) (ts : List VariantSet) → AreAll P (ts ++ s ∷ []) → P s
      last_of P [] all = all.0
      last_of P (t ∷ ts) all = last_of P ts all.1

      swapped : (P : VariantSet → Type 0) (ts : List VariantSet) → AreAll P (ts ++ s ∷ []) → P more → AreAll P (ts ++ more ∷ [])
      swapped P [] all one = (one, tt)
      swapped P (t ∷ ts) all one = (all.0, swapped P ts all.1 one)

      apart_sets : (ts : List VariantSet) → AreAll (λ n. n ≡ s.set → ⊥) (set_names ts) → AreAll (λ t. t.set ≡ s.set → ⊥) ts
      apart_sets [] all = tt
      apart_sets (t ∷ ts) all = (all.0, apart_sets ts all.1)

      each_more : (ts : List VariantSet) → AreAll (λ t. t.set ≡ s.set → ⊥) ts → AreAll (λ t. AreNamesBelow at path (Selection t.set) t.variants) (ts ++ s ∷ []) → AreAll (λ t. AreNamesBelow new path (Selection t.set) t.variants) (ts ++ more ∷ [])
      each_more [] apart all = (names_more (Selection s.set) name is (variant_apart s.set) s.variants all.0, tt)
      each_more (t ∷ ts) apart all = (names_by at new path (Selection t.set) t.variants (λ n. other_element (Selection t.set n) (λ same. apart.0 (set_apart t.set s.set n name (same ∙ is)))) all.0, each_more ts apart.1 all.1)

-- ---- a set more, of which nothing stands

module _ (at : List Element → Bool) (path : List Element) where
  pub set_more : (name : List ℕ) (child_names : List (List ℕ)) (sets : List VariantSet) → is_identifier name ≡ true → is_among name (set_names sets) ≡ false → AreBelow at path child_names sets
      → AreBelow at path child_names (sets ++ record { set = name; variants = [] } ∷ [])
  unfolding IsDistinct
  set_more name child_names sets good new h = record {
    children = h.children;
    sets = record {
      once = subst (IsDistinct same_name) (sym (pushed sets)) (distinct_more name (set_names sets) h.sets.once new);
      named = all_push (λ s. is_identifier s.set ≡ true) sets (record { set = name; variants = [] }) h.sets.named good;
      each = all_push (λ s. AreNamesBelow at path (Selection s.set) s.variants) sets (record { set = name; variants = [] }) h.sets.each
          (no_names at path (Selection name) (λ v. false_from_ne_true (at (path ++ Selection name v ∷ [])) (λ g. absurd (let a : is_among name (set_names sets) ≡ true = h.sets.all name v g in let bad : true ≡ false = sym a ∙ new in cc))));
      all = λ set variant g. subst (λ ns. is_among set ns ≡ true) (sym (pushed sets)) (among_more set name (set_names sets) (h.sets.all set variant g));
    };
  }
    where
      pushed : (ts : List VariantSet) → set_names (ts ++ record { set = name; variants = [] } ∷ []) ≡ set_names ts ++ name ∷ []
      pushed [] = refl
      pushed (u ∷ ts) = ap (λ (l : List (List ℕ)). u.set ∷ l) (pushed ts)
