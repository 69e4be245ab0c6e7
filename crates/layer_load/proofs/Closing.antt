-- An opened world has what stands at the names that are met.
use Rattle.std.proofs.Common.{◌≡◌, ◌∙◌, inl, inr, sym, ap, refl, subst, ℕ, zero, suc, ◌+◌, ◌<◌, ◌≤◌, arith, length, take, Bool, true, false, cond, ◌||◌, [], ◌∷◌, ◌++◌, Option, Some, None, Ok, Err}
use Rattle.std.specs.List.{slice_get}
use Rattle.std.specs.Option.{is_some}
use Rattle.std.specs.Prelude.{nat_lt}
use Rattle.std.proofs.lemmas.List.{take_all, take_more, take-append-le}
use Rattle.std.proofs.lemmas.List.Folds.{list_any-append, list_any_at}
use Rattle.std.proofs.lemmas.Option.{slice_get_within, get_or_from_slice_get, slice_get_cases}
use Rattle.composition.specs.Texts.{Text, same_text}
use Rattle.layer_set.specs.Named.{at_name}
use Rattle.layer_set.specs.declared.held.Held.{Held}
use Rattle.layer_stack.proofs.Names.{at_with}
use Rattle.spec_parts.specs.declared.items.Refusal.{Refusal}
use Rattle.layer_load.specs.Closure.{Give, IsMet, as_root, as_session, as_named, IsClosed}
use Rattle.layer_load.specs.Opening.{Opening, Ending, assets_of, with_held, is_needed, if_needed, unless_refused, unless_large, taken, by_turn, loaded, first_names, begun, opened_from, opened, most_bytes}
use Rattle.layer_load.specs.declared.fault.LoadFault.TheVariants.{WorldTooLarge}
use Rattle.layer_load.specs.declared.load.Loaded.{Loaded}
use Rattle.layer_stack.specs.Meant.{noted}
use Rattle.layer_stack.proofs.Noting.{has, has_this, has_last, noted_kept, noted_there, noted_back}
use Rattle.layer_load.proofs.Noting.{more, kept, forth, back}
use Rattle.layer_load.proofs.Turns.{one_turn, no_turn, last_turn}
use Rattle.sdf_specs.proofs.PathLemmas.{not_both}
use Rattle.composition.proofs.Same.{same_text_same, same_itself}

-- an opening that ends with a world went on
module _ (go : Opening → Ending) (s : Opening) (name : Text) (held : Held) (total : ℕ) (l : Loaded) where
  not_refused : (o : Option (Option Refusal)) → unless_refused go s name held total o ≡ Ok l → go (with_held s name held total) ≡ Ok l
  not_refused None is = is
  not_refused (Some r) is = absurd cc

  not_large : (b : Bool) → unless_large go s name held total b ≡ Ok l → go (with_held s name held total) ≡ Ok l
  not_large true is = absurd cc
  not_large false is = not_refused (if_needed (is_needed s.world name) held) is

went_on : (go : Opening → Ending) (s : Opening) (name : Text) (held : Held) (size : ℕ) (l : Loaded) → taken go s name held size ≡ Ok l → go (with_held s name held (s.bytes + size)) ≡ Ok l
unfolding taken
went_on go s name held size l is = not_large go s name held (s.bytes + size) l (nat_lt most_bytes (s.bytes + size)) is

abbrev found : Bool → Held → Option Held
found true h = Some h
found false h = None

pick : (t b : Bool) (h k : Held) → (t ≡ true → h ≡ k) → cond t (Some h) (found b k) ≡ found (b || (t || false)) k
pick true true h k same = ap Some (same refl)
pick true false h k same = ap Some (same refl)
pick false true h k same = refl
pick false false h k same = refl

some_found : (b : Bool) (h : Held) → is_some (found b h) ≡ true → b ≡ true
some_found true h is = refl
some_found false h is = not_both is refl

pub by_name : {A : Type 0} → (o : Option Text) → (o ≡ None → A) → ((n : Text) → o ≡ Some n → A) → A
by_name None none some = none refl
by_name (Some n) none some = some n refl

module _ (held : Text → Held) (size : Text → ℕ) (root : Text) (session : Option Text) where
  -- an opening of which the first names had their turn
  pub record Going (place : ℕ) (s : Opening) : Type 0 where
    pub known : (q : Text) → has q s.names ≡ true → IsMet held root session q
    pub first : has root s.names ≡ true
    pub second : (q : Text) → session ≡ Some q → has q s.names ≡ true
    pub layers : (q : Text) → at_name q s.world.layers ≡ found (has q (take place s.names)) (held q)
    pub within : (layer name : Text) → has layer (take place s.names) ≡ true → Give layer name (assets_of (held layer)) → has name s.names ≡ true
    pub of_root : s.world.root ≡ root
    pub of_session : s.world.session ≡ session
    pub no_rules : s.world.rules ≡ []

  module _ (place : ℕ) (s : Opening) (name : Text) (total : ℕ) (is : slice_get s.names place ≡ Some name) (g : Going place s) where
    abbrev next : Opening
    next = with_held s name (held name) total

    inside : place < length s.names
    inside = slice_get_within s.names place name is

    turned : take (place + 1) s.names ≡ take place s.names ++ name ∷ []
    turned = take_more s.names place name inside ∙ ap (λ (n : Text). take place s.names ++ n ∷ []) (get_or_from_slice_get s.names place name name is)

    turned_next : take (place + 1) next.names ≡ take place s.names ++ name ∷ []
    turned_next =
        let m = more name (assets_of (held name)) s.names in
        let lt : place + 1 ≤ length s.names = omega (arith, inside) in
        ap (take (place + 1)) m.1 ∙ (take-append-le (place + 1) s.names m.0 lt ∙ turned)

    has_name : has name s.names ≡ true
    has_name = list_any_at (same_text name) s.names place name inside (ap (same_text name) (get_or_from_slice_get s.names place name name is) ∙ same_itself name)

    still : (q : Text) → has q s.names ≡ true → has q next.names ≡ true
    still q h = kept name (assets_of (held name)) s.names q h

    known_next : (q : Text) → has q next.names ≡ true → IsMet held root session q
    known_next q h = elim (back name (assets_of (held name)) s.names q h) [
      | inl old ↦ g.known q old
      | inr give ↦ as_named name q (g.known name has_name) give
    ]

    layers_next : (q : Text) → at_name q next.world.layers ≡ found (has q (take (place + 1) next.names)) (held q)
    layers_next q =
        let same : same_text q name ≡ true → held name ≡ held q = λ t. ap held (sym (same_text_same q name t)) in
        at_with q name (held name) s.world.layers
        ∙ (ap (λ (o : Option Held). cond (same_text q name) (Some (held name)) o) (g.layers q)
        ∙ (pick (same_text q name) (has q (take place s.names)) (held name) (held q) same
        ∙ ap (λ (b : Bool). found b (held q)) (sym (ap (has q) turned_next ∙ list_any-append (same_text q) (take place s.names) (name ∷ [])))))

    within_next : (layer n : Text) → has layer (take (place + 1) next.names) ≡ true → Give layer n (assets_of (held layer)) → has n next.names ≡ true
    within_next layer n h give = elim (has_last layer (take place s.names) name (sym (ap (has layer) turned_next) ∙ h)) [
      | inl old ↦ still n (g.within layer n old give)
      | inr one ↦ forth name (assets_of (held name)) s.names n (subst (λ (x : Text). Give x n (assets_of (held x))) one give)
    ]

    going_on : Going (place + 1) next
    going_on = record {
      known = known_next;
      first = still root g.first;
      second = λ q e. still q (g.second q e);
      layers = layers_next;
      within = within_next;
      of_root = g.of_root;
      of_session = g.of_session;
      no_rules = g.no_rules;
    }

  module _ (place : ℕ) (s : Opening) (none : slice_get s.names place ≡ None) (g : Going place s) where
    past : length s.names ≤ place
    past = elim (slice_get_cases s.names place).1 [
      | inl (x, lt, some, e) ↦ absurd (let clash : None ≡ Some x = sym none ∙ some in cc)
      | inr (le, e) ↦ le
    ]

    whole : take place s.names ≡ s.names
    whole = take_all place s.names past

    has_all : (q : Text) → IsMet held root session q → has q s.names ≡ true
    has_all q as_root = g.first
    has_all q (as_session q' e) = g.second q' e
    has_all q (as_named layer q' met give) = g.within layer q' (ap (has layer) whole ∙ has_all layer met) give

    ended : IsClosed held root session s.world
    ended = record {
      of_root = g.of_root;
      of_session = g.of_session;
      there = λ q met. g.layers q ∙ ap (λ (b : Bool). found b (held q)) (ap (has q) whole ∙ has_all q met);
      only = λ q some. g.known q (sym (ap (has q) whole) ∙ some_found (has q (take place s.names)) (held q) (sym (ap (λ (o : Option Held). is_some o) (g.layers q)) ∙ some));
      no_rules = g.no_rules;
    }

  over : (place : ℕ) (s : Opening) (l : Loaded) → slice_get s.names place ≡ None → Going place s → (e : Ending) → e ≡ Ok (loaded s) → e ≡ Ok l → IsClosed held root session l.world
  over place s l none g e ends is =
      let one : loaded s ≡ l = cc in
      subst (λ (x : Loaded). IsClosed held root session x.world) one (ended place s none g)

  pub closed : (left place : ℕ) (s : Opening) (l : Loaded) → Going place s → opened_from held size left place s ≡ Ok l → IsClosed held root session l.world
  closed zero place s l g is = by_name (slice_get s.names place)
      (λ none. over place s l none g (opened_from held size zero place s) (no_turn held size zero place s none) is)
      (λ n some.
      let large : opened_from held size zero place s ≡ Err WorldTooLarge =
      last_turn held size zero place s refl ∙ ap (λ (o : Option Text). by_turn (λ m. Err WorldTooLarge) s o) some in
      absurd cc)
  closed (suc left) place s l g is = by_name (slice_get s.names place)
      (λ none. over place s l none g (opened_from held size (suc left) place s) (no_turn held size (suc left) place s none) is)
      (λ n some.
      closed left (place + 1) (with_held s n (held n) (s.bytes + size n)) l (going_on place s n (s.bytes + size n) some g)
      (went_on (opened_from held size left (place + 1)) s n (held n) (size n) l (sym (one_turn held size left place s n some) ∙ is)))

  pub known_first : (o : Option Text) → session ≡ o → (q : Text) → has q (first_names root o) ≡ true → IsMet held root session q
  known_first None is q h = elim (has_last q [] root h) [ inl front ↦ not_both front refl | inr one ↦ subst (IsMet held root session) (sym one) as_root ]
  known_first (Some x) is q h = elim (noted_back (root ∷ []) x q h) [
    | inl front ↦ elim (has_last q [] root front) [ inl none ↦ not_both none refl | inr one ↦ subst (IsMet held root session) (sym one) as_root ]
    | inr one ↦ subst (IsMet held root session) (sym one) (as_session x is)
  ]

  has_first : (o : Option Text) → has root (first_names root o) ≡ true
  has_first None = has_this [] root
  has_first (Some x) = noted_kept (root ∷ []) x root (has_this [] root)

  has_second : (o : Option Text) (q : Text) → o ≡ Some q → has q (first_names root o) ≡ true
  has_second None q is = absurd cc
  has_second (Some x) q is = let one : x ≡ q = cc in subst (λ (y : Text). has y (noted (root ∷ []) x) ≡ true) one (noted_there (root ∷ []) x)

  pub going_first : Going 0 (begun root session)
  going_first = record {
    known = λ q h. known_first session refl q h;
    first = has_first session;
    second = λ q is. has_second session q is;
    layers = λ q. refl;
    within = λ layer n h give. not_both h refl;
    of_root = refl;
    of_session = refl;
    no_rules = refl;
  }

pub opened_closed : (held : Text → Held) (size : Text → ℕ) (names : ℕ) (root : Text) (session : Option Text) (l : Loaded)
    → opened held size names root session ≡ Ok l → IsClosed held root session l.world
unfolding opened
opened_closed held size names root session l is = closed held size root session names 0 (begun root session) l (going_first held size root session) is
