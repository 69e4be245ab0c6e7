-- The reader reads every text of every path.
use Rattle.std.proofs.Common.{◌≡◌, ℕ, ◌+◌, ◌≤◌, Bool, true, false, cond, ◌&&◌, List, [], ◌∷◌, ◌++◌, Some, None, refl, sym, ap, ◌∙◌, subst, append_assoc, append-nil, arith, lit<, add_comm}
use Rattle.std.specs.Prelude.{encode_utf8, nat_lt, if◌then◌else◌}
use Rattle.std.specs.List.{list_all}
use Rattle.std.specs.Str.{encode_utf8_all}
use Rattle.std.proofs.lemmas.Bool.{and_parts}
use Rattle.std.proofs.lemmas.List.Sums.{sum_by-cons}
use Rattle.std.proofs.lemmas.Str.{encodes-append, encode_ascii}
use Rattle.usd_names.specs.Names.{is_start, spells_identifier, is_identifier, is_variant, is_number_word, is_property_name}
use Rattle.unicode_ident.specs.Ident.{is_xid_continue}
use Rattle.sdf_paths.specs.Paths.{is_prim_name, is_well_named, is_ordered, depth, written, Spells, IsTextOf, IsWellFormed}
use Rattle.sdf_paths.specs.Reader.{reader, start, step, finish, after_all}
use Rattle.sdf_paths.specs.declared.element.Element.{Element}
use Rattle.sdf_paths.specs.declared.element.Element.TheVariants.{Prim, Property, Selection}
use Rattle.sdf_paths.specs.declared.reader.Reader.{Reader}
use Rattle.sdf_paths.specs.declared.reader.Open.TheVariants.{Name, Set, AfterSet, Variant, Selected, PropertyName}
use Rattle.std.proofs.lemmas.Bool.Decides.{nat_tests}
use Rattle.sdf_paths.proofs.NameRuns.{after_more, run_name, run_name_rest, run_set, run_variant, run_joined, identifier_chars, variant_chars, property_chars, property_no_number, continue_slash, continue_open, continue_dot, continue_equals, start_slash, start_open, start_dot, variant_close}

-- the reader stands after the whole elements `done`, of which `names` are names of prims
record Stands (r : Reader) (done : List Element) (names : ℕ) (after_selection : Bool) : Type 0 where
  pub finishes : finish r ≡ Some done
  pub slash : nat_lt names 64 ≡ true → step r 47 ≡ Some (reader done (names + 1) (Name [] false))
  pub brace : step r 123 ≡ Some (reader done names (Set [] false))
  pub dot : step r 46 ≡ Some (reader done names (PropertyName [] false))
  pub bare : after_selection ≡ true → (c : ℕ) → is_start c ≡ true → nat_lt names 64 ≡ true → step r c ≡ Some (reader done (names + 1) (Name (encode_utf8 c) true))

stands_after_name : (before : List Element) (names : ℕ) (n : List ℕ) → Stands (reader before names (Name n true)) (before ++ Prim n ∷ []) names false
unfolding step finish
stands_after_name before names n = record {
  finishes = refl;
  slash = λ few. rw (continue_slash, few) refl;
  brace = rw continue_open refl;
  dot = rw continue_dot refl;
  bare = λ no. absurd cc;
}

stands_after_selection : (done : List Element) (names : ℕ) → Stands (reader done names Selected) done names true
unfolding step finish
stands_after_selection done names = record {
  finishes = refl;
  slash = λ few. rw (start_slash, few) refl;
  brace = rw start_open refl;
  dot = rw start_dot refl;
  bare = λ yes c starts few. rw (starts, few) refl;
}

-- the characters of a text, over which the reader runs to a path
pub record RunsOver (r : Reader) (text : List ℕ) (path : List Element) : Type 0 where
  pub cs : List ℕ
  pub bytes : encode_utf8_all cs ≡ text
  pub last : Reader
  pub ran : after_all cs (Some r) ≡ Some last
  pub finishes : finish last ≡ Some path

-- first some characters and then the rest
runs_then : (r s : Reader) (cs text more : List ℕ) (path : List Element) → after_all cs (Some r) ≡ Some s → text ≡ encode_utf8_all cs ++ more → RunsOver s more path → RunsOver r text path
runs_then r s cs text more path first is rest = record {
  cs = cs ++ rest.cs;
  bytes = encodes-append cs rest.cs ∙ ap (λ l. encode_utf8_all cs ++ l) rest.bytes ∙ sym is;
  last = rest.last;
  ran = after_more cs rest.cs (Some r) ∙ ap (after_all rest.cs) first ∙ rest.ran;
  finishes = rest.finishes;
}

same_path : (r : Reader) (text : List ℕ) (p q : List Element) → p ≡ q → RunsOver r text p → RunsOver r text q
same_path r text p q e h = subst (RunsOver r text) e h

slash_is : encode_utf8 47 ≡ 47 ∷ []
slash_is = encode_ascii 47 (lit< tt)

pub equals_step : (done : List Element) (names : ℕ) (s : List ℕ) → step (reader done names (Set s true)) 61 ≡ Some (reader done names (AfterSet s))
unfolding step
equals_step done names s = rw continue_equals refl

pub close_step : (done : List Element) (names : ℕ) (s v : List ℕ) → step (reader done names (Variant s v true)) 125 ≡ Some (reader (done ++ Selection s v ∷ []) names Selected)
unfolding step
close_step done names s v = rw variant_close refl

-- over the bytes of a name after its `/`
run_slash_name : (r : Reader) (done : List Element) (names : ℕ) (n : List ℕ) → step r 47 ≡ Some (reader done names (Name [] false)) → is_identifier n ≡ true
    → (cs : List ℕ) × ((encode_utf8_all cs ≡ 47 ∷ n) × (after_all cs (Some r) ≡ Some (reader done names (Name n true))))
run_slash_name r done names n slash good =
    let spelled = identifier_chars n good in
    (47 ∷ spelled.cs, (rw (slash_is, spelled.bytes) refl, ap (after_all spelled.cs) slash ∙ run_name done names spelled.cs spelled.good ∙ ap (λ m. Some (reader done names (Name m true))) spelled.bytes))

run_bare_name : (r : Reader) (done : List Element) (names : ℕ) (n : List ℕ) → ((c : ℕ) → is_start c ≡ true → step r c ≡ Some (reader done names (Name (encode_utf8 c) true))) → is_identifier n ≡ true
    → (cs : List ℕ) × ((encode_utf8_all cs ≡ n) × (after_all cs (Some r) ≡ Some (reader done names (Name n true))))
run_bare_name r done names n bare good = let spelled = identifier_chars n good in go spelled.cs spelled.bytes spelled.good
  where
    go : (cs : List ℕ) → encode_utf8_all cs ≡ n → spells_identifier cs ≡ true → (ds : List ℕ) × ((encode_utf8_all ds ≡ n) × (after_all ds (Some r) ≡ Some (reader done names (Name n true))))
    go [] bytes h = absurd cc
    go (c ∷ cs) bytes h =
        let both = and_parts (is_start c) (list_all is_xid_continue cs) h in
        (c ∷ cs, (bytes, ap (after_all cs) (bare c both.0) ∙ run_name_rest done names cs (encode_utf8 c) both.1 ∙ ap (λ m. Some (reader done names (Name m true))) bytes))

run_selection : (r : Reader) (done : List Element) (names : ℕ) (s v : List ℕ) → step r 123 ≡ Some (reader done names (Set [] false)) → is_identifier s ≡ true → is_variant v ≡ true
    → (cs : List ℕ) × ((encode_utf8_all cs ≡ written false (Selection s v)) × (after_all cs (Some r) ≡ Some (reader (done ++ Selection s v ∷ []) names Selected)))
run_selection r done names s v brace set_good variant_good =
    let set = identifier_chars s set_good in
    let variant = variant_chars v variant_good in
    let over_set : after_all set.cs (Some (reader done names (Set [] false))) ≡ Some (reader done names (Set s true)) =
    run_set done names set.cs set.good ∙ ap (λ m. Some (reader done names (Set m true))) set.bytes in
    let over_variant : after_all variant.cs (Some (reader done names (AfterSet s))) ≡ Some (reader done names (Variant s v true)) =
    run_variant done names s variant.cs variant.good ∙ ap (λ m. Some (reader done names (Variant s m true))) variant.bytes in
    let tail : after_all (variant.cs ++ 125 ∷ []) (Some (reader done names (AfterSet s))) ≡ Some (reader (done ++ Selection s v ∷ []) names Selected) =
    after_more variant.cs (125 ∷ []) (Some (reader done names (AfterSet s))) ∙ ap (after_all (125 ∷ [])) over_variant ∙ close_step done names s v in
    let middle : after_all (set.cs ++ (61 ∷ variant.cs) ++ (125 ∷ [])) (Some (reader done names (Set [] false))) ≡ Some (reader (done ++ Selection s v ∷ []) names Selected) =
    ap (λ l. after_all l (Some (reader done names (Set [] false)))) (append_assoc set.cs (61 ∷ variant.cs) (125 ∷ [])) ∙ after_more set.cs (61 ∷ (variant.cs ++ 125 ∷ [])) (Some (reader done names (Set [] false)))
    ∙ ap (after_all (61 ∷ (variant.cs ++ 125 ∷ []))) over_set ∙ ap (after_all (variant.cs ++ 125 ∷ [])) (equals_step done names s) ∙ tail in
    (123 ∷ (set.cs ++ (61 ∷ variant.cs) ++ (125 ∷ [])), (bytes set.cs variant.cs s v set.bytes variant.bytes, ap (after_all (set.cs ++ (61 ∷ variant.cs) ++ (125 ∷ []))) brace ∙ middle))
  where
    bytes : (xs ys s v : List ℕ) → encode_utf8_all xs ≡ s → encode_utf8_all ys ≡ v → encode_utf8_all (123 ∷ (xs ++ (61 ∷ ys) ++ (125 ∷ []))) ≡ 123 ∷ s ++ (61 ∷ v) ++ (125 ∷ [])
    bytes xs ys s v e f =
        rw (encode_ascii 123 (lit< tt), encodes-append (xs ++ 61 ∷ ys) (125 ∷ []), encodes-append xs (61 ∷ ys), encode_ascii 61 (lit< tt), encode_ascii 125 (lit< tt), e, f) refl

run_property : (r : Reader) (done : List Element) (names : ℕ) (n : List ℕ) → step r 46 ≡ Some (reader done names (PropertyName [] false)) → is_property_name n ≡ true
    → (cs : List ℕ) × ((encode_utf8_all cs ≡ 46 ∷ n) × (after_all cs (Some r) ≡ Some (reader done names (PropertyName n true))))
run_property r done names n dot good =
    let spelled = property_chars n good in
    (46 ∷ spelled.cs, (rw (encode_ascii 46 (lit< tt), spelled.bytes) refl, ap (after_all spelled.cs) dot ∙ run_joined done names false spelled.cs [] spelled.good ∙ ap (λ m. Some (reader done names (PropertyName m true))) spelled.bytes))

pub property_finishes : (done : List Element) (names : ℕ) (n : List ℕ) → is_number_word n ≡ false → finish (reader done names (PropertyName n true)) ≡ Some (done ++ Property n ∷ [])
unfolding finish
property_finishes done names n other = ap (λ b. if b then None else Some (done ++ Property n ∷ [])) other

room : (names more : ℕ) → names + (more + 1) ≤ 64 → nat_lt names 64 ≡ true
room names more h = grind (arith, nat_tests)

pub depth_prim : (n : List ℕ) (rest : List Element) → depth (Prim n ∷ rest) ≡ depth rest + 1
depth_prim n rest = sum_by-cons (λ e. cond (is_prim_name e) 1 0) (Prim n) rest ∙ add_comm 1 (depth rest)

pub depth_selection : (s v : List ℕ) (rest : List Element) → depth (Selection s v ∷ rest) ≡ depth rest
depth_selection s v rest = omega arith

-- the reader reads the rest of a path
reads_rest : (rest : List Element) (r : Reader) (done : List Element) (names : ℕ) (after_selection : Bool) (text : List ℕ)
    → Stands r done names after_selection → Spells after_selection rest text → list_all is_well_named rest ≡ true → is_ordered true rest ≡ true → names + depth rest ≤ 64
    → RunsOver r text (done ++ rest)
reads_rest [] r done names after_selection text stands spelled named ordered few =
    record { cs = []; bytes = sym spelled; last = r; ran = refl; finishes = stands.finishes ∙ ap Some (sym (append-nil done)) }
reads_rest (Prim n ∷ rest) r done names after_selection text stands (is_bare, (more, (text_is, spelled))) named ordered few =
    let good = and_parts (is_identifier n) (list_all is_well_named rest) named in
    let free : nat_lt names 64 ≡ true = room names (depth rest) (omega (arith, depth_prim n rest)) in
    let stands_next = stands_after_name done (names + 1) n in
    let next : RunsOver (reader done (names + 1) (Name n true)) more ((done ++ Prim n ∷ []) ++ rest) =
    reads_rest rest (reader done (names + 1) (Name n true)) (done ++ Prim n ∷ []) (names + 1) false more stands_next spelled good.1 ordered (omega (arith, depth_prim n rest)) in
    let front : (cs : List ℕ) × ((encode_utf8_all cs ≡ written (after_selection && is_bare) (Prim n)) × (after_all cs (Some r) ≡ Some (reader done (names + 1) (Name n true)))) =
    prim_front after_selection is_bare stands.bare free (stands.slash free) good.0 in
    same_path r text ((done ++ Prim n ∷ []) ++ rest) (done ++ Prim n ∷ rest) (append_assoc done (Prim n ∷ []) rest)
    (runs_then r (reader done (names + 1) (Name n true)) front.0 text more ((done ++ Prim n ∷ []) ++ rest) front.1.1 (text_is ∙ ap (λ l. l ++ more) (sym front.1.0)) next)
  where
    prim_front : (a b : Bool) → (a ≡ true → (c : ℕ) → is_start c ≡ true → nat_lt names 64 ≡ true → step r c ≡ Some (reader done (names + 1) (Name (encode_utf8 c) true)))
        → nat_lt names 64 ≡ true → step r 47 ≡ Some (reader done (names + 1) (Name [] false)) → is_identifier n ≡ true
        → (cs : List ℕ) × ((encode_utf8_all cs ≡ written (a && b) (Prim n)) × (after_all cs (Some r) ≡ Some (reader done (names + 1) (Name n true))))
    prim_front true true bare free slash good = run_bare_name r done (names + 1) n (λ c starts. bare refl c starts free) good
    prim_front true false bare free slash good = run_slash_name r done (names + 1) n slash good
    prim_front false b bare free slash good = run_slash_name r done (names + 1) n slash good
reads_rest (Selection s v ∷ rest) r done names after_selection text stands (is_bare, (more, (text_is, spelled))) named ordered few =
    let good = and_parts (is_identifier s && is_variant v) (list_all is_well_named rest) named in
    let both = and_parts (is_identifier s) (is_variant v) good.0 in
    let front = run_selection r done names s v stands.brace both.0 both.1 in
    let next : RunsOver (reader (done ++ Selection s v ∷ []) names Selected) more ((done ++ Selection s v ∷ []) ++ rest) =
    reads_rest rest (reader (done ++ Selection s v ∷ []) names Selected) (done ++ Selection s v ∷ []) names true more (stands_after_selection (done ++ Selection s v ∷ []) names) spelled good.1 ordered (omega (arith, depth_selection s v rest)) in
    same_path r text ((done ++ Selection s v ∷ []) ++ rest) (done ++ Selection s v ∷ rest) (append_assoc done (Selection s v ∷ []) rest)
    (runs_then r (reader (done ++ Selection s v ∷ []) names Selected) front.0 text more ((done ++ Selection s v ∷ []) ++ rest) front.1.1 (text_is ∙ ap (λ l. l ++ more) (sym front.1.0)) next)
reads_rest (Property n ∷ []) r done names after_selection text stands (is_bare, (more, (text_is, spelled))) named ordered few =
    let good = and_parts (is_property_name n) (list_all is_well_named []) named in
    let front = run_property r done names n stands.dot good.0 in
    record {
      cs = front.0;
      bytes = front.1.0 ∙ sym (text_is ∙ ap (λ l. (46 ∷ n) ++ l) spelled ∙ append-nil (46 ∷ n));
      last = reader done names (PropertyName n true);
      ran = front.1.1;
      finishes = property_finishes done names n (property_no_number n good.0);
    }
reads_rest (Property n ∷ e ∷ rest) r done names after_selection text stands spelled named ordered few = absurd cc

starts_with_slash : step start 47 ≡ Some (reader [] 1 (Name [] false))
unfolding step
starts_with_slash = refl

root_finishes : finish (reader [] 1 (Name [] false)) ≡ Some []
unfolding finish
root_finishes = refl

-- the reader reads a text of a path as that path
pub reads : (path : List Element) (text : List ℕ) → IsWellFormed path → IsTextOf path text → RunsOver start text path
reads [] text good spelled =
    record { cs = 47 ∷ []; bytes = rw slash_is (sym spelled); last = reader [] 1 (Name [] false); ran = starts_with_slash; finishes = root_finishes }
reads (Prim n ∷ rest) text good (is_bare, (more, (text_is, spelled))) =
    let named = and_parts (is_identifier n) (list_all is_well_named rest) good.named in
    let few : 1 + depth rest ≤ 64 = omega (arith, good.few, depth_prim n rest) in
    let front = run_slash_name start [] 1 n starts_with_slash named.0 in
    let next : RunsOver (reader [] 1 (Name n true)) more (Prim n ∷ rest) =
    reads_rest rest (reader [] 1 (Name n true)) (Prim n ∷ []) 1 false more (stands_after_name [] 1 n) spelled named.1 good.ordered few in
    runs_then start (reader [] 1 (Name n true)) front.0 text more (Prim n ∷ rest) front.1.1 (text_is ∙ ap (λ l. l ++ more) (sym front.1.0)) next
reads (Selection s v ∷ rest) text good spelled = absurd (cc good.ordered)
reads (Property n ∷ rest) text good spelled = absurd (cc good.ordered)
