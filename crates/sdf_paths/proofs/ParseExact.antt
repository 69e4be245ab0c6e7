-- What the reader answers is what the definition of a path's texts says.
use Rattle.std.proofs.Common.{◌≡◌, ℕ, ◌+◌, ◌<◌, ◌≤◌, Bool, true, false, ◌&&◌, List, [], ◌∷◌, ◌++◌, Option, Some, None, refl, sym, ap, ◌∙◌, subst, append_assoc, append-nil, inl, inr, arith, length, min, length-append}
use Rattle.std.specs.Prelude.{encode_utf8}
use Rattle.std.specs.Str.{encode_utf8_all, chars, IsUtf8}
use lib.Utf8.{scalar, scalars}
use Rattle.std.proofs.lemmas.Bool.{and_parts}
use Rattle.std.proofs.lemmas.Str.{encodes-append, encodes-chars, scalars-chars, chars_from_encodes, encodes_same, length-encode, len_utf8_bounds}
use Rattle.sdf_paths.specs.Paths.{IsTextOf, IsReadAs, IsPath, Spells, written, written_all, printed, is_selection}
use Rattle.sdf_paths.specs.Refusal.{GoesOn, Stops, IsStop, IsRefusedAt}
use Rattle.sdf_paths.specs.Reader.{reader, start, step, finish, after_all, after, RunsTo, RunsOut, Fails}
use Rattle.sdf_paths.specs.declared.element.Element.{Element}
use Rattle.sdf_paths.specs.declared.element.Element.TheVariants.{Prim, Property, Selection}
use Rattle.sdf_paths.specs.declared.reader.Reader.{Reader}
use Rattle.sdf_paths.specs.declared.reader.Open.{Open}
use Rattle.sdf_paths.specs.declared.reader.Open.TheVariants.{Nothing, Name, Set, AfterSet, Variant, Selected, PropertyName}
use Rattle.sdf_paths.proofs.NameRuns.{after_none, after_more, name_step, set_step, variant_step, after_set_run, property_step, start_a, variant_a, goes_on_x, no_number_with_x}
use Rattle.sdf_paths.proofs.Complete.{reads, RunsOver, equals_step, close_step, property_finishes}
use Rattle.sdf_paths.proofs.Sound.{holds_start, all_hold, finish_holds, IsSpelled}

-- ---- texts that are read

spelled_by_run : (cs : List ℕ) (last : Reader) (path : List Element) → scalars cs ≡ true → after cs ≡ Some last → finish last ≡ Some path → IsSpelled path (encode_utf8_all cs)
spelled_by_run cs last path valid ran done = finish_holds last (encode_utf8_all cs) path (all_hold cs start last [] holds_start valid ran) done

pub is_read : (text : List ℕ) (path : List Element) → IsUtf8 text → RunsTo text path → IsReadAs text path
is_read text path utf8 run =
    let spelled = spelled_by_run (chars text) run.last path (scalars-chars text utf8) run.ran run.done in
    record { well_formed = spelled.well_formed; spelled = subst (IsTextOf path) (encodes-chars text utf8) spelled.spelled; short = run.short }

-- the run over a text of a path ends in that path
runs_over : (cs : List ℕ) (path : List Element) → RunsOver start (encode_utf8_all cs) path → (last : Reader) × ((after cs ≡ Some last) × (finish last ≡ Some path))
runs_over cs path run = (run.last, (ap (λ (l : List ℕ). after_all l (Some start)) (sym (encodes_same run.cs cs run.bytes)) ∙ run.ran, run.finishes))

pub read_once : (text : List ℕ) (path other : List Element) → IsUtf8 text → RunsTo text path → IsReadAs text other → other ≡ path
read_once text path other utf8 run h =
    let over = reads other text h.well_formed h.spelled in
    let same = runs_over (chars text) other (subst (λ t. RunsOver start t other) (sym (encodes-chars text utf8)) over) in
    one run.last same.0 run.ran same.1.0 run.done same.1.1
  where
    one : (r s : Reader) → after (chars text) ≡ Some r → after (chars text) ≡ Some s → finish r ≡ Some path → finish s ≡ Some other → other ≡ path
    one r s a b p q =
        let readers : Some r ≡ Some s = sym a ∙ b in
        let same : r ≡ s = cc in
        let paths : Some other ≡ Some path = sym q ∙ ap finish (sym same) ∙ p in
        cc

-- ---- some path begins with all that was read

-- characters that complete what the reader holds to a path
record Completes (r : Reader) : Type 0 where
  pub rest : List ℕ
  pub valid : scalars rest ≡ true
  pub last : Reader
  pub path : List Element
  pub ran : after_all rest (Some r) ≡ Some last
  pub done : finish last ≡ Some path

name_ends : (elements : List Element) (names : ℕ) (name : List ℕ) → finish (reader elements names (Name name true)) ≡ Some (elements ++ Prim name ∷ [])
unfolding finish
name_ends elements names name = refl

selection_ends : (elements : List Element) (names : ℕ) → finish (reader elements names Selected) ≡ Some elements
unfolding finish
selection_ends elements names = refl

nothing_step : (elements : List Element) (names : ℕ) → step (reader elements names Nothing) 47 ≡ Some (reader elements 1 (Name [] false))
unfolding step
nothing_step elements names = refl

complete_name : (elements : List Element) (names : ℕ) (name : List ℕ) → Completes (reader elements names (Name name false))
complete_name elements names name = record {
  rest = 97 ∷ [];
  valid = refl;
  last = reader elements names (Name (name ++ encode_utf8 97) true);
  path = elements ++ Prim (name ++ encode_utf8 97) ∷ [];
  ran = name_step elements names name false 97 start_a;
  done = name_ends elements names (name ++ encode_utf8 97);
}

complete_variant : (elements : List Element) (names : ℕ) (set variant : List ℕ) (begun : Bool) → Completes (reader elements names (Variant set variant begun))
complete_variant elements names set variant begun = record {
  rest = 97 ∷ 125 ∷ [];
  valid = refl;
  last = reader (elements ++ Selection set (variant ++ encode_utf8 97) ∷ []) names Selected;
  path = elements ++ Selection set (variant ++ encode_utf8 97) ∷ [];
  ran = ap (after_all (125 ∷ [])) (variant_step elements names set variant begun 97 variant_a) ∙ close_step elements names set (variant ++ encode_utf8 97);
  done = selection_ends _ names;
}

-- also where what has been read of the name is a number
complete_property : (elements : List Element) (names : ℕ) (name : List ℕ) (begun : Bool) → Completes (reader elements names (PropertyName name begun))
complete_property elements names name begun = record {
  rest = 120 ∷ [];
  valid = refl;
  last = reader elements names (PropertyName (name ++ encode_utf8 120) true);
  path = elements ++ Property (name ++ encode_utf8 120) ∷ [];
  ran = property_step elements names name begun 120 (goes_on_x begun);
  done = property_finishes elements names (name ++ encode_utf8 120) (no_number_with_x name);
}

after_set_runs : (elements : List Element) (names : ℕ) (set : List ℕ) → after_all (97 ∷ 125 ∷ []) (Some (reader elements names (AfterSet set))) ≡ Some (reader (elements ++ Selection set (encode_utf8 97) ∷ []) names Selected)
after_set_runs elements names set = ap (after_all (125 ∷ [])) (after_set_run elements names set 97 variant_a) ∙ close_step elements names set (encode_utf8 97)

set_runs : (elements : List Element) (names : ℕ) (set : List ℕ) → after_all (61 ∷ 97 ∷ 125 ∷ []) (Some (reader elements names (Set set true))) ≡ Some (reader (elements ++ Selection set (encode_utf8 97) ∷ []) names Selected)
set_runs elements names set = ap (after_all (97 ∷ 125 ∷ [])) (equals_step elements names set) ∙ after_set_runs elements names set

completes_open : (elements : List Element) (names : ℕ) (o : Open) → Completes (reader elements names o)
completes_open elements names Nothing =
    let name = complete_name elements 1 [] in
    record { rest = 47 ∷ name.rest; valid = name.valid; last = name.last; path = name.path; ran = ap (after_all name.rest) (nothing_step elements names) ∙ name.ran; done = name.done }
completes_open elements names (Name name true) = record {
  rest = [];
  valid = refl;
  last = reader elements names (Name name true);
  path = elements ++ Prim name ∷ [];
  ran = refl;
  done = name_ends elements names name;
}
completes_open elements names (Name name false) = complete_name elements names name
completes_open elements names (Set set true) = record {
  rest = 61 ∷ 97 ∷ 125 ∷ [];
  valid = refl;
  last = reader (elements ++ Selection set (encode_utf8 97) ∷ []) names Selected;
  path = elements ++ Selection set (encode_utf8 97) ∷ [];
  ran = set_runs elements names set;
  done = selection_ends _ names;
}
completes_open elements names (Set set false) = record {
  rest = 97 ∷ 61 ∷ 97 ∷ 125 ∷ [];
  valid = refl;
  last = reader (elements ++ Selection (set ++ encode_utf8 97) (encode_utf8 97) ∷ []) names Selected;
  path = elements ++ Selection (set ++ encode_utf8 97) (encode_utf8 97) ∷ [];
  ran = ap (after_all (61 ∷ 97 ∷ 125 ∷ [])) (set_step elements names set false 97 start_a) ∙ set_runs elements names (set ++ encode_utf8 97);
  done = selection_ends _ names;
}
completes_open elements names (AfterSet set) = record {
  rest = 97 ∷ 125 ∷ [];
  valid = refl;
  last = reader (elements ++ Selection set (encode_utf8 97) ∷ []) names Selected;
  path = elements ++ Selection set (encode_utf8 97) ∷ [];
  ran = after_set_runs elements names set;
  done = selection_ends _ names;
}
completes_open elements names (Variant set variant begun) = complete_variant elements names set variant begun
completes_open elements names Selected = record { rest = []; valid = refl; last = reader elements names Selected; path = elements; ran = refl; done = selection_ends elements names }
completes_open elements names (PropertyName name begun) = complete_property elements names name begun

completes : (r : Reader) → Completes r
completes r = completes_open r.elements r.names r.open_part

scalars_both : (xs ys : List ℕ) → scalars xs ≡ true → scalars ys ≡ true → scalars (xs ++ ys) ≡ true
scalars_both [] ys h k = k
scalars_both (x ∷ xs) ys h k = let both = and_parts (scalar x) (scalars xs) h in rw (both.0, scalars_both xs ys both.1 k) refl

scalars_front : (xs ys : List ℕ) → scalars (xs ++ ys) ≡ true → scalars xs ≡ true
scalars_front [] ys h = refl
scalars_front (x ∷ xs) ys h = let both = and_parts (scalar x) (scalars (xs ++ ys)) h in rw (both.0, scalars_front xs ys both.1) refl

goes_on_after : (front : List ℕ) (r : Reader) → scalars front ≡ true → after front ≡ Some r → GoesOn front
goes_on_after front r valid ran =
    let more = completes r in
    let run : after (front ++ more.rest) ≡ Some more.last = after_more front more.rest (Some start) ∙ ap (after_all more.rest) ran ∙ more.ran in
    let spelled = spelled_by_run (front ++ more.rest) more.last more.path (scalars_both front more.rest valid more.valid) run more.done in
    (more.rest, (more.path, (spelled.well_formed, spelled.spelled)))

-- ---- texts that are refused

-- where the next character fails no text of a path goes on with it
no_run : (front more : List ℕ) (c : ℕ) (r : Reader) (path : List Element) → after front ≡ Some r → step r c ≡ None → RunsOver start (encode_utf8_all (front ++ (c ∷ more))) path → ⊥
no_run front more c r path ran fails run =
    let whole = runs_over (front ++ (c ∷ more)) path run in
    let none : after (front ++ (c ∷ more)) ≡ None = after_more front (c ∷ more) (Some start) ∙ ap (after_all (c ∷ more)) ran ∙ ap (after_all more) fails ∙ after_none more in
    cc (none, whole.1.0)

stops_at : (front back : List ℕ) (r : Reader) → after front ≡ Some r → Fails r back → Stops front back
stops_at front [] r ran fails = tt
stops_at front (c ∷ back) r ran fails =
    λ h. no_run front h.0 c r h.1.0 ran fails
    (subst (λ (cs : List ℕ). RunsOver start (encode_utf8_all cs) h.1.0) (append_assoc front (c ∷ []) h.0) (reads h.1.0 (encode_utf8_all ((front ++ c ∷ []) ++ h.0)) h.1.1.0 h.1.1.1))

unread_at : (front back : List ℕ) (r : Reader) (path : List Element) → after front ≡ Some r → Fails r back → IsReadAs (encode_utf8_all (front ++ back)) path → ⊥
unread_at front [] r path ran fails h =
    let run = reads path (encode_utf8_all (front ++ [])) h.well_formed h.spelled in
    let whole = runs_over (front ++ []) path run in
    let same : Some r ≡ Some whole.0 = sym ran ∙ ap (λ (l : List ℕ). after_all l (Some start)) (sym (append-nil front)) ∙ whole.1.0 in
    ends whole.0 same whole.1.1
  where
    ends : (s : Reader) → Some r ≡ Some s → finish s ≡ Some path → ⊥
    ends s same done = let readers : r ≡ s = cc in let none : finish s ≡ None = ap finish (sym readers) ∙ fails in cc
unread_at front (c ∷ back) r path ran fails h = no_run front back c r path ran fails (reads path _ h.well_formed h.spelled)

-- a place where a text stops, after what was read of it
record LaterStop (text : List ℕ) (from : ℕ) : Type 0 where
  pub stop : ℕ
  pub stopped : IsStop text stop
  pub later : from ≤ stop

later_stop : (back front : List ℕ) (r : Reader) → scalars front ≡ true → scalars back ≡ true → after front ≡ Some r → LaterStop (encode_utf8_all (front ++ back)) (length (encode_utf8_all front))
later_stop [] front r valid rest_valid ran = record {
  stop = length (encode_utf8_all front);
  stopped = record { front = front; back = []; whole = refl; place = refl; goes_on = goes_on_after front r valid ran; stops = tt };
  later = omega arith;
}
later_stop (c ∷ back) front r valid rest_valid ran =
    let both = and_parts (scalar c) (scalars back) rest_valid in
    go (step r c) refl (λ next is. widen (later_stop back (front ++ c ∷ []) next (scalars_both front (c ∷ []) valid (rw both.0 refl)) both.1
    (after_more front (c ∷ []) (Some start) ∙ ap (after_all (c ∷ [])) ran ∙ is)))
  where
    widen : LaterStop (encode_utf8_all ((front ++ c ∷ []) ++ back)) (length (encode_utf8_all (front ++ c ∷ []))) → LaterStop (encode_utf8_all (front ++ c ∷ back)) (length (encode_utf8_all front))
    widen h = record {
      stop = h.stop;
      stopped = subst (λ (cs : List ℕ). IsStop (encode_utf8_all cs) h.stop) (append_assoc front (c ∷ []) back) h.stopped;
      later = omega (arith, h.later, ap length (encodes-append front (c ∷ [])), length-append (encode_utf8_all front) (encode_utf8_all (c ∷ [])));
    }

    go : (o : Option Reader) → step r c ≡ o → ((next : Reader) → step r c ≡ Some next → LaterStop (encode_utf8_all (front ++ c ∷ back)) (length (encode_utf8_all front)))
        → LaterStop (encode_utf8_all (front ++ c ∷ back)) (length (encode_utf8_all front))
    go None is again = record {
      stop = length (encode_utf8_all front);
      stopped = record { front = front; back = c ∷ back; whole = refl; place = refl; goes_on = goes_on_after front r valid ran; stops = stops_at front (c ∷ back) r ran is };
      later = omega arith;
    }
    go (Some next) is again = again next is

scalars_of : (cs text : List ℕ) → IsUtf8 text → text ≡ encode_utf8_all cs → scalars cs ≡ true
scalars_of cs text utf8 is = ap scalars (chars_from_encodes cs text utf8 (sym is)) ∙ scalars-chars text utf8

scalars_back : (xs ys : List ℕ) → scalars (xs ++ ys) ≡ true → scalars ys ≡ true
scalars_back [] ys h = h
scalars_back (x ∷ xs) ys h = scalars_back xs ys (and_parts (scalar x) (scalars (xs ++ ys)) h).1

least : (at : ℕ) → at ≤ 4096 → at ≡ min at 4096
least at h = omega arith

greatest : (at stop from : ℕ) → at ≡ 4096 → 4096 ≤ from → from ≤ stop → at ≡ min stop 4096
greatest at stop from e h k = omega arith

pub is_refused : (text : List ℕ) (at : ℕ) → IsUtf8 text → RunsOut text at → IsRefusedAt text at
is_refused text at utf8 out = elim out.why [
  | inl (place, (short, fails)) ↦ record {
    unread = λ path h. unread_at out.front out.back out.last path out.ran fails (subst (λ (t : List ℕ). IsReadAs t path) out.whole h);
    stop = at;
    stopped = record { front = out.front; back = out.back; whole = out.whole; place = place; goes_on = goes_on_after out.front out.last front_valid out.ran; stops = stops_at out.front out.back out.last out.ran fails };
    place = least at short;
  }
  | inr (is, (far, long)) ↦
      let later = later_stop out.back out.front out.last front_valid back_valid out.ran in
      record {
        unread = λ path h. too_long path h long;
        stop = later.stop;
        stopped = subst (λ (t : List ℕ). IsStop t later.stop) (sym out.whole) later.stopped;
        place = greatest at later.stop (length (encode_utf8_all out.front)) is far later.later;
      }
]
  where
    valid : scalars (out.front ++ out.back) ≡ true
    valid = scalars_of (out.front ++ out.back) text utf8 out.whole

    front_valid : scalars out.front ≡ true
    front_valid = scalars_front out.front out.back valid

    back_valid : scalars out.back ≡ true
    back_valid = scalars_back out.front out.back valid

    too_long : (path : List Element) → IsReadAs text path → 4096 < length text → ⊥
    too_long path h long = omega (arith, h.short)

-- ---- printed texts

written_true : (after_selection : Bool) (e : Element) → written after_selection e ≡ written (after_selection && true) e
written_true true e = refl
written_true false e = refl

spells_written : (path : List Element) (after_selection : Bool) → Spells after_selection path (written_all after_selection path)
spells_written [] a = refl
spells_written (e ∷ path) a = (true, (written_all (is_selection e) path, (ap (λ l. l ++ written_all (is_selection e) path) (written_true a e), spells_written path (is_selection e))))

text_printed : (path : List Element) → IsTextOf path (printed path)
text_printed [] = refl
text_printed (e ∷ path) = spells_written (e ∷ path) false

-- the printed text of a path is read as the path
pub read_printed : (path : List Element) → IsPath path → IsReadAs (printed path) path
read_printed path h = record { well_formed = h.well_formed; spelled = text_printed path; short = h.short }

written_shorter : (a b : Bool) (e : Element) → length (written a e) ≤ length (written (a && b) e)
written_shorter true true e = omega arith
written_shorter true false (Prim n) = omega arith
written_shorter true false (Property n) = omega arith
written_shorter true false (Selection s v) = omega arith
written_shorter false b e = omega arith

spelled_shorter : (path : List Element) (a : Bool) (text : List ℕ) → Spells a path text → length (written_all a path) ≤ length text
spelled_shorter [] a text h = omega arith
spelled_shorter (e ∷ path) a text (b, (more, (is, spelled))) =
    let rest = spelled_shorter path (is_selection e) more spelled in
    omega (arith, rest, written_shorter a b e, ap length is, length-append (written (a && b) e) more, length-append (written a e) (written_all (is_selection e) path))

text_shorter : (path : List Element) (text : List ℕ) → IsTextOf path text → length (printed path) ≤ length text
text_shorter [] text h = omega (arith, ap length h)
text_shorter (e ∷ path) text h = spelled_shorter (e ∷ path) false text h

-- no text of a path is shorter than the printed one
pub path_of_read : (text : List ℕ) (path : List Element) → IsReadAs text path → IsPath path
path_of_read text path h = record { well_formed = h.well_formed; short = omega (arith, h.short, text_shorter path text h.spelled) }

-- ---- one character more

pub ran_more : (front : List ℕ) (r next : Reader) (c : ℕ) → after front ≡ Some r → Some next ≡ step r c → after (front ++ c ∷ []) ≡ Some next
ran_more front r next c ran is = after_more front (c ∷ []) (Some start) ∙ ap (after_all (c ∷ [])) ran ∙ sym is

pub whole_more : (text front rest rest' : List ℕ) (c : ℕ) → text ≡ encode_utf8_all front ++ rest → rest ≡ encode_utf8 c ++ rest' → text ≡ encode_utf8_all (front ++ c ∷ []) ++ rest'
whole_more text front rest rest' c h is =
    h ∙ ap (λ l. encode_utf8_all front ++ l) is ∙ sym (append_assoc (encode_utf8_all front) (encode_utf8 c) rest')
    ∙ ap (λ l. l ++ rest') (ap (λ l. encode_utf8_all front ++ l) (sym (append-nil (encode_utf8 c))) ∙ sym (encodes-append front (c ∷ [])))

pub place_more : (at : ℕ) (front : List ℕ) (c : ℕ) → at ≡ length (encode_utf8_all front) → at + length (encode_utf8 c) ≡ length (encode_utf8_all (front ++ c ∷ []))
place_more at front c h =
    ap (λ k. k + length (encode_utf8 c)) h ∙ sym (ap length (encodes-append front (c ∷ [])) ∙ length-append (encode_utf8_all front) (encode_utf8_all (c ∷ [])) ∙ ap (λ l. length (encode_utf8_all front) + length l) (append-nil (encode_utf8 c)))

whole_of : (text front rest rest' : List ℕ) (c : ℕ) → IsUtf8 rest' → text ≡ encode_utf8_all front ++ rest → rest ≡ encode_utf8 c ++ rest' → text ≡ encode_utf8_all (front ++ (c ∷ chars rest'))
whole_of text front rest rest' c utf8 h is =
    h ∙ ap (λ l. encode_utf8_all front ++ l) (is ∙ ap (λ l. encode_utf8 c ++ l) (sym (encodes-chars rest' utf8))) ∙ sym (encodes-append front (c ∷ chars rest'))

-- the reader fails at the next character
pub out_at : (text front rest rest' : List ℕ) (c at : ℕ) (r : Reader) → IsUtf8 rest' → text ≡ encode_utf8_all front ++ rest → rest ≡ encode_utf8 c ++ rest' → after front ≡ Some r
    → at ≡ length (encode_utf8_all front) → at ≤ 4096 → None ≡ step r c → RunsOut text at
out_at text front rest rest' c at r utf8 h is ran place short fails =
    record { front = front; back = c ∷ chars rest'; whole = whole_of text front rest rest' c utf8 h is; last = r; ran = ran; why = inl (place, (short, sym fails)) }

-- the text is too long, and a character is left
pub out_long : (text front rest rest' : List ℕ) (c at : ℕ) (r : Reader) → IsUtf8 rest' → text ≡ encode_utf8_all front ++ rest → rest ≡ encode_utf8 c ++ rest' → after front ≡ Some r
    → at ≡ length (encode_utf8_all front) → 4096 ≤ at → RunsOut text 4096
out_long text front rest rest' c at r utf8 h is ran place far =
    record { front = front; back = c ∷ chars rest'; whole = whole_of text front rest rest' c utf8 h is; last = r; ran = ran; why = inr (refl, (omega (arith, place, far), longer)) }
  where
    longer : 4096 < length text
    longer = omega (arith, place, far, ap length h, length-append (encode_utf8_all front) rest, ap length is, length-append (encode_utf8 c) rest', length-encode c, len_utf8_bounds c)

all_of : (text front rest : List ℕ) → text ≡ encode_utf8_all front ++ rest → length rest ≡ 0 → text ≡ encode_utf8_all front
all_of text front [] h e = h ∙ append-nil (encode_utf8_all front)
all_of text front (x ∷ rest) h e = absurd (omega arith)

pub out_after : (text front rest : List ℕ) (at : ℕ) (r : Reader) → text ≡ encode_utf8_all front ++ rest → length rest ≡ 0 → after front ≡ Some r
    → at ≡ length (encode_utf8_all front) → 4096 < at → RunsOut text 4096
out_after text front rest at r h e ran place far =
    let is = all_of text front rest h e in
    record { front = front; back = []; whole = is ∙ ap encode_utf8_all (sym (append-nil front)); last = r; ran = ran; why = inr (refl, (omega (arith, place, far), omega (arith, place, far, ap length is))) }

pub out_end : (text front rest : List ℕ) (at : ℕ) (r : Reader) → text ≡ encode_utf8_all front ++ rest → length rest ≡ 0 → after front ≡ Some r
    → at ≡ length (encode_utf8_all front) → at ≤ 4096 → None ≡ finish r → RunsOut text at
out_end text front rest at r h e ran place short fails =
    let is = all_of text front rest h e in
    record { front = front; back = []; whole = is ∙ ap encode_utf8_all (sym (append-nil front)); last = r; ran = ran; why = inl (place, (short, sym fails)) }

pub to_end : (text front rest : List ℕ) (at : ℕ) (r : Reader) (path : List Element) → IsUtf8 text → text ≡ encode_utf8_all front ++ rest → length rest ≡ 0 → after front ≡ Some r
    → at ≡ length (encode_utf8_all front) → at ≤ 4096 → Some path ≡ finish r → RunsTo text path
to_end text front rest at r path utf8 h e ran place short done =
    let is = all_of text front rest h e in
    let same : front ≡ chars text = chars_from_encodes front text utf8 (sym is) in
    record { last = r; ran = ap (λ (l : List ℕ). after_all l (Some start)) (sym same) ∙ ran; done = sym done; short = omega (arith, place, short, ap length is) }
