-- Lines of bytes that come in pieces.
use Rattle.std.proofs.Common.{◌≡◌, ℕ, ◌+◌, ◌-◌, ◌<◌, ◌≤◌, Bool, true, false, cond, List, [], ◌∷◌, ◌++◌, length, take, drop, get_or, Option, Some, None, refl, ap, sym, ◌∙◌, arith, append_assoc, append-nil}
use Rattle.std.specs.Prelude.{◌==◌}
use Rattle.std.specs.Io.KnownBytes.{Consumes, IsAtEnd, Keeps}
use Rattle.std.proofs.lemmas.List.{take_all, length-drop, drop-drop, length-take, take-append-drop, length-append, take-append-le, drop-append-le}
use Rattle.std.proofs.Math.ListN.{drop_of_length-le}
use Rattle.std.proofs.Math.Seq.{take-add}
use Rattle.std.proofs.lemmas.Bool.{eqb-false, eqb-true, false_from_ne_true, ltb-false, ltb-true, or_parts}
use Rattle.std.specs.Prelude.{nat_lt}
use Rattle.std.proofs.KnownBytes.{Consumes-trans}
use Rattle.session_script.specs.Pieces.{onto, lines_of, IsFed}
use Rattle.session_script.specs.Told.{BothTold, Heeds}
use Rattle.session_script.specs.States.{has_feed, IsScanned}
use Rattle.session_script.specs.Fronts.{IsFront, Grows}
use Rattle.session_script.specs.declared.front.Front.TheVariants.{Line, TooLong, End}
use Rattle.session_script.proofs.Going.{told_then}
use Rattle.session_script.proofs.Pieces.{glue, glue-first, take_next}

ne_test : (x y : ℕ) → (x ≡ y → ⊥) → (x == y) ≡ false
ne_test x y ne = false_from_ne_true (x == y) (λ e. ne (eqb-true x y e))

pub has_feed-append : (xs ys : List ℕ) → has_feed xs ≡ false → has_feed ys ≡ false → has_feed (xs ++ ys) ≡ false
has_feed-append [] ys a b = b
has_feed-append (x ∷ xs) ys a b = let two = or_parts (x == 10) (has_feed xs) a in rw two.0 (has_feed-append xs ys two.1 b)

pub no_feed_more : (bytes : List ℕ) (from i : ℕ) → from ≤ i → i < length bytes → has_feed (take (i - from) (drop from bytes)) ≡ false → (get_or bytes i 0 ≡ 10 → ⊥) → has_feed (take (i + 1 - from) (drop from bytes)) ≡ false
no_feed_more bytes from i before within none ne =
    rw (take_next bytes from i before within) (has_feed-append (take (i - from) (drop from bytes)) (get_or bytes i 0 ∷ []) none (rw (ne_test (get_or bytes i 0) 10 ne) refl))

lines-feed : (cs : List ℕ) → lines_of (10 ∷ cs) ≡ (10 ∷ []) ∷ lines_of cs
unfolding lines_of
lines-feed cs = refl

lines-more : (c : ℕ) (cs : List ℕ) → (c == 10) ≡ false → lines_of (c ∷ cs) ≡ onto c (lines_of cs)
unfolding lines_of
lines-more c cs e = rw (e, lines_of) refl

lines-nil : lines_of [] ≡ []
unfolding lines_of
lines-nil = refl

-- bytes without a line feed go before the first line
pub lines-glue : (xs ys : List ℕ) → has_feed xs ≡ false → lines_of (xs ++ ys) ≡ glue xs (lines_of ys)
lines-glue [] ys e = refl
lines-glue (x ∷ xs) ys e = let two = or_parts (x == 10) (has_feed xs) e in lines-more x (xs ++ ys) two.0 ∙ ap (onto x) (lines-glue xs ys two.1)

-- a line up to its line feed
pub lines-cut : (xs ys : List ℕ) → has_feed xs ≡ false → lines_of (xs ++ 10 ∷ ys) ≡ (xs ++ 10 ∷ []) ∷ lines_of ys
lines-cut xs ys e = lines-glue xs (10 ∷ ys) e ∙ ap (glue xs) (lines-feed ys) ∙ glue-first xs (10 ∷ []) (lines_of ys)

glue-none : (x : ℕ) (xs : List ℕ) → glue (x ∷ xs) [] ≡ (x ∷ xs) ∷ []
glue-none x [] = refl
glue-none x (y ∷ xs) = ap (onto x) (glue-none y xs)

-- a last line without a line feed
pub lines-last : (xs : List ℕ) → 0 < length xs → has_feed xs ≡ false → lines_of xs ≡ xs ∷ []
lines-last [] some e = absurd (omega arith)
lines-last (x ∷ xs) some e = ap lines_of (sym (append-nil (x ∷ xs))) ∙ lines-glue (x ∷ xs) [] e ∙ ap (glue (x ∷ xs)) lines-nil ∙ glue-none x xs

-- the first line is at least as long as the bytes that go before it
longer : (xs : List ℕ) (ps : List (List ℕ)) → 0 < length xs → (l : List ℕ) × (ls : List (List ℕ)) × (glue xs ps ≡ l ∷ ls) × (length xs ≤ length l)
longer [] ps some = absurd (omega arith)
longer (x ∷ []) [] some = (x ∷ [], [], refl, omega arith)
longer (x ∷ []) (p ∷ ps) some = (x ∷ p, ps, refl, omega arith)
longer (x ∷ y ∷ xs) ps some = let r = longer (y ∷ xs) ps (omega arith) in (x ∷ r.0, r.1, ap (onto x) r.2, omega (arith, r.3))

pub lines-long : (xs ys : List ℕ) → 0 < length xs → has_feed xs ≡ false → (l : List ℕ) × (ls : List (List ℕ)) × (lines_of (xs ++ ys) ≡ l ∷ ls) × (length xs ≤ length l)
lines-long xs ys some e = let r = longer xs (lines_of ys) some in (r.0, r.1, lines-glue xs ys e ∙ r.2, r.3)

-- a part that is scanned, and then another
scanned_more : (start scanned at : ℕ) (bytes : List ℕ) → start ≤ scanned → scanned ≤ at → at ≤ length bytes
    → take (at - start) (drop start bytes) ≡ take (scanned - start) (drop start bytes) ++ take (at - scanned) (drop scanned bytes)
scanned_more start scanned at bytes a b within =
    let d = drop start bytes in
    let n : at - start ≡ (scanned - start) + (at - scanned) = omega arith in
    let here : start + (scanned - start) ≡ scanned = omega arith in
    ap (λ (k : ℕ). take k d) n ∙ take-add (scanned - start) (at - scanned) d
    ∙ ap (λ (l : List ℕ). take (scanned - start) d ++ take (at - scanned) l) (drop-drop (scanned - start) start bytes ∙ ap (λ (k : ℕ). drop k bytes) here)

pub scan_to : (start scanned at : ℕ) (bytes : List ℕ) → IsScanned start scanned bytes → scanned ≤ at → at ≤ length bytes → has_feed (take (at - scanned) (drop scanned bytes)) ≡ false
    → has_feed (take (at - start) (drop start bytes)) ≡ false
scan_to start scanned at bytes s b within none =
    rw (scanned_more start scanned at bytes s.before b within) (has_feed-append (take (scanned - start) (drop start bytes)) (take (at - scanned) (drop scanned bytes)) s.no_feed none)

all_rest : (from : ℕ) (bytes : List ℕ) → take (length bytes - from) (drop from bytes) ≡ drop from bytes
all_rest from bytes = take_all (length bytes - from) (drop from bytes) (omega (arith, length-drop from bytes))

pub scan_all : (start scanned : ℕ) (bytes : List ℕ) → IsScanned start scanned bytes → has_feed (drop scanned bytes) ≡ false → IsScanned start (length bytes) bytes
scan_all start scanned bytes s none = record {
  before = omega (arith, s.before, s.within);
  within = omega arith;
  no_feed = scan_to start scanned (length bytes) bytes s s.within (omega arith) (rw (all_rest scanned bytes) none);
}

-- more bytes at the end leave what was scanned
pub scan_more : (start scanned : ℕ) (old piece new : List ℕ) → IsScanned start scanned old → new ≡ old ++ piece → IsScanned start scanned new
scan_more start scanned old piece new s e = rw e (record {
  before = s.before;
  within = omega (arith, s.within, length-append old piece);
  no_feed =
      let from : drop start (old ++ piece) ≡ drop start old ++ piece = drop-append-le start old piece (omega (arith, s.before, s.within)) in
      let front : take (scanned - start) (drop start old ++ piece) ≡ take (scanned - start) (drop start old) = take-append-le (scanned - start) (drop start old) piece (omega (arith, length-drop start old, s.within)) in
      rw (from, front) s.no_feed;
})

-- the bytes behind the start, none of which is a line feed
pub held_scanned : (start : ℕ) (bytes : List ℕ) → IsScanned start (length bytes) bytes → has_feed (drop start bytes) ≡ false
held_scanned start bytes s = rw (all_rest start bytes) at s.no_feed

line_fed : (start at : ℕ) (bytes : List ℕ) → start ≤ at → at < length bytes → get_or bytes at 0 ≡ 10 → IsFed (take (at + 1 - start) (drop start bytes))
line_fed start at bytes before within feed =
    let xs = take (at - start) (drop start bytes) in
    (xs, take_next bytes start at before within ∙ ap (λ (x : ℕ). xs ++ x ∷ []) feed)

line_front : (start at : ℕ) (bytes more : List ℕ) → start ≤ at → at < length bytes → get_or bytes at 0 ≡ 10 → has_feed (take (at - start) (drop start bytes)) ≡ false
    → lines_of (drop start bytes ++ more) ≡ take (at + 1 - start) (drop start bytes) ∷ lines_of (drop (at + 1) bytes ++ more)
line_front start at bytes more before within feed none =
    let d = drop start bytes in
    let xs = take (at - start) d in
    let n = at + 1 - start in
    let next : take n d ≡ xs ++ 10 ∷ [] = take_next bytes start at before within ∙ ap (λ (x : ℕ). xs ++ x ∷ []) feed in
    let behind : drop n d ≡ drop (at + 1) bytes = drop-drop n start bytes ∙ ap (λ (k : ℕ). drop k bytes) (let e : start + n ≡ at + 1 = omega arith in e) in
    let split : d ≡ xs ++ 10 ∷ drop (at + 1) bytes = sym (take-append-drop n d) ∙ ap (λ (l : List ℕ). l ++ drop n d) next ∙ append_assoc xs (10 ∷ []) (drop n d) ∙ ap (λ (l : List ℕ). xs ++ 10 ∷ l) behind in
    let whole : d ++ more ≡ xs ++ 10 ∷ (drop (at + 1) bytes ++ more) = ap (λ (l : List ℕ). l ++ more) split ∙ append_assoc xs (10 ∷ drop (at + 1) bytes) more in
    ap lines_of whole ∙ lines-cut xs (drop (at + 1) bytes ++ more) none ∙ ap (λ (l : List ℕ). l ∷ lines_of (drop (at + 1) bytes ++ more)) (sym next)

-- what holds of all bytes holds of those that a source has left, which it told before
told : (before after : Option (List ℕ)) (piece : List ℕ) (P : List ℕ → Type 0) → Consumes before after piece → ((more : List ℕ) → P more) → BothTold before after (λ _ more. P more)
told None after piece P c h = tt
told (Some a) None piece P c h = absurd c
told (Some a) (Some more) piece P c h = h more

by_test : (b ended : Bool) (start end : ℕ) (bytes piece : List ℕ) (before after : Option (List ℕ)) → nat_lt 16777216 end ≡ b → start < end → end ≤ length bytes → Consumes before after piece
    → ((more : List ℕ) → lines_of (drop start bytes ++ more) ≡ take (end - start) (drop start bytes) ∷ lines_of (drop end bytes ++ more))
    → IsFed (take (end - start) (drop start bytes)) → IsFront (cond b TooLong (Line (end - start))) start bytes ended before after
by_test true ended start end bytes piece before after long some within c line fed =
    told before after piece _ c (λ more. (take (end - start) (drop start bytes), lines_of (drop end bytes ++ more), line more, omega (arith, ltb-true 16777216 end long, length-take (end - start) (drop start bytes), length-drop start bytes)))
by_test false ended start end bytes piece before after short some within c line fed =
    let e : start + (end - start) ≡ end = omega arith in
    (omega arith, omega (arith, e), omega (arith, e, ltb-false 16777216 end short), told before after piece _ c (λ more. line more ∙ ap (λ (k : ℕ). take (end - start) (drop start bytes) ∷ lines_of (drop k bytes ++ more)) (sym e)), λ yet. fed)

-- a line that ends at a line feed
pub front_feed : (start scanned at : ℕ) (ended : Bool) (bytes piece : List ℕ) (before after : Option (List ℕ)) → IsScanned start scanned bytes → scanned ≤ at → at < length bytes → get_or bytes at 0 ≡ 10
    → has_feed (take (at - scanned) (drop scanned bytes)) ≡ false → Consumes before after piece → IsFront (cond (nat_lt 16777216 (at + 1)) TooLong (Line (at + 1 - start))) start bytes ended before after
front_feed start scanned at ended bytes piece before after s b within feed none c =
    let first : start ≤ at = omega (arith, s.before) in
    by_test (nat_lt 16777216 (at + 1)) ended start (at + 1) bytes piece before after refl (omega arith) (omega arith) c
    (λ more. line_front start at bytes more first within feed (scan_to start scanned at bytes s b (omega arith) none)) (line_fed start at bytes first within feed)

-- a line that is too long, whatever follows
pub front_long : (start : ℕ) (ended : Bool) (bytes piece : List ℕ) (before after : Option (List ℕ)) → IsScanned start (length bytes) bytes → start ≤ 16777216 → 16777216 < length bytes → Consumes before after piece
    → IsFront TooLong start bytes ended before after
front_long start ended bytes piece before after s short long c =
    let d = drop start bytes in
    let len : length d ≡ length bytes - start = length-drop start bytes in
    told before after piece _ c (λ more. let r = lines-long d more (omega arith) (held_scanned start bytes s) in (r.0, r.1, r.2, omega (arith, r.3)))

-- a source that is at its end has nothing left
at_end : (before mid after : Option (List ℕ)) (piece : List ℕ) → Consumes before mid piece → IsAtEnd mid → Keeps mid after → BothTold before after (λ _ more. more ≡ [])
at_end None mid after piece c e k = tt
at_end (Some a) None after piece c e k = absurd c
at_end (Some a) (Some xs) None piece c e k = absurd k
at_end (Some a) (Some xs) (Some ys) piece c e k = k ∙ e

weaken : (before after : Option (List ℕ)) (P Q : List ℕ → Type 0) → BothTold before after (λ _ more. P more) → ((more : List ℕ) → P more → Q more) → BothTold before after (λ _ more. Q more)
weaken None after P Q p h = tt
weaken (Some a) None P Q p h = absurd p
weaken (Some a) (Some more) P Q p h = h more p

-- a last line without a line feed, where the source is at its end
front_last : (start : ℕ) (bytes piece : List ℕ) (before : Option (List ℕ)) → IsScanned start (length bytes) bytes → start < length bytes → length bytes ≤ 16777216 → Consumes before (Some []) piece
    → IsFront (Line (length bytes - start)) start bytes true before (Some [])
front_last start bytes piece before s some short c =
    let d = drop start bytes in
    let len : length d ≡ length bytes - start = length-drop start bytes in
    let e : start + (length bytes - start) ≡ length bytes = omega arith in
    let none : drop (start + (length bytes - start)) bytes ≡ [] = drop_of_length-le bytes (omega (arith, e)) in
    let line : lines_of d ≡ d ∷ [] = lines-last d (omega (arith, len)) (held_scanned start bytes s) in (
      omega arith,
      omega (arith, e),
      omega (arith, e),
      weaken before (Some []) (λ (more : List ℕ). more ≡ []) _ (at_end before (Some []) (Some []) piece c refl refl)
          (λ more nothing. rw (nothing, none, all_rest start bytes) (ap lines_of (append-nil d) ∙ line ∙ ap (λ (ls : List (List ℕ)). d ∷ ls) (sym lines-nil))),
      λ yet. absurd cc,
    )

front_end : (start : ℕ) (bytes piece : List ℕ) (before : Option (List ℕ)) → length bytes ≤ start → Consumes before (Some []) piece → IsFront End start bytes true before (Some [])
front_end start bytes piece before none c = (drop_of_length-le bytes none, at_end before (Some []) (Some []) piece c refl refl, refl)

-- what is in front where the source told its end
pub front_rest : (start : ℕ) (bytes piece : List ℕ) (before : Option (List ℕ)) → IsScanned start (length bytes) bytes → length bytes ≤ 16777216 → Consumes before (Some []) piece
    → IsFront (cond (length bytes - start == 0) End (Line (length bytes - start))) start bytes true before (Some [])
front_rest start bytes piece before s short c = by_rest (length bytes - start == 0) refl
  where
    by_rest : (b : Bool) → (length bytes - start == 0) ≡ b → IsFront (cond b End (Line (length bytes - start))) start bytes true before (Some [])
    by_rest true e = let none : length bytes - start ≡ 0 = eqb-true (length bytes - start) 0 e in front_end start bytes piece before (omega (arith, none)) c
    by_rest false e = front_last start bytes piece before s (some_of (length bytes - start) e) short c
      where
        some_of : (n : ℕ) → (n == 0) ≡ false → start < length bytes
        some_of n f = omega (arith, eqb-false (length bytes - start) 0 e)

-- bytes that were told, and then the end
pub to_end : (before mid : Option (List ℕ)) (piece : List ℕ) → Consumes before mid piece → IsAtEnd mid → Consumes before (Some []) piece
to_end None mid piece c e = tt
to_end (Some a) None piece c e = absurd c
to_end (Some a) (Some xs) piece c e = c ∙ ap (λ (l : List ℕ). piece ++ l) e

-- a source that told its end has nothing left
pub heeds_end : (before mid after : Option (List ℕ)) (piece : List ℕ) → Consumes before mid piece → IsAtEnd mid → Keeps mid after → Heeds false true before after
heeds_end before mid after piece c e k = at_end before mid after piece c e k

-- what it told says nothing of its end
pub heeds_more : (before after : Option (List ℕ)) (piece : List ℕ) → Consumes before after piece → Heeds false false before after
heeds_more None after piece c = tt
heeds_more (Some a) None piece c = absurd c
heeds_more (Some a) (Some xs) piece c = tt

-- an end that was told is not forgotten
pub kept_end : (a b : Bool) (x y : Option (List ℕ)) → Heeds a b x y → a ≡ true → b ≡ true
kept_end true b x y h e = h.0
kept_end false b x y h e = absurd (let k = e in cc)

pub heeds_then : (a b c : Bool) (x y z : Option (List ℕ)) → Heeds a b x y → Heeds b c y z → Heeds a c x z
heeds_then true true c x y z h k = (k.0, k.1 ∙ h.1)
heeds_then true false c x y z h k = absurd (let e = h.0 in cc)
heeds_then false true true x y z h k = rw k.1 h
heeds_then false true false x y z h k = absurd (let e = k.0 in cc)
heeds_then false false true x y z h k = told_then x y z (λ _ _. Unit {0}) (λ _ left. left ≡ []) _ h k (λ a b c p q. q)
heeds_then false false false x y z h k = told_then x y z (λ _ _. Unit {0}) (λ _ _. Unit {0}) _ h k (λ a b c p q. tt)

-- what was read before, and a piece more
pub more_goes_on : (first old new : List ℕ) (a b c : Option (List ℕ)) (piece : List ℕ) → Grows first old a b → new ≡ old ++ piece → Consumes b c piece → Grows first new a c
more_goes_on first old new a b c piece g e k = (g.0 ++ piece, e ∙ ap (λ (l : List ℕ). l ++ piece) g.1 ∙ append_assoc first g.0 piece, Consumes-trans a b c g.0 piece g.2 k)
