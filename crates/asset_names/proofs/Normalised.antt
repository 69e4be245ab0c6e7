-- What a walk keeps are the segments of a normalised name, and what it passes over says nothing.
use Rattle.std.proofs.Common.{ℕ, ◌≡◌, ◌≢◌, ◌∙◌, sym, ap, refl, Bool, true, false, List, [], ◌∷◌, ◌++◌, append_assoc, append-nil, subst, ◌||◌, ◌⊎◌, inl, inr}
use Rattle.std.specs.Prelude.{◌==◌, ◌↔◌, reverse, codes}
use Rattle.std.specs.List.{All}
use Rattle.std.proofs.lemmas.List.{reverse-append, reverse-reverse}
use Rattle.std.proofs.lemmas.List.Elements.{All-nil, All-cons, All-head, All-tail, All-append, All-same}
use Rattle.asset_names.specs.Anchoring.{here, above, same_text, segments_from, segments, is_absolute, step_up, step, walk, more_joined, joined, name_of, normal_name, all_but_first, folder, anchored_name}
use Rattle.asset_names.specs.Normalised.{HasNoSlash, AreParts, IsPlain, AreNormalised, from_root, from_here, spelled, IsNormalised, LeavesOut, an_empty_one, a_dot, a_way_back, above_the_root, LeadsTo, there, onward, IsNameOf}
use Rattle.asset_names.proofs.Walks.{no_slash}
use Rattle.asset_names.proofs.Normal.{NoSlash, NoSlashes, AllAbove, Kept, IsSegment, segments_joined, above_segment, same_is, clash, differs, is_slash, step_kept, walk_append, up_above, segments_no_slash, text_kept, but_first_kept, inner, walk_kept, segments_slashes, walk_joined, joined_relative}

-- ---- the parts of a text
bare : (s : List ℕ) → NoSlash s → HasNoSlash s
bare [] n = All-nil (λ c. c ≢ 47)
bare (c ∷ s) n = All-cons (λ c. c ≢ 47) c s n.0 (bare s n.1)

one_by_one : (s : List ℕ) → HasNoSlash s → NoSlash s
one_by_one [] h = tt
one_by_one (c ∷ s) h = (All-head (λ c. c ≢ 47) c s h, one_by_one s (All-tail (λ c. c ≢ 47) c s h))

all_bare : (ss : List (List ℕ)) → NoSlashes ss → All HasNoSlash ss
all_bare [] n = All-nil HasNoSlash
all_bare (s ∷ ss) n = All-cons HasNoSlash s ss (bare s n.0) (all_bare ss n.1)

each_by_one : (ss : List (List ℕ)) → All HasNoSlash ss → NoSlashes ss
each_by_one [] h = tt
each_by_one (s ∷ ss) h = (one_by_one s (All-head HasNoSlash s ss h), each_by_one ss (All-tail HasNoSlash s ss h))

more_back : (t begun : List ℕ) → more_joined (segments_from begun t) ≡ codes "/" ++ begun ++ t
more_back [] begun = refl
more_back (c ∷ t) begun = by_slash (more_back t []) (more_back t (begun ++ c ∷ []) ∙ ap (λ l. codes "/" ++ l) (append_assoc begun (c ∷ []) t)) (c == 47) refl
  where
    by_slash : more_joined (segments_from [] t) ≡ codes "/" ++ t → more_joined (segments_from (begun ++ c ∷ []) t) ≡ codes "/" ++ begun ++ c ∷ t → (b : Bool) → (c == 47) ≡ b
        → more_joined (elim b as (λ _. List (List ℕ)) [ true ↦ begun ∷ segments_from [] t | false ↦ segments_from (begun ++ c ∷ []) t ]) ≡ codes "/" ++ begun ++ c ∷ t
    by_slash anew on true h = ap (λ l. codes "/" ++ begun ++ l) (anew ∙ ap (λ d. d ∷ t) (sym (is_slash c h)))
    by_slash anew on false h = on

joined_back : (t begun : List ℕ) → joined (segments_from begun t) ≡ begun ++ t
joined_back [] begun = refl
joined_back (c ∷ t) begun = by_slash (joined_back t (begun ++ c ∷ []) ∙ append_assoc begun (c ∷ []) t) (c == 47) refl
  where
    by_slash : joined (segments_from (begun ++ c ∷ []) t) ≡ begun ++ c ∷ t → (b : Bool) → (c == 47) ≡ b
        → joined (elim b as (λ _. List (List ℕ)) [ true ↦ begun ∷ segments_from [] t | false ↦ segments_from (begun ++ c ∷ []) t ]) ≡ begun ++ c ∷ t
    by_slash on true h = ap (λ l. begun ++ l) (more_back t [] ∙ ap (λ d. d ∷ t) (sym (is_slash c h)))
    by_slash on false h = on

some_parts : (t begun : List ℕ) → segments_from begun t ≢ []
some_parts [] begun = λ e. absurd cc
some_parts (c ∷ t) begun = by_slash (some_parts t (begun ++ c ∷ [])) (c == 47)
  where
    by_slash : segments_from (begun ++ c ∷ []) t ≢ [] → (b : Bool) → (elim b as (λ _. List (List ℕ)) [ true ↦ begun ∷ segments_from [] t | false ↦ segments_from (begun ++ c ∷ []) t ]) ≢ []
    by_slash on true = λ e. absurd cc
    by_slash on false = on

parts_of : (text : List ℕ) → AreParts text (segments text)
parts_of text = record { some = some_parts text []; single = all_bare (segments text) (segments_no_slash text [] tt); whole = joined_back text [] }

from_parts : (text : List ℕ) (parts : List (List ℕ)) → AreParts text parts → segments text ≡ parts
from_parts text [] p = absurd (p.some refl)
from_parts text (s ∷ ss) p = ap segments (sym p.whole) ∙ segments_joined s ss (each_by_one (s ∷ ss) p.single)

pub segments_are : (text : List ℕ) (parts : List (List ℕ)) → (segments text ≡ parts) ↔ AreParts text parts
segments_are text parts = (λ e. subst (AreParts text) e (parts_of text), from_parts text parts)

-- ---- what a walk keeps is normalised
plain : (s : List ℕ) → IsSegment s → s ≢ above → IsPlain s
plain s k h = record { some = k.some; moves = k.moves; descends = h; single = bare s k.one }

pushed : {X : Type 0} (P : X → Type 0) (x : X) (xs : List X) → All P (reverse xs) → P x → All P (reverse (x ∷ xs))
pushed P x xs all p = All-same P (reverse (x ∷ xs)) (reverse xs ++ x ∷ []) (reverse-append (x ∷ []) xs) (All-append P (reverse xs) (x ∷ []) all (All-cons P x [] p (All-nil P)))

all_plain : (fs : List (List ℕ)) → Kept true fs → All IsPlain (reverse fs)
all_plain [] k = All-nil IsPlain
all_plain (s ∷ ss) k = pushed IsPlain s ss (all_plain ss k.2) (plain s k.0 (λ e. clash true refl (k.1 e).0))

all_above : (fs : List (List ℕ)) → AllAbove fs → All (λ s. s ≡ above) (reverse fs)
all_above [] a = All-nil (λ s. s ≡ above)
all_above (s ∷ ss) a = pushed (λ s. s ≡ above) s ss (all_above ss a.1) a.0

push_plain : (xs : List (List ℕ)) (s : List ℕ) → IsPlain s → AreNormalised false xs → AreNormalised false (xs ++ s ∷ [])
push_plain xs s p (from_here ups folders above_all plain_all) =
    subst (AreNormalised false) (sym (append_assoc ups folders (s ∷ [])))
    (from_here ups (folders ++ s ∷ []) above_all (All-append IsPlain folders (s ∷ []) plain_all (All-cons IsPlain s [] p (All-nil IsPlain))))

relative : (fs : List (List ℕ)) → Kept false fs → AreNormalised false (reverse fs)
relative [] k = from_here [] [] (All-nil (λ s. s ≡ above)) (All-nil IsPlain)
relative (s ∷ ss) k = by_test (relative ss k.2) (same_text s above) refl
  where
    by_test : AreNormalised false (reverse ss) → (b : Bool) → same_text s above ≡ b → AreNormalised false (reverse (s ∷ ss))
    by_test before true h =
        let is = same_is s above h in
        subst (AreNormalised false) (append-nil (reverse (s ∷ ss))) (from_here (reverse (s ∷ ss)) [] (all_above (s ∷ ss) (is, (k.1 is).1)) (All-nil IsPlain))
    by_test before false h =
        subst (AreNormalised false) (sym (reverse-append (s ∷ []) ss)) (push_plain (reverse ss) s (plain s k.0 (differs s above h)) before)

kept_proper : (absolute : Bool) (fs : List (List ℕ)) → Kept absolute fs → AreNormalised absolute (reverse fs)
kept_proper true fs k = from_root (reverse fs) (all_plain fs k)
kept_proper false fs k = relative fs k

name_spelled : (absolute : Bool) (fs : List (List ℕ)) → name_of absolute fs ≡ spelled absolute (reverse fs)
name_spelled true fs = refl
name_spelled false fs = refl

kept_named : (absolute : Bool) (fs : List (List ℕ)) → Kept absolute fs → IsNormalised (name_of absolute fs)
kept_named absolute fs k = record { absolute = absolute; parts = reverse fs; proper = kept_proper absolute fs k; spells = name_spelled absolute fs }

pub normal_is : (text : List ℕ) → IsNormalised (normal_name text)
normal_is text = kept_named (is_absolute text) (walk (is_absolute text) [] (segments text)) (text_kept (is_absolute text) [] text tt)

pub anchored_is : (layer asset : List ℕ) → IsNormalised (anchored_name layer asset)
anchored_is layer asset = by_test (is_absolute asset)
  where
    absolute : Bool
    absolute = is_absolute layer

    inside : List ℕ
    inside = name_of (is_absolute layer) (walk (is_absolute layer) (folder layer) (segments asset))

    is : IsNormalised inside
    is = kept_named (is_absolute layer) (walk (is_absolute layer) (folder layer) (segments asset))
        (text_kept (is_absolute layer) (folder layer) asset (but_first_kept (is_absolute layer) (walk (is_absolute layer) [] (segments layer)) (text_kept (is_absolute layer) [] layer tt)))

    by_test : (b : Bool) → IsNormalised (elim b as (λ _. List ℕ) [ true ↦ normal_name asset | false ↦ inside ])
    by_test true = normal_is asset
    by_test false = is

-- ---- steps by what a segment is
unlike : (s t : List ℕ) → s ≢ t → same_text s t ≡ false
unlike s t h = by_test (same_text s t) refl
  where
    by_test : (b : Bool) → same_text s t ≡ b → b ≡ false
    by_test true e = absurd (h (same_is s t e))
    by_test false e = refl

-- a step, by whether the segment is empty or `.`, and whether it is `..`
taken : Bool → List (List ℕ) → List ℕ → Bool → Bool → List (List ℕ)
taken absolute folders s still up = elim still [ true ↦ folders | false ↦ elim up [ true ↦ step_up absolute folders | false ↦ s ∷ folders ] ]

step_plain : (absolute : Bool) (fs : List (List ℕ)) (s : List ℕ) → IsPlain s → step absolute fs s ≡ s ∷ fs
unfolding taken
step_plain absolute fs s p =
    ap (λ b. taken absolute fs s (b || same_text s here) (same_text s above)) (unlike s [] p.some)
    ∙ ap (λ b. taken absolute fs s b (same_text s above)) (unlike s here p.moves)
    ∙ ap (taken absolute fs s false) (unlike s above p.descends)

up_plain : (absolute : Bool) (fs : List (List ℕ)) (s : List ℕ) → s ≢ above → step_up absolute (s ∷ fs) ≡ fs
up_plain absolute fs s h = ap (λ b. elim b as (λ _. List (List ℕ)) [ true ↦ above ∷ s ∷ fs | false ↦ fs ]) (unlike s above h)

-- ---- a walk along the segments of a normalised name
turned : (x : List ℕ) (xs ys : List (List ℕ)) → reverse (x ∷ xs) ++ ys ≡ reverse xs ++ x ∷ ys
turned x xs ys = ap (λ l. l ++ ys) (reverse-append (x ∷ []) xs) ∙ append_assoc (reverse xs) (x ∷ []) ys

walk_plain : (absolute : Bool) (ss fs : List (List ℕ)) → All IsPlain ss → walk absolute fs ss ≡ reverse ss ++ fs
walk_plain absolute [] fs p = refl
walk_plain absolute (s ∷ ss) fs p =
    ap (λ f. walk absolute f ss) (step_plain absolute fs s (All-head IsPlain s ss p)) ∙ walk_plain absolute ss (s ∷ fs) (All-tail IsPlain s ss p) ∙ sym (turned s ss fs)

step_above : (fs : List (List ℕ)) (s : List ℕ) → AllAbove fs → s ≡ above → step false fs s ≡ s ∷ fs
step_above fs s a e = ap (step false fs) e ∙ up_above fs a ∙ ap (λ r. r ∷ fs) (sym e)

walk_above : (ss fs : List (List ℕ)) → AllAbove fs → All (λ s. s ≡ above) ss → walk false fs ss ≡ reverse ss ++ fs
walk_above [] fs a p = refl
walk_above (s ∷ ss) fs a p =
    let is = All-head (λ s. s ≡ above) s ss p in
    ap (λ f. walk false f ss) (step_above fs s a is) ∙ walk_above ss (s ∷ fs) (is, a) (All-tail (λ s. s ≡ above) s ss p) ∙ sym (turned s ss fs)

walk_proper : (absolute : Bool) (ss : List (List ℕ)) → AreNormalised absolute ss → walk absolute [] ss ≡ reverse ss
walk_proper absolute ss (from_root folders p) = walk_plain true folders [] p ∙ append-nil (reverse folders)
walk_proper absolute ss (from_here ups folders a p) =
    walk_append false ups folders [] ∙ ap (λ f. walk false f folders) (walk_above ups [] tt a ∙ append-nil (reverse ups)) ∙ walk_plain false folders (reverse ups) p
    ∙ sym (reverse-append ups folders)

spelled_back : (absolute : Bool) (ss : List (List ℕ)) → AreNormalised absolute ss → name_of absolute (walk absolute [] ss) ≡ spelled absolute ss
spelled_back absolute ss p = ap (name_of absolute) (walk_proper absolute ss p) ∙ name_spelled absolute (reverse ss) ∙ ap (spelled absolute) (reverse-reverse ss)

plain_segment : (s : List ℕ) → IsPlain s → IsSegment s
plain_segment s p = record { some = p.some; moves = p.moves; one = one_by_one s p.single }

plain_segments : (ss : List (List ℕ)) → All IsPlain ss → All IsSegment ss
plain_segments [] p = All-nil IsSegment
plain_segments (s ∷ ss) p =
    All-cons IsSegment s ss (plain_segment s (All-head IsPlain s ss p)) (plain_segments ss (All-tail IsPlain s ss p))

up_segments : (ss : List (List ℕ)) → All (λ s. s ≡ above) ss → All IsSegment ss
up_segments [] a = All-nil IsSegment
up_segments (s ∷ ss) a =
    All-cons IsSegment s ss (subst IsSegment (sym (All-head (λ s. s ≡ above) s ss a)) above_segment) (up_segments ss (All-tail (λ s. s ≡ above) s ss a))

proper_segments : (absolute : Bool) (ss : List (List ℕ)) → AreNormalised absolute ss → All IsSegment ss
proper_segments absolute ss (from_root folders p) = plain_segments folders p
proper_segments absolute ss (from_here ups folders a p) = All-append IsSegment ups folders (up_segments ups a) (plain_segments folders p)

spelled_stays : (absolute : Bool) (ss : List (List ℕ)) → AreNormalised absolute ss → normal_name (spelled absolute ss) ≡ spelled absolute ss
spelled_stays true ss p = ap (name_of true) (walk_joined true ss (proper_segments true ss p)) ∙ spelled_back true ss p
spelled_stays false ss p =
    ap (λ a. name_of a (walk a [] (segments (joined ss)))) (joined_relative ss (proper_segments false ss p)) ∙ ap (name_of false) (walk_joined false ss (proper_segments false ss p)) ∙ spelled_back false ss p

pub stays_is : (name : List ℕ) → (normal_name name ≡ name) ↔ IsNormalised name
stays_is name = (λ e. subst IsNormalised e (normal_is name), λ n. ap normal_name n.spells ∙ spelled_stays n.absolute n.parts n.proper ∙ sym n.spells)

pub normal_stays : (text : List ℕ) → normal_name (normal_name text) ≡ normal_name text
normal_stays text = (stays_is (normal_name text)).1 (normal_is text)

pub anchored_stays : (layer asset : List ℕ) → normal_name (anchored_name layer asset) ≡ anchored_name layer asset
anchored_stays layer asset = (stays_is (anchored_name layer asset)).1 (anchored_is layer asset)

-- ---- what is left out says nothing
out_kept : (absolute : Bool) (xs ys : List (List ℕ)) → LeavesOut absolute xs ys → walk absolute [] xs ≡ walk absolute [] ys
out_kept absolute xs ys (an_empty_one before after) = walk_append absolute before ([] ∷ after) [] ∙ sym (walk_append absolute before after [])
out_kept absolute xs ys (a_dot before after) = walk_append absolute before (here ∷ after) [] ∙ sym (walk_append absolute before after [])
out_kept absolute xs ys (a_way_back before after s p) =
    walk_append absolute before (s ∷ above ∷ after) []
    ∙ ap (λ f. walk absolute f after) (ap (λ f. step absolute f above) (step_plain absolute (walk absolute [] before) s p) ∙ up_plain absolute (walk absolute [] before) s p.descends)
    ∙ sym (walk_append absolute before after [])
out_kept absolute xs ys (above_the_root after is) = ap (λ a. walk absolute (step_up a []) after) is

leads_kept : (absolute : Bool) (xs ys : List (List ℕ)) → LeadsTo absolute xs ys → walk absolute [] xs ≡ walk absolute [] ys
leads_kept absolute xs ys (there ss) = refl
leads_kept absolute xs ys (onward xs' ys' zs out rest) = out_kept absolute xs' ys' out ∙ leads_kept absolute ys' zs rest

-- ---- a walk leaves out nothing else
abbrev Goes : Bool → List (List ℕ) → List (List ℕ) → Type 0
Goes absolute xs ys = LeavesOut absolute xs ys ⊎ (xs ≡ ys)

go_on : (absolute : Bool) (xs ys zs : List (List ℕ)) → Goes absolute xs ys → LeadsTo absolute ys zs → LeadsTo absolute xs zs
go_on absolute xs ys zs (inl out) rest = onward xs ys zs out rest
go_on absolute xs ys zs (inr e) rest = subst (λ l. LeadsTo absolute l zs) (sym e) rest

go_up : (absolute : Bool) (fs ss : List (List ℕ)) → Kept absolute fs → Goes absolute (reverse fs ++ above ∷ ss) (reverse (step_up absolute fs) ++ ss)
go_up true [] ss k = inl (above_the_root ss refl)
go_up false [] ss k = inr refl
go_up absolute (f ∷ fs) ss k = by_test (same_text f above) refl
  where
    by_test : (b : Bool) → same_text f above ≡ b → Goes absolute (reverse (f ∷ fs) ++ above ∷ ss) (reverse (elim b as (λ _. List (List ℕ)) [ true ↦ above ∷ f ∷ fs | false ↦ fs ]) ++ ss)
    by_test true h = inr (sym (turned above (f ∷ fs) ss))
    by_test false h =
        inl (subst (λ l. LeavesOut absolute l (reverse fs ++ ss)) (sym (turned f fs (above ∷ ss))) (a_way_back (reverse fs) ss f (plain f k.0 (differs f above h))))

-- to these folders with segments behind them
abbrev Reaches : Bool → List (List ℕ) → List (List ℕ) → List (List ℕ) → Type 0
Reaches absolute xs ss fs = Goes absolute xs (reverse fs ++ ss)

go : (absolute : Bool) (fs ss : List (List ℕ)) (s : List ℕ) → Kept absolute fs → Goes absolute (reverse fs ++ s ∷ ss) (reverse (step absolute fs s) ++ ss)
go absolute fs ss s k = by_empty (same_text s []) refl
  where
    by_above : (b : Bool) → same_text s above ≡ b → Reaches absolute (reverse fs ++ s ∷ ss) ss (elim b [ true ↦ step_up absolute fs | false ↦ s ∷ fs ])
    by_above true h = subst (λ r. Goes absolute (reverse fs ++ r ∷ ss) (reverse (step_up absolute fs) ++ ss)) (sym (same_is s above h)) (go_up absolute fs ss k)
    by_above false h = inr (sym (turned s fs ss))

    by_here : (b : Bool) → same_text s here ≡ b → Reaches absolute (reverse fs ++ s ∷ ss) ss (elim b [ true ↦ fs | false ↦ elim (same_text s above) [ true ↦ step_up absolute fs | false ↦ s ∷ fs ] ])
    by_here true h = inl (subst (λ r. LeavesOut absolute (reverse fs ++ r ∷ ss) (reverse fs ++ ss)) (sym (same_is s here h)) (a_dot (reverse fs) ss))
    by_here false h = by_above (same_text s above) refl

    by_empty : (b : Bool) → same_text s [] ≡ b → Reaches absolute (reverse fs ++ s ∷ ss) ss (elim (b || same_text s here) [ true ↦ fs | false ↦ elim (same_text s above) [ true ↦ step_up absolute fs | false ↦ s ∷ fs ] ])
    by_empty true h = inl (subst (λ r. LeavesOut absolute (reverse fs ++ r ∷ ss) (reverse fs ++ ss)) (sym (same_is s [] h)) (an_empty_one (reverse fs) ss))
    by_empty false h = by_here (same_text s here) refl

leads : (absolute : Bool) (ss fs : List (List ℕ)) → Kept absolute fs → NoSlashes ss → LeadsTo absolute (reverse fs ++ ss) (reverse (walk absolute fs ss))
leads absolute [] fs k n = subst (LeadsTo absolute (reverse fs ++ [])) (append-nil (reverse fs)) (there (reverse fs ++ []))
leads absolute (s ∷ ss) fs k n =
    go_on absolute (reverse fs ++ s ∷ ss) (reverse (step absolute fs s) ++ ss) (reverse (walk absolute (step absolute fs s) ss)) (go absolute fs ss s k)
    (leads absolute ss (step absolute fs s) (step_kept absolute fs s k n.0) n.1)

named : (text : List ℕ) → IsNameOf text (normal_name text)
named text =
    let absolute = is_absolute text in
    let fs = walk absolute [] (segments text) in
    record {
      left = reverse fs;
      leads = leads absolute (segments text) [] tt (segments_no_slash text [] tt);
      proper = kept_proper absolute fs (text_kept absolute [] text tt);
      spells = name_spelled absolute fs;
    }

pub names_are : (text name : List ℕ) → (name ≡ normal_name text) ↔ IsNameOf text name
names_are text name = (
  λ e. subst (IsNameOf text) (sym e) (named text),
  λ n. n.spells ∙ sym (ap (name_of (is_absolute text)) (leads_kept (is_absolute text) (segments text) n.left n.leads) ∙ spelled_back (is_absolute text) n.left n.proper),
)

-- ---- an asset in the place of its layer
split : (t rest begun : List ℕ) → segments_from begun (t ++ codes "/" ++ rest) ≡ segments_from begun t ++ segments rest
split [] rest begun = refl
split (c ∷ t) rest begun = by_slash (split t rest []) (split t rest (begun ++ c ∷ [])) (c == 47)
  where
    by_slash : segments_from [] (t ++ codes "/" ++ rest) ≡ segments_from [] t ++ segments rest → segments_from (begun ++ c ∷ []) (t ++ codes "/" ++ rest) ≡ segments_from (begun ++ c ∷ []) t ++ segments rest → (b : Bool)
        → (elim b as (λ _. List (List ℕ)) [ true ↦ begun ∷ segments_from [] (t ++ codes "/" ++ rest) | false ↦ segments_from (begun ++ c ∷ []) (t ++ codes "/" ++ rest) ])
        ≡ (elim b as (λ _. List (List ℕ)) [ true ↦ begun ∷ segments_from [] t | false ↦ segments_from (begun ++ c ∷ []) t ]) ++ segments rest
    by_slash anew on true = ap (λ l. begun ∷ l) anew
    by_slash anew on false = on

front_stays : (t x y : List ℕ) → is_absolute (t ++ codes "/" ++ x) ≡ is_absolute (t ++ codes "/" ++ y)
front_stays [] x y = refl
front_stays (c ∷ t) x y = refl

-- all segments but the last
abbrev front : List (List ℕ) → List (List ℕ)
front ss = reverse (all_but_first (reverse ss))

front_pushed : (ss : List (List ℕ)) (last : List ℕ) → front (ss ++ last ∷ []) ≡ ss
front_pushed ss last = ap (λ l. reverse (all_but_first l)) (reverse-append ss (last ∷ [])) ∙ reverse-reverse ss

but_first_pushed : (ss : List (List ℕ)) (last : List ℕ) → ss ≢ [] → all_but_first (ss ++ last ∷ []) ≡ all_but_first ss ++ last ∷ []
but_first_pushed [] last some = absurd (some refl)
but_first_pushed (s ∷ ss) last some = refl

front_more : (s : List ℕ) (ss : List (List ℕ)) → ss ≢ [] → front (s ∷ ss) ≡ s ∷ front ss
front_more s ss some =
    ap (λ l. reverse (all_but_first l)) (reverse-append (s ∷ []) ss)
    ∙ ap reverse (but_first_pushed (reverse ss) s (λ e. some (sym (reverse-reverse ss) ∙ ap reverse e)))
    ∙ reverse-append (all_but_first (reverse ss)) (s ∷ [])

front_kept : (absolute : Bool) (ss : List (List ℕ)) → AreNormalised absolute ss → walk absolute [] (front ss) ≡ all_but_first (walk absolute [] ss)
front_kept absolute ss p =
    let fs : List (List ℕ) = walk absolute [] ss in
    let gs : List (List ℕ) = all_but_first fs in
    let proper : AreNormalised absolute (reverse gs) =
    kept_proper absolute gs (but_first_kept absolute fs (walk_kept absolute ss [] tt (segments_slashes ss (proper_segments absolute ss p)))) in
    ap (λ l. walk absolute [] (reverse (all_but_first l))) (sym (walk_proper absolute ss p)) ∙ walk_proper absolute (reverse gs) proper ∙ reverse-reverse gs

spelled_parts : (s : List ℕ) (ss : List (List ℕ)) (absolute : Bool) → AreNormalised absolute (s ∷ ss) → segments (joined (s ∷ ss)) ≡ s ∷ ss
spelled_parts s ss absolute p = segments_joined s ss (segments_slashes (s ∷ ss) (proper_segments absolute (s ∷ ss) p))

front_spelled : (absolute : Bool) (ss : List (List ℕ)) → AreNormalised absolute ss → walk absolute [] (front (segments (spelled absolute ss))) ≡ all_but_first (walk absolute [] (segments (spelled absolute ss)))
front_spelled true [] p = refl
front_spelled false [] p = refl
front_spelled true (s ∷ ss) p =
    ap (λ l. walk true [] (front ([] ∷ l))) (spelled_parts s ss true p) ∙ ap (walk true []) (front_more [] (s ∷ ss) (λ e. absurd cc)) ∙ front_kept true (s ∷ ss) p
    ∙ ap (λ l. all_but_first (walk true [] l)) (sym (spelled_parts s ss true p))
front_spelled false (s ∷ ss) p =
    ap (λ l. walk false [] (front l)) (spelled_parts s ss false p) ∙ front_kept false (s ∷ ss) p ∙ ap (λ l. all_but_first (walk false [] l)) (sym (spelled_parts s ss false p))

absolute_spelled : (absolute : Bool) (ss : List (List ℕ)) → AreNormalised absolute ss → is_absolute (spelled absolute ss) ≡ absolute
absolute_spelled true ss p = refl
absolute_spelled false ss p = joined_relative ss (proper_segments false ss p)

-- the folder of a layer with a normalised name
front_folder : (layer : List ℕ) → IsNormalised layer → folder layer ≡ walk (is_absolute layer) [] (front (segments layer))
front_folder layer n =
    let is : is_absolute layer ≡ n.absolute = ap is_absolute n.spells ∙ absolute_spelled n.absolute n.parts n.proper in
    ap (λ a. all_but_first (walk a [] (segments layer))) is ∙ ap (λ t. all_but_first (walk n.absolute [] (segments t))) n.spells
    ∙ sym (front_spelled n.absolute n.parts n.proper) ∙ ap (λ t. walk n.absolute [] (front (segments t))) (sym n.spells)
    ∙ ap (λ a. walk a [] (front (segments layer))) (sym is)

lone : (s : List ℕ) → HasNoSlash s → segments s ≡ s ∷ []
lone s h = ap segments (sym (append-nil s)) ∙ inner s [] [] [] (one_by_one s h) (λ b. refl)

-- an asset that is not absolute
from_folder : (layer asset : List ℕ) → is_absolute asset ≡ false → anchored_name layer asset ≡ name_of (is_absolute layer) (walk (is_absolute layer) (folder layer) (segments asset))
from_folder layer asset h = ap (λ b. elim b as (λ _. List ℕ) [ true ↦ normal_name asset | false ↦ name_of (is_absolute layer) (walk (is_absolute layer) (folder layer) (segments asset)) ]) h

pub stands_alone : (layer asset : List ℕ) → is_absolute asset ≡ true → anchored_name layer asset ≡ normal_name asset
stands_alone layer asset h = ap (λ b. elim b as (λ _. List ℕ) [ true ↦ normal_name asset | false ↦ name_of (is_absolute layer) (walk (is_absolute layer) (folder layer) (segments asset)) ]) h

pub takes_place : (t last asset : List ℕ) → HasNoSlash last → IsNormalised (t ++ codes "/" ++ last) → is_absolute asset ≡ false
    → anchored_name (t ++ codes "/" ++ last) asset ≡ normal_name (t ++ codes "/" ++ asset)
takes_place t last asset single n relative =
    let layer : List ℕ = t ++ codes "/" ++ last in
    let absolute : Bool = is_absolute layer in
    let parts : segments layer ≡ segments t ++ last ∷ [] = split t last [] ∙ ap (λ l. segments t ++ l) (lone last single) in
    from_folder layer asset relative
    ∙ ap (λ f. name_of absolute (walk absolute f (segments asset))) (front_folder layer n ∙ ap (λ l. walk absolute [] (front l)) parts ∙ ap (walk absolute []) (front_pushed (segments t) last))
    ∙ ap (name_of absolute) (sym (walk_append absolute (segments t) (segments asset) []) ∙ ap (walk absolute []) (sym (split t asset [])))
    ∙ ap (λ a. name_of a (walk a [] (segments (t ++ codes "/" ++ asset)))) (front_stays t last asset)

relative_layer : (layer : List ℕ) → HasNoSlash layer → is_absolute layer ≡ false
relative_layer [] single = refl
relative_layer (c ∷ t) single = no_slash c (All-head (λ b. b ≢ 47) c t single)

pub takes_all : (layer asset : List ℕ) → HasNoSlash layer → IsNormalised layer → is_absolute asset ≡ false → anchored_name layer asset ≡ normal_name asset
takes_all layer asset single n relative =
    let absolute : Bool = is_absolute layer in
    from_folder layer asset relative
    ∙ ap (λ f. name_of absolute (walk absolute f (segments asset))) (front_folder layer n ∙ ap (λ l. walk absolute [] (front l)) (lone layer single))
    ∙ ap (λ a. name_of a (walk a [] (segments asset))) (relative_layer layer single ∙ sym relative)
