-- Parts of paths, and paths that are put together.
use Rattle.std.proofs.Common.{◌≡◌, ℕ, zero, suc, ◌+◌, ◌<◌, ◌≤◌, Bool, true, false, cond, not, ◌||◌, List, [], ◌∷◌, ◌++◌, Option, Some, None, refl, sym, ap, ◌∙◌, subst, append_assoc, append-nil, arith, length, length-append, ◌-◌, take, drop}
use Rattle.std.specs.List.{list_all}
use Rattle.std.proofs.lemmas.Bool.{and_from, and_parts}
pub use Rattle.std.proofs.lemmas.Bool.{and_from as both_hold}
use Rattle.std.proofs.lemmas.List.{take-append-drop}
use Rattle.std.proofs.lemmas.List.Folds.{list_all-append}
use Rattle.std.proofs.lemmas.List.Sums.{sum_by-append, sum_by-cons}
use Rattle.std.proofs.lemmas.Slice.Eq.{bytes_eq-Decides}
use Rattle.std.specs.Str.{bytes_eq}
use Rattle.std.specs.Option.{is_some}
use Rattle.sdf_paths.specs.Paths.{same_element, rest_after, has_prefix, HasPrefix, MayFollow, is_selection, is_well_named, is_ordered, is_empty, is_property, is_prim_name, depth, written, written_all, printed, ends_selected, plain, is_plain, owner, IsPath}
use Rattle.usd_names.specs.Names.{is_identifier}
use Rattle.sdf_paths.specs.declared.element.Element.{Element}
use Rattle.sdf_paths.specs.declared.element.Element.TheVariants.{Prim, Property, Selection}

pub written_append : (xs ys : List Element) (a : Bool) → written_all a (xs ++ ys) ≡ written_all a xs ++ written_all (ends_selected a xs) ys
written_append [] ys a = refl
written_append (x ∷ xs) ys a = ap (λ l. written a x ++ l) (written_append xs ys (is_selection x)) ∙ sym (append_assoc (written a x) (written_all (is_selection x) xs) (written_all (ends_selected (is_selection x) xs) ys))

-- how long the text of joined elements is
pub length_joined : (xs ys : List Element) (a : Bool) → length (written_all a (xs ++ ys)) ≡ length (written_all a xs) + length (written_all (ends_selected a xs) ys)
length_joined xs ys a = ap length (written_append xs ys a) ∙ length-append (written_all a xs) (written_all (ends_selected a xs) ys)

pub depth_joined : (xs ys : List Element) → depth (xs ++ ys) ≡ depth xs + depth ys
depth_joined xs ys = sum_by-append (λ e. cond (is_prim_name e) 1 0) xs ys

ordered_front : (xs ys : List Element) (named : Bool) → is_ordered named (xs ++ ys) ≡ true → is_ordered named xs ≡ true
ordered_front [] ys named h = refl
ordered_front (Prim n ∷ xs) ys named h = ordered_front xs ys true h
ordered_front (Selection s v ∷ xs) ys named h = let both = and_parts named (is_ordered true (xs ++ ys)) h in and_from _ _ both.0 (ordered_front xs ys true both.1)
ordered_front (Property n ∷ []) ys named h = let both = and_parts named (is_empty ys) h in and_from named true both.0 refl
ordered_front (Property n ∷ x ∷ xs) ys named h = absurd (cc (and_parts named false h).1)

named_front : (xs ys : List Element) → list_all is_well_named (xs ++ ys) ≡ true → list_all is_well_named xs ≡ true
named_front xs ys h = (and_parts (list_all is_well_named xs) (list_all is_well_named ys) (sym (list_all-append is_well_named xs ys) ∙ h)).0

pub named_back : (xs ys : List Element) → list_all is_well_named (xs ++ ys) ≡ true → list_all is_well_named ys ≡ true
named_back xs ys h = (and_parts (list_all is_well_named xs) (list_all is_well_named ys) (sym (list_all-append is_well_named xs ys) ∙ h)).1

-- all but `/` is printed element by element
printed_some : (path : List Element) → is_empty path ≡ false → printed path ≡ written_all false path
printed_some [] h = absurd cc
printed_some (e ∷ path) h = refl

pub length_printed : (path : List Element) → length (written_all false path) ≤ length (printed path)
length_printed [] = omega arith
length_printed (e ∷ path) = omega arith

printed_bound : (path : List Element) (n : ℕ) → 1 ≤ n → length (written_all false path) ≤ n → length (printed path) ≤ n
printed_bound [] n one h = omega arith
printed_bound (e ∷ path) n one h = h

pub path_of : (path : List Element) → is_ordered false path ≡ true → list_all is_well_named path ≡ true → depth path ≤ 64 → length (written_all false path) ≤ 4096 → IsPath path
path_of path ordered named few short = record { well_formed = record { ordered = ordered; named = named; few = few }; short = printed_bound path 4096 (omega arith) short }

-- what stands before an element of a path is a path
pub path_front : (xs ys : List Element) → IsPath (xs ++ ys) → IsPath xs
path_front xs ys h = path_of xs (ordered_front xs ys false h.well_formed.ordered) (named_front xs ys h.well_formed.named)
    (omega (arith, h.well_formed.few, depth_joined xs ys)) (omega (arith, h.short, length_printed (xs ++ ys), length_joined xs ys false))

-- so are the first elements, however many
pub path_taken : (path : List Element) (n : ℕ) → IsPath path → IsPath (take n path)
path_taken path n h = path_front (take n path) (drop n path) (subst IsPath (sym (take-append-drop n path)) h)

-- ---- without selections, without the property

plain_ordered : (path : List Element) (named : Bool) → is_ordered named path ≡ true → is_ordered named (plain path) ≡ true
plain_ordered [] named h = refl
plain_ordered (Prim n ∷ path) named h = plain_ordered path true h
plain_ordered (Selection s v ∷ path) named h =
    let both = and_parts named (is_ordered true path) h in subst (λ b. is_ordered b (plain path) ≡ true) (sym both.0) (plain_ordered path true both.1)
plain_ordered (Property n ∷ []) named h = h
plain_ordered (Property n ∷ e ∷ path) named h = absurd (cc (and_parts named false h).1)

plain_named : (path : List Element) → list_all is_well_named path ≡ true → list_all is_well_named (plain path) ≡ true
plain_named [] h = refl
plain_named (Prim n ∷ path) h = let both = and_parts _ (list_all is_well_named path) h in and_from _ _ both.0 (plain_named path both.1)
plain_named (Property n ∷ path) h = let both = and_parts _ (list_all is_well_named path) h in and_from _ _ both.0 (plain_named path both.1)
plain_named (Selection s v ∷ path) h = let both = and_parts _ (list_all is_well_named path) h in plain_named path both.1

depth_cons : (e : Element) (path : List Element) → depth (e ∷ path) ≡ cond (is_prim_name e) 1 0 + depth path
depth_cons e path = sum_by-cons (λ x. cond (is_prim_name x) 1 0) e path

plain_depth : (path : List Element) → depth (plain path) ≡ depth path
plain_depth [] = refl
plain_depth (Prim n ∷ path) = depth_cons (Prim n) (plain path) ∙ ap (λ k. 1 + k) (plain_depth path) ∙ sym (depth_cons (Prim n) path)
plain_depth (Property n ∷ path) = depth_cons (Property n) (plain path) ∙ ap (λ k. 0 + k) (plain_depth path) ∙ sym (depth_cons (Property n) path)
plain_depth (Selection s v ∷ path) = plain_depth path ∙ sym (omega (arith, depth_cons (Selection s v) path))

-- a selection has more bytes than the `/` that a name wants without it
plain_length : (path : List Element) (a : Bool) → length (written_all false (plain path)) ≤ length (written_all a path) + cond a 1 0
plain_length [] true = omega arith
plain_length [] false = omega arith
plain_length (Prim n ∷ path) true =
    omega (arith, plain_length path false, length-append (47 ∷ n) (written_all false (plain path)), length-append n (written_all false path))
plain_length (Prim n ∷ path) false =
    omega (arith, plain_length path false, length-append (47 ∷ n) (written_all false (plain path)), length-append (47 ∷ n) (written_all false path))
plain_length (Property n ∷ path) a =
    omega (arith, plain_length path false, length-append (46 ∷ n) (written_all false (plain path)), length-append (46 ∷ n) (written_all false path))
plain_length (Selection s v ∷ path) a =
    omega (arith, plain_length path true, length-append (written a (Selection s v)) (written_all true path), length-append (123 ∷ s ++ (61 ∷ v)) (125 ∷ []))

pub plain_path : (path : List Element) → IsPath path → IsPath (plain path)
plain_path path h = path_of (plain path) (plain_ordered path false h.well_formed.ordered) (plain_named path h.well_formed.named)
    (omega (arith, h.well_formed.few, plain_depth path)) (omega (arith, h.short, plain_length path false, length_printed path))

-- a path that selects no variant is the same without selections
pub plain_itself : (path : List Element) → is_plain path ≡ true → path ≡ plain path
plain_itself [] h = refl
plain_itself (Prim n ∷ path) h = ap (λ l. Prim n ∷ l) (plain_itself path h)
plain_itself (Property n ∷ path) h = ap (λ l. Property n ∷ l) (plain_itself path h)
plain_itself (Selection s v ∷ path) h = absurd cc

-- a path without a property is its own prim's
pub owner_itself : (path : List Element) → is_property path ≡ false → path ≡ owner path
owner_itself [] h = refl
owner_itself (Prim n ∷ path) h = ap (λ l. Prim n ∷ l) (owner_itself path h)
owner_itself (Selection s v ∷ path) h = ap (λ l. Selection s v ∷ l) (owner_itself path h)
owner_itself (Property n ∷ path) h = absurd cc

-- where no element is left there is no property
some_left : (path : List Element) → length path ≡ 0 → is_property path ≡ true → ⊥
some_left [] len is = cc
some_left (e ∷ path) len is = omega (arith, len)

property_last : (path : List Element) (named : Bool) (n : ℕ) → n + 1 ≡ length path → is_ordered named path ≡ true → is_property path ≡ true → take n path ≡ owner path
property_last [] named n len h is = absurd cc
property_last (Prim a ∷ path) named zero len h is = absurd (some_left path (omega (arith, len)) is)
property_last (Prim a ∷ path) named (suc n) len h is = ap (λ l. Prim a ∷ l) (property_last path true n (omega (arith, len)) h is)
property_last (Selection s v ∷ path) named zero len h is = absurd (some_left path (omega (arith, len)) is)
property_last (Selection s v ∷ path) named (suc n) len h is =
    ap (λ l. Selection s v ∷ l) (property_last path true n (omega (arith, len)) (and_parts named (is_ordered true path) h).1 is)
property_last (Property a ∷ []) named zero len h is = refl
property_last (Property a ∷ []) named (suc n) len h is = absurd (omega (arith, len))
property_last (Property a ∷ e ∷ path) named n len h is = absurd (cc (and_parts named false h).1)

some_length : (path : List Element) → is_property path ≡ true → (length path - 1) + 1 ≡ length path
some_length [] is = absurd cc
some_length (e ∷ path) is = omega arith

-- a property stands last, so the prim's path is the one above
pub owner_above : (path : List Element) → IsPath path → is_property path ≡ true → take (length path - 1) path ≡ owner path
owner_above path h is = property_last path false (length path - 1) (some_length path is) h.well_formed.ordered is

-- ---- a name more

ordered_prim : (path : List Element) (named : Bool) (n : List ℕ) → is_ordered named path ≡ true → is_property path ≡ false → is_ordered named (path ++ Prim n ∷ []) ≡ true
ordered_prim [] named n h prim = refl
ordered_prim (Prim x ∷ path) named n h prim = ordered_prim path true n h prim
ordered_prim (Selection s v ∷ path) named n h prim = let both = and_parts named (is_ordered true path) h in and_from _ _ both.0 (ordered_prim path true n both.1 prim)
ordered_prim (Property x ∷ path) named n h prim = absurd cc

written_prim : (a : Bool) (n : List ℕ) → length (written a (Prim n)) ≡ cond a 0 1 + length n
written_prim true n = omega arith
written_prim false n = omega arith

-- how long the text of a path with one name more is
length_more : (path : List Element) (n : List ℕ) → length (written_all false (path ++ Prim n ∷ [])) ≡ length (written_all false path) + (cond (ends_selected false path) 0 1 + length n)
length_more path n =
    length_joined path (Prim n ∷ []) false ∙ ap (λ k. length (written_all false path) + k) (ap length (append-nil (written (ends_selected false path) (Prim n))) ∙ written_prim (ends_selected false path) n)

pub append_path : (path : List Element) (n : List ℕ) → IsPath path → is_property path ≡ false → is_identifier n ≡ true → depth path < 64
    → length (written_all false path) + (cond (ends_selected false path) 0 1 + length n) ≤ 4096 → IsPath (path ++ Prim n ∷ [])
append_path path n h prim good few short = path_of (path ++ Prim n ∷ []) (ordered_prim path false n h.well_formed.ordered prim)
    (list_all-append is_well_named path (Prim n ∷ []) ∙ and_from _ _ h.well_formed.named (and_from (is_identifier n) true good refl))
    (omega (arith, depth_joined path (Prim n ∷ []), depth_cons (Prim n) [])) (omega (arith, short, length_more path n))

pub append_named : (path : List Element) (n : List ℕ) → IsPath (path ++ Prim n ∷ []) → is_identifier n ≡ true
append_named path n h = (and_parts (is_identifier n) true (named_back path (Prim n ∷ []) h.well_formed.named)).0

pub append_few : (path : List Element) (n : List ℕ) → IsPath (path ++ Prim n ∷ []) → depth path < 64
append_few path n h = omega (arith, h.well_formed.few, depth_joined path (Prim n ∷ []), depth_cons (Prim n) [])

pub append_short : (path : List Element) (n : List ℕ) → IsPath (path ++ Prim n ∷ []) → length (written_all false path) + (cond (ends_selected false path) 0 1 + length n) ≤ 4096
append_short path n h = omega (arith, h.short, length_printed (path ++ Prim n ∷ []), length_more path n)

pub path_length : (path : List Element) → IsPath path → length (written_all false path) ≤ 4096
path_length path h = omega (arith, h.short, length_printed path)

-- ---- another front

written_little : (a b : Bool) (e : Element) → length (written a e) ≤ length (written b e) + 1
written_little true true e = omega arith
written_little true false (Prim n) = omega arith
written_little true false (Property n) = omega arith
written_little true false (Selection s v) = omega arith
written_little false true (Prim n) = omega arith
written_little false true (Property n) = omega arith
written_little false true (Selection s v) = omega arith
written_little false false e = omega arith

-- what stands before makes a difference of one byte at most
pub flag_little : (path : List Element) (a b : Bool) → length (written_all a path) ≤ length (written_all b path) + 1
flag_little [] a b = omega arith
flag_little (e ∷ path) a b =
    omega (arith, written_little a b e, length-append (written a e) (written_all (is_selection e) path), length-append (written b e) (written_all (is_selection e) path))

same_is : (e x : Element) → same_element e x ≡ true → x ≡ e
same_is (Prim a) (Prim b) h = let is : a ≡ b = (bytes_eq-Decides a b).0 h in cc
same_is (Prim a) (Property b) h = absurd cc
same_is (Prim a) (Selection t w) h = absurd cc
same_is (Property a) (Prim b) h = absurd cc
same_is (Property a) (Property b) h = let is : a ≡ b = (bytes_eq-Decides a b).0 h in cc
same_is (Property a) (Selection t w) h = absurd cc
same_is (Selection s v) (Prim b) h = absurd cc
same_is (Selection s v) (Property b) h = absurd cc
same_is (Selection s v) (Selection t w) h =
    let both = and_parts (bytes_eq s t) (bytes_eq v w) h in
    let set : s ≡ t = (bytes_eq-Decides s t).0 both.0 in
    let variant : v ≡ w = (bytes_eq-Decides v w).0 both.1 in
    cc

-- what follows a prefix follows it
pub prefix_is : (front path rest : List Element) → Some rest ≡ rest_after front path → path ≡ front ++ rest
prefix_is [] path rest h = let same : rest ≡ path = cc in sym same
prefix_is (e ∷ front) [] rest h = absurd cc
prefix_is (e ∷ front) (x ∷ path) rest h = go (same_element e x) refl h (λ is after. both_same (same_is e x is) (prefix_is front path rest after))
  where
    both_same : x ≡ e → path ≡ front ++ rest → (x ∷ path) ≡ (e ∷ front ++ rest)
    both_same p q = cc

    go : (b : Bool) → same_element e x ≡ b → Some rest ≡ elim b as (λ v. Option (List Element)) [ true ↦ rest_after front path | false ↦ None ]
        → (same_element e x ≡ true → Some rest ≡ rest_after front path → (x ∷ path) ≡ (e ∷ front ++ rest)) → (x ∷ path) ≡ (e ∷ front ++ rest)
    go true is h then = then is h
    go false is h then = absurd cc

ordered_back : (xs ys : List Element) (named : Bool) → is_ordered named (xs ++ ys) ≡ true → is_ordered true ys ≡ true
ordered_back [] ys true h = h
ordered_back [] ys false h = weaker ys h
  where
    weaker : (zs : List Element) → is_ordered false zs ≡ true → is_ordered true zs ≡ true
    weaker [] h = refl
    weaker (Prim n ∷ zs) h = h
    weaker (Selection s v ∷ zs) h = absurd cc
    weaker (Property n ∷ zs) h = absurd cc
ordered_back (Prim n ∷ xs) ys named h = ordered_back xs ys true h
ordered_back (Selection s v ∷ xs) ys named h = ordered_back xs ys true (and_parts named (is_ordered true (xs ++ ys)) h).1
ordered_back (Property n ∷ []) [] named h = refl
ordered_back (Property n ∷ []) (y ∷ ys) named h = absurd (cc (and_parts named false h).1)
ordered_back (Property n ∷ x ∷ xs) ys named h = absurd (cc (and_parts named false h).1)

pub ordered_joined : (xs ys : List Element) (named : Bool) → is_ordered named xs ≡ true → is_property xs ≡ false → (named || not (is_empty xs)) ≡ true → is_ordered true ys ≡ true → is_ordered named (xs ++ ys) ≡ true
ordered_joined [] ys true h prim some rest = rest
ordered_joined [] ys false h prim some rest = absurd cc
ordered_joined (Prim n ∷ xs) ys named h prim some rest = ordered_joined xs ys true h prim refl rest
ordered_joined (Selection s v ∷ xs) ys named h prim some rest =
    let both = and_parts named (is_ordered true xs) h in and_from _ _ both.0 (ordered_joined xs ys true both.1 prim refl rest)
ordered_joined (Property n ∷ xs) ys named h prim some rest = absurd cc

joined_ordered : (by rest : List Element) → is_ordered false by ≡ true → is_ordered true rest ≡ true → MayFollow by rest → is_ordered false (by ++ rest) ≡ true
joined_ordered [] [] h rest may = refl
joined_ordered (x ∷ by) [] h rest may = ap (is_ordered false) (append-nil (x ∷ by)) ∙ h
joined_ordered [] (Prim n ∷ more) h rest may = rest
joined_ordered [] (Property n ∷ more) h rest may = absurd cc
joined_ordered [] (Selection s v ∷ more) h rest may = absurd cc
joined_ordered (x ∷ by) (e ∷ more) h rest may = ordered_joined (x ∷ by) (e ∷ more) false h may refl rest

pub joined_path : (front by path rest : List Element) → IsPath by → IsPath path → Some rest ≡ rest_after front path → MayFollow by rest → depth by + depth rest ≤ 64
    → length (written_all false (by ++ rest)) ≤ 4096 → IsPath (by ++ rest)
joined_path front by path rest good whole is may few short =
    let split = prefix_is front path rest is in
    let ordered = ordered_back front rest false (ap (is_ordered false) (sym split) ∙ whole.well_formed.ordered) in
    let named = named_back front rest (ap (list_all is_well_named) (sym split) ∙ whole.well_formed.named) in
    path_of (by ++ rest) (joined_ordered by rest good.well_formed.ordered ordered may) (list_all-append is_well_named by rest ∙ and_from _ _ good.well_formed.named named)
    (omega (arith, few, depth_joined by rest)) short

pub rest_length : (front path rest : List Element) → IsPath path → Some rest ≡ rest_after front path → length (written_all false rest) ≤ 4096 + 1
rest_length front path rest whole is =
    omega (arith, path_length path whole, ap (λ (es : List Element). length (written_all false es)) (prefix_is front path rest is), length_joined front rest false, flag_little rest false (ends_selected false front))

pub joined_few : (by rest : List Element) → IsPath (by ++ rest) → depth by + depth rest ≤ 64
joined_few by rest h = omega (arith, h.well_formed.few, depth_joined by rest)

pub rest_few : (front path rest : List Element) → IsPath path → Some rest ≡ rest_after front path → depth rest ≤ 64
rest_few front path rest whole is = omega (arith, whole.well_formed.few, ap depth (prefix_is front path rest is), depth_joined front rest)

-- all that follows a prefix may follow a prim's path other than `/`
pub may_follow : (by rest : List Element) → (by ≡ [] → ⊥) → is_property by ≡ false → MayFollow by rest
may_follow [] rest some prim = absurd (some refl)
may_follow (x ∷ by) [] some prim = tt
may_follow (x ∷ by) (e ∷ rest) some prim = prim

same_itself : (e : Element) → same_element e e ≡ true
same_itself (Prim a) = (bytes_eq-Decides a a).1 refl
same_itself (Property a) = (bytes_eq-Decides a a).1 refl
same_itself (Selection s v) = and_from (bytes_eq s s) (bytes_eq v v) ((bytes_eq-Decides s s).1 refl) ((bytes_eq-Decides v v).1 refl)

rest_is : (front rest : List Element) → rest_after front (front ++ rest) ≡ Some rest
rest_is [] rest = refl
rest_is (e ∷ front) rest = rw (same_itself e, rest_after) (rest_is front rest)

-- the test of a prefix tells whether there is one
pub has_prefix_tells : (front path : List Element) → (has_prefix front path ≡ true → HasPrefix front path) × (HasPrefix front path → has_prefix front path ≡ true)
has_prefix_tells front path = (λ h. from (rest_after front path) refl h, λ h. ap (λ p. has_prefix front p) h.1 ∙ ap is_some (rest_is front h.0))
  where
    from : (o : Option (List Element)) → o ≡ rest_after front path → is_some o ≡ true → HasPrefix front path
    from (Some rest) is h = (rest, prefix_is front path rest is)
    from None is h = absurd cc
