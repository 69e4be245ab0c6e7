-- The symbols that are left to be read, and the list that is open.
use Rattle.std.proofs.Common.{◌≡◌, ◌∙◌, sym, ap, refl, subst, Bool, true, false, not, ◌&&◌, List, [], ◌∷◌, ◌++◌, Option, Some, None}
use Rattle.std.specs.Prelude.{if◌then◌else◌}
use Rattle.std.proofs.lemmas.Bool.{not-true}
use Rattle.plain_data.specs.Exact.{both_true}
use Rattle.usda_grammar.specs.Machine.{choose, step}
use Rattle.usda_grammar.specs.Table.{starts, may_be_absent}
use Rattle.usda_grammar.specs.declared.kinds.WordKind.{WordKind}
use Rattle.usda_grammar.specs.declared.symbols.Symbol.{Symbol}
use Rattle.usda_grammar.specs.declared.symbols.Symbol.TheVariants as symbol
use Rattle.usda_drafts.specs.declared.draft.Draft.{Draft}
use Rattle.properties_read.specs.Drafts.{HasSoundProperties, is_of_property, takes_lists}
use Rattle.properties_read.specs.Stacks.{is_above, has_no_list, is_shaped, open_list_of, if_of_property, IsListRead, IsReading}
use Rattle.properties_read.specs.Targets.{Reading, closed, begun, bracketed}
use Rattle.properties_read.proofs.Symbols.{opens_none, opens_above, are_above, starts_above, absent_other, above_other}

-- ---- stacks in which no list is open

pub plain_shaped : (stack : List Symbol) → has_no_list stack ≡ true → is_shaped stack ≡ true
plain_shaped [] h = refl
plain_shaped (s ∷ rest) h =
    let p = both_true (not (takes_lists s)) (has_no_list rest) h in
    by (takes_lists s) (is_above s) (not-true (takes_lists s) p.0) p.1 (plain_shaped rest p.1)
  where
    by : (a b : Bool) → a ≡ false → has_no_list rest ≡ true → is_shaped rest ≡ true → (if a then has_no_list rest else if b then is_shaped rest else has_no_list rest) ≡ true
    by true b f g k = absurd cc
    by false true f g k = k
    by false false f g k = g

pub plain_none : (stack : List Symbol) → has_no_list stack ≡ true → open_list_of stack ≡ None
plain_none [] h = refl
plain_none (s ∷ rest) h =
    let p = both_true (not (takes_lists s)) (has_no_list rest) h in
    ap (λ b. if b then Some s else open_list_of rest) (not-true (takes_lists s) p.0) ∙ plain_none rest p.1

plain_joined : (pushed below : List Symbol) → has_no_list pushed ≡ true → has_no_list below ≡ true → has_no_list (pushed ++ below) ≡ true
plain_joined [] below h g = g
plain_joined (s ∷ pushed) below h g =
    let p = both_true (not (takes_lists s)) (has_no_list pushed) h in
    ap (λ b. b && has_no_list (pushed ++ below)) p.0 ∙ plain_joined pushed below p.1 g

-- no list is open behind the word
pub plain_read : (stack : List Symbol) (d : Draft) → has_no_list stack ≡ true → HasSoundProperties closed d → IsReading stack d
plain_read stack d h s = record { shaped = plain_shaped stack h; sound = subst (λ o. IsListRead o d) (sym (plain_none stack h)) s }

pub plain_sound : (stack : List Symbol) (d : Draft) → has_no_list stack ≡ true → IsListRead (open_list_of stack) d → HasSoundProperties closed d
plain_sound stack d h s = subst (λ o. IsListRead o d) (plain_none stack h) s

pub pushed_plain : (found : Option (List Symbol)) (pushed below : List Symbol) (next : Draft) → found ≡ Some pushed → opens_none found ≡ true → has_no_list below ≡ true
    → HasSoundProperties closed next → IsReading (pushed ++ below) next
pushed_plain found pushed below next e h g s = plain_read (pushed ++ below) next (plain_joined pushed below (ap opens_none (sym e) ∙ h) g) s

-- ---- symbols above a list

above_shaped : (s : Symbol) (rest : List Symbol) → is_above s ≡ true → is_shaped (s ∷ rest) ≡ is_shaped rest
above_shaped s rest h = ap (λ b. if b then has_no_list rest else if is_above s then is_shaped rest else has_no_list rest) (above_other s h) ∙ ap (λ b. if b then is_shaped rest else has_no_list rest) h

other_open : (s : Symbol) (rest : List Symbol) → takes_lists s ≡ false → open_list_of (s ∷ rest) ≡ open_list_of rest
other_open s rest h = ap (λ b. if b then Some s else open_list_of rest) h

all_shaped : (pushed below : List Symbol) → are_above pushed ≡ true → is_shaped (pushed ++ below) ≡ is_shaped below
all_shaped [] below h = refl
all_shaped (s ∷ pushed) below h = let p = both_true (is_above s) (are_above pushed) h in above_shaped s (pushed ++ below) p.0 ∙ all_shaped pushed below p.1

all_open : (pushed below : List Symbol) → are_above pushed ≡ true → open_list_of (pushed ++ below) ≡ open_list_of below
all_open [] below h = refl
all_open (s ∷ pushed) below h = let p = both_true (is_above s) (are_above pushed) h in other_open s (pushed ++ below) (above_other s p.0) ∙ all_open pushed below p.1

-- a word of which the list that is open stays so
pub list_moved : (o : Option Symbol) (d next : Draft) → ((r : Reading) → HasSoundProperties r d → HasSoundProperties r next) → next.list ≡ d.list → IsListRead o d → IsListRead o next
list_moved None d next so same s = so closed s
list_moved (Some symbol.PathList) d next so same s = subst (λ l. HasSoundProperties (if_of_property (is_of_property l) begun) next) (sym same) (so (if_of_property (is_of_property d.list) begun) s)
list_moved (Some symbol.PathsOrEnd) d next so same s = subst (λ l. HasSoundProperties (if_of_property (is_of_property l) bracketed) next) (sym same) (so (if_of_property (is_of_property d.list) bracketed) s)
list_moved (Some symbol.MorePaths) d next so same s = subst (λ l. HasSoundProperties (if_of_property (is_of_property l) bracketed) next) (sym same) (so (if_of_property (is_of_property d.list) bracketed) s)
list_moved (Some t) d next so same s = (ap is_of_property same ∙ s.0, so closed s.1)

pub pushed_above : (s : Symbol) (k : WordKind) (pushed below : List Symbol) (d next : Draft) → is_above s ≡ true → starts s k ≡ Some pushed → is_shaped (s ∷ below) ≡ true
    → ((r : Reading) → HasSoundProperties r d → HasSoundProperties r next) → next.list ≡ d.list → IsListRead (open_list_of (s ∷ below)) d → IsReading (pushed ++ below) next
pushed_above s k pushed below d next up e shaped so same read =
    let all : are_above pushed ≡ true = ap opens_above (sym e) ∙ starts_above s k up in
    record {
      shaped = all_shaped pushed below all ∙ sym (above_shaped s below up) ∙ shaped;
      sound = subst (λ o. IsListRead o next) (sym (all_open pushed below all))
          (list_moved (open_list_of below) d next so same (subst (λ o. IsListRead o d) (other_open s below (above_other s up)) read));
    }

-- ---- the symbol that takes a word

-- the symbol, what stood below it, and what stands above that behind the word
pub record Taken (stack : List Symbol) (k : WordKind) (s : Symbol) (after : List Symbol) : Type 0 where
  pub below : List Symbol
  pub pushed : List Symbol
  pub starts_is : starts s k ≡ Some pushed
  pub after_is : pushed ++ below ≡ after
  pub shaped : is_shaped (s ∷ below) ≡ true
  pub same : open_list_of (s ∷ below) ≡ open_list_of stack

rest_shaped : (t : Symbol) (rest : List Symbol) → takes_lists t ≡ false → is_shaped (t ∷ rest) ≡ true → is_shaped rest ≡ true
rest_shaped t rest h shaped = by (takes_lists t) (is_above t) h shaped
  where
    by : (a b : Bool) → a ≡ false → (if a then has_no_list rest else if b then is_shaped rest else has_no_list rest) ≡ true → is_shaped rest ≡ true
    by true b f g = absurd cc
    by false true f g = g
    by false false f g = plain_shaped rest g

pub taken : (stack : List Symbol) (k : WordKind) (s : Symbol) (after : List Symbol) → is_shaped stack ≡ true → step stack k ≡ Some (s, after) → Taken stack k s after
taken [] k s after shaped e = absurd cc
taken (t ∷ stack) k s after shaped e = by (starts t k) (may_be_absent t) refl refl e (λ g f. taken stack k s after g f)
  where
    by : (o : Option (List Symbol)) (b : Bool) → starts t k ≡ o → may_be_absent t ≡ b → choose t stack o b (step stack k) ≡ Some (s, after)
        → (is_shaped stack ≡ true → step stack k ≡ Some (s, after) → Taken stack k s after) → Taken (t ∷ stack) k s after
    by (Some pushed) b st ab e more =
        let pair : ◌≡◌ {A = Symbol × List Symbol} (t, pushed ++ stack) (s, after) = cc e in
        let here : t ≡ s = ap (λ (p : Symbol × List Symbol). p.0) pair in
        let left : pushed ++ stack ≡ after = ap (λ (p : Symbol × List Symbol). p.1) pair in
        let found : Taken (t ∷ stack) k t (pushed ++ stack) = record { below = stack; pushed = pushed; starts_is = st; after_is = refl; shaped = shaped; same = refl } in
        subst (λ x. Taken (t ∷ stack) k x after) here (subst (λ a. Taken (t ∷ stack) k t a) left found)
    by None true st ab e more =
        let other : takes_lists t ≡ false = absent_other t ab in
        let rest = more (rest_shaped t stack other shaped) e in
        record { below = rest.below; pushed = rest.pushed; starts_is = rest.starts_is; after_is = rest.after_is; shaped = rest.shaped; same = rest.same ∙ sym (other_open t stack other) }
    by None false st ab e more = absurd cc
