-- The productions make of words what the table makes of them, and refuse them first where it does.
use Rattle.std.proofs.Common.{◌≡◌, ◌⊎◌, inl, inr, Bool, true, List, [], ◌∷◌, ◌++◌, length, map, Option, Some, None, Result, Ok, Err, refl, ap, sym, subst, ◌∙◌, arith}
use Rattle.std.proofs.lemmas.List.{append-nil}
use Rattle.std.proofs.lemmas.Bool.{and_parts}
use Rattle.usda_grammar.specs.declared.kinds.WordKind.{WordKind}
use Rattle.usda_grammar.specs.declared.symbols.Symbol.{Symbol}
use Rattle.usda_grammar.specs.Table.{layer, starts}
use Rattle.usda_grammar.specs.Derivations.{Derivation, ends, skips, takes, Derives, AreText}
use Rattle.usda_machine.specs.Texts as table
use Rattle.usda_machine.proofs.Appending.{makes_append}
use Rattle.usda_productions.specs.Forms.{Form, one}
use Rattle.usda_productions.specs.Rules.{layer_forms}
use Rattle.usda_productions.specs.Texts.{Choice, Route, done, word, pick, IsMade, MakeBy, adds_nothing, IsText}
use Rattle.usda_productions.specs.Refusals as by_rules
use Rattle.usda_productions.specs.Productions.{ProductionsMakeTheSame}
use Rattle.usda_productions.proofs.Shapes.{form, forms}
use Rattle.usda_productions.proofs.Ways.{absent, absent_all, row}
use Rattle.usda_productions.proofs.Agree.{table as agrees, absent_same}
use Rattle.usda_productions.proofs.Opening.{Opens, OpenTo, skipped, nothing_left, IsIn, Reaches, ways_reach, claim}

forms-append : (xs ys : List Symbol) → forms (xs ++ ys) ≡ forms xs ++ forms ys
forms-append [] ys = refl
forms-append (x ∷ xs) ys = ap (λ (l : List Form). form x ∷ l) (forms-append xs ys)

-- where a symbol begins with a token, its form is opened to a word of that symbol
row_reached : (s : Symbol) (k : WordKind) (after stack : List Symbol) → starts s k ≡ Some after → Reaches (forms (s ∷ stack)) k s (forms (after ++ stack))
row_reached s k after stack at =
    subst (Reaches (forms (s ∷ stack)) k s) (sym (forms-append after stack))
    (ways_reach 24 (form s) k ((s, forms after) ∷ []) (agrees s k ∙ ap (λ (o : Option (List Symbol)). Some (row s o)) at) (s, forms after) (inl refl) (forms stack))

-- ---- whatever words and drafts are

module _ {Word Draft Refusal : Type 0} (kind : Word → WordKind) (act : Symbol → Word → Draft → Result Draft Refusal) (refused_as : Option Word → Refusal) where
  abbrev Makes : Derivation → List Symbol → Draft → List Word → List Symbol → Draft → Type 0
  Makes = table.Makes kind act refused_as

  abbrev Made : List Form → Draft → List Word → List Form → Draft → Type 0
  Made fs d ws to out = (p : Route) × IsMade kind act p fs d ws to out

  -- forms are opened before the first word
  opens_first : (cs : List Choice) (fs mid : List Form) (d : Draft) (ws : List Word) (to : List Form) (out : Draft) → Opens cs fs mid → Made mid d ws to out → Made fs d ws to out
  opens_first [] fs mid d ws to out h m = subst (λ (l : List Form). Made l d ws to out) (sym h) m
  opens_first (c ∷ cs) [] mid d ws to out h m = absurd h
  opens_first (c ∷ cs) (f ∷ fs) mid d ws to out (gs, op, h) m = let t = opens_first cs (gs ++ fs) mid d ws to out h m in (pick c t.0, (gs, op, t.1))

  -- forms are opened behind the last word
  opens_last : (p : Route) (fs : List Form) (d : Draft) (ws : List Word) (mid to : List Form) (out : Draft) → IsMade kind act p fs d ws mid out → OpenTo mid to → Made fs d ws to out
  opens_last done fs d [] mid to out h o = opens_first o.0 fs to d [] to out (subst (λ (l : List Form). Opens o.0 l to) (sym h.0) o.1) (done, (refl, h.1))
  opens_last done fs d (w ∷ ws) mid to out h o = absurd h
  opens_last (word p) [] d ws mid to out h o = absurd h
  opens_last (word p) (f ∷ fs) d [] mid to out h o = absurd h
  opens_last (word p) (one s test ∷ fs) d (w ∷ ws) mid to out (next, passes, acted, h) o = let t = opens_last p fs next ws mid to out h o in (word t.0, (next, passes, acted, t.1))
  opens_last (word p) (f ∷ fs) d (w ∷ ws) mid to out h o = absurd h
  opens_last (pick c p) [] d ws mid to out h o = absurd h
  opens_last (pick c p) (f ∷ fs) d ws mid to out (gs, op, h) o = let t = opens_last p (gs ++ fs) d ws mid to out h o in (pick c t.0, (gs, op, t.1))

  -- ---- from the table to the productions

  makes_forms : (t : Derivation) (stack : List Symbol) (d : Draft) (ws : List Word) (left : List Symbol) (out : Draft) → Makes t stack d ws left out → Made (forms stack) d ws (forms left) out
  makes_forms ends stack d [] left out h = (done, (ap forms h.0, h.1))
  makes_forms ends stack d (w ∷ ws) left out h = absurd h
  makes_forms (skips t) [] d ws left out h = absurd h
  makes_forms (skips t) (s ∷ stack) d ws left out h =
      let o = skipped (form s) (absent_same s ∙ h.0) (forms stack) in
      opens_first o.0 (forms (s ∷ stack)) (forms stack) d ws (forms left) out o.1 (makes_forms t stack d ws left out h.1)
  makes_forms (takes t) [] d ws left out h = absurd h
  makes_forms (takes t) (s ∷ stack) d [] left out h = absurd h
  makes_forms (takes t) (s ∷ stack) d (w ∷ ws) left out (after, next, at, acted, h) =
      let r = row_reached s (kind w) after stack at in
      let m = makes_forms t (after ++ stack) next ws left out h in
      opens_first r.2.0 (forms (s ∷ stack)) (one s r.0 ∷ forms (after ++ stack)) d (w ∷ ws) (forms left) out r.2.1 (word m.0, (next, r.1, acted, m.1))

  -- ---- from the productions to the table

  -- the first word, and the form that takes it
  record Took (fs : List Form) (d : Draft) (w : Word) (ws : List Word) (to : List Form) (out : Draft) : Type 0 where
    pub symbol : Symbol
    pub test : WordKind → Bool
    pub behind : List Form
    pub choices : List Choice
    pub opens : Opens choices fs (one symbol test ∷ behind)
    pub passes : test (kind w) ≡ true
    pub next : Draft
    pub acted : act symbol w d ≡ Ok next
    pub by : Route
    pub made : IsMade kind act by behind next ws to out

  took : (p : Route) (fs : List Form) (d : Draft) (w : Word) (ws : List Word) (to : List Form) (out : Draft) → IsMade kind act p fs d (w ∷ ws) to out → Took fs d w ws to out
  took done fs d w ws to out h = absurd h
  took (word p) [] d w ws to out h = absurd h
  took (word p) (one s test ∷ fs) d w ws to out (next, passes, acted, h) = record { symbol = s; test = test; behind = fs; choices = []; opens = refl; passes = passes; next = next; acted = acted; by = p; made = h }
  took (word p) (f ∷ fs) d w ws to out h = absurd h
  took (pick c p) [] d w ws to out h = absurd h
  took (pick c p) (f ∷ fs) d w ws to out (gs, op, h) =
      let t = took p (gs ++ fs) d w ws to out h in
      record { symbol = t.symbol; test = t.test; behind = t.behind; choices = c ∷ t.choices; opens = (gs, op, t.opens); passes = t.passes; next = t.next; acted = t.acted; by = t.by; made = t.made }

  -- without a word forms are only opened
  only_opened : (p : Route) (fs : List Form) (d : Draft) (to : List Form) (out : Draft) → IsMade kind act p fs d [] to out → OpenTo fs to × (d ≡ out)
  only_opened done fs d to out h = (([], h.0), h.1)
  only_opened (word p) [] d to out h = absurd h
  only_opened (word p) (f ∷ fs) d to out h = absurd h
  only_opened (pick c p) [] d to out h = absurd h
  only_opened (pick c p) (f ∷ fs) d to out (gs, op, h) = let t = only_opened p (gs ++ fs) d to out h in ((c ∷ t.0.0, (gs, op, t.0.1)), t.1)

  -- the symbol that takes the token is on top once those before it are absent
  record Tops (stack : List Symbol) (d : Draft) (k : WordKind) (s : Symbol) (behind : List Form) : Type 0 where
    pub below : List Symbol
    pub after : List Symbol
    pub by : Derivation
    pub made : Makes by stack d [] (s ∷ below) d
    pub starts_it : starts s k ≡ Some after
    pub same : behind ≡ forms (after ++ below)

  top_row : (u : Symbol) (stack : List Symbol) (d : Draft) (k : WordKind) (s : Symbol) (behind r : List Form) (o : Option (List Symbol)) → starts u k ≡ o → IsIn (s, r) (row u o) → behind ≡ r ++ forms stack → Tops (u ∷ stack) d k s behind
  top_row u stack d k s behind r None at is_in e = absurd is_in
  top_row u stack d k s behind r (Some after) at (inr x) e = absurd x
  top_row u stack d k s behind r (Some after) at (inl x) e =
      let sames : u ≡ s = ap (λ (y : Symbol × List Form). y.0) x in
      let rests : r ≡ forms after = ap (λ (y : Symbol × List Form). y.1) (sym x) in
      record {
        below = stack;
        after = after;
        by = ends;
        made = (ap (λ (y : Symbol). y ∷ stack) sames, refl);
        starts_it = ap (λ (y : Symbol). starts y k) (sym sames) ∙ at;
        same = e ∙ ap (λ (l : List Form). l ++ forms stack) rests ∙ sym (forms-append after stack);
      }

  tops : (stack : List Symbol) (d : Draft) (k : WordKind) (s : Symbol) (test : WordKind → Bool) (behind : List Form) (cs : List Choice) → test k ≡ true → Opens cs (forms stack) (one s test ∷ behind) → Tops stack d k s behind
  tops [] d k s test behind [] passes h = absurd cc
  tops [] d k s test behind (c ∷ cs) passes h = absurd h
  tops (u ∷ stack) d k s test behind cs passes h = elim (claim (length cs) 24 (form u) (forms stack) k s test behind (row u (starts u k)) cs (omega arith) passes (agrees u k) h) [
    | inl x ↦ top_row u stack d k s behind x.0 (starts u k) refl x.1 x.2
    | inr x ↦
        let t = tops stack d k s test behind x.1 passes x.3 in
        record { below = t.below; after = t.after; by = skips t.by; made = (sym (absent_same u) ∙ x.0, t.made); starts_it = t.starts_it; same = t.same }
  ]

  -- the same, where no word is left
  makes_to : (t : Derivation) (stack : List Symbol) (d : Draft) (ws : List Word) (mid : List Symbol) (d_mid : Draft) (u : Derivation) (left : List Symbol) (out : Draft) → Makes t stack d ws mid d_mid → Makes u mid d_mid [] left out → (v : Derivation) × Makes v stack d ws left out
  makes_to t stack d ws mid d_mid u left out h g = let v = makes_append kind act refused_as t stack d ws mid d_mid u [] left out h g in (v.0, subst (λ (l : List Word). Makes v.0 stack d l left out) (append-nil ws) v.1)

  -- the table has got behind the words, to symbols whose forms are opened to those that are left
  record Got (stack : List Symbol) (d : Draft) (ws : List Word) (to : List Form) (out : Draft) : Type 0 where
    pub mid : List Symbol
    pub by : Derivation
    pub made : Makes by stack d ws mid out
    pub opens : OpenTo (forms mid) to

  got : (ws : List Word) (stack : List Symbol) (d : Draft) (to : List Form) (out : Draft) (p : Route) → IsMade kind act p (forms stack) d ws to out → Got stack d ws to out
  got [] stack d to out p h = let o = only_opened p (forms stack) d to out h in record { mid = stack; by = ends; made = (refl, o.1); opens = o.0 }
  got (w ∷ ws) stack d to out p h =
      let t = took p (forms stack) d w ws to out h in
      let top = tops stack d (kind w) t.symbol t.test t.behind t.choices t.passes t.opens in
      let g = got ws (top.after ++ top.below) t.next to out t.by (subst (λ (l : List Form). IsMade kind act t.by l t.next ws to out) top.same t.made) in
      let v = makes_append kind act refused_as top.by stack d [] (t.symbol ∷ top.below) d (takes g.by) (w ∷ ws) g.mid out top.made (top.after, t.next, top.starts_it, t.acted, g.made) in
      record { mid = g.mid; by = v.0; made = v.1; opens = g.opens }

  all_skipped : (stack : List Symbol) (d : Draft) → absent_all (forms stack) ≡ true → (t : Derivation) × Makes t stack d [] [] d
  all_skipped [] d e = (ends, (refl, refl))
  all_skipped (s ∷ stack) d e =
      let b = and_parts (absent (form s)) (absent_all (forms stack)) e in
      let t = all_skipped stack d b.1 in
      (skips t.0, (sym (absent_same s) ∙ b.0, t.1))

  makes_symbols : (stack : List Symbol) (d : Draft) (ws : List Word) (out : Draft) → MakeBy kind act (forms stack) d ws out → (t : Derivation) × Makes t stack d ws [] out
  makes_symbols stack d ws out (p, h) =
      let g = got ws stack d [] out p h in
      let t = all_skipped g.mid out (nothing_left g.opens.0 (forms g.mid) g.opens.1) in
      makes_to g.by stack d ws g.mid out t.0 [] out g.made t.1

-- ---- mere kinds

abbrev KindsMake : Derivation → List Symbol → List WordKind → Type 0
KindsMake t stack ks = table.Makes (λ k. k) adds_nothing (λ o. tt) t stack tt ks [] tt

derived : (t : Derivation) (stack : List Symbol) (ks : List WordKind) → Derives t stack ks → KindsMake t stack ks
derived ends [] [] h = (refl, refl)
derived ends [] (k ∷ ks) h = absurd h
derived ends (s ∷ stack) ks h = absurd h
derived (skips t) [] ks h = absurd h
derived (skips t) (s ∷ stack) ks h = (h.0, derived t stack ks h.1)
derived (takes t) [] ks h = absurd h
derived (takes t) (s ∷ stack) [] h = absurd h
derived (takes t) (s ∷ stack) (k ∷ ks) (after, at, h) = (after, tt, at, refl, derived t (after ++ stack) ks h)

derives : (t : Derivation) (stack : List Symbol) (ks : List WordKind) → KindsMake t stack ks → Derives t stack ks
derives ends [] [] h = tt
derives ends [] (k ∷ ks) h = absurd h
derives ends (s ∷ stack) [] h = absurd (let e = h.0 in cc)
derives ends (s ∷ stack) (k ∷ ks) h = absurd h
derives (skips t) [] ks h = absurd h
derives (skips t) (s ∷ stack) ks h = (h.0, derives t stack ks h.1)
derives (takes t) [] ks h = absurd h
derives (takes t) (s ∷ stack) [] h = absurd h
derives (takes t) (s ∷ stack) (k ∷ ks) (after, next, at, acted, h) = (after, at, derives t (after ++ stack) ks h)

pub text_written : (stack : List Symbol) (ks : List WordKind) → AreText stack ks → IsText (forms stack) ks
text_written stack ks (t, h) = makes_forms (λ k. k) adds_nothing (λ o. tt) t stack tt ks [] tt (derived t stack ks h)

pub text_read : (stack : List Symbol) (ks : List WordKind) → IsText (forms stack) ks → AreText stack ks
text_read stack ks h = let t = makes_symbols (λ k. k) adds_nothing (λ o. tt) stack tt ks tt h in (t.0, derives t.0 stack ks t.1)

-- ---- layers

module _ {Word Draft Refusal : Type 0} (kind : Word → WordKind) (act : Symbol → Word → Draft → Result Draft Refusal) (refused_as : Option Word → Refusal) (blank : Draft) where
  pub written : (ws : List Word) (out : Draft) → table.Make kind act refused_as blank ws out → MakeBy kind act layer_forms blank ws out
  written ws out (t, h) = makes_forms kind act refused_as t layer blank ws [] out h

  pub read : (ws : List Word) (out : Draft) → MakeBy kind act layer_forms blank ws out → table.Make kind act refused_as blank ws out
  read ws out h = makes_symbols kind act refused_as layer blank ws out h

  read_to : (front : List Word) (stack : List Symbol) (d : Draft) → table.HasRead kind act refused_as blank front stack d → by_rules.HasRead kind act refused_as blank front (forms stack) d
  read_to front stack d h = let m = makes_forms kind act refused_as h.by layer blank front stack d h.made in record { by = m.0; made = m.1 }

  -- ---- refusals of the table are those of the productions

  syntax_written : (front : List Word) (w : Word) (r : Refusal) → table.IsSyntax kind act refused_as blank front w r → by_rules.IsSyntax kind act refused_as blank front w r
  syntax_written front w r s = record { refusal = s.refusal; none = λ rest text. s.none rest (text_read layer (map kind front ++ kind w ∷ rest) text) }

  act_written : (front : List Word) (w : Word) (rest : List Word) (stack : List Symbol) (d : Draft) (r : Refusal) → table.HasRead kind act refused_as blank front stack d → table.IsRefusedAct kind act refused_as blank stack d w r → by_rules.IsAtWord kind act refused_as blank (front ++ w ∷ rest) r
  act_written front w rest stack d r h x =
      let m = read_to front stack d h in
      let there = row_reached x.symbol (kind w) x.after x.below x.starts_it in
      let behind = forms (x.after ++ x.below) in
      let opens = subst (λ (l : List Symbol). OpenTo (forms l) (one x.symbol there.0 ∷ behind)) (sym x.top) there.2 in
      let at = opens_last kind act refused_as m.by layer_forms blank front (forms stack) (one x.symbol there.0 ∷ behind) d m.made opens in
      record {
        front = front;
        word = w;
        rest = rest;
        split = refl;
        fs = one x.symbol there.0 ∷ behind;
        draft = d;
        read = record { by = at.0; made = at.1 };
        reason = inr (record {
          symbol = x.symbol;
          test = there.0;
          behind = behind;
          first = refl;
          passes = there.1;
          rest = x.rest;
          text = text_written (x.after ++ x.below) x.rest x.text;
          refused = x.refused;
        });
      }

  word_written : (ws : List Word) (r : Refusal) → table.IsAtWord kind act refused_as blank ws r → by_rules.IsAtWord kind act refused_as blank ws r
  word_written ws r a = by a.reason
    where
      by : (table.IsSyntax kind act refused_as blank a.front a.word r) ⊎ (table.IsRefusedAct kind act refused_as blank a.stack a.draft a.word r) → by_rules.IsAtWord kind act refused_as blank ws r
      by (inl s) = record { front = a.front; word = a.word; rest = a.rest; split = a.split; fs = forms a.stack; draft = a.draft; read = read_to a.front a.stack a.draft a.read; reason = inl (syntax_written a.front a.word r s) }
      by (inr x) = subst (λ (l : List Word). by_rules.IsAtWord kind act refused_as blank l r) (sym a.split) (act_written a.front a.word a.rest a.stack a.draft r a.read x)

  end_written : (ws : List Word) (r : Refusal) → table.IsAtEnd kind act refused_as blank ws r → by_rules.IsAtEnd kind act refused_as blank ws r
  end_written ws r a = record { fs = forms a.stack; draft = a.draft; read = read_to ws a.stack a.draft a.read; refusal = a.refusal; none = λ text. a.none (text_read layer (map kind ws) text) }

  pub refused : (ws : List Word) (r : Refusal) → table.HaveFirstRefusal kind act refused_as blank ws r → by_rules.HaveFirstRefusal kind act refused_as blank ws r
  refused ws r (inl a) = inl (word_written ws r a)
  refused ws r (inr a) = inr (end_written ws r a)

  -- ---- refusals of the productions are those of the table

  syntax_read : (front : List Word) (w : Word) (r : Refusal) → by_rules.IsSyntax kind act refused_as blank front w r → table.IsSyntax kind act refused_as blank front w r
  syntax_read front w r s = record { refusal = s.refusal; none = λ rest text. s.none rest (text_written layer (map kind front ++ kind w ∷ rest) text) }

  act_read : (front : List Word) (w : Word) (rest : List Word) (d : Draft) (r : Refusal) (x : Symbol) (test : WordKind → Bool) (behind : List Form) (left : List WordKind) → Got kind act refused_as layer blank front (one x test ∷ behind) d → test (kind w) ≡ true → IsText behind left → act x w d ≡ Err r → table.IsAtWord kind act refused_as blank (front ++ w ∷ rest) r
  act_read front w rest d r x test behind left g passes text acted =
      let t = tops kind act refused_as g.mid d (kind w) x test behind g.opens.0 passes g.opens.1 in
      let v = makes_to kind act refused_as g.by layer blank front g.mid d t.by (x ∷ t.below) d g.made t.made in
      record {
        front = front;
        word = w;
        rest = rest;
        split = refl;
        stack = x ∷ t.below;
        draft = d;
        read = record { by = v.0; made = v.1 };
        reason = inr (record {
          symbol = x;
          below = t.below;
          after = t.after;
          top = refl;
          starts_it = t.starts_it;
          rest = left;
          text = text_read (t.after ++ t.below) left (subst (λ (l : List Form). IsText l left) t.same text);
          refused = acted;
        });
      }

  word_read : (ws : List Word) (r : Refusal) → by_rules.IsAtWord kind act refused_as blank ws r → table.IsAtWord kind act refused_as blank ws r
  word_read ws r a = by a.reason
    where
      by : (by_rules.IsSyntax kind act refused_as blank a.front a.word r) ⊎ (by_rules.IsRefusedAct kind act refused_as blank a.fs a.draft a.word r) → table.IsAtWord kind act refused_as blank ws r
      by (inl s) =
          let g = got kind act refused_as a.front layer blank a.fs a.draft a.read.by a.read.made in
          record { front = a.front; word = a.word; rest = a.rest; split = a.split; stack = g.mid; draft = a.draft; read = record { by = g.by; made = g.made }; reason = inl (syntax_read a.front a.word r s) }
      by (inr x) =
          let made = subst (λ (l : List Form). IsMade kind act a.read.by layer_forms blank a.front l a.draft) x.first a.read.made in
          let g = got kind act refused_as a.front layer blank (one x.symbol x.test ∷ x.behind) a.draft a.read.by made in
          subst (λ (l : List Word). table.IsAtWord kind act refused_as blank l r) (sym a.split) (act_read a.front a.word a.rest a.draft r x.symbol x.test x.behind x.rest g x.passes x.text x.refused)

  end_read : (ws : List Word) (r : Refusal) → by_rules.IsAtEnd kind act refused_as blank ws r → table.IsAtEnd kind act refused_as blank ws r
  end_read ws r a =
      let g = got kind act refused_as ws layer blank a.fs a.draft a.read.by a.read.made in
      record { stack = g.mid; draft = a.draft; read = record { by = g.by; made = g.made }; refusal = a.refusal; none = λ text. a.none (text_written layer (map kind ws) text) }

  pub refuses : (ws : List Word) (r : Refusal) → by_rules.HaveFirstRefusal kind act refused_as blank ws r → table.HaveFirstRefusal kind act refused_as blank ws r
  refuses ws r (inl a) = inl (word_read ws r a)
  refuses ws r (inr a) = inr (end_read ws r a)

  pub make_the_same : ProductionsMakeTheSame kind act refused_as blank
  make_the_same = record { written = written; read = read; refused = refused; refuses = refuses }
