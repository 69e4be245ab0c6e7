-- The run of the machine gives exactly what the grammar makes of a text, and its first refusal.
use Rattle.std.proofs.Common.{◌≡◌, ◌⊎◌, inl, inr, Bool, true, false, ◌&&◌, List, [], ◌∷◌, ◌++◌, Option, Some, None, Result, Ok, Err, refl, ap, sym, subst, ◌∙◌, append_assoc}
use Rattle.std.proofs.lemmas.List.{append-nil}
use Rattle.usda_grammar.specs.declared.kinds.WordKind.{WordKind}
use Rattle.usda_grammar.specs.declared.symbols.Symbol.{Symbol}
use Rattle.usda_grammar.specs.Table.{layer, starts, may_be_absent}
use Rattle.usda_grammar.specs.Derivations.{Derivation, ends, skips, takes, AreText}
use Rattle.usda_grammar.specs.Machine.{choose, step, left_behind, steps, is_done}
use Rattle.usda_grammar.proofs.Follow.{may_follow}
use Rattle.usda_grammar.proofs.Clear.{IsClear, is_good-at, clear-after, clear-layer}
use Rattle.usda_grammar.proofs.Parsing.{step_sound, done_text, completed, shortest_of, refused as no_text, text as of_text}
use Rattle.usda_machine.specs.Reading.{after_act as after_act_by, after_step as after_step_by, at_end as at_end_by, run as run_by}
use Rattle.usda_machine.specs.Texts.{Makes as MakesBy, Make as MakeBy, kinds as kinds_by, HasRead as HasReadBy, IsSyntax as IsSyntaxBy, IsRefusedAct as IsRefusedActBy, IsAtWord as IsAtWordBy, IsAtEnd as IsAtEndBy, HaveFirstRefusal as HaveFirstRefusalBy, HaveOneAnswer as HaveOneAnswerBy}
use Rattle.usda_machine.proofs.Appending.{makes_append}

-- a symbol that may be absent does not hide what takes the token below it
pub below_it : (s : Symbol) (stack : List Symbol) (k : WordKind) (next : Symbol × List Symbol) → IsClear (s ∷ stack) → may_be_absent s ≡ true → step stack k ≡ Some next → step (s ∷ stack) k ≡ Some next
below_it s stack k next clear absent took = from (starts s k) (may_follow s k) refl refl
  where
    from : (o : Option (List Symbol)) (b : Bool) → starts s k ≡ o → may_follow s k ≡ b → step (s ∷ stack) k ≡ Some next
    from o false at follow = let none = clear.0 k follow in absurd (let f : None ≡ Some next = sym none ∙ took in cc)
    from None true at follow = rw (at, absent) took
    from (Some after) true at follow = let g : (may_be_absent s && may_follow s k) ≡ false = (is_good-at s k after at).unlike in absurd (let f : (true && true) ≡ false = rw (absent, follow) at g in cc)

module _ {Word Draft Refusal : Type 0} (kind : Word → WordKind) (act : Symbol → Word → Draft → Result Draft Refusal) (refused_as : Option Word → Refusal) (blank : Draft) where
  abbrev start : List Symbol
  start = layer

  clear_start : IsClear start
  clear_start = clear-layer

  abbrev after_act : Result Draft Refusal → (Draft → Result Draft Refusal) → Result Draft Refusal
  after_act = after_act_by kind act refused_as

  abbrev after_step : Option (Symbol × List Symbol) → Draft → Word → (List Symbol → Draft → Result Draft Refusal) → Result Draft Refusal
  after_step = after_step_by kind act refused_as

  abbrev at_end : Bool → Draft → Result Draft Refusal
  at_end = at_end_by kind act refused_as

  abbrev run : List Symbol → Draft → List Word → Result Draft Refusal
  run = run_by kind act refused_as

  abbrev Makes : Derivation → List Symbol → Draft → List Word → List Symbol → Draft → Type 0
  Makes = MakesBy kind act refused_as

  abbrev kinds : List Word → List WordKind
  kinds = kinds_by kind act refused_as

  abbrev Make : List Word → Draft → Type 0
  Make = MakeBy kind act refused_as blank

  abbrev HasRead : List Word → List Symbol → Draft → Type 0
  HasRead = HasReadBy kind act refused_as blank

  abbrev IsSyntax : List Word → Word → Refusal → Type 0
  IsSyntax = IsSyntaxBy kind act refused_as blank

  abbrev IsRefusedAct : List Symbol → Draft → Word → Refusal → Type 0
  IsRefusedAct = IsRefusedActBy kind act refused_as blank

  abbrev IsAtWord : List Word → Refusal → Type 0
  IsAtWord = IsAtWordBy kind act refused_as blank

  abbrev IsAtEnd : List Word → Refusal → Type 0
  IsAtEnd = IsAtEndBy kind act refused_as blank

  abbrev HaveFirstRefusal : List Word → Refusal → Type 0
  HaveFirstRefusal = HaveFirstRefusalBy kind act refused_as blank

  abbrev HaveOneAnswer : List Word → Type 0
  HaveOneAnswer = HaveOneAnswerBy kind act refused_as blank

  -- ---- one word

  -- the machine takes the word with this symbol
  record Took (stack : List Symbol) (d : Draft) (w : Word) (ws : List Word) (left : List Symbol) (out : Draft) : Type 0 where
    pub symbol : Symbol
    pub next : List Symbol
    pub draft : Draft
    pub took : step stack (kind w) ≡ Some (symbol, next)
    pub acted : act symbol w d ≡ Ok draft
    pub clear : IsClear next
    pub by : Derivation
    pub made : Makes by next draft ws left out

  took_word : (t : Derivation) (stack : List Symbol) (d : Draft) (w : Word) (ws : List Word) (left : List Symbol) (out : Draft) → IsClear stack → Makes t stack d (w ∷ ws) left out → Took stack d w ws left out
  took_word ends stack d w ws left out clear h = absurd h
  took_word (skips t) [] d w ws left out clear h = absurd h
  took_word (skips t) (s ∷ stack) d w ws left out clear (absent, h) =
      let b = took_word t stack d w ws left out clear.1 h in
      record { symbol = b.symbol; next = b.next; draft = b.draft; took = below_it s stack (kind w) (b.symbol, b.next) clear absent b.took; acted = b.acted; clear = b.clear; by = b.by; made = b.made }
  took_word (takes t) [] d w ws left out clear h = absurd h
  took_word (takes t) (s ∷ stack) d w ws left out clear (after, next, at, acted, h) =
      record { symbol = s; next = after ++ stack; draft = next; took = rw at refl; acted = acted; clear = clear-after s stack (kind w) after clear at; by = t; made = h }

  -- from symbols that are absent the machine gets to the same
  skipped : (t : Derivation) (stack : List Symbol) (d : Draft) (s : Symbol) (below : List Symbol) (out : Draft) (k : WordKind) (after : List Symbol) → IsClear stack → Makes t stack d [] (s ∷ below) out → starts s k ≡ Some after → step stack k ≡ Some (s, after ++ below)
  skipped ends stack d s below out k after clear h at = ap (λ (x : List Symbol). step x k) h.0 ∙ rw at refl
  skipped (skips t) [] d s below out k after clear h at = absurd h
  skipped (skips t) (u ∷ stack) d s below out k after clear h at = below_it u stack k (s, after ++ below) clear h.0 (skipped t stack d s below out k after clear.1 h.1 at)
  skipped (takes t) [] d s below out k after clear h at = absurd h
  skipped (takes t) (u ∷ stack) d s below out k after clear h at = absurd h

  same_draft : (t : Derivation) (stack : List Symbol) (d : Draft) (left : List Symbol) (out : Draft) → Makes t stack d [] left out → d ≡ out
  same_draft ends stack d left out h = h.1
  same_draft (skips t) [] d left out h = absurd h
  same_draft (skips t) (u ∷ stack) d left out h = same_draft t stack d left out h.1
  same_draft (takes t) [] d left out h = absurd h
  same_draft (takes t) (u ∷ stack) d left out h = absurd h

  done_skips : (t : Derivation) (stack : List Symbol) (d out : Draft) → Makes t stack d [] [] out → is_done stack ≡ true
  done_skips ends stack d out h = ap is_done h.0
  done_skips (skips t) [] d out h = absurd h
  done_skips (skips t) (u ∷ stack) d out h = rw h.0 (done_skips t stack d out h.1)
  done_skips (takes t) [] d out h = absurd h
  done_skips (takes t) (u ∷ stack) d out h = absurd h

  -- more derivation in front
  step_makes : (stack : List Symbol) (w : Word) (s : Symbol) (next : List Symbol) (d after_d : Draft) (ws : List Word) (left : List Symbol) (out : Draft) (t : Derivation) → step stack (kind w) ≡ Some (s, next) → act s w d ≡ Ok after_d → Makes t next after_d ws left out
      → (u : Derivation) × Makes u stack d (w ∷ ws) left out
  step_makes [] w s next d after_d ws left out t took acted h = absurd cc
  step_makes (u ∷ stack) w s next d after_d ws left out t took acted h = from (λ same. step_makes stack w s next d after_d ws left out t same acted h) (starts u (kind w)) (may_be_absent u) refl refl took
    where
      from : (step stack (kind w) ≡ Some (s, next) → (v : Derivation) × Makes v stack d (w ∷ ws) left out) → (o : Option (List Symbol)) (b : Bool) → starts u (kind w) ≡ o → may_be_absent u ≡ b → choose u stack o b (step stack (kind w)) ≡ Some (s, next) → (v : Derivation) × Makes v (u ∷ stack) d (w ∷ ws) left out
      from deeper (Some after) b at absent same =
          let e : (u, after ++ stack) ≡ (s, next) = cc in
          let sames : u ≡ s = ap (λ (x : Symbol × List Symbol). x.0) e in
          let nexts : next ≡ after ++ stack = ap (λ (x : Symbol × List Symbol). x.1) (sym e) in
          (takes t, (after, after_d, at, ap (λ (x : Symbol). act x w d) sames ∙ acted, subst (λ (x : List Symbol). Makes t x after_d ws left out) nexts h))
      from deeper None true at absent same = let below = deeper same in (skips below.0, (absent, below.1))
      from deeper None false at absent same = absurd cc

  -- ---- many words

  -- the machine has got behind the front
  record Reached (stack : List Symbol) (d : Draft) (front rest : List Word) (left : List Symbol) (out : Draft) : Type 0 where
    pub at : List Symbol
    pub draft : Draft
    pub ran : run stack d (front ++ rest) ≡ run at draft rest
    pub clear : IsClear at
    pub by : Derivation
    pub made : Makes by at draft [] left out
    pub before : Derivation
    pub before_made : Makes before stack d front at draft

  reached : (t : Derivation) (stack : List Symbol) (d : Draft) (front rest : List Word) (left : List Symbol) (out : Draft) → IsClear stack → Makes t stack d front left out → Reached stack d front rest left out
  reached t stack d [] rest left out clear h = record { at = stack; draft = d; ran = refl; clear = clear; by = t; made = h; before = ends; before_made = (refl, refl) }
  reached t stack d (w ∷ front) rest left out clear h =
      let one = took_word t stack d w front left out clear h in
      let more = reached one.by one.next one.draft front rest left out one.clear one.made in
      let b = step_makes stack w one.symbol one.next d one.draft front more.at more.draft more.before one.took one.acted more.before_made in
      record { at = more.at; draft = more.draft; ran = rw (one.took, one.acted) more.ran; clear = more.clear; by = more.by; made = more.made; before = b.0; before_made = b.1 }

  -- ---- layers

  pub only : (ws : List Word) (out : Draft) → Make ws out → run start blank ws ≡ Ok out
  only ws out (t, h) =
      let r = reached t start blank ws [] [] out clear_start h in
      let done : is_done r.at ≡ true = done_skips r.by r.at r.draft out r.made in
      let ran : run start blank ws ≡ run r.at r.draft [] = subst (λ (x : List Word). run start blank x ≡ run r.at r.draft []) (append-nil ws) r.ran in
      ran ∙ ap (λ (b : Bool). at_end b r.draft) done ∙ ap Ok (same_draft r.by r.at r.draft [] out r.made)

  done_makes : (stack : List Symbol) (d : Draft) → is_done stack ≡ true → (t : Derivation) × Makes t stack d [] [] d
  done_makes [] d e = (ends, (refl, refl))
  done_makes (s ∷ stack) d e = both (done_makes stack d) (may_be_absent s) refl e
    where
      both : (is_done stack ≡ true → (t : Derivation) × Makes t stack d [] [] d) → (b : Bool) → may_be_absent s ≡ b → (b && is_done stack) ≡ true → (t : Derivation) × Makes t (s ∷ stack) d [] [] d
      both deeper true absent same = let rest = deeper same in (skips rest.0, (absent, rest.1))
      both deeper false absent same = absurd cc

  found_from : (stack : List Symbol) (d : Draft) (ws : List Word) (out : Draft) → run stack d ws ≡ Ok out → (t : Derivation) × Makes t stack d ws [] out
  found_from stack d [] out e = from (is_done stack) refl e
    where
      from : (b : Bool) → is_done stack ≡ b → at_end b d ≡ Ok out → (t : Derivation) × Makes t stack d [] [] out
      from true done same = let f : d ≡ out = cc in subst (λ (x : Draft). (t : Derivation) × Makes t stack d [] [] x) f (done_makes stack d done)
      from false done same = absurd cc
  found_from stack d (w ∷ ws) out e = from (λ next after same. found_from next after ws out same) (step stack (kind w)) refl e
    where
      from : ((next : List Symbol) (after : Draft) → run next after ws ≡ Ok out → (t : Derivation) × Makes t next after ws [] out) → (o : Option (Symbol × List Symbol)) → step stack (kind w) ≡ o → after_step o d w (λ next d. run next d ws) ≡ Ok out → (t : Derivation) × Makes t stack d (w ∷ ws) [] out
      from deeper None took same = absurd cc
      from deeper (Some next) took same = acts (act next.0 w d) refl same
        where
          acts : (a : Result Draft Refusal) → act next.0 w d ≡ a → after_act a (λ d. run next.1 d ws) ≡ Ok out → (t : Derivation) × Makes t stack d (w ∷ ws) [] out
          acts (Err q) acted same = absurd cc
          acts (Ok after) acted same = let t = deeper next.1 after same in step_makes stack w next.0 next.1 d after ws [] out t.0 took acted t.1

  pub found : (ws : List Word) (out : Draft) → run start blank ws ≡ Ok out → Make ws out
  found ws out e = found_from start blank ws out e

  -- ---- refusals

  pub makes_text : (t : Derivation) (stack : List Symbol) (d : Draft) (front : List Word) (left : List Symbol) (out : Draft) (rest : List WordKind) → Makes t stack d front left out → AreText left rest → AreText stack (kinds front ++ rest)
  makes_text ends stack d [] left out rest h g = subst (λ (x : List Symbol). AreText x rest) (sym h.0) g
  makes_text ends stack d (w ∷ front) left out rest h g = absurd h
  makes_text (skips t) [] d front left out rest h g = absurd h
  makes_text (skips t) (s ∷ stack) d front left out rest h g = let v = makes_text t stack d front left out rest h.1 g in (skips v.0, (h.0, v.1))
  makes_text (takes t) [] d front left out rest h g = absurd h
  makes_text (takes t) (s ∷ stack) d [] left out rest h g = absurd h
  makes_text (takes t) (s ∷ stack) d (w ∷ front) left out rest (after, next, at, acted, h) g = let v = makes_text t (after ++ stack) next front left out rest h g in (takes v.0, (after, at, v.1))

  -- the symbol that takes the word is on top once those before it are absent
  record Tops (stack : List Symbol) (d : Draft) (k : WordKind) (s : Symbol) (next : List Symbol) : Type 0 where
    pub below : List Symbol
    pub after : List Symbol
    pub by : Derivation
    pub made : Makes by stack d [] (s ∷ below) d
    pub starts_it : starts s k ≡ Some after
    pub same : next ≡ after ++ below

  tops : (stack : List Symbol) (d : Draft) (k : WordKind) (s : Symbol) (next : List Symbol) → step stack k ≡ Some (s, next) → Tops stack d k s next
  tops [] d k s next e = absurd cc
  tops (u ∷ stack) d k s next e = from (λ same. tops stack d k s next same) (starts u k) (may_be_absent u) refl refl e
    where
      from : (step stack k ≡ Some (s, next) → Tops stack d k s next) → (o : Option (List Symbol)) (b : Bool) → starts u k ≡ o → may_be_absent u ≡ b → choose u stack o b (step stack k) ≡ Some (s, next) → Tops (u ∷ stack) d k s next
      from deeper (Some after) b at absent same =
          let e : (u, after ++ stack) ≡ (s, next) = cc in
          let sames : u ≡ s = ap (λ (x : Symbol × List Symbol). x.0) e in
          let nexts : next ≡ after ++ stack = ap (λ (x : Symbol × List Symbol). x.1) (sym e) in
          record { below = stack; after = after; by = ends; made = (ap (λ (x : Symbol). x ∷ stack) sames, refl); starts_it = ap (λ (x : Symbol). starts x k) (sym sames) ∙ at; same = nexts }
      from deeper None true at absent same = let t = deeper same in record { below = t.below; after = t.after; by = skips t.by; made = (absent, t.made); starts_it = t.starts_it; same = t.same }
      from deeper None false at absent same = absurd cc

  -- the machine has got behind the front, by the grammar
  record IsAt (front : List Word) (stack : List Symbol) (d : Draft) : Type 0 where
    pub read : HasRead front stack d
    pub steps_to : steps start (kinds front) ≡ Some stack

  steps-push : (stack : List Symbol) (front : List Word) (w : Word) (left next : List Symbol) (s : Symbol) → steps stack (kinds front) ≡ Some left → step left (kind w) ≡ Some (s, next) → steps stack (kinds (front ++ w ∷ [])) ≡ Some next
  steps-push stack [] w left next s e took = let f : stack ≡ left = cc in rw (f, took) refl
  steps-push stack (v ∷ front) w left next s e took = from (λ mid same. steps-push mid front w left next s same took) (step stack (kind v)) e
    where
      from : ((mid : List Symbol) → steps mid (kinds front) ≡ Some left → steps mid (kinds (front ++ w ∷ [])) ≡ Some next) → (o : Option (Symbol × List Symbol)) → left_behind o (λ mid. steps mid (kinds front)) ≡ Some left → left_behind o (λ mid. steps mid (kinds (front ++ w ∷ []))) ≡ Some next
      from deeper None same = absurd cc
      from deeper (Some mid) same = deeper mid.1 same

  is_at_next : (front : List Word) (stack : List Symbol) (d : Draft) (w : Word) (s : Symbol) (next : List Symbol) (after : Draft) → IsAt front stack d → step stack (kind w) ≡ Some (s, next) → act s w d ≡ Ok after → IsAt (front ++ w ∷ []) next after
  is_at_next front stack d w s next after here took acted =
      let one = step_makes stack w s next d after [] next after ends took acted (refl, refl) in
      let whole = makes_append kind act refused_as here.read.by start blank front stack d one.0 (w ∷ []) next after here.read.made one.1 in
      record { read = record { by = whole.0; made = whole.1 }; steps_to = steps-push start front w stack next s here.steps_to took }

  refused_act : (front : List Word) (stack : List Symbol) (d : Draft) (w : Word) (ws : List Word) (s : Symbol) (next : List Symbol) (q r : Refusal) → IsAt front stack d → step stack (kind w) ≡ Some (s, next) → act s w d ≡ Err q → q ≡ r → IsAtWord (front ++ w ∷ ws) r
  refused_act front stack d w ws s next q r here took acted same =
      let t = tops stack d (kind w) s next took in
      let whole = makes_append kind act refused_as here.read.by start blank front stack d t.by [] (s ∷ t.below) d here.read.made t.made in
      record {
        front = front;
        word = w;
        rest = ws;
        split = refl;
        stack = s ∷ t.below;
        draft = d;
        read = record { by = whole.0; made = subst (λ (x : List Word). Makes whole.0 start blank x (s ∷ t.below) d) (append-nil front) whole.1 };
        reason = inr (record {
          symbol = s;
          below = t.below;
          after = t.after;
          top = refl;
          starts_it = t.starts_it;
          rest = shortest_of next;
          text = subst (λ (x : List Symbol). AreText x (shortest_of next)) t.same (completed next);
          refused = acted ∙ ap Err same;
        });
      }

  refused_syntax : (front : List Word) (stack : List Symbol) (d : Draft) (w : Word) (ws : List Word) (r : Refusal) → IsAt front stack d → step stack (kind w) ≡ None → refused_as (Some w) ≡ r → IsAtWord (front ++ w ∷ ws) r
  refused_syntax front stack d w ws r here took same = record {
    front = front;
    word = w;
    rest = ws;
    split = refl;
    stack = stack;
    draft = d;
    read = here.read;
    reason = inl (record { refusal = sym same; none = λ rest text. no_text (kinds front) stack (kind w) rest here.steps_to took text });
  }

  refused_end : (front : List Word) (stack : List Symbol) (d : Draft) (r : Refusal) → IsAt front stack d → is_done stack ≡ false → refused_as None ≡ r → IsAtEnd front r
  refused_end front stack d r here done same = record {
    stack = stack;
    draft = d;
    read = here.read;
    refusal = sym same;
    none = λ h. let a = of_text (kinds front) h in let f : Some stack ≡ Some a.0 = sym here.steps_to ∙ a.1 in let g : stack ≡ a.0 = cc in absurd (let e : false ≡ true = sym done ∙ ap is_done g ∙ a.2 in cc);
  }

  refusal_from : (front : List Word) (stack : List Symbol) (d : Draft) (ws : List Word) (r : Refusal) → IsAt front stack d → run stack d ws ≡ Err r → HaveFirstRefusal (front ++ ws) r
  refusal_from front stack d [] r here e = from (is_done stack) refl e
    where
      from : (b : Bool) → is_done stack ≡ b → at_end b d ≡ Err r → HaveFirstRefusal (front ++ []) r
      from true done same = absurd cc
      from false done same = let f : refused_as None ≡ r = cc in inr (subst (λ (x : List Word). IsAtEnd x r) (sym (append-nil front)) (refused_end front stack d r here done f))
  refusal_from front stack d (w ∷ ws) r here e = from (λ next after at same. refusal_from (front ++ w ∷ []) next after ws r at same) (step stack (kind w)) refl e
    where
      from : ((next : List Symbol) (after : Draft) → IsAt (front ++ w ∷ []) next after → run next after ws ≡ Err r → HaveFirstRefusal ((front ++ w ∷ []) ++ ws) r) → (o : Option (Symbol × List Symbol)) → step stack (kind w) ≡ o → after_step o d w (λ next d. run next d ws) ≡ Err r → HaveFirstRefusal (front ++ w ∷ ws) r
      from deeper None took same = let f : refused_as (Some w) ≡ r = cc in inl (refused_syntax front stack d w ws r here took f)
      from deeper (Some next) took same = acts (act next.0 w d) refl same
        where
          acts : (a : Result Draft Refusal) → act next.0 w d ≡ a → after_act a (λ d. run next.1 d ws) ≡ Err r → HaveFirstRefusal (front ++ w ∷ ws) r
          acts (Err q) acted same = let f : q ≡ r = cc in inl (refused_act front stack d w ws next.0 next.1 q r here took acted f)
          acts (Ok after) acted same = subst (λ (x : List Word). HaveFirstRefusal x r) (append_assoc front (w ∷ []) ws) (deeper next.1 after (is_at_next front stack d w next.0 next.1 after here took acted) same)

  pub refusal : (ws : List Word) (r : Refusal) → run start blank ws ≡ Err r → HaveFirstRefusal ws r
  refusal ws r e = refusal_from [] start blank ws r (record { read = record { by = ends; made = (refl, refl) }; steps_to = refl }) e

  run_refused : (stack : List Symbol) (d : Draft) (w : Word) (ws : List Word) → step stack (kind w) ≡ None → run stack d (w ∷ ws) ≡ Err (refused_as (Some w))
  run_refused stack d w ws took = rw took refl

  run_acted : (stack : List Symbol) (d : Draft) (w : Word) (ws : List Word) (next : Symbol × List Symbol) (q : Refusal) → step stack (kind w) ≡ Some next → act next.0 w d ≡ Err q → run stack d (w ∷ ws) ≡ Err q
  run_acted stack d w ws next q took acted = rw (took, acted) refl

  at_word : (ws : List Word) (r : Refusal) → IsAtWord ws r → run start blank ws ≡ Err r
  at_word ws r a =
      let there = reached a.read.by start blank a.front (a.word ∷ a.rest) a.stack a.draft clear_start a.read.made in
      ap (λ (x : List Word). run start blank x) a.split ∙ there.ran ∙ by_reason there a.reason
    where
      syntax : (there : Reached start blank a.front (a.word ∷ a.rest) a.stack a.draft) → IsSyntax a.front a.word r → (o : Option (Symbol × List Symbol)) → step there.at (kind a.word) ≡ o → run there.at there.draft (a.word ∷ a.rest) ≡ Err r
      syntax there s None took = run_refused there.at there.draft a.word a.rest took ∙ ap Err (sym s.refusal)
      syntax there s (Some next) took = absurd (s.none (shortest_of next.1) (makes_text there.before start blank a.front there.at there.draft (kind a.word ∷ shortest_of next.1) there.before_made (step_sound there.at (kind a.word) (shortest_of next.1) next took (completed next.1))))

      by_reason : (there : Reached start blank a.front (a.word ∷ a.rest) a.stack a.draft) → (IsSyntax a.front a.word r) ⊎ (IsRefusedAct a.stack a.draft a.word r) → run there.at there.draft (a.word ∷ a.rest) ≡ Err r
      by_reason there (inl s) = syntax there s (step there.at (kind a.word)) refl
      by_reason there (inr x) =
          let made = subst (λ (l : List Symbol). Makes there.by there.at there.draft [] l a.draft) x.top there.made in
          let took = skipped there.by there.at there.draft x.symbol x.below a.draft (kind a.word) x.after there.clear made x.starts_it in
          let acted : act x.symbol a.word there.draft ≡ Err r = ap (λ (d : Draft). act x.symbol a.word d) (same_draft there.by there.at there.draft a.stack a.draft there.made) ∙ x.refused in
          run_acted there.at there.draft a.word a.rest (x.symbol, x.after ++ x.below) r took acted

  at_the_end : (ws : List Word) (r : Refusal) → IsAtEnd ws r → run start blank ws ≡ Err r
  at_the_end ws r a =
      let there = reached a.read.by start blank ws [] a.stack a.draft clear_start a.read.made in
      let ran : run start blank ws ≡ run there.at there.draft [] = subst (λ (x : List Word). run start blank x ≡ run there.at there.draft []) (append-nil ws) there.ran in
      ran ∙ by there (is_done there.at) refl
    where
      by : (there : Reached start blank ws [] a.stack a.draft) (b : Bool) → is_done there.at ≡ b → at_end (is_done there.at) there.draft ≡ Err r
      by there true done = absurd (a.none (subst (AreText start) (append-nil (kinds ws)) (makes_text there.before start blank ws there.at there.draft [] there.before_made (done_text there.at done))))
      by there false done = ap (λ (b : Bool). at_end b there.draft) done ∙ ap Err (sym a.refusal)

  pub exact : (ws : List Word) (r : Refusal) → HaveFirstRefusal ws r → run start blank ws ≡ Err r
  exact ws r (inl a) = at_word ws r a
  exact ws r (inr a) = at_the_end ws r a

  -- ---- one answer

  some_answer : (ws : List Word) (found_ : Result Draft Refusal) → run start blank ws ≡ found_ → ((out : Draft) × Make ws out) ⊎ ((r : Refusal) × HaveFirstRefusal ws r)
  some_answer ws (Ok out) e = inl (out, found ws out e)
  some_answer ws (Err r) e = inr (r, refusal ws r e)

  pub one_answer : (ws : List Word) → HaveOneAnswer ws
  one_answer ws = record {
    one_draft = λ a b h g. let e : Ok a ≡ Ok b = sym (only ws a h) ∙ only ws b g in cc;
    one_refusal = λ a b h g. let e : Err a ≡ Err b = sym (exact ws a h) ∙ exact ws b g in cc;
    not_both = λ a r h g. let e : Ok a ≡ Err r = sym (only ws a h) ∙ exact ws r g in absurd cc;
    some = some_answer ws (run start blank ws) refl;
  }
