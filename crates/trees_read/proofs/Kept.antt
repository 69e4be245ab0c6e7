-- Each word that the grammar takes keeps what follows.
use Rattle.std.proofs.Common.{◌≡◌, ◌∙◌, ℕ, ◌+◌, ◌<◌, Bool, true, false, not, List, length, Some, Result, Ok, Err, ap, sym, refl, subst, arith}
use Rattle.std.specs.Prelude.{if◌then◌else◌}
use Rattle.sdf_values.specs.declared.refusal.RefusalKind.TheVariants.{TooDeep}
use Rattle.text_syntax.specs.Open.{Follows as ValueFollows, IsAwaited}
use Rattle.text_syntax.proofs.Tokens.{acted_by}
use Rattle.usda_drafts.specs.Acts.{act, bodies_act, prims_act, layers_act}
use Rattle.usda_drafts.specs.Bodies.{name_act}
use Rattle.usda_drafts.specs.Prims.{open_act, prim_name_act, set_name_act, variant_name_act, body_end_act}
use Rattle.usda_drafts.specs.Refusals.{refused, placed}
use Rattle.usda_drafts.specs.Values.{token_act}
use Rattle.usda_drafts.specs.declared.draft.Draft.{Draft}
use Rattle.usda_drafts.specs.declared.fault.Refused.{Refused}
use Rattle.usda_grammar.specs.Machine.{step}
use Rattle.usda_grammar.specs.declared.symbols.Symbol.{Symbol}
use Rattle.usda_grammar.specs.declared.symbols.Symbol.TheVariants as symbol
use Rattle.usda_statements.specs.OpenValues.{is_open}
use Rattle.usda_values.specs.Drafts.{is_complete_at}
use Rattle.usda_words.specs.Words.{Word}
use Rattle.value_texts.specs.Following.{awaited}
use Rattle.trees_read.specs.Drafts.{tree_of, IsNested, Follows}
use Rattle.trees_read.specs.Stacks.{is_end, end_of, ends, name_of, names, variant_of, is_of_statement, is_opening}
use Rattle.trees_read.specs.Trees.{IsSound}
use Rattle.trees_read.proofs.Acts.{Keeps, token_kept, bodies_kept, changes_tree}
use Rattle.trees_read.proofs.Fields.{IfMade}
use Rattle.trees_read.proofs.Prims.{Grown, GrownAlike, prim_name_grown, variant_name_grown, set_name_grown, Named, name_kept, Closed, body_end_closed, placed_made}
use Rattle.trees_read.proofs.Stacks.{Stepped, stepped, opened_by}
use Rattle.trees_read.proofs.Values.{apart_taken, awaited_apart, awaited_must}

-- ---- symbols

alike : (s : Symbol) → changes_tree s ≡ false → (variant_of s ≡ 0) × (name_of s ≡ 0) × (end_of s ≡ 0) × (is_end s ≡ false)
alike symbol.PrimName h = absurd cc
alike symbol.VariantList h = absurd cc
alike symbol.BodyEnd h = absurd cc
alike s h = (refl, refl, refl, refl)

apart_changes : (s : Symbol) → is_of_statement s ≡ false → changes_tree s ≡ false
apart_changes symbol.PrimName h = absurd cc
apart_changes symbol.VariantList h = absurd cc
apart_changes symbol.BodyEnd h = absurd cc
apart_changes symbol.SetName h = absurd cc
apart_changes symbol.PropertyName h = absurd cc
apart_changes s h = refl

opening_apart : (s : Symbol) → is_opening s ≡ true → is_of_statement s ≡ true
opening_apart symbol.MaybePrimMetadata h = refl
opening_apart symbol.OpenBrace h = refl
opening_apart _ h = absurd cc

-- ---- what a word does, by whether a value is open

pub made_of : {E : Type 0} (P : Draft → Type 0) (r : Result Draft E) (next : Draft) → r ≡ Ok next → IfMade P r → P next
made_of {E} P r next h m = subst (λ (x : Result Draft E). IfMade P x) h m

-- the symbol that takes a word of a value
pub value_symbol : (stack : List Symbol) (d : Draft) (w : Word) (s : Symbol) (after : List Symbol) → ValueFollows stack d → is_open d.value ≡ true → step stack w.kind ≡ Some (s, after) → is_of_statement s ≡ false
value_symbol stack d w s after follows opened took =
    let f : IsAwaited stack d.value.draft = follows opened in
    apart_taken (awaited d.value.draft) f.0 w.kind s after (awaited_apart d.value.draft) (awaited_must d.value.draft f.1 (incomplete (is_complete_at d.value.draft.place) opened)) (ap (λ x. step x w.kind) (sym f.2) ∙ took)
  where
    incomplete : (b : Bool) → not b ≡ true → b ≡ false
    incomplete true e = absurd cc
    incomplete false e = refl

-- ---- a prim that is too deep goes no further

open_refused : (at : ℕ) (d next : Draft) → d.opening.is_too_deep ≡ true → open_act at d ≡ Ok next → ⊥
unfolding open_act
open_refused at d next deep h = by d.opening.is_too_deep deep h
  where
    by : (b : Bool) → b ≡ true → (if b then Err (refused TooDeep at) else Ok d) ≡ Ok next → ⊥
    by true is e = let bad : ◌≡◌ {A = Result Draft Refused} (Err (refused TooDeep at)) (Ok next) = e in absurd cc
    by false is e = absurd cc

opening_refused : (s : Symbol) (w : Word) (d next : Draft) → is_opening s ≡ true → d.opening.is_too_deep ≡ true → bodies_act s w d ≡ Ok next → ⊥
unfolding bodies_act prims_act layers_act
opening_refused symbol.MaybePrimMetadata w d next is deep h = open_refused w.start d next deep h
opening_refused symbol.OpenBrace w d next is deep h = open_refused w.start d next deep h
opening_refused _ w d next is deep h = absurd cc

not_deep : (stack : List Symbol) (d : Draft) (w : Word) (s : Symbol) (after : List Symbol) (next : Draft) → Follows stack d → step stack w.kind ≡ Some (s, after) → act s w d ≡ Ok next → d.opening.is_too_deep ≡ false
not_deep stack d w s after next follows took acted = by d.opening.is_too_deep refl
  where
    bad : d.opening.is_too_deep ≡ true → (b : Bool) → is_open d.value ≡ b → ⊥
    bad deep true is =
        let opening : is_opening s ≡ true = opened_by stack w.kind s after (follows.nested.too_deep deep) took in
        let apart : is_of_statement s ≡ false = value_symbol stack d w s after follows.value is took in
        let e : true ≡ false = sym (opening_apart s opening) ∙ apart in absurd cc
    bad deep false is = opening_refused s w d next (opened_by stack w.kind s after (follows.nested.too_deep deep) took) deep (acted_by s w d next false is acted)

    by : (b : Bool) → d.opening.is_too_deep ≡ b → d.opening.is_too_deep ≡ false
    by true is = absurd (bad is (is_open d.value) refl)
    by false is = is

-- ---- each kind of word

-- what a step leaves of the stack, of a draft that is not too deep
record Before (stack : List Symbol) (d : Draft) (s : Symbol) (after : List Symbol) : Type 0 where
  pub stepped : Stepped stack s after
  pub nested : IsNested stack d
  pub counted : length d.outer + names stack ≡ ends stack
  pub deep : d.opening.is_too_deep ≡ false
  pub sound : IsSound (tree_of d)

record IsKept (after : List Symbol) (next : Draft) : Type 0 where
  pub nested : IsNested after next
  pub sound : IsSound (tree_of next)

module _ (stack : List Symbol) (d : Draft) (s : Symbol) (after : List Symbol) (b : Before stack d s after) where
  -- a prim that is too deep is out of the question
  never_deep : (next : Draft) {G : Type 0} → (next.opening.is_too_deep ≡ true → d.opening.is_too_deep ≡ true) → next.opening.is_too_deep ≡ true → G
  never_deep next h deep = absurd (let bad : true ≡ false = sym (h deep) ∙ b.deep in cc)

  kept_alike : (next : Draft) → changes_tree s ≡ false → Keeps d next → IsKept after next
  kept_alike next apart k =
      let f : (variant_of s ≡ 0) × (name_of s ≡ 0) × (end_of s ≡ 0) × (is_end s ≡ false) = alike s apart in
      record {
        nested = record {
          held = b.stepped.held b.nested.held;
          balanced = b.stepped.balanced b.nested.balanced;
          bodies = b.stepped.bodies b.nested.bodies;
          counted = λ h. omega (arith, b.counted, b.stepped.counted, f.0, f.1, f.2, k.outer);
          too_deep = λ h. never_deep next k.deep h;
          in_hand = λ h. b.stepped.ended (b.nested.in_hand (k.hand h)) f.3;
        };
        sound = k.sound b.sound;
      }

module _ (stack : List Symbol) (d : Draft) (after : List Symbol) where
  kept_name : (next : Draft) → Before stack d symbol.PropertyName after → Named d next → IsKept after next
  kept_name next b n = record {
    nested = record {
      held = b.stepped.held b.nested.held;
      balanced = b.stepped.balanced b.nested.balanced;
      bodies = b.stepped.bodies b.nested.bodies;
      counted = λ h. omega (arith, b.counted, b.stepped.counted, n.outer);
      too_deep = λ h. never_deep stack d symbol.PropertyName after b next n.deep h;
      in_hand = λ h. b.stepped.in_body b.nested.held refl;
    };
    sound = n.sound b.sound;
  }

  kept_prim : (next : Draft) → Before stack d symbol.PrimName after → Grown 1 d next → IsKept after next
  kept_prim next b g = record {
    nested = record {
      held = b.stepped.held b.nested.held;
      balanced = b.stepped.balanced b.nested.balanced;
      bodies = b.stepped.bodies b.nested.bodies;
      counted = λ h. omega (arith, b.counted, b.stepped.counted, g.counted h);
      too_deep = λ h. b.stepped.named b.nested.bodies refl;
      in_hand = λ h. b.stepped.ended (b.nested.in_hand (g.hand h)) refl;
    };
    sound = g.sound b.sound;
  }

  kept_variant : (next : Draft) → Before stack d symbol.VariantList after → GrownAlike 1 d next → IsKept after next
  kept_variant next b g = record {
    nested = record {
      held = b.stepped.held b.nested.held;
      balanced = b.stepped.balanced b.nested.balanced;
      bodies = b.stepped.bodies b.nested.bodies;
      counted = λ h. omega (arith, b.counted, b.stepped.counted, g.grown.counted h);
      too_deep = λ h. never_deep stack d symbol.VariantList after b next g.deep h;
      in_hand = λ h. b.stepped.ended (b.nested.in_hand (g.grown.hand h)) refl;
    };
    sound = g.grown.sound b.sound;
  }

  kept_set : (next : Draft) → Before stack d symbol.SetName after → GrownAlike 0 d next → IsKept after next
  kept_set next b g = record {
    nested = record {
      held = b.stepped.held b.nested.held;
      balanced = b.stepped.balanced b.nested.balanced;
      bodies = b.stepped.bodies b.nested.bodies;
      counted = λ h. omega (arith, b.counted, b.stepped.counted, g.grown.counted h);
      too_deep = λ h. never_deep stack d symbol.SetName after b next g.deep h;
      in_hand = λ h. b.stepped.ended (b.nested.in_hand (g.grown.hand h)) refl;
    };
    sound = g.grown.sound b.sound;
  }

  kept_end : (next : Draft) → Before stack d symbol.BodyEnd after → Closed d next → IsKept after next
  kept_end next b c =
      let more : names stack < ends stack = b.stepped.closes b.nested.balanced refl in
      record {
        nested = record {
          held = b.stepped.held b.nested.held;
          balanced = b.stepped.balanced b.nested.balanced;
          bodies = b.stepped.bodies b.nested.bodies;
          counted = λ h. omega (arith, b.counted, b.stepped.counted, c.counted (omega (arith, b.counted, more)));
          too_deep = λ h. never_deep stack d symbol.BodyEnd after b next c.deep h;
          in_hand = λ h. absurd (let bad : true ≡ false = sym h ∙ c.hand in cc);
        };
        sound = c.sound b.sound;
      }

-- the words of the symbols that change the tree, or name a property
special : (stack : List Symbol) (d : Draft) (w : Word) (s : Symbol) (after : List Symbol) (next : Draft) → changes_tree s ≡ true → Before stack d s after → bodies_act s w d ≡ Ok next → IsKept after next
unfolding bodies_act prims_act layers_act
special stack d w symbol.PrimName after next is b made = kept_prim stack d after next b (made_of (Grown 1 d) (placed w.start (prim_name_act w.text d)) next made (placed_made (Grown 1 d) w.start (prim_name_act w.text d) (prim_name_grown w.text d)))
special stack d w symbol.BodyEnd after next is b made = kept_end stack d after next b (made_of (Closed d) (body_end_act d) next made (body_end_closed d))
special stack d w symbol.SetName after next is b made = kept_set stack d after next b (made_of (GrownAlike 0 d) (placed w.start (set_name_act w.text d)) next made (placed_made (GrownAlike 0 d) w.start (set_name_act w.text d) (set_name_grown w.text d)))
special stack d w symbol.VariantList after next is b made = kept_variant stack d after next b (made_of (GrownAlike 1 d) (placed w.start (variant_name_act w.text d)) next made (placed_made (GrownAlike 1 d) w.start (variant_name_act w.text d) (variant_name_grown w.text d)))
special stack d w symbol.PropertyName after next is b made = kept_name stack d after next b (made_of (Named d) (name_act w d) next made (name_kept w d))
special stack d w _ after next is b made = absurd cc

-- a word that is no value's
body_made : (stack : List Symbol) (d : Draft) (w : Word) (s : Symbol) (after : List Symbol) (next : Draft) → Before stack d s after → bodies_act s w d ≡ Ok next → IsKept after next
body_made stack d w s after next b acted = by (changes_tree s) refl
  where
    by : (x : Bool) → changes_tree s ≡ x → IsKept after next
    by true is = special stack d w s after next is b acted
    by false is = kept_alike stack d s after b next is (made_of (Keeps d) (bodies_act s w d) next acted (bodies_kept s w d is))

pub kept : (stack : List Symbol) (d : Draft) (w : Word) (s : Symbol) (after : List Symbol) (next : Draft) → Follows stack d → ValueFollows after next → step stack w.kind ≡ Some (s, after) → act s w d ≡ Ok next → Follows after next
kept stack d w s after next follows value took acted = by (is_open d.value) refl
  where
    deep : d.opening.is_too_deep ≡ false
    deep = not_deep stack d w s after next follows took acted

    before : Before stack d s after
    before = record { stepped = stepped stack w.kind s after took; nested = follows.nested; counted = follows.nested.counted deep; deep = deep; sound = follows.sound }

    finish : IsKept after next → Follows after next
    finish k = record { value = value; nested = k.nested; sound = k.sound }

    by : (x : Bool) → is_open d.value ≡ x → Follows after next
    by true is =
        finish (kept_alike stack d s after before next (apart_changes s (value_symbol stack d w s after follows.value is took)) (made_of (Keeps d) (token_act w d) next (acted_by s w d next true is acted) (token_kept w d)))
    by false is = finish (body_made stack d w s after next before (acted_by s w d next false is acted))
