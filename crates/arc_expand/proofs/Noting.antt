-- Values noted at keys, of which the first is kept.
use Rattle.std.proofs.Common.{◌≡◌, ◌∙◌, sym, ap, refl, ℕ, ◌+◌, ◌<◌, Bool, true, false, ◌||◌, cond, List, [], ◌∷◌, ◌++◌, length, take, get_or, Option, Some, None}
use Rattle.std.specs.List.{list_any}
use Rattle.std.specs.Option.{is_some, unwrap_or}
use Rattle.std.proofs.lemmas.List.{take_more}
use Rattle.std.proofs.lemmas.List.Folds.{list_any-append}
use Rattle.list_ops.specs.ListEdits.{contains}
use Rattle.list_ops.specs.declared.op.ListOp.{ListOp}
use Rattle.composition.specs.Texts.{Text}
use Rattle.composition.specs.Paths.{limits}
use Rattle.composition.specs.World.{World}
use Rattle.composition.specs.Arcs.{Item, gives, same_item, author_of}
use Rattle.composition.specs.Fields.{or_else}
use Rattle.arc_expand.specs.Authors.{only, author_in}

or_none : (a : Bool) → (a || false) ≡ a
or_none true = refl
or_none false = refl

module _ {V : Type 0} where
  first_none : (a : Option V) → or_else a None ≡ a
  first_none (Some x) = refl
  first_none None = refl

  in_order : (a b c : Option V) → or_else a (or_else b c) ≡ or_else (or_else a b) c
  in_order (Some x) b c = refl
  in_order None b c = refl

  either : (a : Option V) (c e : Bool) (v : V) → or_else (or_else a (only c v)) (only e v) ≡ or_else a (only (c || e) v)
  either (Some x) c e v = refl
  either None true e v = refl
  either None false e v = refl

  once : (b s : Bool) (a : Option V) (v : V) → (b ≡ true → s ≡ is_some a) → cond s a (cond b (Some v) a) ≡ or_else a (only b v)
  once true s (Some x) v h = ap (λ (t : Bool). cond t (Some x) (Some v)) (h refl)
  once true s None v h = ap (λ (t : Bool). cond t None (Some v)) (h refl)
  once false true a v h = sym (first_none a)
  once false false a v h = sym (first_none a)

one_more : {K : Type 0} (eq : K → K → Bool) (keys : List K) (i : ℕ) (key q : K) → i < length keys → key ≡ get_or keys i key
    → contains eq (take (i + 1) keys) q ≡ (contains eq (take i keys) q || eq key q)
one_more {K} eq keys i key q within is =
    ap (λ (l : List K). contains eq l q) (take_more keys i key within)
    ∙ (list_any-append (λ y. eq y q) (take i keys) (get_or keys i key ∷ [])
    ∙ (ap (λ (k : K). contains eq (take i keys) q || (eq k q || false)) (sym is)
    ∙ ap (λ (b : Bool). contains eq (take i keys) q || b) (or_none (eq key q))))

abbrev gives_by : {K : Type 0} → (K → K → Bool) → Option (List K) → ListOp K → K → Bool
gives_by eq explicit op q = elim explicit as (λ _. Bool) [ Some ys ↦ contains eq ys q | None ↦ contains eq (op.added ++ op.prepended ++ op.appended) q ]

module _ {K V : Type 0} (eq : K → K → Bool) (exact : (x y : K) → eq x y ≡ true → x ≡ y) where
  pub noted_none : (before : K → Option V) (value : V) (q : K) → before q ≡ or_else (before q) (only (contains eq [] q) value)
  noted_none before value q = sym (first_none (before q))

  pub noted_more : (before old new : K → Option V) (keys : List K) (value : V) (i : ℕ) (key : K) → i < length keys → key ≡ get_or keys i key
      → ((q : K) → new q ≡ cond (is_some (old key)) (old q) (cond (eq key q) (Some value) (old q)))
      → ((q : K) → old q ≡ or_else (before q) (only (contains eq (take i keys) q) value))
      → (q : K) → new q ≡ or_else (before q) (only (contains eq (take (i + 1) keys) q) value)
  noted_more before old new keys value i key within is note so_far q =
      note q
      ∙ (once (eq key q) (is_some (old key)) (old q) value (λ t. ap (λ (k : K). is_some (old k)) (exact key q t))
      ∙ (ap (λ (a : Option V). or_else a (only (eq key q) value)) (so_far q)
      ∙ (either (before q) (contains eq (take i keys) q) (eq key q) value
      ∙ ap (λ (b : Bool). or_else (before q) (only b value)) (sym (one_more eq keys i key q within is)))))

  pub noted_explicit : (before new : K → Option V) (op : ListOp K) (value : V) (ys : List K) → op.explicit ≡ Some ys
      → ((q : K) → new q ≡ or_else (before q) (only (contains eq ys q) value))
      → (q : K) → new q ≡ or_else (before q) (only (gives eq op q) value)
  noted_explicit before new op value ys is note q = note q ∙ ap (λ (e : Option (List K)). or_else (before q) (only (gives_by eq e op q) value)) (sym is)

  pub noted_edits : (before first second third : K → Option V) (op : ListOp K) (value : V) → op.explicit ≡ None
      → ((q : K) → first q ≡ or_else (before q) (only (contains eq op.added q) value))
      → ((q : K) → second q ≡ or_else (first q) (only (contains eq op.prepended q) value))
      → ((q : K) → third q ≡ or_else (second q) (only (contains eq op.appended q) value))
      → (q : K) → third q ≡ or_else (before q) (only (gives eq op q) value)
  noted_edits before first second third op value is added prepended appended q =
      appended q
      ∙ (ap (λ (a : Option V). or_else a (only (contains eq op.appended q) value)) (prepended q ∙ ap (λ (a : Option V). or_else a (only (contains eq op.prepended q) value)) (added q))
      ∙ (ap (λ (a : Option V). or_else a (only (contains eq op.appended q) value)) (either (before q) (contains eq op.added q) (contains eq op.prepended q) value)
      ∙ (either (before q) (contains eq op.added q || contains eq op.prepended q) (contains eq op.appended q) value
      ∙ (ap (λ (b : Bool). or_else (before q) (only (b || contains eq op.appended q) value)) (sym (list_any-append (λ y. eq y q) op.added op.prepended))
      ∙ (ap (λ (b : Bool). or_else (before q) (only b value)) (sym (list_any-append (λ y. eq y q) (op.added ++ op.prepended) op.appended))
      ∙ ap (λ (e : Option (List K)). or_else (before q) (only (gives_by eq e op q) value)) (sym is))))))

abbrev Edits : Type 0
Edits = List (Text × ListOp Item)

author_last : (es : Edits) (e : Text × ListOp Item) (x : Item) → author_in (es ++ e ∷ []) x ≡ or_else (author_in es x) (only (gives same_item e.1 x) e.0)
author_last [] e x = first_none (only (gives same_item e.1 x) e.0)
author_last (f ∷ es) e x =
    ap (or_else (only (gives same_item f.1 x) f.0)) (author_last es e x)
    ∙ in_order (only (gives same_item f.1 x) f.0) (author_in es x) (only (gives same_item e.1 x) e.0)

pub author_more : (old new : Item → Option Text) (es : Edits) (i : ℕ) (e : Text × ListOp Item) → i < length es → e ≡ get_or es i e
    → ((x : Item) → new x ≡ or_else (old x) (only (gives same_item e.1 x) e.0))
    → ((x : Item) → old x ≡ author_in (take i es) x)
    → (x : Item) → new x ≡ author_in (take (i + 1) es) x
author_more old new es i e within is note so_far x =
    note x
    ∙ (ap (λ (a : Option Text). or_else a (only (gives same_item e.1 x) e.0)) (so_far x)
    ∙ (sym (author_last (take i es) e x)
    ∙ (ap (λ (f : Text × ListOp Item). author_in (take i es ++ f ∷ []) x) is
    ∙ ap (λ (l : Edits). author_in l x) (sym (take_more es i e within)))))

pub author_is : (w : World) (es : Edits) (x : Item) → unwrap_or (author_in es x) [] ≡ author_of limits w es x
author_is w [] x = refl
author_is w (e ∷ es) x = by_edit (gives same_item e.1 x) (author_is w es x)
  where
    by_edit : (b : Bool) → unwrap_or (author_in es x) [] ≡ author_of limits w es x
        → unwrap_or (or_else (only b e.0) (author_in es x)) [] ≡ elim b as (λ _. Text) [ true ↦ e.0 | false ↦ author_of limits w es x ]
    by_edit true rest = refl
    by_edit false rest = rest

pub author_there : (es : Edits) (x : Item) → is_some (author_in es x) ≡ list_any (λ e. gives same_item e.1 x) es
author_there [] x = refl
author_there (e ∷ es) x = by_edit (gives same_item e.1 x) (author_there es x)
  where
    by_edit : (b : Bool) → is_some (author_in es x) ≡ list_any (λ e. gives same_item e.1 x) es
        → is_some (or_else (only b e.0) (author_in es x)) ≡ (b || list_any (λ e. gives same_item e.1 x) es)
    by_edit true rest = refl
    by_edit false rest = rest
