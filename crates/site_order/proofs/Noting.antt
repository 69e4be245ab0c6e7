-- Tables of choices and selections say what lists of them say.
use Rattle.std.proofs.Common.{◌≡◌, ◌∙◌, sym, ap, refl, Bool, true, false, ◌||◌, cond, List, [], ◌∷◌, map, filter, Option, Some, None}
use Rattle.std.specs.Prelude.{not}
use Rattle.std.specs.List.{filter_map}
use Rattle.std.specs.Option.{is_some, option_or, option_map}
use Rattle.std.specs.Ordering.{is_eq}
use Rattle.std.specs.BTreeMap.{BTreeMap}
use Rattle.std.specs.Cmp.Lexicographic.{texts_ties}
use Rattle.plain_data.specs.contracts.text.TextOrd.TheImpl.{ghosts as text_order}
use Rattle.list_ops.specs.ListEdits.{contains, without}
use Rattle.composition.specs.Texts.{Text, same_text, find_at, first_of}
use Rattle.composition.specs.Paths.{limits}
use Rattle.composition.specs.Trees.{Tree}
use Rattle.composition.specs.Compose.{first_selection}
use Rattle.composition.proofs.Same.{same_text_same, same_itself}
use Rattle.composition.proofs.Tests.{by_test}
use Rattle.class_arcs.proofs.Sameness.{one_test}
use Rattle.site_order.specs.ChoiceTables.{said_by, noted_for, Tells}
use Rattle.site_order.specs.Said.{selected_at}
use Rattle.site_order.proofs.Choosing.{text_test}

-- ---- sets

-- the test of texts is the same from either side
same_turned : (a b : Text) → same_text a b ≡ same_text b a
same_turned a b =
    one_test a b (same_text a b) (same_text b a) (same_text_same a b) (λ h. sym (same_text_same b a h))
    (λ e. ap (λ (t : Text). same_text a t) (sym e) ∙ same_itself a)
    (λ e. ap (λ (t : Text). same_text t a) (sym e) ∙ same_itself a)

-- texts that the order does not tell apart are those that pass the test
tie_is : (a b : Text) → is_eq (text_order.cmp a b) ≡ same_text b a
tie_is a b = sym (texts_ties a b) ∙ text_test a b ∙ same_turned a b

-- ---- notes

or_none : (o : Option Text) → option_or o None ≡ o
or_none None = refl
or_none (Some v) = refl

or_there : (o p : Option Text) → is_some o ≡ true → o ≡ option_or o p
or_there None p h = absurd cc
or_there (Some v) p h = refl

or_absent : (o p : Option Text) → is_some o ≡ false → p ≡ option_or o p
or_absent None p h = refl
or_absent (Some v) p h = absurd cc

module _ (old : Text → Option Text) (set variant : Text) where
  -- what is noted of a set, by the test whether it is this one
  abbrev so_far : Text → Bool → Option Text
  so_far q b = option_or (old q) (elim b as (λ _. Option Text) [ true ↦ Some variant | false ↦ None ])

  -- an entry of a set for which something is noted adds nothing
  pub note_kept : is_some (old set) ≡ true → (q : Text) → old q ≡ option_or (old q) (said_by (set, variant) q)
  note_kept there q = by_test (same_text q set)
      (λ on. or_there (old q) (said_by (set, variant) q) (ap (λ (t : Text). is_some (old t)) (same_text_same q set on) ∙ there))
      (λ off. sym (or_none (old q)) ∙ ap (so_far q) (sym off))

  -- else it is noted
  pub note_put : (new : Text → Option Text) → is_some (old set) ≡ false → ((q : Text) → new q ≡ cond (is_eq (text_order.cmp set q)) (Some variant) (old q))
      → (q : Text) → new q ≡ option_or (old q) (said_by (set, variant) q)
  note_put new absent put q = put q ∙ ap put_where (tie_is set q) ∙ by_test (same_text q set)
      (λ on. ap put_where on ∙ or_absent (old q) (Some variant) (ap (λ (t : Text). is_some (old t)) (same_text_same q set on) ∙ absent) ∙ ap (so_far q) (sym on))
      (λ off. ap put_where off ∙ sym (or_none (old q)) ∙ ap (so_far q) (sym off))
    where
      put_where : Bool → Option Text
      put_where b = cond b (Some variant) (old q)

-- ---- what is looked up

-- a set is among those of choices where something is chosen for it
chosen_there : (set : Text) (cs : List (Text × Text)) → contains same_text (map (λ c. c.0) cs) set ≡ is_some (find_at same_text set cs)
chosen_there set [] = refl
chosen_there set (c ∷ cs) = ap (λ (b : Bool). b || contains same_text (map (λ c. c.0) cs) set) (same_turned c.0 set) ∙ by_first (same_text set c.0) (chosen_there set cs)
  where
    by_first : (b : Bool) → contains same_text (map (λ c. c.0) cs) set ≡ is_some (find_at same_text set cs)
        → (b || contains same_text (map (λ c. c.0) cs) set) ≡ is_some (elim b as (λ _. Option Text) [ true ↦ Some c.1 | false ↦ find_at same_text set cs ])
    by_first true h = refl
    by_first false h = h

-- the sets of which a table of choices says nothing are those without choices
pub undecided_are : (table : BTreeMap Text Text) (cs : List (Text × Text)) (sets left : List Text) → Tells table (λ q. find_at same_text q cs)
    → left ≡ filter (λ set. not (is_some (noted_for table set))) sets → left ≡ without same_text sets (map (λ c. c.0) cs)
undecided_are table cs sets left tells is = is ∙ (λ i. filter (λ set. not ((ap is_some (tells set) ∙ sym (chosen_there set cs)) i)) sets)

-- what a table of opinions says of sets is what the first sites that select one say
pub selected_are : (table : BTreeMap Text Text) (sites : List Tree) (sets : List Text) (more : List (Text × Text)) → Tells table (λ q. first_of (selected_at q) sites)
    → more ≡ filter_map (λ set. option_map (λ v. (set, v)) (noted_for table set)) sets → more ≡ filter_map (first_selection limits sites) sets
selected_are table sites sets more tells is = is ∙ (λ i. filter_map (λ set. option_map (λ v. (set, v)) (tells set i)) sets)
