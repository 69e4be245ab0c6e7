-- Names that are asked, each once: the names of a stack may be taken each once first.
use Rattle.std.proofs.Common.{◌≡◌, ◌∙◌, sym, ap, refl, Bool, true, false, ◌||◌, List, [], ◌∷◌}
use Rattle.std.specs.Prelude.{fold, flat_map}
use Rattle.std.proofs.lemmas.List.Sums.{fold-append}
use Rattle.path_maps.specs.declared.kind.ArcKind.{ArcKind}
use Rattle.path_maps.specs.declared.kind.ArcKind.TheVariants.{Inherits, Variant, Reference, Payload, Specializes}
use Rattle.composition.specs.Texts.{Text, same_text}
use Rattle.composition.specs.Paths.{limits}
use Rattle.composition.specs.World.{World, Heading, headed, no_layer, refused, StackName, stack_of}
use Rattle.composition.specs.Arcs.{Source, own, named, unanchored, Authored}
use Rattle.composition.specs.Keys.{asked_by_source, asked_if_present}
use Rattle.layer_stack.specs.Meant.{noted, each_once, defined_stack}
use Rattle.layer_stack.proofs.Noting.{noted_new, noted_old, has, noted_there, noted_kept, each_once_noted}
use Rattle.arc_expand.specs.Arcs.{asked_below, asked_by, asked_in_turn, asked_for}
use Rattle.composition.proofs.Same.{same_text_same}

abbrev more : List Text → List Text → List Text
more names ys = fold noted names ys

there_all : (n : Text) (names ys : List Text) → has n names ≡ true → has n (more names ys) ≡ true
there_all n names [] h = h
there_all n names (y ∷ ys) h = there_all n (noted names y) ys (noted_kept names y n h)

noted_all : (n : Text) (names ys : List Text) → has n ys ≡ true → has n (more names ys) ≡ true
noted_all n names [] h = absurd cc
noted_all n names (y ∷ ys) h = by_first (same_text n y) refl h (noted_all n (noted names y) ys)
  where
    by_first : (b : Bool) → same_text n y ≡ b → (b || has n ys) ≡ true → (has n ys ≡ true → has n (more (noted names y) ys) ≡ true) → has n (more (noted names y) ys) ≡ true
    by_first true is h rest =
        there_all n (noted names y) ys (ap (λ (x : Text). has x (noted names y)) (same_text_same n y is) ∙ noted_there names y)
    by_first false is h rest = rest h

one_step : (names ts : List Text) (y : Text) → more names (noted ts y) ≡ noted (more names ts) y
one_step names ts y = by_test (has y ts) refl
  where
    by_test : (b : Bool) → has y ts ≡ b → more names (noted ts y) ≡ noted (more names ts) y
    by_test true is = ap (more names) (noted_old ts y is) ∙ sym (noted_old (more names ts) y (noted_all y names ts is))
    by_test false is = ap (more names) (noted_new ts y is) ∙ fold-append noted names ts (y ∷ [])

once_again : (names ts ys : List Text) → more names (more ts ys) ≡ more (more names ts) ys
once_again names ts [] = refl
once_again names ts (y ∷ ys) = once_again names (noted ts y) ys ∙ ap (λ (r : List Text). more r ys) (one_step names ts y)

once_first : (names ys : List Text) → more names (each_once ys) ≡ more names ys
once_first names ys = ap (more names) (each_once_noted ys) ∙ once_again names [] ys

agree : {X : Type 0} (f g : X → List Text) → ((names : List Text) (x : X) → more names (f x) ≡ more names (g x)) → (names : List Text) (xs : List X)
    → more names (flat_map f xs) ≡ more names (flat_map g xs)
agree f g h names [] = refl
agree f g h names (x ∷ xs) =
    fold-append noted names (f x) (flat_map f xs)
    ∙ (ap (λ (r : List Text). more r (flat_map f xs)) (h names x)
    ∙ (agree f g h (more names (g x)) xs ∙ sym (fold-append noted names (g x) (flat_map g xs))))

module _ (w : World) where
  below_agrees : (names : List Text) (s : StackName) (h : Heading) → more names (asked_below w s h) ≡ more names (asked_if_present limits w s h)
  unfolding defined_stack
  below_agrees names s (headed h) = once_first names (defined_stack w s).asked
  below_agrees names s no_layer = refl
  below_agrees names s (refused r) = refl

  source_agrees : (names : List Text) (source : Source) → more names (asked_by w source) ≡ more names (asked_by_source limits w source)
  source_agrees names own = refl
  source_agrees names (named name) = below_agrees (noted names name) (stack_of w name) (w.heading name)
  source_agrees names (unanchored asset) = refl

  items_agree : (all : List Authored) → each_once (flat_map (λ a. asked_by w a.item.source) all) ≡ each_once (flat_map (λ a. asked_by_source limits w a.item.source) all)
  items_agree all =
      each_once_noted (flat_map (λ a. asked_by w a.item.source) all)
      ∙ (agree (λ (a : Authored). asked_by w a.item.source) (λ (a : Authored). asked_by_source limits w a.item.source) (λ names a. source_agrees names a.item.source) [] all
      ∙ sym (each_once_noted (flat_map (λ a. asked_by_source limits w a.item.source) all)))

  pub asked_agree : (k : ArcKind) (all : List Authored) → each_once (asked_in_turn w k all) ≡ each_once (asked_for w k all)
  asked_agree Reference all = items_agree all
  asked_agree Payload all = items_agree all
  asked_agree Inherits all = refl
  asked_agree Variant all = refl
  asked_agree Specializes all = refl
