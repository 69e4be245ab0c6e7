-- Gathering site by site and layer by layer gives the opinions that are defined.
use Rattle.std.proofs.Common.{◌≡◌, ◌∙◌, sym, ap, refl, ℕ, ◌<◌, List, [], ◌∷◌, ◌++◌, map, take, get_or, ◌+◌, length, Option, Some, None, append-nil}
use Rattle.std.proofs.lemmas.List.{take_more, append_assoc}
use Rattle.std.proofs.lemmas.Grind.{flat_map-append}
use Rattle.std.specs.Prelude.{flat_map, option_map, option_to_list}
use Rattle.std.specs.List.{filter_map, cons_option}
use Rattle.sdf_values.specs.Scales.{Offset, composed}
use Rattle.spec_parts.specs.declared.spec.Spec.{Spec}
use Rattle.composition.specs.Arcs.{Opinion}
use Rattle.composition.specs.Texts.{Text}
use Rattle.composition.specs.Paths.{limits}
use Rattle.composition.specs.World.{World}
use Rattle.composition.specs.Opinions.{Site, Said, said_at}
use Rattle.layer_stack.specs.Meant.{defined_stack}
use Rattle.prim_opinions.specs.Gathering.{said_by, said_in, said_on}

flat_map_same : {X Y : Type 0} (f g : X → List Y) → ((x : X) → f x ≡ g x) → (xs : List X) → flat_map f xs ≡ flat_map g xs
flat_map_same f g h [] = refl
flat_map_same f g h (x ∷ xs) = ap (λ ys. ys ++ flat_map f xs) (h x) ∙ ap (λ ys. g x ++ ys) (flat_map_same f g h xs)

module _ (w : World) (n : Site) where
  abbrev opinion_at : Text × Offset → Option Opinion
  opinion_at e = option_map (λ spec. record { layer = e.0; offset = e.1; spec = spec }) (w.spec e.0 n.path)

  abbrev said_of : Opinion → Said
  said_of o = record { site = n; layer = o.layer; offset = composed o.offset n.offset; spec = o.spec }

  by_spec : (e : Text × Offset) (o : Option Spec) (said : List Said) (opinions : List Opinion) → said ≡ map said_of opinions
      → option_to_list (option_map (λ (spec : Spec). let s : Said = record { site = n; layer = e.0; offset = composed e.1 n.offset; spec = spec } in s) o) ++ said
      ≡ map said_of (cons_option (option_map (λ (spec : Spec). let p : Opinion = record { layer = e.0; offset = e.1; spec = spec } in p) o) opinions)
  by_spec e (Some spec) said opinions h = ap (λ (rest : List Said). record { site = n; layer = e.0; offset = composed e.1 n.offset; spec = spec } ∷ rest) h
  by_spec e None said opinions h = h

  in_order : (layers : List (Text × Offset)) → said_in w n layers ≡ map said_of (filter_map opinion_at layers)
  unfolding said_in
  in_order [] = refl
  in_order (e ∷ es) = by_spec e (w.spec e.0 n.path) (said_in w n es) (filter_map opinion_at es) (in_order es)

  at_stack : said_in w n (defined_stack w n.stack).layers ≡ said_at limits w n
  unfolding defined_stack
  at_stack = in_order (defined_stack w n.stack).layers

-- site by site
unfoldable pub gathered : World → List Site → List Said
gathered w sites = flat_map (λ n. said_in w n (defined_stack w n.stack).layers) sites

pub gathered_is : (w : World) (sites : List Site) → gathered w sites ≡ said_on w sites
unfolding gathered said_on
gathered_is w sites = flat_map_same (λ n. said_in w n (defined_stack w n.stack).layers) (said_at limits w) (at_stack w) sites

flat_map_next : {X Y : Type 0} (f : X → List Y) (xs : List X) (i : ℕ) (x : X) → i < length xs → x ≡ get_or xs i x → flat_map f (take (i + 1) xs) ≡ flat_map f (take i xs) ++ f x
flat_map_next f xs i x within item =
    ap (flat_map f) (take_more xs i x within ∙ ap (λ y. take i xs ++ y ∷ []) (sym item))
    ∙ (flat_map-append f (take i xs) (x ∷ []) ∙ ap (λ ys. flat_map f (take i xs) ++ ys) (append-nil (f x)))

module _ (w : World) where
  pub none_in : (n : Site) (out : List Said) → out ≡ out ++ said_in w n []
  unfolding said_in
  none_in n out = sym (append-nil out)

  pub said_next : (n : Site) (out : List Said) (layers : List (Text × Offset)) (i : ℕ) (e : Text × Offset) → i < length layers → e ≡ get_or layers i e
      → (out ++ said_in w n (take i layers)) ++ option_to_list (said_by w n e) ≡ out ++ said_in w n (take (i + 1) layers)
  unfolding said_in
  said_next n out layers i e within item =
      append_assoc out (said_in w n (take i layers)) (option_to_list (said_by w n e))
      ∙ ap (λ (said : List Said). out ++ said) (sym (flat_map_next (λ (x : Text × Offset). option_to_list (said_by w n x)) layers i e within item))

  pub none_gathered : gathered w [] ≡ []
  unfolding gathered
  none_gathered = refl

  pub gathered_next : (sites : List Site) (i : ℕ) (n : Site) → i < length sites → n ≡ get_or sites i n
      → gathered w (take i sites) ++ said_in w n (defined_stack w n.stack).layers ≡ gathered w (take (i + 1) sites)
  unfolding gathered
  gathered_next sites i n within item = sym (flat_map_next (λ (x : Site). said_in w x (defined_stack w x.stack).layers) sites i n within item)
