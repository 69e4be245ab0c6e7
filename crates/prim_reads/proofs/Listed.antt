-- The keys that a path reads are exactly those that are listed.
use Rattle.std.proofs.Common.{◌≡◌, ◌⊎◌, inl, inr, refl, sym, ap, subst, ◌∙◌, List, [], ◌∷◌, map}
use Rattle.std.specs.List.{Contains}
use Rattle.composition.specs.Keys as keys
use Rattle.composition.specs.Keys.{load, head, arcs, body}
use Rattle.composition.proofs.Members.{none_in, head_in, tail_in, cases_in}
use Rattle.layer_set.specs.LookUps.{key_of}
use Rattle.layer_set.specs.declared.key.Key.{Key}
use Rattle.layer_set.specs.declared.key.Key.TheVariants.{Head, Arcs, Body, Load}
use Rattle.prim_reads.specs.Reads.{key_in}

pub there_and_back : (k : Key) → key_in (key_of k) ≡ k
there_and_back (Head name) = refl
there_and_back (Arcs name path) = refl
there_and_back (Body name path) = refl
there_and_back (Load path) = refl

pub back_and_there : (k : keys.Key) → key_of (key_in k) ≡ k
back_and_there (load path) = refl
back_and_there (head name) = refl
back_and_there (arcs name path) = refl
back_and_there (body name path) = refl

module _ {A B : Type 0} (f : A → B) where
  pub in_image : (xs : List A) (x : A) → Contains xs x → Contains (map f xs) (f x)
  in_image [] x has = absurd (none_in x has)
  in_image (y ∷ ys) x has = elim (cases_in y ys x has) [
    | inl e ↦ subst (λ (z : A). Contains (f y ∷ map f ys) (f z)) e (head_in (f y) (map f ys))
    | inr more ↦ tail_in (f y) (map f ys) (f x) (in_image ys x more)
  ]

pub key_listed : (ks : List keys.Key) (k : Key) → Contains ks (key_of k) → Contains (map key_in ks) k
key_listed ks k has = subst (λ (j : Key). Contains (map key_in ks) j) (there_and_back k) (in_image key_in ks (key_of k) has)

pub key_read : (ks : List keys.Key) (k : Key) → Contains (map key_in ks) k → Contains ks (key_of k)
key_read [] k has = absurd (none_in k has)
key_read (j ∷ ks) k has = elim (cases_in (key_in j) (map key_in ks) k has) [
  | inl e ↦ subst (λ (x : keys.Key). Contains (j ∷ ks) x) (sym (back_and_there j) ∙ ap key_of e) (head_in j ks)
  | inr more ↦ tail_in j ks (key_of k) (key_read ks k more)
]
