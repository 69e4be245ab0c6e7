-- The entries of a node are its entry between those of its parts.
use Rattle.std.proofs.Common.{◌≡◌, List, [], ◌∷◌, ◌++◌, Option, Some, Result, Ok, Err, IfOk, sym, ap, ◌∙◌, append_assoc}
use Rattle.std.specs.declared.alloc.Global.{Global}
use Rattle.std.specs.declared.sync.Arc.{Arc}
use Rattle.shared_tables.specs.declared.node.Node.{Node, Node', None', Some', out-Node, fold_out-Node}
use Rattle.shared_tables.specs.Trees.{entries, link_entries, node_step}

module _ {K V : Type 0} where
  pub node_is : (n : Node K V) → entries n ≡ link_entries (out-Node K V n).before ++ (out-Node K V n).entry ∷ link_entries (out-Node K V n).after
  unfolding out-Node denote.Hole.Carrier.out
  node_is (Node' e h None' None') = fold_out-Node K V (List (K × V)) node_step (Node' e h None' None')
  node_is (Node' e h None' (Some' q r)) = fold_out-Node K V (List (K × V)) node_step (Node' e h None' (Some' q r))
  node_is (Node' e h (Some' p l) None') = fold_out-Node K V (List (K × V)) node_step (Node' e h (Some' p l) None')
  node_is (Node' e h (Some' p l) (Some' q r)) = fold_out-Node K V (List (K × V)) node_step (Node' e h (Some' p l) (Some' q r))

  -- a tree whose top is the node
  pub tree_is : (t : Option (Arc (Node K V) Global)) (a : Arc (Node K V) Global) (n : Node K V) → t ≡ Some a → n ≡ a.value
      → link_entries t ≡ link_entries (out-Node K V n).before ++ (out-Node K V n).entry ∷ link_entries (out-Node K V n).after
  tree_is t a n top is = ap link_entries top ∙ ap entries (sym is) ∙ node_is n

  nothing_there : (l : List (K × V)) (e : K × V) (r : List (K × V)) → l ++ e ∷ r ≡ [] → ⊥
  nothing_there [] e r h = cc
  nothing_there (x ∷ l) e r h = cc

  -- a tree with a top has an entry
  pub not_empty : (t : Option (Arc (Node K V) Global)) (a : Arc (Node K V) Global) → t ≡ Some a → link_entries t ≡ [] → ⊥
  not_empty t a top h = nothing_there _ _ _ (sym (node_is a.value) ∙ sym (ap link_entries top) ∙ h)

-- what a call made, where it made something, in other words
pub if_made : {A E X : Type 0} (f : A → X) (x y : X) → y ≡ x → (r : Result A E) → IfOk r (λ a. f a ≡ y) → IfOk r (λ a. f a ≡ x)
if_made f x y e (Ok a) h = h ∙ e
if_made f x y e (Err b) h = tt

-- two entries between three parts
pub regrouped : {A : Type 0} (l m m' n n' r f b : List A) (x y y' z : A) → m ≡ m' → n ≡ n' → y ≡ y' → f ≡ l ++ x ∷ m → b ≡ n ++ z ∷ r
    → f ++ y ∷ b ≡ l ++ x ∷ ((m' ++ y' ∷ n') ++ z ∷ r)
regrouped l m m' n n' r f b x y y' z p q s front back = rw (front, back, p, q, s) (simp append_assoc)

-- a part that falls in two, before an entry and past one
pub leant_back : {A : Type 0} (w l l' m r : List A) (x x' z : A) → w ≡ l ++ x ∷ m → l' ≡ l → x' ≡ x → l' ++ x' ∷ (m ++ z ∷ r) ≡ w ++ z ∷ r
leant_back w l l' m r x x' z is p q = rw (is, p, q) (simp append_assoc)

pub leant_front : {A : Type 0} (w l m r r' : List A) (x y y' : A) → w ≡ m ++ y ∷ r → y' ≡ y → r' ≡ r → l ++ x ∷ (m ++ y' ∷ r') ≡ l ++ x ∷ w
leant_front w l m r r' x y y' is p q = rw (is, p, q)

-- two entries between three parts, in either order of joining
pub joined_front : {A : Type 0} (f l m m' r : List A) (x x' z : A) → x' ≡ x → f ≡ l ++ x' ∷ m' → m' ≡ m → f ++ z ∷ r ≡ l ++ x ∷ (m ++ z ∷ r)
joined_front f l m m' r x x' z first is p = rw (is, p, first) (simp append_assoc)

pub joined_back : {A : Type 0} (b l m m' r : List A) (x z : A) → b ≡ m' ++ z ∷ r → m' ≡ m → l ++ x ∷ b ≡ l ++ x ∷ (m ++ z ∷ r)
joined_back b l m m' r x z is p = rw (is, p)

-- the first entry of two parts with an entry between them
pub first_here : {A : Type 0} (w l r r' : List A) (e e' : A) → w ≡ l ++ e ∷ r → l ≡ [] → e' ≡ e → r' ≡ r → w ≡ e' ∷ r'
first_here w l r r' e e' is p q s = rw (is, p, q, s)

pub first_below : {A : Type 0} (w l l' r r' t : List A) (e e' x : A) → w ≡ l ++ e ∷ r → l ≡ x ∷ l' → e' ≡ e → r' ≡ r → t ≡ l' ++ e' ∷ r' → w ≡ x ∷ t
first_below w l l' r r' t e e' x is p q s made = rw (is, made, p, q, s)

-- two parts, of which the last falls in its first entry and the others
pub met : {A : Type 0} (l l' a r t : List A) (x : A) → l' ≡ l → a ≡ x ∷ r → t ≡ l' ++ x ∷ r → t ≡ l ++ a
met l l' a r t x p q made = rw (made, p, q)

-- ---- an edit of entries that reaches one part alone, or the entry between the two

module _ {A : Type 0} (edit : List A → List A) (w l r : List A) (e : A) (is : w ≡ l ++ e ∷ r) where
  pub put_left : (l' r' : List A) (e' : A) → edit (l ++ e ∷ r) ≡ edit l ++ e ∷ r → l' ≡ edit l → e' ≡ e → r' ≡ r → l' ++ e' ∷ r' ≡ edit w
  put_left l' r' e' h p q s = cc

  pub put_middle : (x : A) (l' r' : List A) (x' : A) → edit (l ++ e ∷ r) ≡ l ++ x ∷ r → l' ≡ l → x' ≡ x → r' ≡ r → l' ++ x' ∷ r' ≡ edit w
  put_middle x l' r' x' h p q s = cc

  pub put_right : (l' r' : List A) (e' : A) → edit (l ++ e ∷ r) ≡ l ++ e ∷ edit r → l' ≡ l → e' ≡ e → r' ≡ edit r → l' ++ e' ∷ r' ≡ edit w
  put_right l' r' e' h p q s = cc
