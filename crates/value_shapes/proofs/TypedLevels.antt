-- The levels of a value that is read where a type is expected: what stands in them is of the types of their members.
use Rattle.std.proofs.Common.{◌≡◌, ◌∙◌, ℕ, zero, suc, ◌+◌, ◌&&◌, ◌||◌, ◌==◌, Bool, true, false, List, [], ◌∷◌, ◌++◌, length, length-append, map, Some, Ok, Err, ap, sym, refl, subst, arith, eqb-true}
use Rattle.std.specs.Prelude.{if◌then◌else◌}
use Rattle.std.proofs.lemmas.Bool.{and_parts, or_right}
use Rattle.plain_data.specs.Ends.{last, last-push, front-push}
use Rattle.sdf_values.specs.Conforms.{holds, is_block, conforms, all_hold, members_of, one}
use Rattle.sdf_values.specs.declared.refusal.RefusalKind.TheVariants.{ValueShape}
use Rattle.sdf_values.specs.declared.type_name.ElementType.{ElementType}
use Rattle.sdf_values.specs.declared.type_name.TypeName.{TypeName}
use Rattle.sdf_values.specs.declared.value.Value.{Value}
use Rattle.sdf_values.specs.declared.value.Value.TheVariants as value
use Rattle.usda_values.specs.declared.draft.ValueDraft.{ValueDraft}
use Rattle.usda_values.specs.declared.level.Bracket.{Bracket}
use Rattle.usda_values.specs.declared.level.Bracket.TheVariants as bracket
use Rattle.usda_values.specs.declared.level.Level.{Level}
use Rattle.usda_values.specs.declared.level.Place.{Place}
use Rattle.usda_values.specs.declared.level.Place.TheVariants as place
use Rattle.usda_values.specs.declared.shape.Shape.TheVariants.{Typed}
use Rattle.usda_values.specs.Drafts.{one_fewer, is_full, is_lacking, is_statement, give_member, give_to, give, behind_value, wrap_as, go_out}
use Rattle.usda_values.specs.Shapes.{take_typed}
use Rattle.value_shapes.proofs.Taken.{typed, leaf_cases, holds_tuple, holds_array}
use Rattle.value_shapes.proofs.Whole.{block_is}

-- where a member may come or end
abbrev pub is_open : Place → Bool
is_open place.Value = true
is_open place.ValueOrEnd = true
is_open place.BehindMember = true
is_open p = false

-- open levels, each within the one before it, of a value of the type
pub data Stack (t : TypeName) : List Level → Level → Type 0 where
  bottom : (l : Level) → l.bracket ≡ bracket.Statement → l.item ≡ Typed t → l.values ≡ [] → Stack t [] l
  tuple : (outer : List Level) (parent l : Level) (e : ElementType) (m : ElementType × ℕ) (room : ℕ) → Stack t outer parent → is_full parent.room ≡ false → parent.item ≡ Typed (one e)
      → members_of e ≡ Some m → l.bracket ≡ bracket.Tuple → l.item ≡ Typed (one m.0) → l.room ≡ Some room → length l.values + room ≡ m.1
      → all_hold (map holds l.values) (one m.0) ≡ true → Stack t (outer ++ parent ∷ []) l
  array : (outer : List Level) (parent l : Level) (e : ElementType) → Stack t outer parent → is_full parent.room ≡ false → parent.item ≡ Typed (typed e true)
      → l.bracket ≡ bracket.Array → l.item ≡ Typed (one e) → all_hold (map holds l.values) (one e) ≡ true → Stack t (outer ++ parent ∷ []) l

-- a draft that is open, or that has a value of the type
pub data Good (t : TypeName) : Place → Level → List Level → Type 0 where
  ongoing : (p : Place) (l : Level) (outer : List Level) → is_open p ≡ true → Stack t outer l → Good t p l outer
  finished : (l : Level) (outer : List Level) (v : Value) → l.values ≡ v ∷ [] → conforms v t ≡ true → Good t place.Complete l outer

pub type_of : (t : TypeName) (outer : List Level) (l : Level) → Stack t outer l → (u : TypeName) × (l.item ≡ Typed u)
type_of t _ l (bottom _ b i none) = (t, i)
type_of t _ l (tuple outer parent _ e m room below full pi is b i r count all) = (one m.0, i)
type_of t _ l (array outer parent _ e below full pi b i all) = (one e, i)

-- a value that may stand in a level: the block only where it is the whole value
abbrev pub may_stand : Bool → Value → TypeName → Bool
may_stand true v u = conforms v u
may_stand false v u = holds v u

abbrev pub MayStand : Level → Value → Type 0
MayStand l v = (u : TypeName) → l.item ≡ Typed u → may_stand (is_statement l.bracket) v u ≡ true

pub may_hold : (b : Bool) (v : Value) (u : TypeName) → holds v u ≡ true → may_stand b v u ≡ true
may_hold true v u h = or_right (is_block v) (holds v u) h
may_hold false v u h = h

all_more : (vs : List Value) (v : Value) (t : TypeName) → all_hold (map holds vs) t ≡ true → holds v t ≡ true → all_hold (map holds (vs ++ v ∷ [])) t ≡ true
all_more [] v t h k = ap (λ b. b && true) k
all_more (x ∷ xs) v t h k =
    let p = and_parts (holds x t) (all_hold (map holds xs) t) h in
    ap (λ b. b && all_hold (map holds (xs ++ v ∷ [])) t) p.0 ∙ all_more xs v t p.1 k

one_longer : (vs : List Value) (v : Value) (k n : ℕ) → length vs + suc k ≡ n → length (vs ++ v ∷ []) + k ≡ n
one_longer vs v k n h = omega (arith, length-append vs (v ∷ []), h)

member_holds : (l : Level) (v : Value) (u : TypeName) (c : Bracket) → l.bracket ≡ c → is_statement c ≡ false → l.item ≡ Typed u → MayStand l v → holds v u ≡ true
member_holds l v u c b inside i may = sym (ap (λ s. may_stand s v u) (ap is_statement b ∙ inside)) ∙ may u i

abbrev given_to : TypeName → List Level → Level → Value → Type 0
given_to t outer l v = Good t (behind_value l.bracket) (give v l) outer

-- as the level is of that kind
by_bracket : (t : TypeName) (outer : List Level) (l : Level) (v : Value) (c : Bracket) → l.bracket ≡ c → Good t (behind_value c) (give_to c v l) outer → given_to t outer l v
by_bracket t outer l v c b good = subst (λ x. Good t (behind_value x) (give_to x v l) outer) (sym b) good

pub counted : (room : ℕ) → (room == 0) ≡ false → (k : ℕ) × (room ≡ suc k)
counted zero h = absurd cc
counted (suc k) h = (k, refl)

pub placed : (t : TypeName) (outer : List Level) (l : Level) (v : Value) → Stack t outer l → is_full l.room ≡ false → MayStand l v → Good t (behind_value l.bracket) (give v l) outer
placed t _ l v (bottom _ b i none) full may =
    by_bracket t [] l v bracket.Statement b
    (finished (give_member v l) [] v (ap (λ vs. vs ++ v ∷ []) none) (sym (ap (λ c. may_stand (is_statement c) v t) b) ∙ may t i))
placed t _ l v (tuple outer parent _ e m room below pfull pi is b i r count all) full may =
    let k = counted room (sym (ap is_full r) ∙ full) in
    by_bracket t (outer ++ parent ∷ []) l v bracket.Tuple b
    (ongoing place.BehindMember (give_member v l) (outer ++ parent ∷ []) refl
    (tuple outer parent (give_member v l) e m k.0 below pfull pi is b i (ap one_fewer (r ∙ ap Some k.1))
    (one_longer l.values v k.0 m.1 (ap (λ n. length l.values + n) (sym k.1) ∙ count)) (all_more l.values v (one m.0) all (member_holds l v (one m.0) bracket.Tuple b refl i may))))
placed t _ l v (array outer parent _ e below pfull pi b i all) full may =
    by_bracket t (outer ++ parent ∷ []) l v bracket.Array b
    (ongoing place.BehindMember (give_member v l) (outer ++ parent ∷ []) refl
    (array outer parent (give_member v l) e below pfull pi b i (all_more l.values v (one e) all (member_holds l v (one e) bracket.Array b refl i may))))

-- a level that is closed
held_by : (parent : Level) (v : Value) (u : TypeName) → parent.item ≡ Typed u → holds v u ≡ true → MayStand parent v
held_by parent v u pi h w i = let same : u ≡ w = cc in may_hold (is_statement parent.bracket) v w (subst (λ x. holds v x ≡ true) same h)

abbrev behind : Level → List Level → Value → ValueDraft
behind parent outer v = record { place = behind_value parent.bracket; level = give v parent; outer = outer }

gone_out : (p : Place) (outer : List Level) (parent l : Level) (c : Bracket) → l.bracket ≡ c
    → go_out (last (outer ++ parent ∷ [])) (record { place = p; level = l; outer = outer ++ parent ∷ [] }) ≡ behind parent outer (wrap_as c l)
gone_out p outer parent l c b =
    ap (λ o. go_out o (record { place = p; level = l; outer = outer ++ parent ∷ [] })) (last-push outer parent)
    ∙ ap (λ o. behind parent o (wrap_as l.bracket l)) (front-push outer parent) ∙ ap (λ x. behind parent outer (wrap_as x l)) b

abbrev pub IsGood : TypeName → ValueDraft → Type 0
IsGood t d = Good t d.place d.level d.outer

pub none_left : (room : ℕ) → (if room == 0 then false else true) ≡ false → room ≡ 0
none_left room h = test (room == 0) refl h
  where
    test : (b : Bool) → (room == 0) ≡ b → (if b then false else true) ≡ false → room ≡ 0
    test true e g = eqb-true room 0 e
    test false e g = absurd cc

pub closed : (t : TypeName) (p : Place) (outer : List Level) (l : Level) → Stack t outer l → is_statement l.bracket ≡ false → is_lacking l.room ≡ false
    → IsGood t (go_out (last outer) (record { place = p; level = l; outer = outer }))
closed t p _ l (bottom _ b i none) inside lacking = absurd (let no = sym (ap is_statement b) ∙ inside in cc)
closed t p _ l (tuple outer parent _ e m room below pfull pi is b i r count all) inside lacking =
    let none = none_left room (sym (ap is_lacking r) ∙ lacking) in
    let many : length l.values ≡ m.1 = omega (arith, count, none) in
    subst (IsGood t) (sym (gone_out p outer parent l bracket.Tuple b))
    (placed t outer parent (value.Tuple l.values) below pfull (held_by parent (value.Tuple l.values) (one e) pi (holds_tuple l.values e m is many all)))
closed t p _ l (array outer parent _ e below pfull pi b i all) inside lacking =
    subst (IsGood t) (sym (gone_out p outer parent l bracket.Array b))
    (placed t outer parent (value.Array l.values) below pfull (held_by parent (value.Array l.values) (typed e true) pi (holds_array l.values e all)))

-- a token where the type is expected
block_stands : (s : Bool) (u : TypeName) (x : Value) → (if s then Ok value.Block else Err ValueShape) ≡ Ok x → may_stand s x u ≡ true
block_stands true u x h = (let same : value.Block ≡ x = cc in subst (λ y. conforms y u ≡ true) same (ap (λ b. b || holds value.Block u) block_is))
block_stands false u x h = absurd cc

pub typed_stands : (s : Bool) (u : TypeName) (v x : Value) → take_typed s u v ≡ Ok x → may_stand s x u ≡ true
typed_stands s u value.Block x h = block_stands s u x h
typed_stands s u v x h = may_hold s x u (leaf_cases u.array u.element v x h).of_type
