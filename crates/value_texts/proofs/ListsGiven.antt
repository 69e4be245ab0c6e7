-- Tuples and arrays that are given to a draft.
use Rattle.std.proofs.Common.{◌≡◌, ◌∙◌, ℕ, suc, ◌+◌, ◌≤◌, ◌&&◌, ◌==◌, Bool, true, false, List, [], ◌∷◌, ◌++◌, length, map, Option, Some, None, Ok, ap, sym, refl, subst, arith, eqb-true}
use Rattle.std.specs.Prelude.{if◌then◌else◌}
use Rattle.std.proofs.lemmas.Bool.{and_parts}
use Rattle.sdf_values.specs.Proper.{all_true}
use Rattle.sdf_values.specs.Conforms.{count_of, role_width, matrix_width, one, members_of, all_hold, are_members, holds_step}
use Rattle.sdf_values.specs.declared.type_name.Width.{Width}
use Rattle.sdf_values.specs.declared.type_name.Width.TheVariants as width
use Rattle.sdf_values.specs.declared.type_name.ElementType.{ElementType}
use Rattle.sdf_values.specs.declared.type_name.ElementType.TheVariants as element
use Rattle.sdf_values.specs.declared.type_name.TypeName.{TypeName}
use Rattle.sdf_values.specs.declared.value.Value.{Value}
use Rattle.sdf_values.specs.declared.value.Value.TheOpen.{Value-F}
use Rattle.sdf_values.specs.declared.value.Value.TheVariants as value
use Rattle.sdf_values.proofs.Values.{Each}
use Rattle.usda_values.specs.declared.shape.Shape.{Shape}
use Rattle.usda_values.specs.declared.shape.Shape.TheVariants.{Untyped, Metadata, Typed, Dictionary}
use Rattle.usda_values.specs.declared.level.Bracket.{Bracket}
use Rattle.usda_values.specs.declared.level.Bracket.TheVariants as bracket
use Rattle.usda_values.specs.declared.level.Place.TheVariants as place
use Rattle.usda_values.specs.declared.draft.ValueDraft.{ValueDraft}
use Rattle.usda_values.specs.Shapes.{tuple_members, array_members, counted_members}
use Rattle.usda_values.specs.Drafts.{closes, value_act, is_statement}
use Rattle.value_texts.specs.Cuts.{Said}
use Rattle.value_texts.specs.Acts.{acts}
use Rattle.value_texts.specs.Writable.{is_writable, writable_step, writable_item}
use Rattle.value_texts.specs.ValueWords.{words_of_value, said_step, said_item, listed_said, open_paren, close_paren, open_bracket, close_bracket}
use Rattle.value_texts.specs.Readable.{Reading, is_read_as, reading_step, reading_item, all_read, is_some_list, typed, depth, depth_step, depth_item, deepest}
use Rattle.sdf_values.proofs.Values as fold
use Rattle.value_texts.proofs.Leaves.{typed_part, no_array}
use Rattle.value_texts.proofs.Given.{acts_one, first_token, opened, went_out, within, closed, IsList, IsGiven, Fits, fits_all as none_lacking, listed_given}

is_tuple : IsList bracket.Tuple close_paren value.Tuple
unfolding value_act
is_tuple = record {
  inner = refl;
  goes = λ p item room values outer v. refl;
  parts = λ item room values outer. refl;
  ends = λ item room values outer. refl;
  wraps = λ item room values outer. refl;
}

is_array : IsList bracket.Array close_bracket value.Array
unfolding value_act
is_array = record {
  inner = refl;
  goes = λ p item room values outer v. refl;
  parts = λ item room values outer. refl;
  ends = λ item room values outer. refl;
  wraps = λ item room values outer. refl;
}

opens_tuple : (b : Bracket) → closes b open_paren.kind ≡ false
opens_tuple bracket.Statement = refl
opens_tuple bracket.Tuple = refl
opens_tuple bracket.Array = refl
opens_tuple bracket.Dict = refl

opens_array : (b : Bracket) → closes b open_bracket.kind ≡ false
opens_array bracket.Statement = refl
opens_array bracket.Tuple = refl
opens_array bracket.Array = refl
opens_array bracket.Dict = refl

-- what is expected of the members
record Expects (members : Option (Shape × Option ℕ)) (rs : List Reading) : Type 0 where
  item : Shape
  room : Option ℕ
  is : members ≡ Some (item, room)
  read : all_read rs item ≡ true
  fits : Fits room (length rs)

hold_read : (rs : List Reading) (t : TypeName) → all_hold (map typed rs) t ≡ all_read rs (Typed t)
hold_read [] t = refl
hold_read (r ∷ rs) t = ap (λ b. r (Typed t) false && b) (hold_read rs t)

length_typed : (rs : List Reading) → length (map typed rs) ≡ length rs
length_typed [] = refl
length_typed (r ∷ rs) = ap suc (length_typed rs)

counted : (o : Option (ElementType × ℕ)) (rs : List Reading) → are_members o (map typed rs) ≡ true → Expects (counted_members o) rs
counted None rs h = absurd cc
counted (Some m) rs h =
    let p = and_parts (length (map typed rs) == m.1) (all_hold (map typed rs) (one m.0)) h in
    record {
      item = Typed (one m.0);
      room = Some m.1;
      is = refl;
      read = sym (hold_read rs (one m.0)) ∙ p.1;
      fits = sym (eqb-true (length (map typed rs)) m.1 p.0) ∙ length_typed rs;
    }

expects_tuple : (rs : List Reading) (shape : Shape) (s : Bool) → reading_step (Value-F.Tuple rs) shape s ≡ true → Expects (tuple_members shape) rs
expects_tuple rs Untyped s h = let p = and_parts (is_some_list rs) (all_read rs Untyped) h in record { item = Untyped; room = None; is = refl; read = p.1; fits = tt }
expects_tuple rs Metadata s h = let p = and_parts (is_some_list rs) (all_read rs Metadata) h in record { item = Metadata; room = None; is = refl; read = p.1; fits = tt }
expects_tuple rs (Typed t) s h =
    let p = no_array t.array (are_members (members_of t.element) (map typed rs)) (typed_part s (holds_step (Value-F.Tuple (map typed rs)) t) h) in
    let e = counted (members_of t.element) rs p.1 in
    record { item = e.item; room = e.room; is = ap (λ b. if b then None else counted_members (members_of t.element)) p.0 ∙ e.is; read = e.read; fits = e.fits }
expects_tuple rs Dictionary s h = absurd cc

-- a tuple has a member
no_members : (e : ElementType) → are_members (members_of e) [] ≡ true → ⊥
no_members (element.Ints width.Two) h = cc
no_members (element.Ints width.Three) h = cc
no_members (element.Ints width.Four) h = cc
no_members (element.Reals p width.Two) h = cc
no_members (element.Reals p width.Three) h = cc
no_members (element.Reals p width.Four) h = cc
no_members (element.Role r p) h = by_role (role_width r) h
  where
    by_role : (w : Width) → ((0 == count_of w) && true) ≡ true → ⊥
    by_role width.Two h = cc
    by_role width.Three h = cc
    by_role width.Four h = cc
no_members (element.Matrix m) h = by_matrix (matrix_width m) h
  where
    by_matrix : (w : Width) → ((0 == count_of w) && true) ≡ true → ⊥
    by_matrix width.Two h = cc
    by_matrix width.Three h = cc
    by_matrix width.Four h = cc
no_members _ h = cc

empty_tuple : (shape : Shape) (s : Bool) → reading_step (Value-F.Tuple []) shape s ≡ true → ⊥
empty_tuple Untyped s h = cc
empty_tuple Metadata s h = cc
empty_tuple (Typed t) s h = no_members t.element (no_array t.array (are_members (members_of t.element) []) (typed_part s (holds_step (Value-F.Tuple []) t) h)).1
empty_tuple Dictionary s h = cc

expects_array : (rs : List Reading) (shape : Shape) (s : Bool) → reading_step (Value-F.Array rs) shape s ≡ true → Expects (array_members shape) rs
expects_array rs Untyped s h = record { item = Untyped; room = None; is = refl; read = h; fits = tt }
expects_array rs Metadata s h = record { item = Metadata; room = None; is = refl; read = h; fits = tt }
expects_array rs (Typed t) s h =
    let p = and_parts t.array (all_hold (map typed rs) (one t.element)) (typed_part s (holds_step (Value-F.Array (map typed rs)) t) h) in
    record {
      item = Typed (one t.element);
      room = None;
      is = ap (λ b. if b then Some (Typed (one t.element), None) else None) p.0;
      read = sym (hold_read rs (one t.element)) ∙ p.1;
      fits = tt;
    }
expects_array rs Dictionary s h = absurd cc

pub mapped : {A B : Type 0} (f : A → B) (xs : List A) → length (map f xs) ≡ length xs
mapped f [] = refl
mapped f (x ∷ xs) = ap suc (mapped f xs)

fits_all : (room : Option ℕ) (m n : ℕ) → m ≡ n → Fits room m → Fits room n
fits_all room m n e h = subst (Fits room) e h

pub tuple_given : (vs : List Value) → Each IsGiven vs → IsGiven (value.Tuple vs)
unfolding value_act
tuple_given [] each d h room w r deep =
    absurd (empty_tuple d.level.item (is_statement d.level.bracket) (sym (ap (λ f. f d.level.item (is_statement d.level.bracket)) (fold.of_tuple Reading (List ℕ × Bool) reading_step reading_item [])) ∙ r))
tuple_given (v ∷ vs) each d h room w r deep =
    let s : Bool = is_statement d.level.bracket in
    let rs : List Reading = map is_read_as (v ∷ vs) in
    let e = expects_tuple rs d.level.item s (sym (ap (λ f. f d.level.item s) (fold.of_tuple Reading (List ℕ × Bool) reading_step reading_item (v ∷ vs))) ∙ r) in
    let level : suc (deepest (map depth (v ∷ vs))) + length d.outer ≤ 64 = subst (λ n. n + length d.outer ≤ 64) (fold.of_tuple ℕ ℕ depth_step depth_item (v ∷ vs)) deep in
    let inner : ValueDraft = within place.Value bracket.Tuple e.item e.room [] (d.outer ++ d.level ∷ []) in
    ap (λ x. acts x d) (fold.of_tuple (List Said) (List Said) said_step said_item (v ∷ vs))
    ∙ acts_one open_paren (listed_said (map words_of_value (v ∷ vs)) ++ close_paren ∷ []) d inner
    (first_token open_paren.kind open_paren.text d h opens_tuple ∙ opened bracket.Tuple place.Value (e.item, e.room) (tuple_members d.level.item) d e.is room (omega (arith, level)))
    ∙ listed_given bracket.Tuple close_paren value.Tuple is_tuple e.item d.level d.outer v vs place.Value e.room refl each (sym (fold.of_tuple Bool Bool writable_step writable_item (v ∷ vs)) ∙ w) e.read
    (omega (arith, level)) (fits_all e.room (length rs) (suc (length vs)) (mapped is_read_as (v ∷ vs)) e.fits)

pub array_given : (vs : List Value) → Each IsGiven vs → IsGiven (value.Array vs)
unfolding value_act
array_given vs each d h room w r deep =
    let s : Bool = is_statement d.level.bracket in
    let rs : List Reading = map is_read_as vs in
    let e = expects_array rs d.level.item s (sym (ap (λ f. f d.level.item s) (fold.of_array Reading (List ℕ × Bool) reading_step reading_item vs)) ∙ r) in
    let level : suc (deepest (map depth vs)) + length d.outer ≤ 64 = subst (λ n. n + length d.outer ≤ 64) (fold.of_array ℕ ℕ depth_step depth_item vs) deep in
    let inner : ValueDraft = within place.ValueOrEnd bracket.Array e.item e.room [] (d.outer ++ d.level ∷ []) in
    ap (λ x. acts x d) (fold.of_array (List Said) (List Said) said_step said_item vs)
    ∙ acts_one open_bracket (listed_said (map words_of_value vs) ++ close_bracket ∷ []) d inner
    (first_token open_bracket.kind open_bracket.text d h opens_array ∙ opened bracket.Array place.ValueOrEnd (e.item, e.room) (array_members d.level.item) d e.is room (omega (arith, level)))
    ∙ members vs each (sym (fold.of_array Bool Bool writable_step writable_item vs) ∙ w) e.item e.room e.read (fits_all e.room (length rs) (length vs) (mapped is_read_as vs) e.fits) (omega (arith, level))
  where
    members : (vs : List Value) → Each IsGiven vs → all_true (map is_writable vs) ≡ true → (item : Shape) (room : Option ℕ) → all_read (map is_read_as vs) item ≡ true → Fits room (length vs)
        → deepest (map depth vs) + suc (length d.outer) ≤ 64
        → acts (listed_said (map words_of_value vs) ++ close_bracket ∷ []) (within place.ValueOrEnd bracket.Array item room [] (d.outer ++ d.level ∷ [])) ≡ Ok (closed d.level d.outer (value.Array vs))
    members [] each w item room r fits few =
        let inner : ValueDraft = within place.ValueOrEnd bracket.Array item room [] (d.outer ++ d.level ∷ []) in
        acts_one close_bracket [] inner (closed d.level d.outer (value.Array [])) (went_out d.level d.outer inner refl (none_lacking room fits))
    members (v ∷ vs) each w item room r fits few = listed_given bracket.Array close_bracket value.Array is_array item d.level d.outer v vs place.ValueOrEnd room refl each w r few fits
