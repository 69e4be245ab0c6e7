-- What is taken of a value is of the type and means the same, level by level.
use Rattle.std.proofs.Common.{◌≡◌, ◌∙◌, ℕ, zero, suc, ◌&&◌, Bool, true, false, List, [], ◌∷◌, length, map, Option, Some, None, Ok, Err, ap, sym, refl, subst, eq-eqb}
use Rattle.std.specs.Prelude.{if◌then◌else◌}
use Rattle.std.proofs.lemmas.List.{length-map}
use Rattle.std.proofs.lemmas.Bool.{and_parts}
use Rattle.sdf_values.specs.Conforms.{holds, holds_step, item_step, all_hold, are_members, members_of, one}
use Rattle.sdf_values.specs.declared.refusal.RefusalKind.TheVariants.{ValueShape}
use Rattle.sdf_values.specs.declared.type_name.ElementType.{ElementType}
use Rattle.sdf_values.specs.declared.type_name.TypeName.{TypeName}
use Rattle.sdf_values.specs.declared.value.Value.{Value}
use Rattle.sdf_values.specs.declared.value.Value.TheVariants as value
use Rattle.usda_values.specs.Scalars.{Taken, take_element}
use Rattle.usda_values.specs.Shaping.{Taking, TakenAll, before_all, take_all, take_counted, as_tuple, as_array, take_tuple, take_leaf, take_step, take_item, taken}
use Rattle.sdf_values.specs.Proper.{all_true}
use Rattle.sdf_values.proofs.Values.{Each, by_cases}
use Rattle.value_shapes.specs.Held.{is_held, held_step, held_item}
use Rattle.value_shapes.specs.Meanings.{SameMeanings, tuple, array, none, more}
use Rattle.sdf_values.proofs.Values as fold
use Rattle.value_shapes.proofs.Elements.{Test, Fits, element_fits}

-- whatever is taken of the value fits
abbrev pub IsFitting : Value → Type 0
IsFitting v = (t : TypeName) (w : Value) → taken v t ≡ Ok w → Fits t v w

abbrev pub typed : ElementType → Bool → TypeName
typed e a = record { element = e; array = a }

-- values of one token
pub leaf_cases : (a : Bool) (e : ElementType) (v w : Value) → (if a then Err ValueShape else take_element e v) ≡ Ok w → Fits (typed e a) v w
leaf_cases true e v w h = absurd cc
leaf_cases false e v w h = element_fits e v w h

leaf : (v : Value) → ((t : TypeName) → taken v t ≡ take_leaf v t) → IsFitting v
leaf v is t w h = leaf_cases t.array t.element v w (sym (is t) ∙ h)

-- members that were taken
record Members (vs ws : List Value) (t : TypeName) : Type 0 where
  pub all : all_hold (map holds ws) t ≡ true
  pub same : SameMeanings vs ws
  pub held : all_true (map is_held vs) ≡ true → all_true (map is_held ws) ≡ true

no_members : (t : TypeName) → Members [] [] t
no_members t = record { all = refl; same = none; held = λ h. refl }

more_members : (v w : Value) (vs ws : List Value) (t : TypeName) → Fits t v w → Members vs ws t → Members (v ∷ vs) (w ∷ ws) t
more_members v w vs ws t fits rest = record {
  all = ap (λ b. b && all_hold (map holds ws) t) fits.of_type ∙ rest.all;
  same = more v w vs ws fits.same rest.same;
  held = λ h. (let p = and_parts (is_held v) (all_true (map is_held vs)) h in ap (λ b. b && all_true (map is_held ws)) (fits.held p.0) ∙ rest.held p.1);
}

-- a member before those behind it
taken_before : (w : Value) (r : TakenAll) (us : List Value) → before_all w r ≡ Ok us → (ws : List Value) × (r ≡ Ok ws) × (w ∷ ws ≡ us)
taken_before w (Ok ws) us h = (ws, refl, cc)
taken_before w (Err k) us h = absurd cc

all_fit : (vs : List Value) → Each IsFitting vs → (t : TypeName) (us : List Value) → take_all (map taken vs) t ≡ Ok us → Members vs us t
all_fit [] each t [] h = no_members t
all_fit [] each t (u ∷ us) h = absurd cc
all_fit (v ∷ vs) each t us h = first (taken v t) refl h (λ ws g. all_fit vs each.1 t ws g)
  where
    first : (r : Taken) → taken v t ≡ r → elim r as (λ _. TakenAll) [ Ok w ↦ before_all w (take_all (map taken vs) t) | Err k ↦ Err k ] ≡ Ok us
        → ((ws : List Value) → take_all (map taken vs) t ≡ Ok ws → Members vs ws t) → Members (v ∷ vs) us t
    first (Ok w) e g rest =
        let p = taken_before w (take_all (map taken vs) t) us g in
        subst (λ l. Members (v ∷ vs) l t) p.2 (more_members v w vs p.0 t (each.0 t w e) (rest p.0 p.1))
    first (Err k) e g rest = absurd cc

counted_fit : (vs : List Value) → Each IsFitting vs → (n : ℕ) (t : TypeName) (us : List Value) → take_counted n (map taken vs) t ≡ Ok us → (length us ≡ n) × Members vs us t
counted_fit [] each zero t [] h = (refl, no_members t)
counted_fit [] each zero t (u ∷ us) h = absurd cc
counted_fit [] each (suc n) t us h = absurd cc
counted_fit (v ∷ vs) each zero t us h = absurd cc
counted_fit (v ∷ vs) each (suc n) t us h = first (taken v t) refl h (λ ws g. counted_fit vs each.1 n t ws g)
  where
    first : (r : Taken) → taken v t ≡ r → elim r as (λ _. TakenAll) [ Ok w ↦ before_all w (take_counted n (map taken vs) t) | Err k ↦ Err k ] ≡ Ok us
        → ((ws : List Value) → take_counted n (map taken vs) t ≡ Ok ws → (length ws ≡ n) × Members vs ws t) → (length us ≡ suc n) × Members (v ∷ vs) us t
    first (Ok w) e g rest =
        let p = taken_before w (take_counted n (map taken vs) t) us g in
        let q = rest p.0 p.1 in
        subst (λ l. (length l ≡ suc n) × Members (v ∷ vs) l t) p.2 (ap suc q.0, more_members v w vs p.0 t (each.0 t w e) q.1)
    first (Err k) e g rest = absurd cc

-- tuples
pub holds_tuple : (ws : List Value) (e : ElementType) (m : ElementType × ℕ) → members_of e ≡ Some m → length ws ≡ m.1 → all_hold (map holds ws) (one m.0) ≡ true → holds (value.Tuple ws) (one e) ≡ true
holds_tuple ws e m is count all =
    ap (λ f. f (one e)) (fold.of_tuple Test Test holds_step item_step ws) ∙ ap (λ o. are_members o (map holds ws)) is
    ∙ ap (λ b. b && all_hold (map holds ws) (one m.0)) (eq-eqb (length (map holds ws)) m.1 (length-map ws holds ∙ count)) ∙ all

tuple_of : (vs : List Value) (e : ElementType) (m : ElementType × ℕ) (r : TakenAll) (w : Value) → members_of e ≡ Some m
    → ((us : List Value) → r ≡ Ok us → (length us ≡ m.1) × Members vs us (one m.0)) → as_tuple r ≡ Ok w → Fits (one e) (value.Tuple vs) w
tuple_of vs e m (Ok us) w is members h =
    let k = members us refl in
    let same : value.Tuple us ≡ w = cc h in
    subst (λ x. Fits (one e) (value.Tuple vs) x) same (record {
      of_type = holds_tuple us e m is k.0 k.1.all;
      same = tuple vs us k.1.same;
      held = λ g. fold.of_tuple Bool Bool held_step held_item us ∙ k.1.held (sym (fold.of_tuple Bool Bool held_step held_item vs) ∙ g);
    })
tuple_of vs e m (Err k) w is members h = absurd cc

tuple_members : (vs : List Value) → Each IsFitting vs → (e : ElementType) (o : Option (ElementType × ℕ)) (w : Value) → members_of e ≡ o → take_tuple o (map taken vs) ≡ Ok w → Fits (one e) (value.Tuple vs) w
tuple_members vs each e None w is h = absurd cc
tuple_members vs each e (Some m) w is h = tuple_of vs e m (take_counted m.1 (map taken vs) (one m.0)) w is (λ us g. counted_fit vs each m.1 (one m.0) us g) h

tuple_cases : (vs : List Value) → Each IsFitting vs → (a : Bool) (e : ElementType) (w : Value) → (if a then Err ValueShape else take_tuple (members_of e) (map taken vs)) ≡ Ok w → Fits (typed e a) (value.Tuple vs) w
tuple_cases vs each true e w h = absurd cc
tuple_cases vs each false e w h = tuple_members vs each e (members_of e) w refl h

tuple_fits : (vs : List Value) → Each IsFitting vs → IsFitting (value.Tuple vs)
tuple_fits vs each t w h = tuple_cases vs each t.array t.element w (sym (ap (λ f. f t) (fold.of_tuple Taking Taking take_step take_item vs)) ∙ h)

-- arrays
pub holds_array : (ws : List Value) (e : ElementType) → all_hold (map holds ws) (one e) ≡ true → holds (value.Array ws) (typed e true) ≡ true
holds_array ws e all = ap (λ f. f (typed e true)) (fold.of_array Test Test holds_step item_step ws) ∙ all

array_of : (vs : List Value) (e : ElementType) (r : TakenAll) (w : Value) → ((us : List Value) → r ≡ Ok us → Members vs us (one e)) → as_array r ≡ Ok w → Fits (typed e true) (value.Array vs) w
array_of vs e (Ok us) w members h =
    let k = members us refl in
    let same : value.Array us ≡ w = cc h in
    subst (λ x. Fits (typed e true) (value.Array vs) x) same (record {
      of_type = holds_array us e k.all;
      same = array vs us k.same;
      held = λ g. fold.of_array Bool Bool held_step held_item us ∙ k.held (sym (fold.of_array Bool Bool held_step held_item vs) ∙ g);
    })
array_of vs e (Err k) w members h = absurd cc

array_cases : (vs : List Value) → Each IsFitting vs → (a : Bool) (e : ElementType) (w : Value) → (if a then as_array (take_all (map taken vs) (one e)) else Err ValueShape) ≡ Ok w → Fits (typed e a) (value.Array vs) w
array_cases vs each true e w h = array_of vs e (take_all (map taken vs) (one e)) w (λ us g. all_fit vs each (one e) us g) h
array_cases vs each false e w h = absurd cc

array_fits : (vs : List Value) → Each IsFitting vs → IsFitting (value.Array vs)
array_fits vs each t w h = array_cases vs each t.array t.element w (sym (ap (λ f. f t) (fold.of_array Taking Taking take_step take_item vs)) ∙ h)

refused : (v : Value) → ((t : TypeName) → taken v t ≡ Err ValueShape) → IsFitting v
refused v is t w h = absurd (let e = is t in cc)

pub fits : (v : Value) → IsFitting v
fits = by_cases IsFitting (λ i. Unit {0}) (record {
  bool = λ b. leaf (value.Bool b) (λ t. ap (λ f. f t) (fold.of_bool Taking Taking take_step take_item b));
  whole = λ n. leaf (value.Whole n) (λ t. ap (λ f. f t) (fold.of_whole Taking Taking take_step take_item n));
  number = λ x. leaf (value.Number x) (λ t. ap (λ f. f t) (fold.of_number Taking Taking take_step take_item x));
  time = λ x. leaf (value.Time x) (λ t. ap (λ f. f t) (fold.of_time Taking Taking take_step take_item x));
  text = λ s. leaf (value.Text s) (λ t. ap (λ f. f t) (fold.of_text Taking Taking take_step take_item s));
  asset = λ s. leaf (value.Asset s) (λ t. ap (λ f. f t) (fold.of_asset Taking Taking take_step take_item s));
  path = λ s. leaf (value.PathText s) (λ t. ap (λ f. f t) (fold.of_path Taking Taking take_step take_item s));
  word = λ s. leaf (value.Word s) (λ t. ap (λ f. f t) (fold.of_word Taking Taking take_step take_item s));
  block = refused value.Block (λ t. ap (λ f. f t) (fold.of_block Taking Taking take_step take_item));
  tuple = tuple_fits;
  array = array_fits;
  dict = λ items each. refused (value.Dict items) (λ t. ap (λ f. f t) (fold.of_dict Taking Taking take_step take_item items));
  item = λ k t v h. tt;
})
