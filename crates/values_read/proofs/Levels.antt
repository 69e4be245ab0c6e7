-- A sound value goes into a level, and a level that is closed goes into the one outside it.
use Rattle.std.proofs.Common.{◌≡◌, ◌∙◌, ℕ, suc, ◌+◌, ◌<◌, Bool, false, List, [], ◌∷◌, ◌++◌, length, length-append, Option, Some, None, ap, sym, refl, subst, arith}
use Rattle.plain_data.specs.Ends.{last, last-push, front-push}
use Rattle.sdf_values.specs.declared.value.DictItem.{DictItem}
use Rattle.sdf_values.specs.declared.value.Value.{Value}
use Rattle.usda_values.specs.Drafts.{one_fewer, is_full, is_lacking, is_statement, give_member, give_entry, give_to, give, behind_value, wrap_as, go_out}
use Rattle.usda_values.specs.Shapes.{entry_shape}
use Rattle.usda_values.specs.declared.draft.ValueDraft.{ValueDraft}
use Rattle.usda_values.specs.declared.level.Bracket.{Bracket}
use Rattle.usda_values.specs.declared.level.Bracket.TheVariants as bracket
use Rattle.usda_values.specs.declared.level.Level.{Level}
use Rattle.usda_values.specs.declared.level.Place.{Place}
use Rattle.usda_values.specs.declared.level.Place.TheVariants as place
use Rattle.usda_values.specs.declared.shape.Shape.{Shape}
use Rattle.value_shapes.proofs.TypedLevels.{counted as some_left}
use Rattle.value_shapes.proofs.TypedReading.{draft}
use Rattle.values_read.specs.Sound.{IsSound, AreSound, AreCounted, IsTuple, IsArray, IsDict, IsInner, HasNewKey, AwaitsValue, AreOpen, whole, inside, HasMember, MayEnd, IsDraft, ongoing, complete, IsSoundDraft}
use Rattle.values_read.proofs.Keys.{put_ordered, put_each}
use Rattle.values_read.proofs.Closed.{tuple_sound, array_sound, dict_sound}

-- ---- one member more

sound_more : (n : ℕ) (shape : Shape) (vs : List Value) (v : Value) → AreSound n shape vs → IsSound n shape false v → AreSound n shape (vs ++ v ∷ [])
sound_more n shape [] v each one = (one, tt)
sound_more n shape (x ∷ vs) v each one = (each.0, sound_more n shape vs v each.1 one)

has_more : (vs : List Value) (v : Value) → HasMember (vs ++ v ∷ [])
has_more [] v = tt
has_more (x ∷ vs) v = tt

one_longer : (ls : List Level) (l : Level) → length (ls ++ l ∷ []) ≡ suc (length ls)
one_longer ls l = omega (arith, length-append ls (l ∷ []))

count_more : (all : Option ℕ) (vs : List Value) (v : Value) (room : Option ℕ) → is_full room ≡ false → AreCounted all (length vs) room → AreCounted all (length (vs ++ v ∷ [])) (one_fewer room)
count_more None vs v room full h = ap one_fewer h
count_more (Some all) vs v room full h =
    let k = some_left h.0 (sym (ap is_full h.1) ∙ full) in
    let c : length vs + suc k.0 ≡ all = ap (λ x. length vs + x) (sym k.1) ∙ h.2 in
    (k.0, ap one_fewer (h.1 ∙ ap Some k.1), omega (arith, length-append vs (v ∷ []), c))

tuple_more : (n : ℕ) (expected : Shape) (l : Level) (v : Value) → IsTuple n expected l → is_full l.room ≡ false → IsSound n l.item false v → IsTuple n expected (give_member v l)
tuple_more n expected l v t full one = record { all = t.all; members = t.members; counted = count_more t.all l.values v l.room full t.counted; each = sound_more n l.item l.values v t.each one }

array_more : (n : ℕ) (expected : Shape) (l : Level) (v : Value) → IsArray n expected l → IsSound n l.item false v → IsArray n expected (give_member v l)
array_more n expected l v a one = record { members = a.members; room = ap one_fewer a.room; each = sound_more n l.item l.values v a.each one }

dict_more : (n : ℕ) (expected : Shape) (l : Level) (v : Value) → IsDict n expected l → HasNewKey l → l.item ≡ entry_shape l.ty → IsSound n l.item false v → IsDict n expected (give_entry v l)
dict_more n expected l v d key is one =
    let item : DictItem = record { key = l.key; ty = l.ty; value = v } in
    record {
      may = d.may;
      room = d.room;
      ordered = put_ordered l.key item l.entries d.ordered key.new;
      each = put_each n l.key item l.entries d.each key.new (record { key = refl; utf8 = key.utf8; value = subst (λ x. IsSound n x false v) is one });
    }

-- ---- a value goes into a level

-- what is behind the value in the level
abbrev Given : Shape → List Level → Level → Value → Bracket → Type 0
Given shape outer l v b = IsDraft shape (behind_value b) (give_to b v l) outer

inner_given : (shape : Shape) (outer : List Level) (parent l : Level) (v : Value) (b : Bracket) → AreOpen shape outer parent → is_full parent.room ≡ false → AwaitsValue parent.bracket parent → length outer < 64 → l.bracket ≡ b
    → IsInner b (suc (length outer)) parent.item l → is_full l.room ≡ false → AwaitsValue b l → IsSound (suc (length outer)) l.item (is_statement b) v → Given shape (outer ++ parent ∷ []) l v b
inner_given shape outer parent l v bracket.Statement below pfull pawaits few is inner full awaits one = absurd inner
inner_given shape outer parent l v bracket.Tuple below pfull pawaits few is inner full awaits one =
    ongoing place.BehindMember (give_member v l) (outer ++ parent ∷ [])
    (inside outer parent (give_member v l) below pfull pawaits few (subst (λ x. IsInner x (suc (length outer)) parent.item (give_member v l)) (sym is) (tuple_more (suc (length outer)) parent.item l v inner full one)))
    (subst (λ x. MayEnd x (give_member v l)) (sym is) (has_more l.values v))
inner_given shape outer parent l v bracket.Array below pfull pawaits few is inner full awaits one =
    ongoing place.BehindMember (give_member v l) (outer ++ parent ∷ [])
    (inside outer parent (give_member v l) below pfull pawaits few (subst (λ x. IsInner x (suc (length outer)) parent.item (give_member v l)) (sym is) (array_more (suc (length outer)) parent.item l v inner one)))
    (subst (λ x. MayEnd x (give_member v l)) (sym is) tt)
inner_given shape outer parent l v bracket.Dict below pfull pawaits few is inner full awaits one =
    ongoing place.BehindEntry (give_entry v l) (outer ++ parent ∷ [])
    (inside outer parent (give_entry v l) below pfull pawaits few (subst (λ x. IsInner x (suc (length outer)) parent.item (give_entry v l)) (sym is) (dict_more (suc (length outer)) parent.item l v inner awaits.0 awaits.1 one)))
    is

pub placed : (shape : Shape) (outer : List Level) (l : Level) (v : Value) → AreOpen shape outer l → is_full l.room ≡ false → AwaitsValue l.bracket l → IsSound (length outer) l.item (is_statement l.bracket) v
    → IsDraft shape (behind_value l.bracket) (give v l) outer
placed shape _ l v (whole _ b i none) full awaits one =
    subst (Given shape [] l v) (sym b)
    (complete (give_member v l) [] v (ap (λ vs. vs ++ v ∷ []) none) (subst (λ x. IsSound 0 shape (is_statement x) v) b (subst (λ x. IsSound 0 x (is_statement l.bracket) v) i one)))
placed shape _ l v (inside outer parent _ below pfull pawaits few inner) full awaits one =
    inner_given shape outer parent l v l.bracket below pfull pawaits few refl inner full awaits (subst (λ n. IsSound n l.item (is_statement l.bracket) v) (one_longer outer parent) one)

-- ---- a level is closed

-- the level may be closed: a tuple has a member
abbrev pub MayClose : Bracket → Level → Type 0
MayClose bracket.Statement l = ⊥
MayClose bracket.Tuple l = HasMember l.values
MayClose b l = Unit {0}

pub may_end : (b : Bracket) (l : Level) → MayEnd b l → MayClose b l
may_end bracket.Statement l h = h
may_end bracket.Tuple l h = h
may_end bracket.Array l h = h
may_end bracket.Dict l h = tt

pub dict_closes : (l : Level) → l.bracket ≡ bracket.Dict → MayClose l.bracket l
dict_closes l is = subst (λ x. MayClose x l) (sym is) tt

wrapped : (n : ℕ) (expected : Shape) (l : Level) (s : Bool) (b : Bracket) → n < 64 → IsInner b (suc n) expected l → MayClose b l → is_lacking l.room ≡ false → IsSound n expected s (wrap_as b l)
wrapped n expected l s bracket.Statement few inner may lacking = absurd may
wrapped n expected l s bracket.Tuple few inner may lacking = tuple_sound n expected l s few inner may lacking
wrapped n expected l s bracket.Array few inner may lacking = array_sound n expected l s few inner
wrapped n expected l s bracket.Dict few inner may lacking = dict_sound n expected l s few inner

abbrev behind : Level → List Level → Value → ValueDraft
behind parent outer v = draft (behind_value parent.bracket) (give v parent) outer

gone_out : (p : Place) (outer : List Level) (parent l : Level) → go_out (last (outer ++ parent ∷ [])) (draft p l (outer ++ parent ∷ [])) ≡ behind parent outer (wrap_as l.bracket l)
gone_out p outer parent l =
    ap (λ o. go_out o (draft p l (outer ++ parent ∷ []))) (last-push outer parent) ∙ ap (λ o. behind parent o (wrap_as l.bracket l)) (front-push outer parent)

pub closed : (shape : Shape) (p : Place) (outer : List Level) (l : Level) → AreOpen shape outer l → MayClose l.bracket l → is_lacking l.room ≡ false → IsSoundDraft shape (go_out (last outer) (draft p l outer))
closed shape p _ l (whole _ b i none) may lacking = absurd (subst (λ x. MayClose x l) b may)
closed shape p _ l (inside outer parent _ below pfull pawaits few inner) may lacking =
    subst (IsSoundDraft shape) (sym (gone_out p outer parent l))
    (placed shape outer parent (wrap_as l.bracket l) below pfull pawaits (wrapped (length outer) parent.item l (is_statement parent.bracket) l.bracket few inner may lacking))
