-- Members that are taken one after the other.
use Rattle.std.proofs.Common.{◌≡◌, ◌∙◌, ℕ, zero, suc, ◌<◌, ◌-◌, ◌+◌, List, [], ◌∷◌, ◌++◌, map, length, drop, get_or, append_assoc, append-nil, Ok, Err, ap, sym, refl, arith}
use Rattle.sdf_values.specs.declared.refusal.RefusalKind.{RefusalKind}
use Rattle.sdf_values.specs.declared.refusal.RefusalKind.TheVariants.{ValueShape}
use Rattle.sdf_values.specs.declared.type_name.TypeName.{TypeName}
use Rattle.sdf_values.specs.declared.value.Value.{Value}
use Rattle.std.proofs.lemmas.List.{drop_more}
use Rattle.usda_values.specs.declared.fault.PartFault.{PartFault}
use Rattle.usda_values.specs.declared.fault.PartFault.TheVariants.{Refused, NoMemory}
use Rattle.usda_values.specs.Takes.{Gives}
use Rattle.usda_values.specs.Scalars.{Taken}
use Rattle.usda_values.specs.Shaping.{Taking, TakenAll, before_all, take_all, take_counted, taken, GivesAll}

-- the members so far, and then those that are taken behind them
abbrev pub behind : List Value → TakenAll → TakenAll
behind vs (Ok ws) = Ok (vs ++ ws)
behind vs (Err k) = Err k

moved : (vs : List Value) (v : Value) (r : TakenAll) → behind vs (before_all v r) ≡ behind (vs ++ v ∷ []) r
moved vs v (Ok ws) = ap Ok (sym (append_assoc vs (v ∷ []) ws))
moved vs v (Err k) = refl

abbrev Then : Taken → TakenAll → TakenAll
Then r more = elim r [ Ok v ↦ before_all v more | Err k ↦ Err k ]

pub all_step : (vs : List Value) (v : Value) (c : Taking) (cs : List Taking) (t : TypeName) → c t ≡ Ok v → behind vs (take_all (c ∷ cs) t) ≡ behind (vs ++ v ∷ []) (take_all cs t)
all_step vs v c cs t e = ap (λ (r : Taken). behind vs (Then r (take_all cs t))) e ∙ moved vs v (take_all cs t)

pub all_stops : (vs : List Value) (k : RefusalKind) (c : Taking) (cs : List Taking) (t : TypeName) → c t ≡ Err k → behind vs (take_all (c ∷ cs) t) ≡ Err k
all_stops vs k c cs t e = ap (λ (r : Taken). behind vs (Then r (take_all cs t))) e

pub counted_step : (n : ℕ) (vs : List Value) (v : Value) (c : Taking) (cs : List Taking) (t : TypeName) → 0 < n → c t ≡ Ok v
    → behind vs (take_counted n (c ∷ cs) t) ≡ behind (vs ++ v ∷ []) (take_counted (n - 1) cs t)
counted_step zero vs v c cs t some e = absurd (omega (arith, some))
counted_step (suc n) vs v c cs t some e =
    ap (λ (r : Taken). behind vs (Then r (take_counted n cs t))) e ∙ moved vs v (take_counted n cs t)
    ∙ ap (λ k. behind (vs ++ v ∷ []) (take_counted k cs t)) (let f : n ≡ suc n - 1 = omega arith in f)

pub counted_stops : (n : ℕ) (vs : List Value) (k : RefusalKind) (c : Taking) (cs : List Taking) (t : TypeName) → 0 < n → c t ≡ Err k → behind vs (take_counted n (c ∷ cs) t) ≡ Err k
counted_stops zero vs k c cs t some e = absurd (omega (arith, some))
counted_stops (suc n) vs k c cs t some e = ap (λ (r : Taken). behind vs (Then r (take_counted n cs t))) e

pub counted_full : (n : ℕ) (vs : List Value) (c : Taking) (cs : List Taking) (t : TypeName) → n ≡ 0 → behind vs (take_counted n (c ∷ cs) t) ≡ Err ValueShape
counted_full zero vs c cs t e = refl
counted_full (suc n) vs c cs t e = absurd (omega (arith, e))

pub counted_lacks : (n : ℕ) (vs : List Value) (t : TypeName) → 0 < n → behind vs (take_counted n [] t) ≡ Err ValueShape
counted_lacks zero vs t some = absurd (omega (arith, some))
counted_lacks (suc n) vs t some = refl

pub counted_ends : (n : ℕ) (vs : List Value) (t : TypeName) → n ≡ 0 → behind vs (take_counted n [] t) ≡ Ok vs
counted_ends zero vs t e = ap Ok (append-nil vs)
counted_ends (suc n) vs t e = absurd (omega (arith, e))

pub all_ends : (vs : List Value) (t : TypeName) → behind vs (take_all [] t) ≡ Ok vs
all_ends vs t = ap Ok (append-nil vs)

pub member_at : (values : List Value) (i : ℕ) (x : Value) → i < length values → x ≡ get_or values i x → map taken (drop i values) ≡ taken x ∷ map taken (drop (i + 1) values)
member_at values i x lt e = ap (map taken) (drop_more values i x lt) ∙ ap (λ y. taken y ∷ map taken (drop (i + 1) values)) (sym e)

pub gives_err : (f : PartFault) (c : Taken) (r : TakenAll) → Gives (Err f) c → ((k : RefusalKind) → c ≡ Err k → r ≡ Err k) → GivesAll (Err f) r
gives_err (Refused k) c r g h = h k g
gives_err NoMemory c r g h = tt
