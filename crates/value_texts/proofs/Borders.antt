-- What may follow a value ends each token.
use Rattle.std.proofs.Common.{◌≡◌, ℕ, ◌||◌, ◌==◌, Bool, true, false, List, [], ◌∷◌, sym, refl, subst, eqb-true}
use Rattle.unicode_ident.proofs.Computing.{unicode_ident}
use Rattle.usda_lexer.specs.Blanks.{is_blank}
use Rattle.value_texts.specs.Follows.{ends_name, ends_number, begins_not, is_border, may_follow}

pub at_one : (P : ℕ → Type 0) (c d : ℕ) → P d → (c == d) ≡ true → P c
at_one P c d p e = subst P (sym (eqb-true c d e)) p

pub either : (P : Type 0) (a b : Bool) → (a ≡ true → P) → (b ≡ true → P) → (a || b) ≡ true → P
either P true b f g e = f refl
either P false b f g e = g e

pub each_blank : (P : ℕ → Type 0) (c : ℕ) → P 32 → P 9 → P 13 → P 10 → is_blank c ≡ true → P c
each_blank P c p32 p9 p13 p10 =
    either (P c) _ (c == 10) (either (P c) _ (c == 13) (either (P c) (c == 32) (c == 9) (at_one P c 32 p32) (at_one P c 9 p9)) (at_one P c 13 p13)) (at_one P c 10 p10)

pub each_border : (P : ℕ → Type 0) (c : ℕ) → P 32 → P 9 → P 13 → P 10 → P 40 → P 41 → P 91 → P 93 → P 123 → P 125 → P 44 → P 59 → P 61 → is_border c ≡ true → P c
each_border P c p32 p9 p13 p10 p40 p41 p91 p93 p123 p125 p44 p59 p61 =
    either (P c) (is_blank c) _ (each_blank P c p32 p9 p13 p10)
    (either (P c) (c == 40) _ (at_one P c 40 p40) (either (P c) (c == 41) _ (at_one P c 41 p41) (either (P c) (c == 91) _ (at_one P c 91 p91) (either (P c) (c == 93) _ (at_one P c 93 p93)
    (either (P c) (c == 123) _ (at_one P c 123 p123) (either (P c) (c == 125) _ (at_one P c 125 p125) (either (P c) (c == 44) _ (at_one P c 44 p44) (either (P c) (c == 59) _ (at_one P c 59 p59) (at_one P c 61 p61)))))))))

pub border_name : (rest : List ℕ) → may_follow rest ≡ true → ends_name rest ≡ true
unfolding unicode_ident
border_name [] h = refl
border_name (c ∷ cs) h = each_border (λ x. ends_name (x ∷ cs) ≡ true) c refl refl refl refl refl refl refl refl refl refl refl refl refl h

pub border_number : (rest : List ℕ) → may_follow rest ≡ true → ends_number rest ≡ true
border_number [] h = refl
border_number (c ∷ cs) h = each_border (λ x. ends_number (x ∷ cs) ≡ true) c refl refl refl refl refl refl refl refl refl refl refl refl refl h

pub border_string : (rest : List ℕ) → may_follow rest ≡ true → begins_not 34 rest ≡ true
border_string [] h = refl
border_string (c ∷ cs) h = each_border (λ x. begins_not 34 (x ∷ cs) ≡ true) c refl refl refl refl refl refl refl refl refl refl refl refl refl h

pub border_asset : (rest : List ℕ) → may_follow rest ≡ true → begins_not 64 rest ≡ true
border_asset [] h = refl
border_asset (c ∷ cs) h = each_border (λ x. begins_not 64 (x ∷ cs) ≡ true) c refl refl refl refl refl refl refl refl refl refl refl refl refl h
