-- What is known of a word by its kind.
use Rattle.usda_grammar.specs.Words.{keyword_of}
use Rattle.std.proofs.Common.{◌≡◌, inl, inr, ℕ, Bool, true, false, ◌&&◌, List, sym, refl, subst}
use Rattle.std.specs.Str.{is_utf8}
use Rattle.usda_grammar.specs.declared.kinds.WordKind.{WordKind}
use Rattle.usda_grammar.specs.declared.kinds.WordKind.TheVariants as token
use Rattle.usda_lexer.specs.Meanings.{asset_text, path_text}
use Rattle.usda_lexer.specs.declared.token.Mark.{Mark}
use Rattle.usda_lexer.specs.declared.token.Mark.TheVariants as mark
use Rattle.usda_lexer.specs.declared.token.TokenKind.{TokenKind}
use Rattle.usda_lexer.specs.declared.token.TokenKind.TheVariants as form
use Rattle.usda_words.specs.Words.{Word, kind_of, kind_of_mark}
use Rattle.value_texts.specs.Following.{IsOfToken}
use Rattle.value_texts.specs.Writable.{is_writable_asset}
use Rattle.layer_texts.specs.Writable.{is_word}
use Rattle.value_returns.specs.Fields.{IsText, IsAssetName}
use Rattle.values_read.specs.Tokens.{is_lexed, IsLexedWord}

-- a name is one, what a path stands for is UTF-8, and an asset has a name
abbrev pub IsKnownAs : WordKind → List ℕ → Type 0
IsKnownAs (token.Word x) text = (is_word text ≡ true) × (keyword_of text ≡ x)
IsKnownAs token.Path text = IsText (path_text text)
IsKnownAs token.Asset text = IsAssetName (asset_text text)
IsKnownAs k text = Unit {0}

marks_known : (m : Mark) (text : List ℕ) → IsKnownAs (kind_of_mark m) text
marks_known mark.OpenParen text = tt
marks_known mark.CloseParen text = tt
marks_known mark.OpenBrace text = tt
marks_known mark.CloseBrace text = tt
marks_known mark.OpenBracket text = tt
marks_known mark.CloseBracket text = tt
marks_known mark.Equals text = tt
marks_known mark.Comma text = tt
marks_known mark.Semicolon text = tt
marks_known mark.Colon text = tt
marks_known mark.Dot text = tt

first_so : (a b : Bool) → (a && b) ≡ true → a ≡ true
first_so true b h = refl
first_so false b h = absurd cc

second_so : (a b : Bool) → (a && b) ≡ true → b ≡ true
second_so true b h = h
second_so false b h = absurd cc

forms_known : (f : TokenKind) (text : List ℕ) → is_lexed f text ≡ true → IsKnownAs (kind_of f text) text
unfolding is_word
forms_known form.Name text h = (h, refl)
forms_known form.Number text h = tt
forms_known form.String text h = tt
forms_known form.Asset text h = record { utf8 = first_so (is_utf8 (asset_text text)) (is_writable_asset (asset_text text)) h; short_ats = second_so (is_utf8 (asset_text text)) (is_writable_asset (asset_text text)) h }
forms_known form.Path text h = h
forms_known (form.Mark m) text h = marks_known m text

pub known : (w : Word) → IsOfToken w → IsLexedWord w → IsKnownAs w.kind w.text
known w (inl is) (inl lexed) = subst (λ k. IsKnownAs k w.text) (sym is) (forms_known w.token w.text lexed)
known w (inr fault) lexed = subst (λ k. IsKnownAs k w.text) (sym fault) tt
known w (inl is) (inr fault) = subst (λ k. IsKnownAs k w.text) (sym fault) tt
