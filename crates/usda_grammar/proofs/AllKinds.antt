-- What holds of each kind of token holds of all. Written by tools/grammar.py.
use Rattle.std.proofs.Common.{◌≡◌, ℕ, zero, suc, Bool, true, false, ◌&&◌, List, [], ◌∷◌, Option, Some, None, refl, ap, sym, ◌∙◌}
use Rattle.usda_grammar.specs.declared.kinds.WordKind.{WordKind}
use Rattle.usda_grammar.specs.declared.kinds.WordKind.TheVariants as token
use Rattle.usda_grammar.specs.declared.kinds.Keyword.TheVariants as word

abbrev pub kinds : List WordKind
kinds =
    (token.Word word.Specifier) ∷ (token.Word word.StringField) ∷ (token.Word word.PathField) ∷ (token.Word word.ReferenceField) ∷ (token.Word word.Edit) ∷ (token.Word word.Reorder) ∷ (token.Word word.Variants) ∷ (token.Word word.VariantSet) ∷ (token.Word word.SubLayers) ∷ (token.Word word.RootPrims) ∷ (token.Word word.OrderedField) ∷ (token.Word word.Custom) ∷ (token.Word word.Variability) ∷ (token.Word word.Rel) ∷ (token.Word word.TimeSamples) ∷ (token.Word word.Connect) ∷ (token.Word word.Spline) ∷ (token.Word word.NoneWord) ∷ (token.Word word.Dictionary) ∷ (token.Word word.Other) ∷ token.Number ∷ token.Quoted ∷ token.Asset ∷ token.Path ∷ token.OpenParen ∷ token.CloseParen ∷ token.OpenBrace ∷ token.CloseBrace ∷ token.OpenBracket ∷ token.CloseBracket ∷ token.Equals ∷ token.Comma ∷ token.Semicolon ∷ token.Colon ∷ token.Dot ∷ token.Fault ∷ []

abbrev pub all : (WordKind → Bool) → List WordKind → Bool
all p [] = true
all p (k ∷ ks) = p k && all p ks

pub front : (a b : Bool) → (a && b) ≡ true → a ≡ true
front true b e = refl
front false b e = absurd cc

pub back : (a b : Bool) → (a && b) ≡ true → b ≡ true
back true b e = e
back false b e = absurd cc

abbrev at : List WordKind → ℕ → Option WordKind
at [] n = None
at (k ∷ ks) zero = Some k
at (k ∷ ks) (suc n) = at ks n

all-at : (p : WordKind → Bool) (ks : List WordKind) → all p ks ≡ true → (n : ℕ) (k : WordKind) → at ks n ≡ Some k → p k ≡ true
all-at p [] e n k same = absurd cc
all-at p (x ∷ ks) e zero k same = let f : x ≡ k = cc in ap p (sym f) ∙ front (p x) (all p ks) e
all-at p (x ∷ ks) e (suc n) k same = all-at p ks (back (p x) (all p ks) e) n k same

-- a test that each kind passes
pub all_kinds-at : (p : WordKind → Bool) → all p kinds ≡ true → (k : WordKind) → p k ≡ true
all_kinds-at p e (token.Word word.Specifier) = all-at p kinds e 0 (token.Word word.Specifier) refl
all_kinds-at p e (token.Word word.StringField) = all-at p kinds e 1 (token.Word word.StringField) refl
all_kinds-at p e (token.Word word.PathField) = all-at p kinds e 2 (token.Word word.PathField) refl
all_kinds-at p e (token.Word word.ReferenceField) = all-at p kinds e 3 (token.Word word.ReferenceField) refl
all_kinds-at p e (token.Word word.Edit) = all-at p kinds e 4 (token.Word word.Edit) refl
all_kinds-at p e (token.Word word.Reorder) = all-at p kinds e 5 (token.Word word.Reorder) refl
all_kinds-at p e (token.Word word.Variants) = all-at p kinds e 6 (token.Word word.Variants) refl
all_kinds-at p e (token.Word word.VariantSet) = all-at p kinds e 7 (token.Word word.VariantSet) refl
all_kinds-at p e (token.Word word.SubLayers) = all-at p kinds e 8 (token.Word word.SubLayers) refl
all_kinds-at p e (token.Word word.RootPrims) = all-at p kinds e 9 (token.Word word.RootPrims) refl
all_kinds-at p e (token.Word word.OrderedField) = all-at p kinds e 10 (token.Word word.OrderedField) refl
all_kinds-at p e (token.Word word.Custom) = all-at p kinds e 11 (token.Word word.Custom) refl
all_kinds-at p e (token.Word word.Variability) = all-at p kinds e 12 (token.Word word.Variability) refl
all_kinds-at p e (token.Word word.Rel) = all-at p kinds e 13 (token.Word word.Rel) refl
all_kinds-at p e (token.Word word.TimeSamples) = all-at p kinds e 14 (token.Word word.TimeSamples) refl
all_kinds-at p e (token.Word word.Connect) = all-at p kinds e 15 (token.Word word.Connect) refl
all_kinds-at p e (token.Word word.Spline) = all-at p kinds e 16 (token.Word word.Spline) refl
all_kinds-at p e (token.Word word.NoneWord) = all-at p kinds e 17 (token.Word word.NoneWord) refl
all_kinds-at p e (token.Word word.Dictionary) = all-at p kinds e 18 (token.Word word.Dictionary) refl
all_kinds-at p e (token.Word word.Other) = all-at p kinds e 19 (token.Word word.Other) refl
all_kinds-at p e token.Number = all-at p kinds e 20 token.Number refl
all_kinds-at p e token.Quoted = all-at p kinds e 21 token.Quoted refl
all_kinds-at p e token.Asset = all-at p kinds e 22 token.Asset refl
all_kinds-at p e token.Path = all-at p kinds e 23 token.Path refl
all_kinds-at p e token.OpenParen = all-at p kinds e 24 token.OpenParen refl
all_kinds-at p e token.CloseParen = all-at p kinds e 25 token.CloseParen refl
all_kinds-at p e token.OpenBrace = all-at p kinds e 26 token.OpenBrace refl
all_kinds-at p e token.CloseBrace = all-at p kinds e 27 token.CloseBrace refl
all_kinds-at p e token.OpenBracket = all-at p kinds e 28 token.OpenBracket refl
all_kinds-at p e token.CloseBracket = all-at p kinds e 29 token.CloseBracket refl
all_kinds-at p e token.Equals = all-at p kinds e 30 token.Equals refl
all_kinds-at p e token.Comma = all-at p kinds e 31 token.Comma refl
all_kinds-at p e token.Semicolon = all-at p kinds e 32 token.Semicolon refl
all_kinds-at p e token.Colon = all-at p kinds e 33 token.Colon refl
all_kinds-at p e token.Dot = all-at p kinds e 34 token.Dot refl
all_kinds-at p e token.Fault = all-at p kinds e 35 token.Fault refl

-- a fact that each kind has
pub by_kind : (P : WordKind → Type 0) → P (token.Word word.Specifier) → P (token.Word word.StringField) → P (token.Word word.PathField) → P (token.Word word.ReferenceField) → P (token.Word word.Edit) → P (token.Word word.Reorder) → P (token.Word word.Variants) → P (token.Word word.VariantSet) → P (token.Word word.SubLayers) → P (token.Word word.RootPrims) → P (token.Word word.OrderedField) → P (token.Word word.Custom) → P (token.Word word.Variability) → P (token.Word word.Rel) → P (token.Word word.TimeSamples) → P (token.Word word.Connect) → P (token.Word word.Spline) → P (token.Word word.NoneWord) → P (token.Word word.Dictionary) → P (token.Word word.Other) → P token.Number → P token.Quoted → P token.Asset → P token.Path → P token.OpenParen → P token.CloseParen → P token.OpenBrace → P token.CloseBrace → P token.OpenBracket → P token.CloseBracket → P token.Equals → P token.Comma → P token.Semicolon → P token.Colon → P token.Dot → P token.Fault → (k : WordKind) → P k
by_kind P h0 h1 h2 h3 h4 h5 h6 h7 h8 h9 h10 h11 h12 h13 h14 h15 h16 h17 h18 h19 h20 h21 h22 h23 h24 h25 h26 h27 h28 h29 h30 h31 h32 h33 h34 h35 (token.Word word.Specifier) = h0
by_kind P h0 h1 h2 h3 h4 h5 h6 h7 h8 h9 h10 h11 h12 h13 h14 h15 h16 h17 h18 h19 h20 h21 h22 h23 h24 h25 h26 h27 h28 h29 h30 h31 h32 h33 h34 h35 (token.Word word.StringField) = h1
by_kind P h0 h1 h2 h3 h4 h5 h6 h7 h8 h9 h10 h11 h12 h13 h14 h15 h16 h17 h18 h19 h20 h21 h22 h23 h24 h25 h26 h27 h28 h29 h30 h31 h32 h33 h34 h35 (token.Word word.PathField) = h2
by_kind P h0 h1 h2 h3 h4 h5 h6 h7 h8 h9 h10 h11 h12 h13 h14 h15 h16 h17 h18 h19 h20 h21 h22 h23 h24 h25 h26 h27 h28 h29 h30 h31 h32 h33 h34 h35 (token.Word word.ReferenceField) = h3
by_kind P h0 h1 h2 h3 h4 h5 h6 h7 h8 h9 h10 h11 h12 h13 h14 h15 h16 h17 h18 h19 h20 h21 h22 h23 h24 h25 h26 h27 h28 h29 h30 h31 h32 h33 h34 h35 (token.Word word.Edit) = h4
by_kind P h0 h1 h2 h3 h4 h5 h6 h7 h8 h9 h10 h11 h12 h13 h14 h15 h16 h17 h18 h19 h20 h21 h22 h23 h24 h25 h26 h27 h28 h29 h30 h31 h32 h33 h34 h35 (token.Word word.Reorder) = h5
by_kind P h0 h1 h2 h3 h4 h5 h6 h7 h8 h9 h10 h11 h12 h13 h14 h15 h16 h17 h18 h19 h20 h21 h22 h23 h24 h25 h26 h27 h28 h29 h30 h31 h32 h33 h34 h35 (token.Word word.Variants) = h6
by_kind P h0 h1 h2 h3 h4 h5 h6 h7 h8 h9 h10 h11 h12 h13 h14 h15 h16 h17 h18 h19 h20 h21 h22 h23 h24 h25 h26 h27 h28 h29 h30 h31 h32 h33 h34 h35 (token.Word word.VariantSet) = h7
by_kind P h0 h1 h2 h3 h4 h5 h6 h7 h8 h9 h10 h11 h12 h13 h14 h15 h16 h17 h18 h19 h20 h21 h22 h23 h24 h25 h26 h27 h28 h29 h30 h31 h32 h33 h34 h35 (token.Word word.SubLayers) = h8
by_kind P h0 h1 h2 h3 h4 h5 h6 h7 h8 h9 h10 h11 h12 h13 h14 h15 h16 h17 h18 h19 h20 h21 h22 h23 h24 h25 h26 h27 h28 h29 h30 h31 h32 h33 h34 h35 (token.Word word.RootPrims) = h9
by_kind P h0 h1 h2 h3 h4 h5 h6 h7 h8 h9 h10 h11 h12 h13 h14 h15 h16 h17 h18 h19 h20 h21 h22 h23 h24 h25 h26 h27 h28 h29 h30 h31 h32 h33 h34 h35 (token.Word word.OrderedField) = h10
by_kind P h0 h1 h2 h3 h4 h5 h6 h7 h8 h9 h10 h11 h12 h13 h14 h15 h16 h17 h18 h19 h20 h21 h22 h23 h24 h25 h26 h27 h28 h29 h30 h31 h32 h33 h34 h35 (token.Word word.Custom) = h11
by_kind P h0 h1 h2 h3 h4 h5 h6 h7 h8 h9 h10 h11 h12 h13 h14 h15 h16 h17 h18 h19 h20 h21 h22 h23 h24 h25 h26 h27 h28 h29 h30 h31 h32 h33 h34 h35 (token.Word word.Variability) = h12
by_kind P h0 h1 h2 h3 h4 h5 h6 h7 h8 h9 h10 h11 h12 h13 h14 h15 h16 h17 h18 h19 h20 h21 h22 h23 h24 h25 h26 h27 h28 h29 h30 h31 h32 h33 h34 h35 (token.Word word.Rel) = h13
by_kind P h0 h1 h2 h3 h4 h5 h6 h7 h8 h9 h10 h11 h12 h13 h14 h15 h16 h17 h18 h19 h20 h21 h22 h23 h24 h25 h26 h27 h28 h29 h30 h31 h32 h33 h34 h35 (token.Word word.TimeSamples) = h14
by_kind P h0 h1 h2 h3 h4 h5 h6 h7 h8 h9 h10 h11 h12 h13 h14 h15 h16 h17 h18 h19 h20 h21 h22 h23 h24 h25 h26 h27 h28 h29 h30 h31 h32 h33 h34 h35 (token.Word word.Connect) = h15
by_kind P h0 h1 h2 h3 h4 h5 h6 h7 h8 h9 h10 h11 h12 h13 h14 h15 h16 h17 h18 h19 h20 h21 h22 h23 h24 h25 h26 h27 h28 h29 h30 h31 h32 h33 h34 h35 (token.Word word.Spline) = h16
by_kind P h0 h1 h2 h3 h4 h5 h6 h7 h8 h9 h10 h11 h12 h13 h14 h15 h16 h17 h18 h19 h20 h21 h22 h23 h24 h25 h26 h27 h28 h29 h30 h31 h32 h33 h34 h35 (token.Word word.NoneWord) = h17
by_kind P h0 h1 h2 h3 h4 h5 h6 h7 h8 h9 h10 h11 h12 h13 h14 h15 h16 h17 h18 h19 h20 h21 h22 h23 h24 h25 h26 h27 h28 h29 h30 h31 h32 h33 h34 h35 (token.Word word.Dictionary) = h18
by_kind P h0 h1 h2 h3 h4 h5 h6 h7 h8 h9 h10 h11 h12 h13 h14 h15 h16 h17 h18 h19 h20 h21 h22 h23 h24 h25 h26 h27 h28 h29 h30 h31 h32 h33 h34 h35 (token.Word word.Other) = h19
by_kind P h0 h1 h2 h3 h4 h5 h6 h7 h8 h9 h10 h11 h12 h13 h14 h15 h16 h17 h18 h19 h20 h21 h22 h23 h24 h25 h26 h27 h28 h29 h30 h31 h32 h33 h34 h35 token.Number = h20
by_kind P h0 h1 h2 h3 h4 h5 h6 h7 h8 h9 h10 h11 h12 h13 h14 h15 h16 h17 h18 h19 h20 h21 h22 h23 h24 h25 h26 h27 h28 h29 h30 h31 h32 h33 h34 h35 token.Quoted = h21
by_kind P h0 h1 h2 h3 h4 h5 h6 h7 h8 h9 h10 h11 h12 h13 h14 h15 h16 h17 h18 h19 h20 h21 h22 h23 h24 h25 h26 h27 h28 h29 h30 h31 h32 h33 h34 h35 token.Asset = h22
by_kind P h0 h1 h2 h3 h4 h5 h6 h7 h8 h9 h10 h11 h12 h13 h14 h15 h16 h17 h18 h19 h20 h21 h22 h23 h24 h25 h26 h27 h28 h29 h30 h31 h32 h33 h34 h35 token.Path = h23
by_kind P h0 h1 h2 h3 h4 h5 h6 h7 h8 h9 h10 h11 h12 h13 h14 h15 h16 h17 h18 h19 h20 h21 h22 h23 h24 h25 h26 h27 h28 h29 h30 h31 h32 h33 h34 h35 token.OpenParen = h24
by_kind P h0 h1 h2 h3 h4 h5 h6 h7 h8 h9 h10 h11 h12 h13 h14 h15 h16 h17 h18 h19 h20 h21 h22 h23 h24 h25 h26 h27 h28 h29 h30 h31 h32 h33 h34 h35 token.CloseParen = h25
by_kind P h0 h1 h2 h3 h4 h5 h6 h7 h8 h9 h10 h11 h12 h13 h14 h15 h16 h17 h18 h19 h20 h21 h22 h23 h24 h25 h26 h27 h28 h29 h30 h31 h32 h33 h34 h35 token.OpenBrace = h26
by_kind P h0 h1 h2 h3 h4 h5 h6 h7 h8 h9 h10 h11 h12 h13 h14 h15 h16 h17 h18 h19 h20 h21 h22 h23 h24 h25 h26 h27 h28 h29 h30 h31 h32 h33 h34 h35 token.CloseBrace = h27
by_kind P h0 h1 h2 h3 h4 h5 h6 h7 h8 h9 h10 h11 h12 h13 h14 h15 h16 h17 h18 h19 h20 h21 h22 h23 h24 h25 h26 h27 h28 h29 h30 h31 h32 h33 h34 h35 token.OpenBracket = h28
by_kind P h0 h1 h2 h3 h4 h5 h6 h7 h8 h9 h10 h11 h12 h13 h14 h15 h16 h17 h18 h19 h20 h21 h22 h23 h24 h25 h26 h27 h28 h29 h30 h31 h32 h33 h34 h35 token.CloseBracket = h29
by_kind P h0 h1 h2 h3 h4 h5 h6 h7 h8 h9 h10 h11 h12 h13 h14 h15 h16 h17 h18 h19 h20 h21 h22 h23 h24 h25 h26 h27 h28 h29 h30 h31 h32 h33 h34 h35 token.Equals = h30
by_kind P h0 h1 h2 h3 h4 h5 h6 h7 h8 h9 h10 h11 h12 h13 h14 h15 h16 h17 h18 h19 h20 h21 h22 h23 h24 h25 h26 h27 h28 h29 h30 h31 h32 h33 h34 h35 token.Comma = h31
by_kind P h0 h1 h2 h3 h4 h5 h6 h7 h8 h9 h10 h11 h12 h13 h14 h15 h16 h17 h18 h19 h20 h21 h22 h23 h24 h25 h26 h27 h28 h29 h30 h31 h32 h33 h34 h35 token.Semicolon = h32
by_kind P h0 h1 h2 h3 h4 h5 h6 h7 h8 h9 h10 h11 h12 h13 h14 h15 h16 h17 h18 h19 h20 h21 h22 h23 h24 h25 h26 h27 h28 h29 h30 h31 h32 h33 h34 h35 token.Colon = h33
by_kind P h0 h1 h2 h3 h4 h5 h6 h7 h8 h9 h10 h11 h12 h13 h14 h15 h16 h17 h18 h19 h20 h21 h22 h23 h24 h25 h26 h27 h28 h29 h30 h31 h32 h33 h34 h35 token.Dot = h34
by_kind P h0 h1 h2 h3 h4 h5 h6 h7 h8 h9 h10 h11 h12 h13 h14 h15 h16 h17 h18 h19 h20 h21 h22 h23 h24 h25 h26 h27 h28 h29 h30 h31 h32 h33 h34 h35 token.Fault = h35
