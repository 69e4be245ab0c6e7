-- Where a key of the layer may stand no body is still to be closed, and where a key of a prim or a variant may stand, one more than prims
-- are to be named.
use Rattle.std.proofs.Common.{◌≡◌, ◌∙◌, ◌+◌, ◌<◌, ◌≤◌, Bool, true, false, not, ◌&&◌, ◌||◌, List, [], ◌∷◌, ◌++◌, Option, Some, None, ap, sym, refl, subst, arith}
use Rattle.usda_grammar.specs.Machine.{step, choose}
use Rattle.usda_grammar.specs.Table.{starts, may_be_absent}
use Rattle.usda_grammar.specs.declared.kinds.Keyword.TheVariants as word
use Rattle.usda_grammar.specs.declared.kinds.WordKind.{WordKind}
use Rattle.usda_grammar.specs.declared.kinds.WordKind.TheVariants as token
use Rattle.usda_grammar.specs.declared.symbols.Symbol.{Symbol}
use Rattle.usda_grammar.specs.declared.symbols.Symbol.TheVariants as symbol
use Rattle.trees_read.specs.Stacks.{end_of, ends, name_of, names, AreBalanced}
use Rattle.trees_read.proofs.Stacks.{balanced_whole}
use Rattle.layers_read.proofs.FitRows.{is_part, may_part, are_partless, is_fit_row, fit_rows}

-- what of prims and bodies is left behind a symbol of metadata
abbrev pub FitsHere : Symbol → List Symbol → Type 0
FitsHere symbol.MaybeHead below = ends below ≡ 0
FitsHere symbol.HeadItems below = ends below ≡ 0
FitsHere symbol.MaybePrimMetadata below = names below < ends below
FitsHere symbol.PrimMetadata below = names below < ends below
FitsHere symbol.EditedField below = names below < ends below
FitsHere s below = Unit {0}

-- the same of each of these symbols
abbrev pub Fits : List Symbol → Type 0
Fits [] = Unit {0}
Fits (s ∷ below) = FitsHere s below × Fits below

abbrev FitsAfter : Option (List Symbol) → List Symbol → Type 0
FitsAfter None below = Unit {0}
FitsAfter (Some pushed) below = Fits (pushed ++ below)

-- ---- symbols that bring no place of a key

here_partless : (s : Symbol) (below : List Symbol) → is_part s ≡ false → FitsHere s below
here_partless symbol.MaybeHead below h = absurd cc
here_partless symbol.HeadItems below h = absurd cc
here_partless symbol.MaybePrimMetadata below h = absurd cc
here_partless symbol.PrimMetadata below h = absurd cc
here_partless symbol.EditedField below h = absurd cc
here_partless s below h = tt

partless : (pushed below : List Symbol) → are_partless pushed ≡ true → Fits below → Fits (pushed ++ below)
partless [] below h fits = fits
partless (s ∷ pushed) below h fits = by (is_part s) refl h (λ g. partless pushed below g fits)
  where
    by : (c : Bool) → is_part s ≡ c → (not c && are_partless pushed) ≡ true → (are_partless pushed ≡ true → Fits (pushed ++ below)) → Fits ((s ∷ pushed) ++ below)
    by true is g more = absurd cc
    by false is g more = (here_partless s (pushed ++ below) is, more g)

others : (s : Symbol) (k : WordKind) (below : List Symbol) → may_part s ≡ false → Fits below → FitsAfter (starts s k) below
others s k below h fits = by (starts s k) refl
  where
    by : (o : Option (List Symbol)) → starts s k ≡ o → FitsAfter o below
    by None is = tt
    by (Some pushed) is = partless pushed below (ap (λ c. c || are_partless pushed) (sym h) ∙ subst (λ o. is_fit_row s o ≡ true) is (fit_rows s k)) fits

-- ---- each symbol

fits_after : (s : Symbol) (k : WordKind) (below : List Symbol) → FitsHere s below → names below ≤ ends below → Fits below → FitsAfter (starts s k) below
fits_after symbol.MaybeHead token.OpenParen below here balanced fits = (omega (arith, here), (tt, fits))
fits_after symbol.MaybeHead k below here balanced fits = tt
fits_after symbol.HeadItems (token.Word word.SubLayers) below here balanced fits = (tt, (tt, (tt, (here, fits))))
fits_after symbol.HeadItems (token.Word w) below here balanced fits = (tt, (tt, (tt, (here, fits))))
fits_after symbol.HeadItems token.Quoted below here balanced fits = (tt, (here, fits))
fits_after symbol.HeadItems k below here balanced fits = tt
fits_after symbol.MaybePrimMetadata token.OpenParen below here balanced fits = (omega (arith, here), (tt, fits))
fits_after symbol.MaybePrimMetadata k below here balanced fits = tt
fits_after symbol.PrimMetadata (token.Word word.StringField) below here balanced fits = (tt, (tt, (tt, (here, fits))))
fits_after symbol.PrimMetadata (token.Word word.PathField) below here balanced fits = (tt, (tt, (tt, (here, fits))))
fits_after symbol.PrimMetadata (token.Word word.ReferenceField) below here balanced fits = (tt, (tt, (tt, (here, fits))))
fits_after symbol.PrimMetadata (token.Word word.Edit) below here balanced fits = (omega (arith, here), (tt, (here, fits)))
fits_after symbol.PrimMetadata (token.Word word.Reorder) below here balanced fits = (omega (arith, here), (tt, (here, fits)))
fits_after symbol.PrimMetadata (token.Word word.Variants) below here balanced fits = (tt, (tt, (tt, (here, fits))))
fits_after symbol.PrimMetadata (token.Word w) below here balanced fits = (tt, (tt, (tt, (here, fits))))
fits_after symbol.PrimMetadata token.Quoted below here balanced fits = (tt, (here, fits))
fits_after symbol.PrimMetadata k below here balanced fits = tt
fits_after symbol.RootStatements (token.Word word.Specifier) below here balanced fits = (tt, (tt, (omega (arith, balanced), (tt, (tt, (tt, (tt, (tt, fits))))))))
fits_after symbol.RootStatements (token.Word word.Reorder) below here balanced fits = (tt, (tt, (tt, (tt, (tt, fits)))))
fits_after symbol.RootStatements k below here balanced fits = tt
fits_after symbol.PrimBody (token.Word word.Specifier) below here balanced fits = (tt, (tt, (omega (arith, balanced), (tt, (tt, (tt, (tt, (tt, fits))))))))
fits_after symbol.PrimBody (token.Word word.Edit) below here balanced fits = (tt, (tt, (tt, fits)))
fits_after symbol.PrimBody (token.Word word.Reorder) below here balanced fits = (tt, (tt, (tt, fits)))
fits_after symbol.PrimBody (token.Word word.VariantSet) below here balanced fits = (tt, (tt, (tt, (tt, (tt, (tt, (tt, fits)))))))
fits_after symbol.PrimBody (token.Word word.Custom) below here balanced fits = (tt, (tt, (tt, fits)))
fits_after symbol.PrimBody (token.Word word.Variability) below here balanced fits = (tt, (tt, (tt, fits)))
fits_after symbol.PrimBody (token.Word word.Rel) below here balanced fits = (tt, (tt, (tt, (tt, (tt, fits)))))
fits_after symbol.PrimBody (token.Word w) below here balanced fits = (tt, (tt, (tt, (tt, (tt, fits)))))
fits_after symbol.PrimBody k below here balanced fits = tt
fits_after symbol.VariantList token.Quoted below here balanced fits = (omega (arith, balanced), (tt, (tt, (tt, (tt, fits)))))
fits_after symbol.VariantList k below here balanced fits = tt
fits_after s k below here balanced fits = others s k below refl fits

-- ---- a step

absent_ends : (s : Symbol) → may_be_absent s ≡ true → (end_of s ≡ 0) × (name_of s ≡ 0)
absent_ends symbol.BodyEnd h = absurd cc
absent_ends symbol.PrimName h = absurd cc
absent_ends s h = (refl, refl)

pub record Fitted (stack : List Symbol) (s : Symbol) (after : List Symbol) : Type 0 where
  pub fits : Fits after
  pub below : List Symbol
  pub here : FitsHere s below
  pub ends_here : ends stack ≡ end_of s + ends below
  pub names_here : names stack ≡ name_of s + names below

pub fitted : (stack : List Symbol) (k : WordKind) (s : Symbol) (after : List Symbol) → Fits stack → AreBalanced stack → step stack k ≡ Some (s, after) → Fitted stack s after
fitted [] k s after fits balanced e = absurd cc
fitted (u ∷ stack) k s after fits balanced e = cases (starts u k) refl (may_be_absent u) refl e (λ f. fitted stack k s after fits.1 balanced.1 f)
  where
    cases : (o : Option (List Symbol)) → starts u k ≡ o → (b : Bool) → may_be_absent u ≡ b → choose u stack o b (step stack k) ≡ Some (s, after) → (step stack k ≡ Some (s, after) → Fitted stack s after) → Fitted (u ∷ stack) s after
    cases (Some a) is b absent f more =
        let same : ◌≡◌ {A = Symbol × List Symbol} (u, a ++ stack) (s, after) = cc f in
        let one : Fitted (u ∷ stack) u (a ++ stack) = record {
          fits = subst (λ o. FitsAfter o stack) is (fits_after u k stack fits.0 (balanced_whole stack balanced.1) fits.1);
          below = stack;
          here = fits.0;
          ends_here = refl;
          names_here = refl;
        } in
        subst (λ (x : Symbol × List Symbol). Fitted (u ∷ stack) x.0 x.1) same one
    cases None is true absent f more =
        let t : Fitted stack s after = more f in
        let none : (end_of u ≡ 0) × (name_of u ≡ 0) = absent_ends u absent in
        record { fits = t.fits; below = t.below; here = t.here; ends_here = omega (arith, none.0, t.ends_here); names_here = omega (arith, none.1, t.names_here) }
    cases None is false absent f more = absurd cc
