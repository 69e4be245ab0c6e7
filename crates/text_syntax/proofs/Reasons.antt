-- A word of a value or another: each has its reasons.
use Rattle.std.proofs.Common.{◌≡◌, Bool, true, false, refl, inl, inr}
use Rattle.std.specs.Prelude.{◌⊎◌}
use Rattle.usda_statements.specs.OpenValues.{is_open}
use Rattle.text_syntax.specs.Open.{begins_value, IsNoPathFrom}
use Rattle.text_syntax.specs.Elsewhere.{BreaksRule}
use Rattle.text_syntax.specs.Reasons.{RefusalsHaveReasons}
use Rattle.text_syntax.proofs.Texts.{first}
use Rattle.text_syntax.proofs.Elsewhere.{other_words}

pub reasons : RefusalsHaveReasons
reasons refused_as bytes front w rest stack d r split read is syntax = cases (is_open d.value) refl (begins_value is.symbol) refl
  where
    cases : (a : Bool) → is_open d.value ≡ a → (b : Bool) → begins_value is.symbol ≡ b → IsNoPathFrom d.owner.said.base w.token w.text ⊎ BreaksRule is.symbol w.kind w d
    cases true open' b begins = inl (first refused_as bytes front w rest stack d r split read is (inl open') syntax)
    cases false shut true begins = inl (first refused_as bytes front w rest stack d r split read is (inr begins) syntax)
    cases false shut false begins = inr (other_words is.symbol w d r shut begins is.refused syntax)
