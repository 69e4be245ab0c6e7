use Rattle.std.proofs.Common.{◌≡◌, sym, refl, Option, Some, None, Ok}
use Rattle.sdf_values.specs.Numbers.{DecimalNumber}
use Rattle.usda_lexer.specs.Decimals.{decimal_of}
use Rattle.usda_lexer.proofs.DecimalLaw.{decimal_law}
use Rattle.usda_lexer.proofs.escapes.decimal_of.Goals as goal

pub returns-in-Ok-clause-value : goal.returns-in-Ok-clause-value
returns-in-Ok-clause-value c = sym ((decimal_law c.args.text.now c.in-Ok.decimal).1 ((c.in-Ok.ensures.read c.in-Ok.decimal).0 refl))

pub returns-in-Err-clause-value : goal.returns-in-Err-clause-value
returns-in-Err-clause-value c = none (decimal_of c.args.text.now) refl
  where
    none : (o : Option DecimalNumber) → decimal_of c.args.text.now ≡ o → None ≡ decimal_of c.args.text.now
    none None e = sym e
    none (Some d) e = absurd (let h = (c.in-Err.ensures.read d).1 ((decimal_law c.args.text.now d).0 e) in cc)

pub returns-in-Ok-clause-written : goal.returns-in-Ok-clause-written
returns-in-Ok-clause-written c d = decimal_law c.args.text.now d

pub returns-in-Err-clause-written : goal.returns-in-Err-clause-written
returns-in-Err-clause-written c d = decimal_law c.args.text.now d
