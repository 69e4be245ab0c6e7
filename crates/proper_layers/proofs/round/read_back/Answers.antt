use Rattle.std.proofs.Common.{rules, ◌≡◌, sym, subst}
use Rattle.usda_reader.specs.Texts.{IsText}
use Rattle.usda_writer.specs.Canonical.{canonical}
use Rattle.proper_layers.proofs.Returns.{read_or_no_memory, proper_layers_return}
use Rattle.proper_layers.proofs.round.read_back.Goals as goal

-- src/round.rt:21:1
pub returns-clause-returned : goal.returns-clause-returned
returns-clause-returned c = λ proper.
    let written : c.as_slice.result.now ≡ canonical c.args.layer.now = search rules in
    let said : IsText c.as_slice.result.now c.args.layer.now = subst (λ t. IsText t c.args.layer.now) (sym written) (proper_layers_return c.args.layer.now proper) in
    read_or_no_memory c.read_layer.result c.args.layer.now (c.read_layer.ensures.only c.args.layer.now said)
