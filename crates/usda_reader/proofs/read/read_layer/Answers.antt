use Rattle.usda_reader.proofs.Exact.{reads, is_read, is_refused}
use Rattle.usda_reader.proofs.read.read_layer.Goals as goal

pub returns : goal.returns
returns c = record {
  found = reads c.args.bytes.now c.read.result c.read.ensures.answer;
  only = λ layer text. is_read c.args.bytes.now c.read.result layer c.read.ensures.answer text;
  exact = λ refusal first. is_refused c.args.bytes.now c.read.result refusal c.read.ensures.answer first;
  checked = c.read.ensures.checked;
}
