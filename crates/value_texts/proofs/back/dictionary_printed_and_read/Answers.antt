use Rattle.std.proofs.Common.{rules, ◌≡◌, ◌∙◌, ℕ, List, true, false, ap}
use Rattle.std.specs.Str.{is_utf8}
use Rattle.std.proofs.lemmas.Str.{is_utf8-from_IsUtf8}
use Rattle.sdf_values.specs.Print.{print}
use Rattle.value_texts.proofs.ValueReads.{reading_dict_back}
use Rattle.value_texts.proofs.back.dictionary_printed_and_read.Goals as goal

pub returns-in-Ok : goal.returns-in-Ok
returns-in-Ok c =
    let text : c.as_bytes.result.now ≡ print c.args.value.now 0 = search rules in
    let lexer : c.in-Ok.tokens ≡ record { source = print c.args.value.now 0; at = 0 } = (c.in-Ok.ensures {u = tt}).1 ∙ ap (λ (t : List ℕ). record { source = t; at = 0 }) text in
    reading_dict_back c.read_dict.result c.args.value.now c.in-Ok.tokens c.read_dict.new.tokens c.requires.writable c.requires.readable c.requires.levels lexer c.read_dict.ensures.answer

pub returns : goal.returns
returns c =
    let bad : is_utf8 c.as_bytes.result.now ≡ false = (c.in-Err.ensures {u = tt}).0 in
    let good : is_utf8 c.as_bytes.result.now ≡ true = is_utf8-from_IsUtf8 c.as_bytes.result.now c.as_bytes.ensures.utf8 in
    cc
