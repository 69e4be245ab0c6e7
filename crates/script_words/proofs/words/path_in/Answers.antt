use Rattle.std.proofs.Common.{◌≡◌, ◌∙◌, ap, sym, refl, true, false}
use Rattle.std.specs.Str.{is_utf8}
use Rattle.std.proofs.lemmas.Str.{is_utf8-from_IsUtf8}
use Rattle.usda_lists.specs.Paths.{path_of}
use Rattle.script_words.specs.Words.{path_in}
use Rattle.script_words.proofs.Utf8.{no_text}
use Rattle.script_words.proofs.words.path_in.Goals as goal

pub returns-in-Some : goal.returns-in-Some
unfolding path_in
returns-in-Some c =
    let e : is_utf8 c.args.run.now ≡ true = is_utf8-from_IsUtf8 c.args.run.now c.in-Ok.ensures.cases.1 in
    rw e (ap path_of (sym c.in-Ok.ensures.cases.0) ∙ sym c.in_ok-path-in-Ok.ensures.path ∙ c.in-Some.is)

pub returns-in-Err : goal.returns-in-Err
unfolding path_in
returns-in-Err c = let e : is_utf8 c.args.run.now ≡ false = no_text c.args.run.now c.in-Err.ensures.cases.0 in rw e refl
