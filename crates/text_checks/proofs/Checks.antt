-- The checks before the first word.
use Rattle.std.proofs.Common.{◌≡◌, ◌∙◌, ℕ, ◌≤◌, nat_lt, true, false, List, [], ◌++◌, length, None, ap, refl, subst, arith}
use Rattle.std.specs.Str.{is_utf8}
use Rattle.std.proofs.lemmas.Bool.Decides.{nat_tests}
use Rattle.std.proofs.lemmas.Str.{is_utf8-from_IsUtf8}
use Rattle.sdf_specs.specs.Layers.{LayerTable}
use Rattle.usda_reader.specs.Checks.{foreign_check, header_check, text_check, some_or, first_check}
use Rattle.usda_reader.proofs.FirstBytes.{text_is_utf8}
use Rattle.usda_writer.specs.Canonical.{head_lines, head_block, root_order_text, children_text, body_text, first_line, canonical}
use Rattle.layer_texts.proofs.FirstLine.{text as begun}
use Rattle.text_checks.specs.Laws.{AreTextsUtf8, DoUtf8TextsPass, DoTextsPass}
use Rattle.text_checks.proofs.Layers.{layer_valid}

pub texts_are_utf8 : AreTextsUtf8
texts_are_utf8 layer h u = is_utf8-from_IsUtf8 (canonical layer) (layer_valid layer h u).utf8

canonical_begun : (layer : LayerTable) → (rest : List ℕ) × (canonical layer ≡ begun rest)
unfolding canonical first_line
canonical_begun layer =
    let head = head_block (head_lines layer.head) in
    let order = root_order_text layer.head.root_order in
    let children = children_text layer.specs (body_text layer.specs (length layer.specs)) 0 [] layer.head.root_names in
    (head ++ order ++ children, refl)

foreign_passed : (rest : List ℕ) → length (begun rest) ≤ 67108864 → foreign_check (begun rest) ≡ None
unfolding foreign_check
foreign_passed rest h = let short : nat_lt 67108864 (length (begun rest)) ≡ false = grind (arith, nat_tests) in rw short refl

header_passed : (rest : List ℕ) → header_check (begun rest) ≡ None
unfolding header_check
header_passed rest = refl

passed : (text rest : List ℕ) → text ≡ begun rest → length text ≤ 67108864 → is_utf8 text ≡ true → first_check text ≡ None
unfolding first_check
passed text rest is short utf8 =
    let foreign : foreign_check text ≡ None = ap foreign_check is ∙ foreign_passed rest (subst (λ t. length t ≤ 67108864) is short) in
    ap (λ o. some_or o (text_check text)) foreign ∙ text_is_utf8 text utf8 ∙ ap header_check is ∙ header_passed rest

pub utf8_texts_pass : DoUtf8TextsPass
utf8_texts_pass layer utf8 short = let b = canonical_begun layer in passed (canonical layer) b.0 b.1 short utf8

pub texts_pass : DoTextsPass
texts_pass layer h u short = utf8_texts_pass layer (texts_are_utf8 layer h u) short
