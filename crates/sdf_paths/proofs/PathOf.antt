-- The path of a text is the one that the reader of paths reads.
use Rattle.std.proofs.Common.{◌≡◌, ◌∙◌, ℕ, ◌≤◌, nat_le, Bool, true, false, List, length, Option, Some, None, ap, sym, refl, arith, if◌then◌else◌, ◌↔◌}
use Rattle.std.specs.Str.{chars, IsUtf8}
use Rattle.std.proofs.lemmas.Bool.Decides.{nat_tests}
use Rattle.std.proofs.lemmas.Str.{encodes-chars, encodes_same}
use Rattle.sdf_paths.specs.Paths.{IsReadAs}
use Rattle.sdf_paths.specs.Reader.{after, after_all, start, finish, finished, path_of, RunsTo}
use Rattle.sdf_paths.specs.declared.element.Element.{Element}
use Rattle.sdf_paths.specs.declared.reader.Reader.{Reader}
use Rattle.sdf_paths.proofs.Complete.{reads, RunsOver}
use Rattle.sdf_paths.proofs.ParseExact.{is_read}

-- a run that ends in a path has read it
pub done : (r : Option Reader) (last : Reader) (path : List Element) → r ≡ Some last → finish last ≡ Some path → finished r ≡ Some path
done r last path e f = ap finished e ∙ f

-- a text that is read as a path means it
pub path_is : (text : List ℕ) (path : List Element) → IsUtf8 text → IsReadAs text path → path_of text ≡ Some path
unfolding path_of
path_is text path utf8 read =
    let run : RunsOver start text path = reads path text read.well_formed read.spelled in
    let same : run.cs ≡ chars text = encodes_same run.cs (chars text) (run.bytes ∙ sym (encodes-chars text utf8)) in
    let ran : after (chars text) ≡ Some run.last = ap (λ cs. after_all cs (Some start)) (sym same) ∙ run.ran in
    let short : nat_le (length text) 4096 ≡ true = (let s : length text ≤ 4096 = read.short in grind (arith, nat_tests)) in
    ap (λ b. if b then finished (after (chars text)) else None) short ∙ done (after (chars text)) run.last path ran run.finishes

-- the reader that has read the text runs to the path
pub ran_to : (text : List ℕ) (r : Option Reader) (path : List Element) → after (chars text) ≡ r → length text ≤ 4096 → finished r ≡ Some path → RunsTo text path
ran_to text None path e short h = absurd cc
ran_to text (Some last) path e short h = record { last = last; ran = e; done = h; short = short }

-- a text that is read as no path means none
pub no_path : (text : List ℕ) → IsUtf8 text → ((path : List Element) → IsReadAs text path → ⊥) → path_of text ≡ None
unfolding path_of
no_path text utf8 bad = test (nat_le (length text) 4096) refl
  where
    found : (o : Option (List Element)) → finished (after (chars text)) ≡ o → length text ≤ 4096 → finished (after (chars text)) ≡ None
    found None e short = e
    found (Some path) e short = absurd (bad path (is_read text path utf8 (ran_to text (after (chars text)) path refl short e)))

    test : (b : Bool) → nat_le (length text) 4096 ≡ b → path_of text ≡ None
    test false e = ap (λ b. if b then finished (after (chars text)) else None) e
    test true e =
        let short : length text ≤ 4096 = grind (arith, nat_tests) in
        ap (λ b. if b then finished (after (chars text)) else None) e ∙ found (finished (after (chars text))) refl short

-- a text means a path where it is read as that path, and nowhere else
pub path_means : (text : List ℕ) (path : List Element) → IsUtf8 text → (path_of text ≡ Some path) ↔ IsReadAs text path
unfolding path_of
path_means text path utf8 = (λ h. test (nat_le (length text) 4096) refl h, path_is text path utf8)
  where
    test : (b : Bool) → nat_le (length text) 4096 ≡ b → path_of text ≡ Some path → IsReadAs text path
    test false e h = absurd (let no : None ≡ Some path = sym (ap (λ b. if b then finished (after (chars text)) else None) e) ∙ h in cc)
    test true e h =
        let short : length text ≤ 4096 = grind (arith, nat_tests) in
        let is : finished (after (chars text)) ≡ Some path = sym (ap (λ b. if b then finished (after (chars text)) else None) e) ∙ h in
        is_read text path utf8 (ran_to text (after (chars text)) path refl short is)
