-- A path that is printed is read as itself.
use Rattle.std.proofs.Common.{◌≡◌, ◌∙◌, ℕ, ◌≤◌, nat_le, ◌&&◌, Bool, true, false, List, [], ◌∷◌, length, Option, Some, None, ap, sym, refl, arith}
use Rattle.std.specs.Prelude.{if◌then◌else◌}
use Rattle.std.specs.Option.{is_some, option_map}
use Rattle.std.specs.Str.{chars}
use Rattle.std.proofs.lemmas.Bool.Decides.{nat_tests}
use Rattle.std.proofs.lemmas.Str.{encodes-chars, encodes_same}
use Rattle.sdf_paths.specs.Paths.{IsPath, is_ordered, is_plain, plain, printed}
use Rattle.sdf_paths.specs.Reader.{after, after_all, start, finish}
use Rattle.sdf_paths.specs.declared.element.Element.{Element}
use Rattle.sdf_paths.specs.declared.element.Element.TheVariants.{Prim, Property, Selection}
use Rattle.sdf_paths.specs.declared.reader.Reader.{Reader}
use Rattle.sdf_paths.proofs.Complete.{reads, RunsOver}
use Rattle.sdf_paths.proofs.ParseExact.{read_printed}
use Rattle.usda_lexer.specs.Blanks.{begins}
use Rattle.sdf_paths.specs.Reader.{path_of, finished}
use Rattle.usda_lists.specs.Paths.{path_below, path_from, absolute_token}
use Rattle.usda_values.specs.PathTexts.{finishes, is_path, behind_ups, is_path_below, is_path_text}
use Rattle.value_texts.proofs.AssetTokens.{path_means}
use Rattle.path_returns.specs.Returns.{ArePathTexts, AreTextsRead, PathsReturn, TargetsReturn, ValuePathsReturn}
use Rattle.path_returns.proofs.Utf8.{path_utf8}

-- what is read of the characters of a printed path
record IsReadBack (path : List Element) : Type 0 where
  pub last : Reader
  pub ran : after (chars (printed path)) ≡ Some last
  pub finishes : finish last ≡ Some path
  pub short : nat_le (length (printed path)) 4096 ≡ true

read_back : (path : List Element) → IsPath path → IsReadBack path
read_back path h =
    let text : List ℕ = printed path in
    let read = read_printed path h in
    let run : RunsOver start text path = reads path text read.well_formed read.spelled in
    let same : run.cs ≡ chars text = encodes_same run.cs (chars text) (run.bytes ∙ sym (encodes-chars text (path_utf8 path h))) in
    record {
      last = run.last;
      ran = ap (λ cs. after_all cs (Some start)) (sym same) ∙ run.ran;
      finishes = run.finishes;
      short = (let s : length text ≤ 4096 = read.short in grind (arith, nat_tests));
    }

-- the text means the path
pub texts_read : AreTextsRead
unfolding path_of
texts_read path h =
    let back = read_back path h in
    ap (λ b. if b then finished (after (chars (printed path))) else None) back.short ∙ ap finished back.ran ∙ back.finishes

printed_is_path : (path : List Element) → IsPath path → is_path (printed path) ≡ true
unfolding is_path
printed_is_path path h =
    let back = read_back path h in
    ap (λ b. b && finishes (after (chars (printed path)))) back.short ∙ ap finishes back.ran ∙ ap is_some back.finishes

-- it begins at the root
pub begins_at_root : (path : List Element) → is_ordered false path ≡ true → begins 47 (printed path) ≡ true
begins_at_root [] h = refl
begins_at_root (Prim name ∷ rest) h = refl
begins_at_root (Selection set variant ∷ rest) h = absurd cc
begins_at_root (Property name ∷ rest) h = absurd cc

from_anywhere : (base path : List Element) → IsPath path → path_from base (printed path) ≡ Some path
unfolding path_from
from_anywhere base path h =
    ap (λ b. elim b as (λ _. Option (List Element)) [ true ↦ path_of (printed path) | false ↦ path_below 0 (Some base) (printed path) ]) (begins_at_root path h.well_formed.ordered)
    ∙ texts_read path h

pub path_texts : ArePathTexts
unfolding is_path_text
path_texts path h =
    ap (λ b. elim b as (λ _. Bool) [ true ↦ is_path (printed path) | false ↦ is_path_below (behind_ups 0 (printed path)) ]) (begins_at_root path h.well_formed.ordered)
    ∙ printed_is_path path h

pub paths_return : PathsReturn
paths_return base path h = ap (path_from base) (path_means (printed path)) ∙ from_anywhere base path h

-- nothing is dropped of a path without selections
plain_same : (path : List Element) → is_plain path ≡ true → plain path ≡ path
plain_same [] h = refl
plain_same (Prim name ∷ rest) h = ap (λ es. Prim name ∷ es) (plain_same rest h)
plain_same (Property name ∷ rest) h = ap (λ es. Property name ∷ es) (plain_same rest h)
plain_same (Selection set variant ∷ rest) h = absurd cc

pub targets_return : TargetsReturn
targets_return base path h simple = ap (option_map plain) (paths_return base path h) ∙ ap Some (plain_same path simple)

pub value_paths_return : ValuePathsReturn
value_paths_return base path h = ap (option_map absolute_token) (paths_return base path h)
