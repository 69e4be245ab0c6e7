-- The printed text of a path is a path from the root down.
use Rattle.std.proofs.Common.{◌≡◌, ◌∙◌, ℕ, ◌&&◌, true, List, [], Some, ap, sym, refl}
use Rattle.std.specs.Cmp.Lexicographic.{bytes_decides}
use Rattle.sdf_paths.specs.Paths.{printed}
use Rattle.usda_lexer.specs.Blanks.{begins}
use Rattle.sdf_paths.specs.Reader.{path_of}
use Rattle.usda_lists.specs.Paths.{path_from}
use Rattle.path_returns.proofs.Returns.{paths_return, begins_at_root}
use Rattle.value_texts.proofs.AssetTokens.{path_means}
use Rattle.value_returns.specs.FullPaths.{is_print_of}
use Rattle.value_returns.specs.Laws.{PrintsAreFull}
use Rattle.value_returns.proofs.Fixed.{from_root}

pub prints_full : PrintsAreFull
prints_full path is =
    let text : List ℕ = printed path in
    let root : begins 47 text ≡ true = begins_at_root path is.well_formed.ordered in
    let read : path_of text ≡ Some path = sym (from_root [] text root) ∙ sym (ap (path_from []) (path_means text)) ∙ paths_return [] path is in
    ap (λ b. b && is_print_of (path_of text) text) root ∙ ap (λ o. is_print_of o text) read ∙ (bytes_decides text text).1 refl
