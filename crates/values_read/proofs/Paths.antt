-- A path that is put behind that of its owner goes from the root down.
use Rattle.std.proofs.Common.{◌≡◌, ◌∙◌, ◌&&◌, true, List, Option, Some, None, ap, refl, subst}
use Rattle.std.specs.Option.{option_map}
use Rattle.std.specs.Str.{is_utf8}
use Rattle.std.proofs.lemmas.Str.{IsUtf8-from_is_utf8}
use Rattle.std.proofs.lemmas.Bool.{and_from}
use Rattle.sdf_paths.specs.Paths.{IsPath, printed}
use Rattle.sdf_paths.specs.declared.element.Element.{Element}
use Rattle.usda_lexer.specs.declared.token.TokenKind.TheVariants as kind
use Rattle.usda_lists.specs.Paths.{path_from, absolute_token}
use Rattle.path_returns.proofs.Utf8.{path_is_utf8}
use Rattle.path_returns.proofs.Meant.{path_means_one}
use Rattle.value_returns.specs.FullPaths.{is_full_path}
use Rattle.value_returns.proofs.Printed.{prints_full}
use Rattle.values_read.specs.Laws.{ReadPathsAreSound}
use Rattle.values_read.specs.Tokens.{is_sound_token}
use Rattle.values_read.proofs.Quoted.{path_off}

absolute_sound : (path : List Element) → IsPath path → is_sound_token kind.Path (absolute_token path) ≡ true
absolute_sound path is = ap (λ t. is_utf8 t && is_full_path t) (path_off (printed path)) ∙ and_from (is_utf8 (printed path)) (is_full_path (printed path)) (path_is_utf8 path is) (prints_full path is)

pub paths_sound : ReadPathsAreSound
paths_sound base text token is u h = cases (path_from base text) refl h
  where
    cases : (o : Option (List Element)) → path_from base text ≡ o → option_map absolute_token o ≡ Some token → is_sound_token kind.Path token ≡ true
    cases None e g = absurd cc
    cases (Some path) e g =
        let same : absolute_token path ≡ token = cc g in
        subst (λ t. is_sound_token kind.Path t ≡ true) same (absolute_sound path (path_means_one base text path is (IsUtf8-from_is_utf8 text u) e))
