-- Targets and connections are paths without selections.
use Rattle.std.proofs.Common.{◌≡◌, ◌∙◌, not, ◌&&◌, Bool, true, false, cond, List, [], ◌∷◌, Option, Some, None, ap, refl, subst}
use Rattle.std.specs.Option.{option_map}
use Rattle.std.proofs.lemmas.Str.{IsUtf8-from_is_utf8}
use Rattle.sdf_paths.specs.Paths.{is_selection, plain, is_plain}
use Rattle.sdf_paths.specs.declared.element.Element.{Element}
use Rattle.sdf_paths.proofs.Shapes.{plain_path}
use Rattle.usda_lists.specs.Paths.{path_from}
use Rattle.path_returns.proofs.Meant.{path_means_one}
use Rattle.value_returns.specs.Proper.{IsProperTarget}
use Rattle.properties_read.specs.Laws.{TargetsAreProper}

plain_is_plain : (path : List Element) → is_plain (plain path) ≡ true
plain_is_plain [] = refl
plain_is_plain (e ∷ path) = by (not (is_selection e)) refl (plain_is_plain path)
  where
    by : (b : Bool) → not (is_selection e) ≡ b → is_plain (plain path) ≡ true → is_plain (cond b (e ∷ plain path) (plain path)) ≡ true
    by true h rest = ap (λ (c : Bool). c && is_plain (plain path)) h ∙ rest
    by false h rest = rest

pub targets_proper : TargetsAreProper
targets_proper base text path is u h = cases (path_from base text) refl h
  where
    cases : (o : Option (List Element)) → path_from base text ≡ o → option_map plain o ≡ Some path → IsProperTarget path
    cases None e g = absurd cc
    cases (Some whole) e g =
        let same : plain whole ≡ path = cc g in
        subst IsProperTarget same (record { formed = plain_path whole (path_means_one base text whole is (IsUtf8-from_is_utf8 text u) e); plain = plain_is_plain whole })
