-- A text is a path where there is a path that it is read as.
use Rattle.std.proofs.Common.{◌≡◌, ℕ, nat_le, Bool, true, false, ◌&&◌, List, length, Option, Some, None, refl}
use Rattle.std.specs.Prelude.{if◌then◌else◌}
use Rattle.std.specs.Option.{is_some}
use Rattle.std.specs.Str.{chars}
use Rattle.sdf_paths.specs.Reader.{after, finished, path_of}
use Rattle.sdf_paths.specs.declared.reader.Reader.{Reader}
use Rattle.usda_values.specs.PathTexts.{is_path, finishes}

finishes_some : (r : Option Reader) → is_some (finished r) ≡ finishes r
finishes_some None = refl
finishes_some (Some r) = refl

pub is_path_some : (text : List ℕ) → is_some (path_of text) ≡ is_path text
unfolding is_path path_of
is_path_some text = test (nat_le (length text) 4096)
  where
    test : (b : Bool) → is_some (if b then finished (after (chars text)) else None) ≡ (b && finishes (after (chars text)))
    test true = finishes_some (after (chars text))
    test false = refl
