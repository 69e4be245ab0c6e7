-- Lines that give and take values of attributes.
use Rattle.std.specs.Prelude.{ℕ, List, Option, Some}
use Rattle.edit_batches.specs.declared.op.Op.TheVariants as op
use Rattle.script_words.specs.Answers.{◌>>=◌}
use Rattle.script_words.specs.Values.{value_in}
use Rattle.script_words.specs.Words.{number_at}
use Rattle.script_lines.specs.Places.{target_at, prim_base, changed}
use Rattle.script_lines.specs.declared.line.Line.{Line}
use Rattle.script_lines.specs.declared.line.Line.TheVariants.{Change}

-- `set`: a layer, a path and a value
unfoldable pub set_line : List ℕ → Option Line
set_line bytes = target_at bytes >>= λ t. value_in (prim_base t.1) t.2 >>= λ value. Some (Change (op.SetDefault t.0 t.1 value))

-- `clear`: a layer and a path
unfoldable pub clear_line : List ℕ → Option Line
clear_line bytes = target_at bytes >>= λ t. changed (op.ClearDefault t.0 t.1) t.2

-- `sample`: a layer, a path, a time and a value
unfoldable pub sample_line : List ℕ → Option Line
sample_line bytes =
    target_at bytes >>= λ t. number_at t.2 >>= λ time. value_in (prim_base t.1) time.1 >>= λ value.
    Some (Change (op.SetSample t.0 t.1 time.0 value))

-- `unsample`: a layer, a path and a time
unfoldable pub unsample_line : List ℕ → Option Line
unsample_line bytes = target_at bytes >>= λ t. number_at t.2 >>= λ time. changed (op.ClearSample t.0 t.1 time.0) time.1
