-- A layer and a path, with which most operations begin, and the end of a line.
use Rattle.std.specs.Prelude.{ℕ, List, Option, Some}
use Rattle.edit_batches.specs.declared.op.Op.{Op}
use Rattle.sdf_paths.specs.Paths.{owner, plain}
use Rattle.sdf_paths.specs.declared.element.Element.{Element}
use Rattle.script_words.specs.Answers.{◌>>=◌}
use Rattle.script_words.specs.Words.{layer_at, path_at, ended}
use Rattle.script_lines.specs.declared.line.Line.{Line}
use Rattle.script_lines.specs.declared.line.Line.TheVariants.{Change}

-- a layer, a path, and what stands behind them
unfoldable pub target_at : List ℕ → Option (List ℕ × List Element × List ℕ)
target_at bytes = layer_at bytes >>= λ l. path_at l.1 >>= λ p. Some (l.0, p.0, p.1)

-- the plain path of the prim of a path, from which paths are taken that do not begin with `/`
abbrev pub prim_base : List Element → List Element
prim_base path = plain (owner path)

-- an operation, where nothing follows
unfoldable pub changed : Op → List ℕ → Option Line
changed op bytes = ended (Change op) bytes
