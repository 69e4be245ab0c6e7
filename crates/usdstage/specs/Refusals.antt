-- Why a root is refused, as the line on standard error says it.
use Rattle.std.specs.Prelude.{ℕ, List, ◌++◌, Option, Some, None, codes}
use Rattle.std.specs.Fmt.{decimal}
use Rattle.prim_view.specs.Printing.{refusal_name}
use Rattle.spec_parts.specs.declared.items.Refusal.{Refusal}

-- it is absent, or the place and the kind of its first refusal
abbrev pub refusal_text : Option Refusal → List ℕ
refusal_text None = codes ": absent"
refusal_text (Some r) = codes ":" ++ decimal r.line ++ codes ":" ++ decimal r.column ++ codes ": " ++ refusal_name r.kind
