-- The edit that changes nothing.
use Rattle.std.specs.Prelude.{[], None}
use Rattle.list_ops.specs.declared.op.ListOp.{ListOp}

-- no explicit list, not even an empty one, and no edit with items
abbrev pub no_edits : {T : Type 0} → ListOp T
no_edits = record { explicit = None; deleted = []; added = []; prepended = []; appended = []; ordered = [] }
