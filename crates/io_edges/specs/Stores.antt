-- What the objects in memory hold, as contracts see it.
use Rattle.std.specs.Prelude.{ℕ, List, [], ◌∷◌, Option, Some, None, if◌then◌else◌, String, string_bytes}
use Rattle.std.specs.Global.{Vec, Global}
use Rattle.std.specs.Str.{bytes_eq}
use Rattle.io_edges.specs.Plans.{Plan}

-- a name and its bytes
pub record Entry : Type 0 where
  pub name : List ℕ
  pub bytes : List ℕ

-- a file as it is kept, by its name and its bytes
abbrev pub entry_of : String Global × Vec ℕ → Entry
entry_of f = record { name = string_bytes f.0; bytes = f.1.items }

-- the bytes of this name: those of the first entry that has it
abbrev pub file_named : List Entry → List ℕ → Option (List ℕ)
file_named [] name = None
file_named (f ∷ fs) name = if bytes_eq f.name name then Some f.bytes else file_named fs name

-- files, of which some fetches fail, and the names that were asked for
pub record FailingFiles : Type 0 where
  pub files : List Entry
  pub asked : List (List ℕ)
  pub plan : Plan

-- bytes that are left, and how many of them one read moves at most
pub record Stream : Type 0 where
  pub left : List ℕ
  pub step : ℕ

-- a stream, of which some reads fail
pub record FailingStream : Type 0 where
  pub stream : Stream
  pub plan : Plan

-- bytes that were taken, and how many one write moves at most
pub record Store : Type 0 where
  pub taken : List ℕ
  pub step : ℕ

-- a store, at which some writes fail
pub record FailingStore : Type 0 where
  pub store : Store
  pub plan : Plan

-- a reader or a writer of another's, and how often it has failed
pub record Counted (T : Type 0) : Type 0 where
  pub inner : T
  pub faults : ℕ
