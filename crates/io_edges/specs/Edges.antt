-- What the calls on files, sources and sinks do.
use Rattle.std.specs.Prelude.{◌≡◌, ◌⊎◌, ℕ, ◌+◌, ◌<◌, ◌≤◌, List, [], ◌∷◌, ◌++◌, length, take, min, Option, Some, None}
use Rattle.std.specs.Io.{StartsWith}
use Rattle.std.specs.Io.KnownBytes.{Appends, Consumes, Keeps, IsAtEnd}
use Rattle.io_edges.specs.declared.Fetched.{Fetched}
use Rattle.io_edges.specs.declared.Fetched.TheVariants.{Found, Absent, Failed, NoMemory}
use Rattle.io_edges.specs.declared.Got.{Got}
use Rattle.io_edges.specs.declared.Got.TheVariants as got
use Rattle.io_edges.specs.declared.Put.{Put}
use Rattle.io_edges.specs.declared.Put.TheVariants as put

-- as many bytes of a file as are taken: one more than a layer may have
abbrev pub most : ℕ
most = 67108865

-- what a fetch leaves in the buffer, whatever the file has
abbrev pub FetchLeaves : Fetched → List ℕ → List ℕ → Type 0
FetchLeaves Found old new = StartsWith new old × (length new ≤ length old + most)
FetchLeaves Absent old new = new ≡ old
FetchLeaves Failed old new = StartsWith new old
FetchLeaves NoMemory old new = StartsWith new old

-- what a fetch tells of this file, or of none of that name
abbrev pub FetchTells : Fetched → Option (List ℕ) → List ℕ → List ℕ → Type 0
FetchTells Found file old new = (bytes : List ℕ) × (file ≡ Some bytes) × (new ≡ old ++ take most bytes)
FetchTells Absent file old new = file ≡ None
FetchTells Failed file old new = Unit {0}
FetchTells NoMemory file old new = Unit {0}

-- these names were asked for, behind those before; where the names are not told, nothing is said
abbrev pub Asks : Option (List (List ℕ)) → Option (List (List ℕ)) → List (List ℕ) → Type 0
Asks None after names = after ≡ None
Asks (Some before) after names = after ≡ Some (before ++ names)

-- this name was asked for, or none
abbrev pub AsksAtMost : Option (List (List ℕ)) → Option (List (List ℕ)) → List ℕ → Type 0
AsksAtMost before after name = Asks before after [] ⊎ Asks before after (name ∷ [])

-- a fetch asks for its name and for no other; a fetch that failed, or for which memory ran out, may leave the name out
abbrev pub FetchAsks : Fetched → Option (List (List ℕ)) → Option (List (List ℕ)) → List ℕ → Type 0
FetchAsks Found before after name = Asks before after (name ∷ [])
FetchAsks Absent before after name = Asks before after (name ∷ [])
FetchAsks Failed before after name = AsksAtMost before after name
FetchAsks NoMemory before after name = AsksAtMost before after name

-- what a read takes from the bytes that are left and puts at the front of the buffer
abbrev pub ReadTakes : Got → Option (List ℕ) → Option (List ℕ) → List ℕ → Type 0
ReadTakes (got.Bytes n) old new buf = (0 < n) × (n ≤ length buf) × Consumes old new (take n buf)
ReadTakes got.End old new buf = IsAtEnd old × Keeps old new
ReadTakes got.Failed old new buf = Keeps old new

-- what a write adds to the bytes taken
abbrev pub WriteTakes : Put → Option (List ℕ) → Option (List ℕ) → List ℕ → Type 0
WriteTakes (put.Took n) old new piece = (0 < n) × (n ≤ length piece) × Appends old new (take n piece)
WriteTakes put.Failed old new piece = Keeps old new
WriteTakes put.NoMemory old new piece = Keeps old new

-- a read moves as many bytes as a step, what is left and the buffer's room allow
abbrev pub ReadsStep : ℕ → List ℕ → ℕ → Got → Type 0
ReadsStep step left room (got.Bytes n) = n ≡ min (min (length left) step) room
ReadsStep step left room got.End = Unit {0}
ReadsStep step left room got.Failed = Unit {0}

-- a write takes as many bytes as a step and the piece allow
abbrev pub WritesStep : ℕ → List ℕ → Put → Type 0
WritesStep step piece (put.Took n) = n ≡ min (length piece) step
WritesStep step piece put.Failed = Unit {0}
WritesStep step piece put.NoMemory = Unit {0}

-- Whatever a reader tells of what it has left, what was added to the buffer is what it gave. Where that is less than is
-- taken of one file, it is all that the reader had.
abbrev pub GivesAll : Fetched → List ℕ → List ℕ → Option (List ℕ) → Option (List ℕ) → Type 0
GivesAll Found old new before after = (bytes : List ℕ) × (new ≡ old ++ bytes) × Consumes before after bytes × (length bytes < most → IsAtEnd after)
GivesAll Absent old new before after = Unit {0}
GivesAll Failed old new before after = Unit {0}
GivesAll NoMemory old new before after = Unit {0}
