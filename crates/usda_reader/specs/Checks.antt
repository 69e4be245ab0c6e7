-- What is judged of a text's bytes before its first token: size, the first bytes of other formats, UTF-8, and the first line.
use Rattle.std.specs.Prelude.{ℕ, Bool, true, false, ◌||◌, ◌==◌, nat_lt, List, [], ◌∷◌, length, take, drop, codes, Option, Some, None, if◌then◌else◌}
use Rattle.std.specs.Str.{is_utf8, bytes_eq}
use Rattle.std.specs.Str.Lossy.{utf8_valid_len}
use Rattle.sdf_values.specs.declared.refusal.RefusalKind.TheVariants.{TooLong, Crate, Package, NotUtf8, BadHeader}
use Rattle.usda_drafts.specs.declared.fault.Refused.{Refused}
use Rattle.usda_drafts.specs.Refusals.{refused}

-- blanks up to the end of the line or of the text: spaces, tabs and carriage returns
abbrev pub is_blank_line : List ℕ → Bool
is_blank_line [] = true
is_blank_line (c ∷ cs) = if c == 10 then true else if (c == 32) || (c == 9) || (c == 13) then is_blank_line cs else false

-- the bytes begin with these
abbrev pub begins_with : List ℕ → List ℕ → Bool
begins_with word bytes = bytes_eq (take (length word) bytes) word

-- the first line is that of a text layer
abbrev pub has_header : List ℕ → Bool
has_header bytes = if begins_with (codes "#usda 1.0") bytes then is_blank_line (drop 9 bytes) else false

-- the first bytes of an archive
abbrev pub archive_mark : List ℕ
archive_mark = 80 ∷ 75 ∷ 3 ∷ 4 ∷ []

-- a text of another format, or one that is too long
unfoldable pub foreign_check : List ℕ → Option Refused
foreign_check bytes =
    if nat_lt 67108864 (length bytes) then Some (refused TooLong 0)
    else if begins_with (codes "PXR-USDC") bytes then Some (refused Crate 0)
    else if begins_with archive_mark bytes then Some (refused Package 0)
    else None

-- another first line is refused at the start of the text
unfoldable pub header_check : List ℕ → Option Refused
header_check bytes = if has_header bytes then None else Some (refused BadHeader 0)

-- bytes that are not UTF-8, at the first of the first such sequence, or another first line
unfoldable pub text_check : List ℕ → Option Refused
text_check bytes = if is_utf8 bytes then header_check bytes else Some (refused NotUtf8 (utf8_valid_len bytes))

-- the first refusal, where there is one, and else the second
abbrev pub some_or : Option Refused → Option Refused → Option Refused
some_or (Some r) other = Some r
some_or None other = other

-- the first of all these that holds, with its byte
unfoldable pub first_check : List ℕ → Option Refused
first_check bytes = some_or (foreign_check bytes) (text_check bytes)
