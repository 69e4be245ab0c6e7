-- A value that is being read: the levels that are open, and what each token adds or why it is refused.
use Rattle.std.specs.Prelude.{ℕ, zero, suc, nat_le, Bool, true, false, ◌==◌, if◌then◌else◌, List, [], ◌∷◌, ◌++◌, length, Option, Some, None, Result, Ok, Err, codes}
use Rattle.std.specs.Cmp.Lexicographic.{pointwise}
use Rattle.plain_data.specs.Ends.{last, front}
use Rattle.sdf_values.specs.TypeNames.{find_element}
use Rattle.sdf_values.specs.declared.refusal.RefusalKind.{RefusalKind}
use Rattle.sdf_values.specs.declared.refusal.RefusalKind.TheVariants.{Syntax, NotUtf8, UnknownType, ValueShape, DuplicateSpec, TooDeep}
use Rattle.sdf_values.specs.declared.type_name.ElementType.{ElementType}
use Rattle.sdf_values.specs.declared.type_name.TheConstants.{ELEMENTS}
use Rattle.sdf_values.specs.declared.value.DictType.{DictType}
use Rattle.sdf_values.specs.declared.value.DictType.TheVariants as dict
use Rattle.sdf_values.specs.declared.value.Value.{Value}
use Rattle.sdf_values.specs.declared.value.Value.TheVariants as value
use Rattle.usda_lexer.specs.declared.token.Mark.TheVariants as mark
use Rattle.usda_lexer.specs.declared.token.TokenKind.{TokenKind}
use Rattle.usda_lexer.specs.declared.token.TokenKind.TheVariants as kind
use Rattle.usda_lexer.specs.Meanings.{string_text}
use Rattle.usda_values.specs.declared.shape.Shape.{Shape}
use Rattle.usda_values.specs.declared.shape.Shape.TheVariants.{Untyped}
use Rattle.usda_values.specs.declared.level.Bracket.{Bracket}
use Rattle.usda_values.specs.declared.level.Bracket.TheVariants as bracket
use Rattle.usda_values.specs.declared.level.Place.{Place}
use Rattle.usda_values.specs.declared.level.Place.TheVariants as place
use Rattle.usda_values.specs.declared.level.Level.{Level}
use Rattle.usda_values.specs.declared.draft.ValueDraft.{ValueDraft}
use Rattle.usda_values.specs.Entries.{has_key, with_entry, items_of}
use Rattle.usda_values.specs.Scalars.{Taken, token_value}
use Rattle.usda_values.specs.Shapes.{entry_shape, take_value, Members, tuple_members, array_members, takes_dictionary}

-- the draft behind a token, or the kind of its refusal
abbrev pub Acted : Type 0
Acted = Result ValueDraft RefusalKind

-- a level in which nothing stands yet
abbrev pub new_level : Bracket → Shape → Option ℕ → Level
new_level b item room = record { bracket = b; item = item; room = room; values = []; entries = []; key = []; ty = dict.Dictionary }

-- a draft of a value of which this is expected
abbrev pub draft_of : Place → Shape → ValueDraft
draft_of p shape = record { place = p; level = new_level bracket.Statement shape (Some 1); outer = [] }

-- how many members are still to come behind one more; where any number may come, it still may
abbrev pub one_fewer : Option ℕ → Option ℕ
one_fewer None = None
one_fewer (Some zero) = Some 0
one_fewer (Some (suc n)) = Some n

-- no further member may come
abbrev pub is_full : Option ℕ → Bool
is_full None = false
is_full (Some n) = n == 0

-- a further member has to come
abbrev pub is_lacking : Option ℕ → Bool
is_lacking None = false
is_lacking (Some n) = if n == 0 then false else true

-- one member more, and one fewer still to come
abbrev pub give_member : Value → Level → Level
give_member v l = record l { values = l.values ++ v ∷ []; room = one_fewer l.room }

-- the value of the open entry; entries stand in byte order of their keys
abbrev pub give_entry : Value → Level → Level
give_entry v l = record l { entries = with_entry l.key (record { key = l.key; ty = l.ty; value = v }) l.entries }

-- a level with a further member, or with the value of its open entry
abbrev pub give_to : Bracket → Value → Level → Level
give_to bracket.Dict v l = give_entry v l
give_to b v l = give_member v l

-- a value goes to a level as its next member, or as the value of its open entry
abbrev pub give : Value → Level → Level
give v l = give_to l.bracket v l

-- what may stand behind a value
abbrev pub behind_value : Bracket → Place
behind_value bracket.Statement = place.Complete
behind_value bracket.Tuple = place.BehindMember
behind_value bracket.Array = place.BehindMember
behind_value bracket.Dict = place.BehindEntry

-- the value goes to the innermost level, and what may stand behind it is awaited
abbrev pub give_act : Value → ValueDraft → ValueDraft
give_act v d = record d { place = behind_value d.level.bracket; level = give v d.level }

-- the value that is taken goes to the innermost level; a refusal stays one
abbrev pub given : Taken → ValueDraft → Acted
given (Err k) d = Err k
given (Ok v) d = Ok (give_act v d)

-- the value stands inside no other
abbrev pub is_statement : Bracket → Bool
is_statement bracket.Statement = true
is_statement b = false

-- a value of one token; one member too many is refused at it
abbrev pub put_act : Taken → ValueDraft → Acted
put_act (Err k) d = Err k
put_act (Ok v) d = if is_full d.level.room then Err ValueShape else given (take_value d.level.item (is_statement d.level.bracket) v) d

-- a level more, unless 64 are open
abbrev pub deeper : Place → Level → ValueDraft → Acted
deeper p level d = if nat_le 64 (length d.outer) then Err TooDeep else Ok (record { place = p; level = level; outer = d.outer ++ d.level ∷ [] })

-- `(` or `[`: a tuple or an array, where one may stand, no member is too many and fewer than 64 values are open
abbrev pub open_members : Bracket → Place → Members → ValueDraft → Acted
open_members b p None d = Err ValueShape
open_members b p (Some m) d = if is_full d.level.room then Err ValueShape else deeper p (new_level b m.0 m.1) d

-- `{`: a dictionary, where one may stand and fewer than 64 values are open
abbrev pub open_dict : ValueDraft → Acted
open_dict d = if is_full d.level.room then Err ValueShape else if takes_dictionary d.level.item then deeper place.EntryType (new_level bracket.Dict Untyped None) d else Err ValueShape

-- the value of a level that is closed
abbrev pub wrap_as : Bracket → Level → Value
wrap_as bracket.Statement l = value.Tuple l.values
wrap_as bracket.Tuple l = value.Tuple l.values
wrap_as bracket.Array l = value.Array l.values
wrap_as bracket.Dict l = value.Dict (items_of l.entries)

-- the value of the level that is closed is given to the level outside it
abbrev pub go_out : Option Level → ValueDraft → ValueDraft
go_out None d = record d { outer = front d.outer }
go_out (Some l) d = record { place = behind_value l.bracket; level = give (wrap_as d.level.bracket d.level) l; outer = front d.outer }

-- the mark that closes a level; a tuple with too few members is refused at it
abbrev pub close_act : ValueDraft → Acted
close_act d = if is_lacking d.level.room then Err ValueShape else Ok (go_out (last d.outer) d)

-- an entry of this type; a word that names no type is refused
abbrev pub typed_entry : Option ElementType → ValueDraft → Acted
typed_entry None d = Err UnknownType
typed_entry (Some e) d = Ok (record d { place = place.BehindType; level = record d.level { ty = dict.Plain (record { element = e; array = false }) } })

-- the type of an entry: `dictionary`, which takes no brackets, or the word of a type
abbrev pub type_act : List ℕ → ValueDraft → Acted
type_act name d =
    if pointwise ◌==◌ name (codes "dictionary") then Ok (record d { place = place.Key; level = record d.level { ty = dict.Dictionary } })
    else typed_entry (find_element ELEMENTS name) d

-- the type of an entry as one of arrays
abbrev pub array_type : DictType → DictType
array_type (dict.Plain t) = dict.Plain (record { element = t.element; array = true })
array_type dict.Dictionary = dict.Dictionary

-- the `[` behind the type of an entry
abbrev pub array_act : ValueDraft → ValueDraft
array_act d = record d { place = place.TypeEnd; level = record d.level { ty = array_type d.level.ty } }

-- the key of an entry, which no entry before it has; a string whose escapes are not UTF-8 is refused
abbrev pub key_act : Option (List ℕ) → ValueDraft → Acted
key_act None d = Err NotUtf8
key_act (Some key) d = if has_key key d.level.entries then Err DuplicateSpec else Ok (record d { place = place.Equals; level = record d.level { key = key } })

-- the `=` behind a key; a value of the type of the entry has to follow
abbrev pub equals_act : ValueDraft → ValueDraft
equals_act d = record d { place = place.Value; level = record d.level { item = entry_shape d.level.ty } }

-- the draft at another place
abbrev pub at_place : Place → ValueDraft → ValueDraft
at_place p d = record d { place = p }

-- where a value has to stand
abbrev pub act_value : TokenKind → List ℕ → ValueDraft → Acted
act_value (kind.Mark mark.OpenParen) text d = open_members bracket.Tuple place.Value (tuple_members d.level.item) d
act_value (kind.Mark mark.OpenBracket) text d = open_members bracket.Array place.ValueOrEnd (array_members d.level.item) d
act_value (kind.Mark mark.OpenBrace) text d = open_dict d
act_value k text d = put_act (token_value k text) d

-- the mark that closes a level
abbrev pub closes : Bracket → TokenKind → Bool
closes bracket.Tuple (kind.Mark mark.CloseParen) = true
closes bracket.Array (kind.Mark mark.CloseBracket) = true
closes bracket.Dict (kind.Mark mark.CloseBrace) = true
closes b k = false

-- behind a comma, or behind `[`: a value, or the mark that closes the level
abbrev pub act_value_or_end : TokenKind → List ℕ → ValueDraft → Acted
act_value_or_end k text d = if closes d.level.bracket k then close_act d else act_value k text d

-- behind a member: a comma, or the mark that closes the level
abbrev pub act_behind_member : TokenKind → ValueDraft → Acted
act_behind_member (kind.Mark mark.Comma) d = Ok (at_place place.ValueOrEnd d)
act_behind_member k d = if closes d.level.bracket k then close_act d else Err Syntax

-- where an entry may begin: its type, or the end of the dictionary
abbrev pub act_entry : TokenKind → List ℕ → ValueDraft → Acted
act_entry (kind.Mark mark.CloseBrace) text d = close_act d
act_entry kind.Name text d = type_act text d
act_entry k text d = Err Syntax

-- the key of an entry is a name or a string
abbrev pub act_key : TokenKind → List ℕ → ValueDraft → Acted
act_key kind.Name text d = key_act (Some text) d
act_key kind.String text d = key_act (string_text text) d
act_key k text d = Err Syntax

-- behind the type of an entry: brackets, or the key
abbrev pub act_behind_type : TokenKind → List ℕ → ValueDraft → Acted
act_behind_type (kind.Mark mark.OpenBracket) text d = Ok (array_act d)
act_behind_type k text d = act_key k text d

-- behind the `[` of a type: its `]`
abbrev pub act_type_end : TokenKind → ValueDraft → Acted
act_type_end (kind.Mark mark.CloseBracket) d = Ok (at_place place.Key d)
act_type_end k d = Err Syntax

-- behind a key: the `=`
abbrev pub act_equals : TokenKind → ValueDraft → Acted
act_equals (kind.Mark mark.Equals) d = Ok (equals_act d)
act_equals k d = Err Syntax

-- behind an entry: one `,` or `;`, another entry, or the end of the dictionary
abbrev pub act_behind_entry : TokenKind → List ℕ → ValueDraft → Acted
act_behind_entry (kind.Mark mark.Comma) text d = Ok (at_place place.EntryType d)
act_behind_entry (kind.Mark mark.Semicolon) text d = Ok (at_place place.EntryType d)
act_behind_entry k text d = act_entry k text d

-- where no other value than a dictionary may stand
abbrev pub act_dictionary : TokenKind → ValueDraft → Acted
act_dictionary (kind.Mark mark.OpenBrace) d = open_dict d
act_dictionary k d = Err Syntax

-- what a token makes of a draft, by the place that was reached
abbrev pub act_at : Place → TokenKind → List ℕ → ValueDraft → Acted
act_at place.Value k text d = act_value k text d
act_at place.ValueOrEnd k text d = act_value_or_end k text d
act_at place.BehindMember k text d = act_behind_member k d
act_at place.EntryType k text d = act_entry k text d
act_at place.BehindType k text d = act_behind_type k text d
act_at place.TypeEnd k text d = act_type_end k d
act_at place.Key k text d = act_key k text d
act_at place.Equals k text d = act_equals k d
act_at place.BehindEntry k text d = act_behind_entry k text d
act_at place.Dictionary k text d = act_dictionary k d
act_at place.Complete k text d = Err Syntax

-- what a token makes of a draft, or the kind of its refusal
unfoldable pub value_act : TokenKind → List ℕ → ValueDraft → Acted
value_act k text d = act_at d.place k text d

-- a value may stand there, and so may a number
abbrev pub awaits_value : Place → Bool
awaits_value place.Value = true
awaits_value place.ValueOrEnd = true
awaits_value p = false

-- nothing of the value is still to come
abbrev pub is_complete_at : Place → Bool
is_complete_at place.Complete = true
is_complete_at p = false

-- the value is read to its end
abbrev pub is_complete : ValueDraft → Bool
is_complete d = is_complete_at d.place

-- the last value of the innermost level; the block where it has none
abbrev pub value_of_last : Option Value → Value
value_of_last (Some v) = v
value_of_last None = value.Block

-- the value that a complete draft has read
abbrev pub value_of : ValueDraft → Value
value_of d = value_of_last (last d.level.values)
