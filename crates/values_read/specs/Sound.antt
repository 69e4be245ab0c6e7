-- Drafts of values whose parts are proper: what is read of them so far can be written, and is read again as itself.
use Rattle.std.specs.Prelude.{◌≡◌, ℕ, suc, ◌+◌, ◌<◌, ◌≤◌, Bool, true, false, List, [], ◌∷◌, ◌++◌, length, Option, Some, None}
use Rattle.std.specs.Str.{is_utf8}
use Rattle.sdf_values.specs.Proper.{are_keys_in_order}
use Rattle.sdf_values.specs.declared.value.DictItem.{DictItem}
use Rattle.sdf_values.specs.declared.value.Value.{Value}
use Rattle.usda_values.specs.Drafts.{is_full}
use Rattle.usda_values.specs.Entries.{Table, has_key}
use Rattle.usda_values.specs.Shapes.{entry_shape, tuple_members, array_members, takes_dictionary}
use Rattle.usda_values.specs.declared.draft.ValueDraft.{ValueDraft}
use Rattle.usda_values.specs.declared.level.Bracket.{Bracket}
use Rattle.usda_values.specs.declared.level.Bracket.TheVariants as bracket
use Rattle.usda_values.specs.declared.level.Level.{Level}
use Rattle.usda_values.specs.declared.level.Place.{Place}
use Rattle.usda_values.specs.declared.level.Place.TheVariants as place
use Rattle.usda_values.specs.declared.shape.Shape.{Shape}
use Rattle.usda_values.specs.declared.shape.Shape.TheVariants.{Untyped, Metadata, Typed, Dictionary}
use Rattle.value_texts.specs.Readable.{is_read_as, depth}
use Rattle.value_texts.specs.Writable.{is_writable}
use Rattle.text_checks.specs.Utf8.{is_utf8_value}
use Rattle.value_returns.specs.FullPaths.{has_full_paths}

-- ---- values

-- Whether the value is read as itself where this is expected, directly behind the `=` of a statement or not. Where nothing is
-- expected it may be read as another of the same meaning, as `1e3`, which is printed as `1000`: that is not asked.
abbrev pub is_kept_as : Value → Shape → Bool → Bool
is_kept_as v Untyped s = true
is_kept_as v Metadata s = is_read_as v Metadata s
is_kept_as v (Typed t) s = is_read_as v (Typed t) s
is_kept_as v Dictionary s = is_read_as v Dictionary s

-- A value round which n tuples, arrays and dictionaries are open: it can be written, it is read as itself where this is expected, its
-- assets and paths are UTF-8, its paths are from the root down, and no more than 64 are open inside each other in it.
pub record IsSound (n : ℕ) (shape : Shape) (s : Bool) (v : Value) : Type 0 where
  pub kept : is_kept_as v shape s ≡ true
  pub writable : is_writable v ≡ true
  pub utf8 : is_utf8_value v ≡ true
  pub full : has_full_paths v ≡ true
  pub deep : depth v + n ≤ 64

-- each member is
abbrev pub AreSound : ℕ → Shape → List Value → Type 0
AreSound n shape [] = Unit {0}
AreSound n shape (v ∷ vs) = IsSound n shape false v × AreSound n shape vs

-- an entry at its key, which is UTF-8, and whose value is sound as one of its type
pub record IsSoundEntry (n : ℕ) (e : List ℕ × DictItem) : Type 0 where
  pub key : e.1.key ≡ e.0
  pub utf8 : is_utf8 e.0 ≡ true
  pub value : IsSound n (entry_shape e.1.ty) false e.1.value

-- each entry is
abbrev pub AreSoundEntries : ℕ → Table → Type 0
AreSoundEntries n [] = Unit {0}
AreSoundEntries n (e ∷ es) = IsSoundEntry n e × AreSoundEntries n es

-- the keys of the entries
abbrev pub keys_in : Table → List (List ℕ)
keys_in [] = []
keys_in (e ∷ es) = e.0 ∷ keys_in es

-- ---- levels

-- so many members of a tuple are there, and as many as are missing may still come; any number where none is said
abbrev pub AreCounted : Option ℕ → ℕ → Option ℕ → Type 0
AreCounted None count room = room ≡ None
AreCounted (Some all) count room = (left : ℕ) × (room ≡ Some left) × (count + left ≡ all)

-- a tuple of the members that this expects
pub record IsTuple (n : ℕ) (expected : Shape) (l : Level) : Type 0 where
  pub all : Option ℕ
  pub members : tuple_members expected ≡ Some (l.item, all)
  pub counted : AreCounted all (length l.values) l.room
  pub each : AreSound n l.item l.values

-- an array of the members that this expects
pub record IsArray (n : ℕ) (expected : Shape) (l : Level) : Type 0 where
  pub members : array_members expected ≡ Some (l.item, None)
  pub room : l.room ≡ None
  pub each : AreSound n l.item l.values

-- a dictionary where this expects one, with its keys in byte order, each once
pub record IsDict (n : ℕ) (expected : Shape) (l : Level) : Type 0 where
  pub may : takes_dictionary expected ≡ true
  pub room : l.room ≡ None
  pub ordered : are_keys_in_order (keys_in l.entries) ≡ true
  pub each : AreSoundEntries n l.entries

-- a level inside others, as its bracket says
abbrev pub IsInner : Bracket → ℕ → Shape → Level → Type 0
IsInner bracket.Statement n expected l = ⊥
IsInner bracket.Tuple n expected l = IsTuple n expected l
IsInner bracket.Array n expected l = IsArray n expected l
IsInner bracket.Dict n expected l = IsDict n expected l

-- the open entry has a key, which is UTF-8, and which no entry before it has
pub record HasNewKey (l : Level) : Type 0 where
  pub utf8 : is_utf8 l.key ≡ true
  pub new : has_key l.key l.entries ≡ false

-- a value may come next: in a dictionary that of its open entry, which is to be of the entry's type
abbrev pub AwaitsValue : Bracket → Level → Type 0
AwaitsValue bracket.Dict l = HasNewKey l × (l.item ≡ entry_shape l.ty)
AwaitsValue b l = Unit {0}

-- Levels that are open inside each other, of which the last is the innermost, of a value of which this is expected. In each but the
-- innermost a value is awaited, which is the level inside it.
pub data AreOpen (shape : Shape) : List Level → Level → Type 0 where
  whole : (l : Level) → l.bracket ≡ bracket.Statement → l.item ≡ shape → l.values ≡ [] → AreOpen shape [] l
  inside : (outer : List Level) (parent l : Level) → AreOpen shape outer parent → is_full parent.room ≡ false → AwaitsValue parent.bracket parent → length outer < 64
      → IsInner l.bracket (suc (length outer)) parent.item l → AreOpen shape (outer ++ parent ∷ []) l

-- ---- places

-- there is a member
abbrev pub HasMember : List Value → Type 0
HasMember [] = ⊥
HasMember (v ∷ vs) = Unit {0}

-- a tuple or an array may end there: a tuple has a member at least
abbrev pub MayEnd : Bracket → Level → Type 0
MayEnd bracket.Tuple l = HasMember l.values
MayEnd bracket.Array l = Unit {0}
MayEnd b l = ⊥

-- what is known of the innermost level at a place
abbrev pub IsAt : Place → Level → Type 0
IsAt place.Value l = AwaitsValue l.bracket l
IsAt place.ValueOrEnd l = MayEnd l.bracket l
IsAt place.BehindMember l = MayEnd l.bracket l
IsAt place.EntryType l = l.bracket ≡ bracket.Dict
IsAt place.BehindType l = l.bracket ≡ bracket.Dict
IsAt place.TypeEnd l = l.bracket ≡ bracket.Dict
IsAt place.Key l = l.bracket ≡ bracket.Dict
IsAt place.Equals l = (l.bracket ≡ bracket.Dict) × HasNewKey l
IsAt place.BehindEntry l = l.bracket ≡ bracket.Dict
IsAt place.Dictionary l = l.bracket ≡ bracket.Statement
IsAt place.Complete l = ⊥

-- a draft that is open, or that has one sound value
pub data IsDraft (shape : Shape) : Place → Level → List Level → Type 0 where
  ongoing : (p : Place) (l : Level) (outer : List Level) → AreOpen shape outer l → IsAt p l → IsDraft shape p l outer
  complete : (l : Level) (outer : List Level) (v : Value) → l.values ≡ v ∷ [] → IsSound 0 shape true v → IsDraft shape place.Complete l outer

-- A draft of a value of which this is expected, directly behind the `=` of a statement: each part of it that is closed is sound, and so
-- is the value once it is complete.
abbrev pub IsSoundDraft : Shape → ValueDraft → Type 0
IsSoundDraft shape d = IsDraft shape d.place d.level d.outer
