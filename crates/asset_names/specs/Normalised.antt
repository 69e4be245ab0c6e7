-- What a normalised name is, in terms of its segments alone, and which segments of a text say nothing.
use Rattle.std.specs.Prelude.{ℕ, ◌≡◌, ◌≢◌, Bool, true, false, List, [], ◌∷◌, ◌++◌, codes}
use Rattle.std.specs.List.{All}
use Rattle.asset_names.specs.Anchoring.{here, above, is_absolute, segments, joined}

-- no byte of a segment is a slash
abbrev pub HasNoSlash : List ℕ → Type 0
HasNoSlash s = All (λ c. c ≢ 47) s

-- The parts of a text between its slashes: at least one, none with a slash in it, and with a slash between each two of them they
-- are the text. `a//b` has three, of which the second is empty, and the empty text has one.
pub record AreParts (text : List ℕ) (parts : List (List ℕ)) : Type 0 where
  pub some : parts ≢ []
  pub single : All HasNoSlash parts
  pub whole : joined parts ≡ text

-- a segment that names a folder, or a layer in a folder: neither empty nor `.` nor `..`, and with no slash in it
pub record IsPlain (s : List ℕ) : Type 0 where
  pub some : s ≢ []
  pub moves : s ≢ here
  pub descends : s ≢ above
  pub single : HasNoSlash s

-- The segments of a normalised name. An absolute name has plain segments alone. A relative one may have `..` in front of them,
-- any number of times, and nowhere else.
pub data AreNormalised : Bool → List (List ℕ) → Type 0 where
  from_root : (folders : List (List ℕ)) → All IsPlain folders → AreNormalised true folders
  from_here : (ups folders : List (List ℕ)) → All (λ s. s ≡ above) ups → All IsPlain folders → AreNormalised false (ups ++ folders)

-- segments with slashes between, and a slash in front of an absolute name
abbrev pub spelled : Bool → List (List ℕ) → List ℕ
spelled true ss = codes "/" ++ joined ss
spelled false ss = joined ss

-- A name that is spelled of such segments. The name `/` and the empty name have no segments.
pub record IsNormalised (name : List ℕ) : Type 0 where
  pub absolute : Bool
  pub parts : List (List ℕ)
  pub proper : AreNormalised absolute parts
  pub spells : name ≡ spelled absolute parts

-- From a row of segments something is left out that says nothing: an empty segment, as in `a//b`; a `.`; a plain segment and the
-- `..` behind it, as in `a/b/../c`; and a `..` at the front of an absolute name, since nothing is above the root.
pub data LeavesOut (absolute : Bool) : List (List ℕ) → List (List ℕ) → Type 0 where
  an_empty_one : (before after : List (List ℕ)) → LeavesOut absolute (before ++ [] ∷ after) (before ++ after)
  a_dot : (before after : List (List ℕ)) → LeavesOut absolute (before ++ here ∷ after) (before ++ after)
  a_way_back : (before after : List (List ℕ)) (s : List ℕ) → IsPlain s → LeavesOut absolute (before ++ s ∷ above ∷ after) (before ++ after)
  above_the_root : (after : List (List ℕ)) → absolute ≡ true → LeavesOut absolute (above ∷ after) after

-- none or more things are left out, one after another, in any order
pub data LeadsTo (absolute : Bool) : List (List ℕ) → List (List ℕ) → Type 0 where
  there : (ss : List (List ℕ)) → LeadsTo absolute ss ss
  onward : (xs ys zs : List (List ℕ)) → LeavesOut absolute xs ys → LeadsTo absolute ys zs → LeadsTo absolute xs zs

-- A name that a text gives: whatever says nothing is left out of its parts, until those that are left are the segments of a
-- normalised name. It is absolute where the text is.
pub record IsNameOf (text name : List ℕ) : Type 0 where
  pub left : List (List ℕ)
  pub leads : LeadsTo (is_absolute text) (segments text) left
  pub proper : AreNormalised (is_absolute text) left
  pub spells : name ≡ spelled (is_absolute text) left
