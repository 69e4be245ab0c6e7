-- Where a text stops being a path.
use Rattle.std.specs.Prelude.{◌≡◌, ℕ, List, [], ◌∷◌, ◌++◌, length, min}
use Rattle.std.specs.Str.{encode_utf8_all}
use Rattle.sdf_paths.specs.Paths.{IsWellFormed, IsTextOf, IsReadAs}
use Rattle.sdf_paths.specs.declared.element.Element.{Element}
use Rattle.sdf_paths.specs.declared.fault.PathFault.{PathFault}
use Rattle.sdf_paths.specs.declared.fault.PathFault.TheVariants.{Bad, NoMemory}

-- some path of any length in bytes begins with these characters
abbrev pub GoesOn : List ℕ → Type 0
GoesOn front = (rest : List ℕ) × ((path : List Element) × (IsWellFormed path × IsTextOf path (encode_utf8_all (front ++ rest))))

-- no path goes on with the next character, if there is one
abbrev pub Stops : List ℕ → List ℕ → Type 0
Stops front [] = Unit {0}
Stops front (next ∷ more) = ¬ (GoesOn (front ++ next ∷ []))

-- `at` is the first byte with which no path goes on, or the end of the text where there is none
pub record IsStop (text : List ℕ) (at : ℕ) : Type 0 where
  pub front : List ℕ
  pub back : List ℕ
  pub whole : text ≡ encode_utf8_all (front ++ back)
  pub place : at ≡ length (encode_utf8_all front)
  pub goes_on : GoesOn front
  pub stops : Stops front back

-- the text is no path, and `at` is the byte that shows it: where it stops, or byte 4,096 where it is too long
pub record IsRefusedAt (text : List ℕ) (at : ℕ) : Type 0 where
  pub unread : (path : List Element) → ¬ (IsReadAs text path)
  pub stop : ℕ
  pub stopped : IsStop text stop
  pub place : at ≡ min stop 4096

-- why a text was not read: it is no path, or memory ran out
abbrev pub IsFaultOf : List ℕ → PathFault → Type 0
IsFaultOf text (Bad at) = IsRefusedAt text at
IsFaultOf text NoMemory = Unit {0}
