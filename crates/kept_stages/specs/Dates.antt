-- Dates of a stage that is kept: since which version each place is as it is, as it is told from what is kept, and as it is by the worlds alone.
-- docs/ARCHITECTURE.md, 'A stage that is kept'.
use Rattle.std.specs.Prelude.{◌≡◌, ℕ, Bool, true, false, not, ◌||◌, List, [], ◌∷◌, ◌++◌, length, Option, Some, None, is_some}
use Rattle.std.specs.List.{list_any}
use Rattle.compose_api.specs.Stage.{walked as walked_below}
use Rattle.kept_stages.specs.Machine.{State, accepted, begun, ended, given_up, meets_kept, step, opened, published}
use Rattle.kept_stages.specs.Laws.{AreComposed, IsRight}

-- what befalls a stage that is published from time to time
pub data Happening (World Place : Type 0) : Type 0 where
  batch : World → Happening World Place
  refusal : Happening World Place
  begins : Place → Happening World Place
  ends : Place → Happening World Place
  gives_up : Place → Happening World Place
  publishes : Happening World Place

-- a version that was published: its world, and the worlds after each batch that was accepted since the version before, the last of which is its own
pub record Version (World : Type 0) : Type 0 where
  pub world : World
  pub steps : List World

-- What is kept, and beside it: the places of which a batch changed something since the last version, the dates of the places on the last
-- version, the versions so far, from the newest to the first, and the worlds after each batch since.
pub record Dated (World Place Key Entry : Type 0) : Type 0 where
  pub state : State World Place Key Entry
  pub touched : Place → Bool
  pub dates : Place → Option ℕ
  pub versions : List (Version World)
  pub steps : List World

module _ {World Place Key Entry : Type 0} (entry_of : World → Place → Entry) (reads_of : World → Place → List Key) (listed : Place → Entry → List Place) (same : Place → Place → Bool)
    (meets : World → World → List Key → Bool) (root : Place) (levels : ℕ) where
  -- the place is one of these
  abbrev pub is_in : List (Place × Entry) → Place → Bool
  is_in items p = list_any (λ e. same e.0 p) items

  -- ---- by the worlds alone

  -- the place is on the stage of a world
  abbrev pub on_stage : World → Place → Bool
  on_stage w p = is_in (walked_below entry_of listed levels w root) p

  -- some batch changes what the place reads before it
  abbrev pub touched_along : World → List World → Place → Bool
  touched_along w [] p = false
  touched_along w (v ∷ vs) p = meets w v (reads_of w p) || touched_along v vs p

  -- a version dates the place anew: it was not on the stage before, or a batch between the two changed what it read
  abbrev pub dated_anew : Version World → Version World → Place → Bool
  dated_anew new old p = not (on_stage old.world p) || touched_along old.world new.steps p

  -- since which version the place is as it is; versions count from 0
  abbrev pub since : List (Version World) → Place → ℕ
  since [] p = 0
  since (first ∷ []) p = 0
  since (new ∷ old ∷ older) p = elim (dated_anew new old p) [ true ↦ length (old ∷ older) | false ↦ since (old ∷ older) p ]

  -- ---- from what is kept

  -- the date that a place has on the next version
  abbrev pub date_after : Dated World Place Key Entry → Place → ℕ
  date_after d p = elim (d.dates p) [
    | None ↦ length d.versions
    | Some date ↦ elim (d.touched p) [ true ↦ length d.versions | false ↦ date ]
  ]

  -- after a publish: what is not on the version is forgotten
  abbrev pub after_publish : Dated World Place Key Entry → Option (List (Place × Entry)) → Dated World Place Key Entry
  after_publish d None = d
  after_publish d (Some items) = record {
    state = record d.state {
      cache = λ p. elim (is_in items p) [ true ↦ d.state.cache p | false ↦ None ];
      marked = λ p. elim (is_in items p) [ true ↦ d.state.marked p | false ↦ false ];
    };
    touched = λ p. false;
    dates = λ p. elim (is_in items p) [ true ↦ Some (date_after d p) | false ↦ None ];
    versions = (record { world = d.state.world; steps = d.steps }) ∷ d.versions;
    steps = [];
  }

  -- after one happening
  abbrev pub dated_step : Dated World Place Key Entry → Happening World Place → Dated World Place Key Entry
  dated_step d (batch v) = record d {
    state = step entry_of reads_of listed same meets d.state (accepted v);
    touched = λ p. d.touched p || meets_kept entry_of reads_of listed same meets d.state.world v (d.state.cache p);
    steps = d.steps ++ v ∷ [];
  }
  dated_step d refusal = d
  dated_step d (begins p) = record d { state = step entry_of reads_of listed same meets d.state (begun p) }
  dated_step d (ends p) = record d { state = step entry_of reads_of listed same meets d.state (ended p) }
  dated_step d (gives_up p) = record d { state = step entry_of reads_of listed same meets d.state (given_up p) }
  dated_step d publishes = after_publish d (published entry_of reads_of listed same meets levels d.state root)

  -- after some happenings, the first of which is given first
  abbrev pub dated_run : Dated World Place Key Entry → List (Happening World Place) → Dated World Place Key Entry
  dated_run d [] = d
  dated_run d (h ∷ hs) = dated_run (dated_step d h) hs

  -- nothing is kept or published yet
  abbrev pub dated_opened : World → Dated World Place Key Entry
  dated_opened w = record {
    state = opened entry_of reads_of listed same meets w;
    touched = λ p. false;
    dates = λ p. None;
    versions = [];
    steps = [];
  }

-- the newest version has dates for the places on its stage, and for no others; before the first there are none
abbrev pub DatesItsStage : {World Place Key Entry : Type 0} → (World → Place → Bool) → Dated World Place Key Entry → List (Version World) → Type 0
DatesItsStage {World} {Place} on d [] = (p : Place) → is_some (d.dates p) ≡ false
DatesItsStage {World} {Place} on d (new ∷ older) = (p : Place) → is_some (d.dates p) ≡ on new.world p

-- whatever is composed, and whatever befalls it but that something is forgotten between two publishes
pub record DatesAreRight (World Place Key Entry : Type 0) : Type 0 where
  -- what is kept stays right
  pub right : (entry_of : World → Place → Entry) (reads_of : World → Place → List Key) (listed : Place → Entry → List Place) (same : Place → Place → Bool) (meets : World → World → List Key → Bool)
      → AreComposed entry_of reads_of same meets → (root : Place) (levels : ℕ) (w : World) (happenings : List (Happening World Place))
      → IsRight entry_of reads_of (dated_run entry_of reads_of listed same meets root levels (dated_opened entry_of reads_of listed same meets root levels w) happenings).state
  -- the places on the newest version have dates, and no others
  pub places : (entry_of : World → Place → Entry) (reads_of : World → Place → List Key) (listed : Place → Entry → List Place) (same : Place → Place → Bool) (meets : World → World → List Key → Bool)
      → AreComposed entry_of reads_of same meets → (root : Place) (levels : ℕ) (w : World) (happenings : List (Happening World Place))
      → DatesItsStage (on_stage entry_of reads_of listed same meets root levels)
      (dated_run entry_of reads_of listed same meets root levels (dated_opened entry_of reads_of listed same meets root levels w) happenings)
      (dated_run entry_of reads_of listed same meets root levels (dated_opened entry_of reads_of listed same meets root levels w) happenings).versions
  -- and each date is the one that the worlds of the versions tell
  pub dates : (entry_of : World → Place → Entry) (reads_of : World → Place → List Key) (listed : Place → Entry → List Place) (same : Place → Place → Bool) (meets : World → World → List Key → Bool)
      → AreComposed entry_of reads_of same meets → (root : Place) (levels : ℕ) (w : World) (happenings : List (Happening World Place)) (p : Place) (date : ℕ)
      → (dated_run entry_of reads_of listed same meets root levels (dated_opened entry_of reads_of listed same meets root levels w) happenings).dates p ≡ Some date
      → date ≡ since entry_of reads_of listed same meets root levels
      (dated_run entry_of reads_of listed same meets root levels (dated_opened entry_of reads_of listed same meets root levels w) happenings).versions p
