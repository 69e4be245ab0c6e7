-- How a run ends, by what was written.
use Rattle.std.proofs.Common.{◌≡◌, ℕ, ◌+◌, ◌<◌, ◌≤◌, Bool, true, false, inl, inr, List, [], ◌++◌, length, take, drop, Option, Some, None, refl, ap, sym, ◌∙◌, append_assoc}
use Rattle.std.specs.Io.KnownBytes.{Appends}
use Rattle.std.proofs.lemmas.Bool.{lt-ltb, le-ltb}
use Rattle.std.proofs.lemmas.List.{append-nil, take-append-drop}
use Rattle.std.proofs.Math.Seq.{take-add}
use Rattle.layer_set.specs.Worlds.{WorldData}
use Rattle.stage_questions.specs.Answers.{flat_text}
use Rattle.stage_session.specs.Sessions.{is_full, most_paths, stage_after}
use Rattle.stage_query.specs.Answers.{Stage}
use Rattle.usdstage.specs.Course.{Course, nothing, flat_course}
use Rattle.usdstage.specs.Outcome.{Ends, EndsWith, IsFront, EndsAsDue}
use Rattle.usdstage.specs.declared.status.Status.{Status}
use Rattle.usdstage.specs.declared.status.Status.TheVariants.{Done, Usage, ReadFault, WriteFault, RootRefused, ScriptRefused, StageFull, WorldTooLarge, NoMemory}

-- ---- bytes appended

pub appends_none : (known : Option (List ℕ)) → Appends known known []
appends_none None = tt
appends_none (Some xs) = sym (append-nil xs)

pub appends_more : (a b c : Option (List ℕ)) (text : List ℕ) (at n : ℕ) → Appends a b (take at text) → Appends b c (take n (drop at text)) → Appends a c (take (at + n) text)
appends_more None b c text at n first second = tt
appends_more (Some xs) None c text at n first second = absurd first
appends_more (Some xs) (Some ys) None text at n first second = absurd second
appends_more (Some xs) (Some ys) (Some zs) text at n first second =
    second ∙ ap (λ (l : List ℕ). l ++ take n (drop at text)) first ∙ append_assoc xs (take at text) (take n (drop at text)) ∙ ap (λ (l : List ℕ). xs ++ l) (sym (take-add at n text))

pub appends_then : (a b c : Option (List ℕ)) (x y : List ℕ) → Appends a b x → Appends b c y → Appends a c (x ++ y)
appends_then None b c x y p q = tt
appends_then (Some a) None c x y p q = absurd p
appends_then (Some a) (Some b) None x y p q = absurd q
appends_then (Some a) (Some b) (Some c) x y p q = q ∙ ap (λ (l : List ℕ). l ++ y) p ∙ append_assoc a x y

-- ---- ends

-- a fault or want of memory, where the front of what is due was written
abbrev pub IsCut : Status → Type 0
IsCut ReadFault = Unit {0}
IsCut WriteFault = Unit {0}
IsCut NoMemory = Unit {0}
IsCut Done = ⊥
IsCut Usage = ⊥
IsCut (RootRefused name refusal) = ⊥
IsCut (ScriptRefused line kind) = ⊥
IsCut StageFull = ⊥
IsCut WorldTooLarge = ⊥

pub cut : (c : Course) (status : Status) (written : List ℕ) → IsCut status → IsFront c written → Ends c status written
cut c ReadFault written k front = front
cut c WriteFault written k front = front
cut c NoMemory written k front = front
cut c Done written k front = absurd k
cut c Usage written k front = absurd k
cut c (RootRefused name refusal) written k front = absurd k
cut c (ScriptRefused line kind) written k front = absurd k
cut c StageFull written k front = absurd k
cut c WorldTooLarge written k front = absurd k

-- the course ends in this status, and writes this
pub whole : (c : Course) (status : Status) (written : List ℕ) → c.text ≡ written → c.due ≡ status → Ends c status written
whole c ReadFault written text due = ([], append-nil written ∙ sym text)
whole c WriteFault written text due = ([], append-nil written ∙ sym text)
whole c NoMemory written text due = ([], append-nil written ∙ sym text)
whole c Done written text due = (text, due)
whole c Usage written text due = (text, due)
whole c (RootRefused name refusal) written text due = (text, due)
whole c (ScriptRefused line kind) written text due = (text, due)
whole c StageFull written text due = (text, due)
whole c WorldTooLarge written text due = (text, due)

-- all of it was written, unless the run was cut off
pub all_written : (c : Course) (status : Status) (written : List ℕ) → (status ≡ ReadFault → ⊥) → (status ≡ WriteFault → ⊥) → (status ≡ NoMemory → ⊥) → Ends c status written → c.text ≡ written
all_written c ReadFault written r w m e = absurd (r refl)
all_written c WriteFault written r w m e = absurd (w refl)
all_written c NoMemory written r w m e = absurd (m refl)
all_written c Done written r w m e = e.0
all_written c Usage written r w m e = e.0
all_written c (RootRefused name refusal) written r w m e = e.0
all_written c (ScriptRefused line kind) written r w m e = e.0
all_written c StageFull written r w m e = e.0
all_written c WorldTooLarge written r w m e = e.0

-- nothing was written, as is due
pub ends_with_nothing : (c : Course) (status : Status) (out : Option (List ℕ)) → c ≡ nothing status → EndsWith c status out out
ends_with_nothing c status out e = ([], whole c status [] (ap (λ (d : Course). d.text) e) (ap (λ (d : Course). d.due) e), appends_none out)

-- nothing was written, and the run was cut off
pub cut_at_once : (c : Course) (status : Status) (out : Option (List ℕ)) → IsCut status → EndsWith c status out out
cut_at_once c status out k = ([], cut c status [] k (c.text, refl), appends_none out)

-- the end is the one that is due, or the run was cut off
pub due_by : (c : Course) (status : Status) (written : List ℕ) (R W : Type 0) → (status ≡ ReadFault → R) → (status ≡ WriteFault → W) → (R → ⊥) → (W → ⊥) → Ends c status written → EndsAsDue c status
due_by c ReadFault written R W read write r w e = absurd (r (read refl))
due_by c WriteFault written R W read write r w e = absurd (w (write refl))
due_by c NoMemory written R W read write r w e = inr refl
due_by c Done written R W read write r w e = inl e.1
due_by c Usage written R W read write r w e = inl e.1
due_by c (RootRefused name refusal) written R W read write r w e = inl e.1
due_by c (ScriptRefused line kind) written R W read write r w e = inl e.1
due_by c StageFull written R W read write r w e = inl e.1
due_by c WorldTooLarge written R W read write r w e = inl e.1

-- ---- stages that are full

pub not_full : (stage : Stage) → length stage ≤ most_paths → is_full stage ≡ false
not_full stage few = le-ltb most_paths (length stage) few

pub full : (stage : Stage) → most_paths < length stage → is_full stage ≡ true
full stage many = lt-ltb most_paths (length stage) many

module _ (world : WorldData) where
  abbrev flat_by : Bool → Course
  flat_by b = elim b [ true ↦ nothing StageFull | false ↦ record { text = flat_text (stage_after world []); due = Done } ]

  pub flat_whole : length (stage_after world []) ≤ most_paths → flat_course world ≡ record { text = flat_text (stage_after world []); due = Done }
  flat_whole few = ap flat_by (not_full (stage_after world []) few)

  pub flat_full : most_paths < length (stage_after world []) → flat_course world ≡ nothing StageFull
  flat_full many = ap flat_by (full (stage_after world []) many)

  -- the text was written whole
  pub flat_done : (text : List ℕ) (a b : Option (List ℕ)) → text ≡ flat_text (stage_after world []) → length (stage_after world []) ≤ most_paths → Appends a b text → EndsWith (flat_course world) Done a b
  flat_done text a b is few wrote =
      let e = flat_whole few in
      (text, whole (flat_course world) Done text (ap (λ (d : Course). d.text) e ∙ sym is) (ap (λ (d : Course). d.due) e), wrote)

  -- the front of the text was written
  pub flat_cut : (text : List ℕ) (status : Status) (n : ℕ) (a b : Option (List ℕ)) → IsCut status → text ≡ flat_text (stage_after world []) → length (stage_after world []) ≤ most_paths → Appends a b (take n text)
      → EndsWith (flat_course world) status a b
  flat_cut text status n a b k is few wrote =
      let e = flat_whole few in
      (take n text, cut (flat_course world) status (take n text) k (drop n text, take-append-drop n text ∙ is ∙ sym (ap (λ (d : Course). d.text) e)), wrote)
