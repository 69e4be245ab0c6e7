-- A value that was printed is read.
use Rattle.std.proofs.Common.{◌≡◌, ◌∙◌, cond, ℕ, ◌+◌, ◌≤◌, Bool, true, false, List, [], ◌∷◌, ◌++◌, append-nil, length, map, Option, Result, Ok, Err, ap, sym, refl, arith}
use Rattle.sdf_values.specs.declared.value.Value.{Value}
use Rattle.sdf_values.specs.declared.value.Value.TheVariants as value
use Rattle.sdf_values.specs.declared.value.Value.TheOpen.{Value-F}
use Rattle.sdf_values.specs.declared.value.DictItem.{DictItem}
use Rattle.sdf_values.specs.Print.{print}
use Rattle.sdf_values.proofs.Values.{Each, by_cases}
use Rattle.usda_lexer.specs.declared.token.LexFault.{LexFault}
use Rattle.usda_lexer.specs.Words.{Word, Lexing, lexing_from, Lexer, left}
use Rattle.usda_values.specs.declared.level.Place.{Place}
use Rattle.usda_values.specs.declared.level.Place.TheVariants as place
use Rattle.usda_values.specs.declared.shape.Shape.{Shape}
use Rattle.usda_values.specs.declared.shape.Shape.TheVariants.{Dictionary}
use Rattle.usda_values.specs.declared.draft.ValueDraft.{ValueDraft}
use Rattle.usda_values.specs.Drafts.{Acted, value_act, act_at, is_complete, is_complete_at, value_of, draft_of, give_act, open_dict}
use Rattle.usda_values.specs.Reads.{got, reads, reads_left, behind_act, lexing_of, AnswersRead}
use Rattle.usda_values.specs.declared.fault.ValueFault.{ValueFault}
use Rattle.usda_values.specs.declared.fault.ValueFault.TheVariants.{Refused, NoMemory}
use Rattle.value_texts.specs.Backs.{GivesBack}
use Rattle.value_texts.specs.Cuts.{Said, said_of, IsCut}
use Rattle.value_texts.specs.Acts.{acts}
use Rattle.value_texts.specs.Follows.{may_follow}
use Rattle.value_texts.specs.Writable.{is_writable}
use Rattle.value_texts.specs.ValueWords.{words_of_value}
use Rattle.value_texts.specs.Readable.{Reading as Reads, is_read_as, reading_step, depth}
use Rattle.value_texts.specs.ValueWords.{open_brace}
use Rattle.value_texts.proofs.ReadingSteps as level
use Rattle.value_texts.proofs.ValueCuts.{value_cut, dict_cut}
use Rattle.value_texts.proofs.DictsGiven.{IsGivenItem, item_given, dict_from}
use Rattle.value_texts.proofs.ValuesGiven.{value_given}
use Rattle.value_texts.proofs.Pieces.{back}
use Rattle.value_texts.proofs.Given.{Then}

-- nothing comes behind a complete value
pub after_complete : (w : Said) (ws : List Said) (d e : ValueDraft) → is_complete d ≡ true → acts (w ∷ ws) d ≡ Ok e → ⊥
unfolding value_act
after_complete w ws d e h k = at_place d.place h k
  where
    at_place : (p : Place) → is_complete_at p ≡ true → Then ws (act_at p w.kind w.text d) ≡ Ok e → ⊥
    at_place place.Complete c g = cc
    at_place _ c g = absurd cc

-- tokens that complete a draft are read as its value
pub reads_said : (ws more : List Word) (f : Option LexFault) (end : ℕ) (d e : ValueDraft) → 0 + 1 ≤ length ws → acts (map said_of ws) d ≡ Ok e → is_complete e ≡ true → reads (ws ++ more) f end d ≡ got (value_of e) (lexing_of more f)
reads_said [] more f end d e some h c = absurd (omega (arith, some))
reads_said (w ∷ ws) more f end d e some h c =
    cases (value_act w.kind w.text d) h (λ next some k. reads_said ws more f end next e some k c)
  where
    done : (ws : List Word) (next : ValueDraft) (b : Bool) → is_complete next ≡ b → acts (map said_of ws) next ≡ Ok e
        → (0 + 1 ≤ length ws → acts (map said_of ws) next ≡ Ok e → reads (ws ++ more) f end next ≡ got (value_of e) (lexing_of more f))
        → cond b (got (value_of next) (lexing_of (ws ++ more) f)) (reads (ws ++ more) f end next) ≡ got (value_of e) (lexing_of more f)
    done [] next true q k go = (let same : next ≡ e = cc k in ap (λ x. got (value_of x) (lexing_of more f)) same)
    done [] next false q k go = absurd (let same : next ≡ e = cc k in let bad : is_complete e ≡ false = sym (ap is_complete same) ∙ q in cc)
    done (x ∷ xs) next true q k go = absurd (after_complete (said_of x) (map said_of xs) next e q k)
    done (x ∷ xs) next false q k go = go (omega arith) k

    cases : (r : Acted) → Then (map said_of ws) r ≡ Ok e
        → ((next : ValueDraft) → 0 + 1 ≤ length ws → acts (map said_of ws) next ≡ Ok e → reads (ws ++ more) f end next ≡ got (value_of e) (lexing_of more f))
        → behind_act r w (ws ++ more) f (λ next. reads (ws ++ more) f end next) ≡ got (value_of e) (lexing_of more f)
    cases (Err k) g go = absurd cc
    cases (Ok next) g go = done ws next (is_complete next) refl g (go next)

-- no draft that is not complete is completed by no token
some_words : (ws : List Word) (d e : ValueDraft) → is_complete d ≡ false → is_complete e ≡ true → acts (map said_of ws) d ≡ Ok e → 0 + 1 ≤ length ws
some_words [] d e h k is = absurd (let same : d ≡ e = cc is in let bad : is_complete e ≡ false = sym (ap is_complete same) ∙ h in cc)
some_words (w ∷ ws) d e h k is = omega arith

-- a text whose tokens complete a draft
pub cut_read : (at : ℕ) (text : List ℕ) (said : List Said) (rest : List ℕ) (end : ℕ) (d e : ValueDraft) → IsCut at text said rest → acts said d ≡ Ok e → is_complete d ≡ false → is_complete e ≡ true
    → reads (lexing_from 0 at (text ++ rest)).words (lexing_from 0 at (text ++ rest)).fault end d ≡ got (value_of e) (lexing_from 0 (at + length text) rest)
cut_read at text said rest end d e cut is h k =
    let l : Lexing = lexing_from 0 (at + length text) rest in
    let given : acts (map said_of cut.words) d ≡ Ok e = ap (λ s. acts s d) cut.spelled ∙ is in
    ap (λ (x : Lexing). reads x.words x.fault end d) cut.lexed ∙ reads_said cut.words l.words l.fault end d e (some_words cut.words d e h k given) given k

pub value_read : (v : Value) (shape : Shape) (indent at end : ℕ) (rest : List ℕ) → is_writable v ≡ true → is_read_as v shape true ≡ true → depth v ≤ 64 → may_follow rest ≡ true
    → reads (lexing_from 0 at (print v indent ++ rest)).words (lexing_from 0 at (print v indent ++ rest)).fault end (draft_of place.Value shape)
    ≡ got v (lexing_from 0 (at + length (print v indent)) rest)
value_read v shape indent at end rest w r deep follows =
    cut_read at (print v indent) (words_of_value v) rest end (draft_of place.Value shape) (give_act v (draft_of place.Value shape)) (value_cut v w indent at rest follows)
    (value_given v (draft_of place.Value shape) refl refl w r (omega (arith, deep))) refl refl

-- entries of any values
each_item : (items : List DictItem) → Each IsGivenItem items
each_item [] = tt
each_item (i ∷ is) = (item_given i.key i.ty i.value (value_given i.value), each_item is)

brace_opens : value_act open_brace.kind open_brace.text (draft_of place.Dictionary Dictionary) ≡ open_dict (draft_of place.Dictionary Dictionary)
unfolding value_act
brace_opens = refl

dict_print : (items : List DictItem) (indent at : ℕ) (rest : List ℕ) → is_writable (value.Dict items) ≡ true → IsCut at (print (value.Dict items) indent) (words_of_value (value.Dict items)) rest
dict_print items indent at rest w = dict_cut items w indent at rest

-- a dictionary that has to begin with its bracket; anything may follow it
pub dictionary_read : (items : List DictItem) (indent at end : ℕ) (rest : List ℕ) → is_writable (value.Dict items) ≡ true → is_read_as (value.Dict items) Dictionary true ≡ true → depth (value.Dict items) ≤ 64
    → reads (lexing_from 0 at (print (value.Dict items) indent ++ rest)).words (lexing_from 0 at (print (value.Dict items) indent ++ rest)).fault end (draft_of place.Dictionary Dictionary)
    ≡ got (value.Dict items) (lexing_from 0 (at + length (print (value.Dict items) indent)) rest)
dictionary_read items indent at end rest w r deep =
    cut_read at (print (value.Dict items) indent) (words_of_value (value.Dict items)) rest end (draft_of place.Dictionary Dictionary) (give_act (value.Dict items) (draft_of place.Dictionary Dictionary))
    (dict_print items indent at rest w) (dict_from items (each_item items) (draft_of place.Dictionary Dictionary) brace_opens refl w r (omega (arith, deep))) refl refl

-- a value that is read where a dictionary is expected is one
abbrev IsReadThere : Value → Type 0
IsReadThere v =
    is_writable v ≡ true → is_read_as v Dictionary true ≡ true → depth v ≤ 64 → (indent at end : ℕ) (rest : List ℕ)
    → reads (lexing_from 0 at (print v indent ++ rest)).words (lexing_from 0 at (print v indent ++ rest)).fault end (draft_of place.Dictionary Dictionary)
    ≡ got v (lexing_from 0 (at + length (print v indent)) rest)

other : (v : Value) (l : Value-F Reads (List ℕ × Bool)) → is_read_as v Dictionary true ≡ reading_step l Dictionary true → reading_step l Dictionary true ≡ false → IsReadThere v
other v l is none w r deep = absurd (let bad : false ≡ true = sym none ∙ sym is ∙ r in cc)

pub dictionary_value_read : (v : Value) → IsReadThere v
dictionary_value_read = by_cases IsReadThere (λ i. Unit {0}) (record {
  bool = λ b. other (value.Bool b) (Value-F.Bool b) (level.reads_bool b Dictionary true) refl;
  whole = λ n. other (value.Whole n) (Value-F.Whole n) (level.reads_whole n Dictionary true) refl;
  number = λ x. other (value.Number x) (Value-F.Number x) (level.reads_number x Dictionary true) refl;
  time = λ t. other (value.Time t) (Value-F.Time t) (level.reads_time t Dictionary true) refl;
  text = λ t. other (value.Text t) (Value-F.Text t) (level.reads_text t Dictionary true) refl;
  asset = λ t. other (value.Asset t) (Value-F.Asset t) (level.reads_asset t Dictionary true) refl;
  path = λ t. other (value.PathText t) (Value-F.PathText t) (level.reads_path t Dictionary true) refl;
  word = λ t. other (value.Word t) (Value-F.Word t) (level.reads_word t Dictionary true) refl;
  block = other value.Block Value-F.Block (level.reads_block Dictionary true) refl;
  tuple = λ vs each. other (value.Tuple vs) (Value-F.Tuple (map is_read_as vs)) (level.reads_tuple vs Dictionary true) refl;
  array = λ vs each. other (value.Array vs) (Value-F.Array (map is_read_as vs)) (level.reads_array vs Dictionary true) refl;
  dict = λ items each w r deep indent at end rest. dictionary_read items indent at end rest w r deep;
  item = λ k t v h. tt;
})

pub source_read : (v : Value) (shape : Shape) (rest : List ℕ) → is_writable v ≡ true → is_read_as v shape true ≡ true → depth v ≤ 64 → may_follow rest ≡ true
    → reads_left (record { source = print v 0 ++ rest; at = 0 }) (draft_of place.Value shape) ≡ got v (left (record { source = print v 0 ++ rest; at = length (print v 0) }))
unfolding left
source_read v shape rest w r deep follows =
    value_read v shape 0 0 (length (print v 0 ++ rest)) rest w r deep follows
    ∙ ap (λ n. got v (lexing_from 0 n rest)) (let e : 0 + length (print v 0) ≡ length (print v 0) = omega arith in e)
    ∙ ap (λ t. got v (lexing_from 0 (length (print v 0)) t)) (sym (back (print v 0) rest))

-- what reading answers of the text of a value
pub reading_back : (r : Result Value ValueFault) (v : Value) (shape : Shape) (old new : Lexer) → is_writable v ≡ true → is_read_as v shape true ≡ true → depth v ≤ 64 → old ≡ record { source = print v 0; at = 0 }
    → AnswersRead r (draft_of place.Value shape) old new → GivesBack r v
reading_back r v shape old new w readable deep is answers = cases r answers
  where
    source : old ≡ record { source = print v 0 ++ []; at = 0 }
    source = is ∙ ap (λ t. record { source = t; at = 0 }) (sym (append-nil (print v 0)))

    read : reads_left old (draft_of place.Value shape) ≡ got v (left (record { source = print v 0 ++ []; at = length (print v 0) }))
    read = ap (λ l. reads_left l (draft_of place.Value shape)) source ∙ source_read v shape [] w readable deep refl

    cases : (r : Result Value ValueFault) → AnswersRead r (draft_of place.Value shape) old new → GivesBack r v
    cases (Ok u) a = let same = sym a ∙ read in cc same
    cases (Err (Refused k at)) a = let same = sym a ∙ read in cc same
    cases (Err NoMemory) a = tt

pub reading_dict_back : (r : Result Value ValueFault) (v : Value) (old new : Lexer) → is_writable v ≡ true → is_read_as v Dictionary true ≡ true → depth v ≤ 64 → old ≡ record { source = print v 0; at = 0 }
    → AnswersRead r (draft_of place.Dictionary Dictionary) old new → GivesBack r v
unfolding left
reading_dict_back r v old new w readable deep is answers = cases r answers
  where
    read : reads_left old (draft_of place.Dictionary Dictionary) ≡ got v (lexing_from 0 (0 + length (print v 0)) [])
    read =
        ap (λ l. reads_left l (draft_of place.Dictionary Dictionary)) (is ∙ ap (λ t. record { source = t; at = 0 }) (sym (append-nil (print v 0))))
        ∙ dictionary_value_read v w readable deep 0 0 (length (print v 0 ++ [])) []

    cases : (r : Result Value ValueFault) → AnswersRead r (draft_of place.Dictionary Dictionary) old new → GivesBack r v
    cases (Ok u) a = let same = sym a ∙ read in cc same
    cases (Err (Refused k at)) a = let same = sym a ∙ read in cc same
    cases (Err NoMemory) a = tt
