-- Items one behind the other.
use Rattle.std.proofs.Common.{◌≡◌, ◌∙◌, true, List, [], ◌∷◌, ◌++◌, None, refl}
use Rattle.usda_grammar.specs.Machine.{step}
use Rattle.usda_grammar.specs.Table.{starts}
use Rattle.usda_grammar.specs.declared.kinds.WordKind.{WordKind}
use Rattle.usda_grammar.specs.declared.kinds.WordKind.TheVariants as token
use Rattle.usda_grammar.specs.declared.symbols.Symbol.{Symbol}
use Rattle.usda_grammar.specs.declared.symbols.Symbol.TheVariants as symbol
use Rattle.usda_drafts.specs.declared.draft.Draft.{Draft}
use Rattle.value_texts.specs.Cuts.{Said}
use Rattle.value_texts.specs.Words.{as_word}
use Rattle.value_texts.specs.Each.{AreAll}
use Rattle.layer_reads.specs.Taking.{AreTaken}
use Rattle.layer_reads.proofs.Taking.{taken_nothing, together, weaker}
use Rattle.layer_reads.specs.Items.{begins_item, IsLeft, Left, AreItems}
use Rattle.layer_reads.proofs.Words.{past, step_past}

pub no_items : (s : Symbol) (A B : Draft → Type 0) → ((d : Draft) → A d → B d) → AreItems s [] A B
no_items s A B f = record { left = λ l. l; taken = λ l d h. taken_nothing (l.symbols ++ s ∷ []) d B (f d h); unsaid = λ none. f }

first_nothing : (x y : List Said) → x ++ y ≡ [] → x ≡ []
first_nothing [] y h = refl
first_nothing (w ∷ x) y h = absurd cc

second_nothing : (x y : List Said) → x ++ y ≡ [] → y ≡ []
second_nothing [] y h = h
second_nothing (w ∷ x) y h = absurd cc

pub items_both : (s : Symbol) (x y : List Said) (A B C : Draft → Type 0) → AreItems s x A B → AreItems s y B C → AreItems s (x ++ y) A C
items_both s x y A B C p q = record {
  left = λ l. q.left (p.left l);
  taken = λ l d h. together (l.symbols ++ s ∷ []) ((p.left l).symbols ++ s ∷ []) ((q.left (p.left l)).symbols ++ s ∷ []) d x y B C (p.taken l d h) (λ e k. q.taken (p.left l) e k);
  unsaid = λ none d h. q.unsaid (second_nothing x y none) d (p.unsaid (first_nothing x y none) d h);
}

-- ---- what is left behind an item

abbrev pub nothing_left : Left
nothing_left = record { symbols = []; each = tt }

pub semicolon : IsLeft symbol.MaybeSemicolon
semicolon = record { absent = refl; begins_none = none }
  where
    none : (k : WordKind) → begins_item k ≡ true → starts symbol.MaybeSemicolon k ≡ None
    none (token.Word w) h = refl
    none token.Quoted h = refl
    none token.CloseBrace h = refl
    none token.CloseParen h = refl
    none _ h = absurd cc

abbrev pub semicolon_left : Left
semicolon_left = record { symbols = symbol.MaybeSemicolon ∷ []; each = (semicolon, tt) }

past_left : (ss from to : List Symbol) (d : Draft) (x : Said) (said : List Said) (Is : Draft → Type 0) → AreAll IsLeft ss → begins_item (as_word x).kind ≡ true → AreTaken from d (x ∷ said) to Is → AreTaken (ss ++ from) d (x ∷ said) to Is
past_left [] from to d x said Is each begins h = h
past_left (s ∷ ss) from to d x said Is each begins h = past s (ss ++ from) to d x said Is each.0.absent (each.0.begins_none (as_word x).kind begins) (past_left ss from to d x said Is each.1 begins h)

-- a word that ends the items
pub step_left : (ss : List Symbol) (s : Symbol) (a b : List Symbol) (k : WordKind) → AreAll IsLeft ss → begins_item k ≡ true → step (((ss ++ s ∷ []) ++ a) ++ b) k ≡ step ((s ∷ a) ++ b) k
step_left [] s a b k each begins = refl
step_left (t ∷ ss) s a b k each begins = step_past t (((ss ++ s ∷ []) ++ a) ++ b) k each.0.absent (each.0.begins_none k begins) ∙ step_left ss s a b k each.1 begins

-- an item, behind which this is left
pub item_with : (s : Symbol) (x : Said) (said : List Said) (A B : Draft → Type 0) (to : Left) → begins_item (as_word x).kind ≡ true → ((d : Draft) → A d → AreTaken (s ∷ []) d (x ∷ said) (to.symbols ++ s ∷ []) B) → AreItems s (x ∷ said) A B
item_with s x said A B to begins f = record {
  left = λ l. to;
  taken = λ l d h. past_left l.symbols (s ∷ []) (to.symbols ++ s ∷ []) d x said B l.each begins (f d h);
  unsaid = λ none. absurd cc;
}

pub one_item : (s : Symbol) (x : Said) (said : List Said) (A B : Draft → Type 0) → begins_item (as_word x).kind ≡ true → ((d : Draft) → A d → AreTaken (s ∷ []) d (x ∷ said) (symbol.MaybeSemicolon ∷ s ∷ []) B)
    → AreItems s (x ∷ said) A B
one_item s x said A B begins f = item_with s x said A B semicolon_left begins f

-- the same items with less said of the drafts
pub items_weaker : (s : Symbol) (x : List Said) (A B C : Draft → Type 0) → ((d : Draft) → B d → C d) → AreItems s x A B → AreItems s x A C
items_weaker s x A B C g p = record {
  left = p.left;
  taken = λ l d h. weaker (l.symbols ++ s ∷ []) ((p.left l).symbols ++ s ∷ []) d x B C (p.taken l d h) g;
  unsaid = λ none d h. g d (p.unsaid none d h);
}
