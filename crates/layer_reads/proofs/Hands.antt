-- Properties in hand: how a statement takes one up, and where it goes behind the statement.
use Rattle.std.proofs.Common.{◌≡◌, ◌∙◌, ℕ, ◌&&◌, not, Bool, true, false, List, [], ◌∷◌, ◌++◌, Option, Some, None, Ok, ap, sym, refl, cond}
use Rattle.std.specs.Prelude.{if◌then◌else◌, unwrap_or}
use Rattle.std.specs.BTreeMap.{is_at}
use Rattle.std.specs.Cmp.Lexicographic.{bytes_decides}
use Rattle.std.specs.Map.{lookup}
use Rattle.std.specs.Ordering.{is_eq, match_ordering, ordering_reverse}
use Rattle.std.specs.declared.cmp.Ordering.{Ordering}
use Rattle.std.specs.declared.cmp.Ordering.TheVariants.{Less, Equal, Greater}
use Rattle.std.proofs.lemmas.Cmp.{nat_list_cmp_total}
use Rattle.sdf_paths.specs.Order.{text_cmp}
use Rattle.sdf_values.specs.TypeNames.{element_name}
use Rattle.sdf_values.specs.declared.type_name.TypeName.{TypeName}
use Rattle.spec_properties.specs.Properties.{same_name, property_name, property_at, with_property, blank_relationship}
use Rattle.spec_properties.specs.declared.property.Property.{Property}
use Rattle.spec_tables.specs.Tables.{at_key, with_key}
use Rattle.usda_grammar.specs.declared.symbols.Symbol.{Symbol}
use Rattle.usda_grammar.specs.declared.symbols.Symbol.TheVariants as symbol
use Rattle.usda_statements.specs.PropertyDrafts.{no_marks, new_property, joined, joined_to, same_type, property_of, property_of_type, is_named}
use Rattle.usda_statements.specs.declared.heading.Heading.{Heading}
use Rattle.usda_statements.specs.declared.property.PropertyDraft.{PropertyDraft}
use Rattle.usda_statements.specs.declared.property.PropertyMarks.{PropertyMarks}
use Rattle.usda_drafts.specs.Acts.{bodies_act}
use Rattle.usda_drafts.specs.Bodies.{name_act, with_name}
use Rattle.usda_drafts.specs.Owners.{settled, with_returned, with_place, marks_at, property_for}
use Rattle.usda_drafts.specs.Prims.{with_statement_over}
use Rattle.usda_drafts.specs.Refusals.{then_with}
use Rattle.usda_drafts.specs.declared.draft.Draft.{Draft}
use Rattle.value_texts.specs.ValueWords.{name_said}
use Rattle.layer_reads.specs.Taking.{AreTaken}
use Rattle.layer_reads.specs.Standing.{Standing, standing_of, IsAt}
use Rattle.layer_reads.proofs.Words.{word_taken}
use Rattle.layer_reads.specs.Bodies.{Rests}
use Rattle.layer_reads.specs.Properties.{Marks, InHand, with_more}

-- ---- properties by name

pub same_itself : (n : List ℕ) → same_name n n ≡ true
same_itself n = (bytes_decides n n).1 refl

-- a property whose name is not there goes to the end
pub put_at_end : (p : Property) (ps : List Property) → property_at (property_name p) ps ≡ None → with_property p ps ≡ ps ++ p ∷ []
put_at_end p [] none = refl
put_at_end p (q ∷ qs) none = by (same_name (property_name p) (property_name q)) none (put_at_end p qs)
  where
    by : (b : Bool) → cond b (Some q) (property_at (property_name p) qs) ≡ None → (property_at (property_name p) qs ≡ None → with_property p qs ≡ qs ++ p ∷ []) → cond b (p ∷ qs) (q ∷ with_property p qs) ≡ q ∷ qs ++ p ∷ []
    by true none more = absurd cc
    by false none more = ap (λ l. q ∷ l) (more none)

-- one that is the last takes its place
pub put_last : (p q : Property) (n : List ℕ) (ps : List Property) → property_name p ≡ n → property_name q ≡ n → property_at n ps ≡ None → with_property p (ps ++ q ∷ []) ≡ ps ++ p ∷ []
put_last p q n [] is also none = ap (λ b. cond b (p ∷ []) (q ∷ p ∷ [])) (ap (λ m. same_name m (property_name q)) is ∙ ap (same_name n) also ∙ same_itself n)
put_last p q n (r ∷ rs) is also none =
    ap (λ m. cond (same_name m (property_name r)) (p ∷ rs ++ q ∷ []) (r ∷ with_property p (rs ++ q ∷ []))) is ∙ by (same_name n (property_name r)) none (put_last p q n rs is also)
  where
    by : (b : Bool) → cond b (Some r) (property_at n rs) ≡ None → (property_at n rs ≡ None → with_property p (rs ++ q ∷ []) ≡ rs ++ p ∷ []) → cond b (p ∷ rs ++ q ∷ []) (r ∷ with_property p (rs ++ q ∷ [])) ≡ r ∷ rs ++ p ∷ []
    by true none more = absurd cc
    by false none more = ap (λ l. r ∷ l) (more none)

pub found_last : (q : Property) (n : List ℕ) (ps : List Property) → property_name q ≡ n → property_at n ps ≡ None → property_at n (ps ++ q ∷ []) ≡ Some q
found_last q n [] is none = ap (λ b. cond b (Some q) None) (ap (same_name n) is ∙ same_itself n)
found_last q n (r ∷ rs) is none = by (same_name n (property_name r)) none (found_last q n rs is)
  where
    by : (b : Bool) → cond b (Some r) (property_at n rs) ≡ None → (property_at n rs ≡ None → property_at n (rs ++ q ∷ []) ≡ Some q) → cond b (Some r) (property_at n (rs ++ q ∷ [])) ≡ Some q
    by true none more = absurd cc
    by false none more = more none

-- ---- marks by name

pub equal_itself : (k : List ℕ) → text_cmp k k ≡ Equal
equal_itself k = by (text_cmp k k) (nat_list_cmp_total.antisymm k k)
  where
    by : (o : Ordering) → o ≡ ordering_reverse o → o ≡ Equal
    by Less h = absurd cc
    by Equal h = refl
    by Greater h = absurd cc

pub mark_back : (k : List ℕ) (m : PropertyMarks) (ms : Marks) → at_key text_cmp k (with_key text_cmp k m ms) ≡ Some m
mark_back k m [] = ap (λ o. cond (is_eq o) (Some m) None) (equal_itself k)
mark_back k m (e ∷ es) = by (text_cmp k e.0) refl (mark_back k m es)
  where
    by : (o : Ordering) → text_cmp k e.0 ≡ o → at_key text_cmp k (with_key text_cmp k m es) ≡ Some m → at_key text_cmp k (match_ordering o ((k, m) ∷ e ∷ es) ((e.0, m) ∷ es) (e ∷ with_key text_cmp k m es)) ≡ Some m
    by Less h more = ap (λ o. cond (is_eq o) (Some m) (lookup (is_at (text_cmp k)) (e ∷ es))) (equal_itself k)
    by Equal h more = ap (λ o. cond (is_eq o) (Some m) (lookup (is_at (text_cmp k)) es)) h
    by Greater h more = ap (λ o. cond (is_eq o) (Some e.1) (lookup (is_at (text_cmp k)) (with_key text_cmp k m es))) h ∙ more

pub mark_again : (k : List ℕ) (m n : PropertyMarks) (ms : Marks) → with_key text_cmp k n (with_key text_cmp k m ms) ≡ with_key text_cmp k n ms
mark_again k m n [] = ap (λ o. match_ordering o ((k, n) ∷ (k, m) ∷ []) ((k, n) ∷ []) ((k, m) ∷ (k, n) ∷ [])) (equal_itself k)
mark_again k m n (e ∷ es) = by (text_cmp k e.0) refl (mark_again k m n es)
  where
    by : (o : Ordering) → text_cmp k e.0 ≡ o → with_key text_cmp k n (with_key text_cmp k m es) ≡ with_key text_cmp k n es → with_key text_cmp k n (match_ordering o ((k, m) ∷ e ∷ es) ((e.0, m) ∷ es) (e ∷ with_key text_cmp k m es)) ≡ match_ordering o ((k, n) ∷ e ∷ es) ((e.0, n) ∷ es) (e ∷ with_key text_cmp k n es)
    by Less h more = ap (λ o. match_ordering o ((k, n) ∷ (k, m) ∷ e ∷ es) ((k, n) ∷ e ∷ es) ((k, m) ∷ with_key text_cmp k n (e ∷ es))) (equal_itself k)
    by Equal h more = ap (λ o. match_ordering o ((k, n) ∷ (e.0, m) ∷ es) ((e.0, n) ∷ es) ((e.0, m) ∷ with_key text_cmp k n es)) h
    by Greater h more = ap (λ o. match_ordering o ((k, n) ∷ e ∷ with_key text_cmp k m es) ((e.0, n) ∷ with_key text_cmp k m es) (e ∷ with_key text_cmp k n (with_key text_cmp k m es))) h ∙ ap (λ l. e ∷ l) more

-- ---- behind the statement

pub name_of_draft : (p : PropertyDraft) → property_name (property_of p) ≡ p.name
name_of_draft p = by p.ty
  where
    by : (ty : Option TypeName) → property_name (property_of_type ty p) ≡ p.name
    by None = refl
    by (Some ty) = refl

-- the property goes to its place
pub returned : (name : List ℕ) (at : Standing) (marks : Marks) (p : PropertyDraft) (d : Draft) → p.name ≡ name → is_named name ≡ true → property_at name at.owner.properties ≡ None
    → with_key text_cmp name p.marks marks ≡ with_key text_cmp name p.marks at.owner.marks → InHand name at marks p d → Rests (with_more (property_of p) p.marks at) d
unfolding with_statement_over settled with_returned
returned name at marks p d is named free same h = record {
  stands = ap (λ q. standing_of (record d { owner = settled q d.owner })) h.hand
      ∙ ap (λ b. standing_of (record d { owner = if b then with_returned p d.owner else d.owner })) (ap is_named is ∙ named)
      ∙ ap (λ (s : Standing). record s { owner = with_returned p s.owner }) h.stands
      ∙ ap (λ l. record at { owner = record at.owner { properties = l; marks = with_key text_cmp p.name p.marks marks } }) (put_last (property_of p) (blank_relationship name) name at.owner.properties (name_of_draft p ∙ is) refl free)
      ∙ ap (λ l. record at { owner = record at.owner { properties = at.owner.properties ++ property_of p ∷ []; marks = l } }) (ap (λ n. with_key text_cmp n p.marks marks) is ∙ same)
      ∙ ap (λ n. record at { owner = record at.owner { properties = at.owner.properties ++ property_of p ∷ []; marks = with_key text_cmp n p.marks at.owner.marks } }) (sym (name_of_draft p ∙ is));
  shut = h.shut;
  shallow = h.shallow;
}

-- ---- the name of a property

-- a draft in which these words stood before the name
pub record Headed (at : Standing) (h : Heading) (d : Draft) : Type 0 where
  pub is_at : IsAt at d
  pub heading : d.heading ≡ h

-- a property that is new
pub new_named : (name : List ℕ) (at : Standing) (h : Heading) (to : List Symbol) (d : Draft) → property_at name at.owner.properties ≡ None → Headed at h d
    → AreTaken (symbol.PropertyName ∷ to) d (name_said name ∷ []) to (InHand name at at.owner.marks (new_property h name))
unfolding bodies_act name_act property_for with_place
new_named name at h to d free headed =
    word_taken (symbol.PropertyName ∷ to) to symbol.PropertyName d (name_said name) (InHand name at at.owner.marks (new_property h name)) headed.is_at.shut (λ below. refl)
    (λ w. (
      with_name name w.start d (new_property h name),
      record {
        stands = ap (λ (s : Standing). record s { owner = record s.owner { properties = with_property (blank_relationship name) s.owner.properties } }) headed.is_at.stands
            ∙ ap (λ l. record at { owner = record at.owner { properties = l } }) (put_at_end (blank_relationship name) at.owner.properties free);
        hand = refl;
        shut = headed.is_at.shut;
        shallow = headed.is_at.shallow;
      },
      ap (λ (s : Standing). then_with w.start (joined d.heading name (marks_at name s.owner) (property_at name s.owner.properties)) (with_name name w.start d)) headed.is_at.stands
          ∙ ap (λ o. then_with w.start (joined d.heading name (marks_at name at.owner) o) (with_name name w.start d)) free
          ∙ ap (λ h. Ok (with_name name w.start d (new_property h name))) headed.heading,
    ))

-- one of which more is said: it is what the statement makes of it
pub more_named : (q : Property) (m : PropertyMarks) (at : Standing) (h : Heading) (p : PropertyDraft) (to : List Symbol) (d : Draft) → property_at (property_name q) at.owner.properties ≡ None → joined_to h m q ≡ Ok p
    → Headed (with_more q m at) h d → AreTaken (symbol.PropertyName ∷ to) d (name_said (property_name q) ∷ []) to (InHand (property_name q) at (with_key text_cmp (property_name q) m at.owner.marks) p)
unfolding bodies_act name_act property_for with_place marks_at
more_named q m at h p to d free joins headed =
    let name : List ℕ = property_name q in
    word_taken (symbol.PropertyName ∷ to) to symbol.PropertyName d (name_said name) (InHand name at (with_key text_cmp name m at.owner.marks) p) headed.is_at.shut (λ below. refl)
    (λ w. (
      with_name name w.start d p,
      record {
        stands = ap (λ (s : Standing). record s { owner = record s.owner { properties = with_property (blank_relationship name) s.owner.properties } }) headed.is_at.stands
            ∙ ap (λ l. record at { owner = record at.owner { properties = l; marks = with_key text_cmp name m at.owner.marks } }) (put_last (blank_relationship name) q name at.owner.properties refl refl free);
        hand = refl;
        shut = headed.is_at.shut;
        shallow = headed.is_at.shallow;
      },
      ap (λ (s : Standing). then_with w.start (joined d.heading name (marks_at name s.owner) (property_at name s.owner.properties)) (with_name name w.start d)) headed.is_at.stands
          ∙ ap (λ o. then_with w.start (joined d.heading name (marks_at name (with_more q m at).owner) o) (with_name name w.start d)) (found_last q name at.owner.properties refl free)
          ∙ ap (λ o. then_with w.start (joined_to d.heading (unwrap_or o no_marks) q) (with_name name w.start d)) (mark_back name m at.owner.marks)
          ∙ ap (λ h. then_with w.start (joined_to h m q) (with_name name w.start d)) headed.heading
          ∙ ap (λ r. then_with w.start r (with_name name w.start d)) joins,
    ))

-- a later statement on an attribute of the type, and on a relationship

pub same_type_itself : (ty : TypeName) → same_type ty ty ≡ true
same_type_itself ty = ap (λ b. b && (if ty.array then ty.array else not ty.array)) (same_itself (element_name ty.element)) ∙ by ty.array
  where
    by : (b : Bool) → (if b then b else not b) ≡ true
    by true = refl
    by false = refl
