-- The properties of an owner while its statements are read.
use Rattle.std.proofs.Common.{◌≡◌, ◌∙◌, sym, ap, refl, subst, ℕ, Bool, true, false, cond, List, [], ◌∷◌, Option, Some, None, Ok}
use Rattle.std.specs.Prelude.{unwrap_or, if◌then◌else◌}
use Rattle.std.specs.BTreeMap.{is_at}
use Rattle.std.specs.List.{IsDistinct}
use Rattle.std.specs.Ordering.{is_eq}
use Rattle.std.specs.declared.cmp.Ordering.{Ordering}
use Rattle.std.specs.declared.cmp.Ordering.TheVariants.{Less, Equal, Greater}
use Rattle.std.proofs.lemmas.Cmp.{nat_list_cmp_total, nat_list_eq_equiv}
use Rattle.std.proofs.lemmas.Map.Lookups.{exact_bytes}
use Rattle.list_ops.specs.Blank.{no_edits}
use Rattle.sdf_paths.specs.Order.{text_cmp}
use Rattle.sdf_values.specs.declared.type_name.TypeName.{TypeName}
use Rattle.spec_properties.specs.Properties.{same_name, property_name, property_at, blank_relationship}
use Rattle.spec_properties.specs.declared.property.Property.{Property}
use Rattle.spec_tables.specs.Tables.{at_key, with_key}
use Rattle.usda_statements.specs.PropertyDrafts.{no_marks, joined, property_of, property_of_type, is_in_hand}
use Rattle.usda_statements.specs.declared.heading.Heading.{Heading}
use Rattle.usda_statements.specs.declared.property.PropertyDraft.{PropertyDraft}
use Rattle.usda_statements.specs.declared.property.PropertyMarks.{PropertyMarks}
use Rattle.layer_texts.specs.Writable.{is_word}
use Rattle.layer_reads.specs.Properties.{Marks}
use Rattle.value_returns.specs.Proper.{IsProperProperty}
use Rattle.value_returns.proofs.Tables.{found_with, others_with, all_with}
use Rattle.usda_drafts.specs.Owners.{marks_at, property_for, with_place, with_returned, settled}
use Rattle.usda_drafts.specs.declared.owner.Owner.{Owner}
use Rattle.value_texts.specs.Each.{AreAll}
use Rattle.trees_read.proofs.Properties.{with_once}
use Rattle.properties_read.specs.Laws.{OwnersAreRead}
use Rattle.properties_read.specs.Sound.{IsSoundProperty, IsRead, AreRead, marks_in}
use Rattle.properties_read.specs.Targets.{closed, IsApart}
use Rattle.properties_read.proofs.Keys.{no_meta}
use Rattle.properties_read.proofs.Lists.{none_apart, blank_given, lists_proper}
use Rattle.properties_read.proofs.Places.{each_with, at_name}
use Rattle.properties_read.proofs.Properties.{named_sound, complete_read}

pub none_read : AreRead [] []
unfolding IsDistinct
none_read = record { once = tt; each = tt; marked = tt }

-- ---- marks

-- what stands at a name does not clash
marks_apart : (name : List ℕ) (marks : Marks) → AreAll (λ e. IsApart e.1.lists) marks → IsApart (marks_in marks name).lists
marks_apart name [] all = none_apart
marks_apart name (e ∷ es) all = by (is_at (text_cmp name) e.0) (marks_apart name es all.1)
  where
    by : (b : Bool) → IsApart (marks_in es name).lists → IsApart (unwrap_or (cond b (Some e.1) (at_key text_cmp name es)) no_marks).lists
    by true rest = all.0
    by false rest = rest

-- texts that differ are not at one place
not_at : (a b : List ℕ) → same_name a b ≡ false → is_at (text_cmp b) a ≡ false
not_at a b apart = by (text_cmp b a) refl
  where
    by : (o : Ordering) → text_cmp b a ≡ o → is_eq o ≡ false
    by Less e = refl
    by Greater e = refl
    by Equal e = absurd (let same : b ≡ a = exact_bytes b a e in let one : same_name a a ≡ false = subst (λ n. same_name a n ≡ false) same apart in cc (nat_list_eq_equiv.refl a))

-- ---- a name

pub taken_sound : (h : Heading) (name : List ℕ) (o : Owner) (p : PropertyDraft) → is_word name ≡ true → AreRead o.properties o.marks → property_for h name o ≡ Ok p → IsSoundProperty closed p
unfolding property_for marks_at
taken_sound h name o p word r e = by (property_at name o.properties) refl e
  where
    by : (before : Option Property) → property_at name o.properties ≡ before → joined h name (marks_in o.marks name) before ≡ Ok p → IsSoundProperty closed p
    by None at e = named_sound h name (marks_in o.marks name) None p word tt e
    by (Some before) at e =
        let found = at_name (λ q. IsRead (marks_in o.marks (property_name q)) q) name o.properties before r.each at in
        named_sound h name (marks_in o.marks name) (Some before) p word (subst (λ n. IsRead (marks_in o.marks n) before) found.1 found.0) e

blank_read : (name : List ℕ) (marks : PropertyMarks) → is_word name ≡ true → IsApart marks.lists → IsRead marks (blank_relationship name)
blank_read name marks word apart =
    let given = blank_given marks.lists apart in
    record { proper = record { named = word; related = lists_proper marks.lists no_edits given; said = no_meta }; listed = given }

pub placed_read : (name : List ℕ) (o : Owner) → is_word name ≡ true → AreRead o.properties o.marks → AreRead (with_place name o).properties (with_place name o).marks
unfolding with_place
placed_read name o word r = record {
  once = with_once (blank_relationship name) o.properties r.once;
  each = each_with (λ p. IsRead (marks_in o.marks (property_name p)) p) (λ p. IsRead (marks_in o.marks (property_name p)) p) (blank_relationship name)
      (blank_read name (marks_in o.marks name) word (marks_apart name o.marks r.marked)) (λ p apart is. is) o.properties r.once r.each;
  marked = r.marked;
}

-- ---- the end of a statement

name_of_draft : (o : Option TypeName) (p : PropertyDraft) → property_name (property_of_type o p) ≡ p.name
name_of_draft None p = refl
name_of_draft (Some ty) p = refl

returned_read : (p : PropertyDraft) (o : Owner) → IsSoundProperty closed p → AreRead o.properties o.marks → AreRead (with_returned p o).properties (with_returned p o).marks
unfolding with_returned
returned_read p o s r = record {
  once = with_once q o.properties r.once;
  each = each_with (λ x. IsRead (marks_in o.marks (property_name x)) x) (λ x. IsRead (marks_in after (property_name x)) x) q here others o.properties r.once r.each;
  marked = all_with text_cmp exact_bytes (λ e. IsApart e.1.lists) p.name p.marks o.marks s.listed.apart r.marked;
}
  where
    q : Property
    q = property_of p

    after : Marks
    after = with_key text_cmp p.name p.marks o.marks

    name_is : property_name q ≡ p.name
    name_is = name_of_draft p.ty p

    here : IsRead (marks_in after (property_name q)) q
    here = subst (λ m. IsRead m q) (sym (ap (marks_in after) name_is ∙ ap (λ m. unwrap_or m no_marks) (found_with text_cmp exact_bytes nat_list_cmp_total p.name p.marks o.marks))) (complete_read p s)

    others : (x : Property) → same_name (property_name q) (property_name x) ≡ false → IsRead (marks_in o.marks (property_name x)) x → IsRead (marks_in after (property_name x)) x
    others x apart is =
        let gone : is_at (text_cmp (property_name x)) p.name ≡ false = subst (λ n. is_at (text_cmp (property_name x)) n ≡ false) name_is (not_at (property_name q) (property_name x) apart) in
        subst (λ m. IsRead m x) (sym (ap (λ m. unwrap_or m no_marks) (others_with text_cmp exact_bytes nat_list_cmp_total (property_name x) p.name p.marks o.marks gone))) is

pub settled_read : (p : PropertyDraft) (o : Owner) → (is_in_hand p ≡ true → IsSoundProperty closed p) → AreRead o.properties o.marks → AreRead (settled p o).properties (settled p o).marks
unfolding settled
settled_read p o s r = by (is_in_hand p) refl
  where
    by : (b : Bool) → is_in_hand p ≡ b → AreRead (if b then with_returned p o else o).properties (if b then with_returned p o else o).marks
    by true e = returned_read p o (s e) r
    by false e = r

-- ---- what the owner has

pub proper_each : (marks : Marks) (ps : List Property) → AreAll (λ p. IsRead (marks_in marks (property_name p)) p) ps → AreAll IsProperProperty ps
proper_each marks [] all = tt
proper_each marks (p ∷ ps) all = (all.0.proper, proper_each marks ps all.1)

pub owners_read : OwnersAreRead
owners_read = record {
  none = none_read;
  taken = taken_sound;
  placed = placed_read;
  settled = settled_read;
  proper = λ properties marks r. (r.once, proper_each marks properties r.each);
}
