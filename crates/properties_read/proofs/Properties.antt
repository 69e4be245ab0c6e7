-- Each part of a statement keeps the property in hand sound.
use Rattle.std.proofs.Common.{◌≡◌, sym, refl, subst, ℕ, ◌≤◌, ◌^◌, Bool, true, false, ◌||◌, List, [], Option, Some, None, Ok, Err}
use Rattle.std.specs.Prelude.{ℤ, Result, is_some, unsigned_abs, if◌then◌else◌}
use Rattle.std.specs.Str.{is_utf8}
use Rattle.sdf_paths.specs.Paths.{IsPath}
use Rattle.sdf_paths.specs.declared.element.Element.{Element}
use Rattle.sdf_values.specs.declared.refusal.RefusalKind.{RefusalKind}
use Rattle.sdf_values.specs.declared.refusal.RefusalKind.TheVariants.{DuplicateSpec}
use Rattle.sdf_values.specs.declared.type_name.TypeName.{TypeName}
use Rattle.sdf_values.specs.declared.value.Value.{Value}
use Rattle.spec_properties.specs.Entries.{MetaEntries}
use Rattle.spec_properties.specs.declared.property.Property.{Property}
use Rattle.spec_properties.specs.declared.property.Property.TheVariants.{Attr, Rel}
use Rattle.usda_fields.specs.Keys.{value_act, comment_act}
use Rattle.usda_lexer.specs.Meanings.{path_text}
use Rattle.usda_lists.specs.Acts.{and_then}
use Rattle.usda_lists.specs.Edits.{none_given, give}
use Rattle.usda_lists.specs.Lists.{open_list, push_item}
use Rattle.usda_lists.specs.Paths.{target_from}
use Rattle.usda_lists.specs.declared.edit.GivenLists.{GivenLists}
use Rattle.usda_statements.specs.PropertyDrafts.{is_attribute_of, joined, joined_to, new_property, property_of, property_of_type, default_act, with_default, samples_act, with_sample, list_act, with_path, path_act, with_list_closed, with_meta, meta_comment_act, meta_act}
use Rattle.usda_statements.specs.declared.heading.Heading.{Heading}
use Rattle.usda_statements.specs.declared.property.PropertyDraft.{PropertyDraft}
use Rattle.usda_statements.specs.declared.property.PropertyMarks.{PropertyMarks}
use Rattle.layer_texts.specs.Writable.{is_word}
use Rattle.layer_reads.specs.Properties.{is_any_key}
use Rattle.value_returns.specs.Proper.{IsProperMeta, IsProperProperty, IsProperTarget, AreProperTargets}
use Rattle.trees_read.specs.Lists.{paths_of}
use Rattle.properties_read.specs.Laws.{ReadPropertiesAreProper}
use Rattle.properties_read.specs.Sound.{IsSoundProperty, IsRead, IsReadSoFar}
use Rattle.properties_read.specs.Targets.{Reading, closed, begun, bracketed, AreGiven, AreLists}
use Rattle.properties_read.specs.Values.{IsValueOf, AreValuesOf}
use Rattle.properties_read.proofs.Keys.{then_ok, no_meta}
use Rattle.properties_read.proofs.Lists.{none_apart, blank_given, list_given, path_given, list_opens, path_more, list_closes, lists_proper}
use Rattle.properties_read.proofs.Targets.{targets_proper}
use Rattle.properties_read.proofs.Values.{no_values, value_given, sample_given}
use Rattle.fields_read.proofs.Keys.{metadata_read}
use Rattle.fields_read.specs.Laws.{IsReadFor}

-- what a test lets pass
pub unless_refused : {A : Type 0} (b : Bool) (k : RefusalKind) (a next : A) → ◌≡◌ {A = Result A RefusalKind} (if b then Err k else Ok a) (Ok next) → a ≡ next
unless_refused true k a next h = absurd cc
unless_refused false k a next h = cc

pub if_allowed : {A : Type 0} (b : Bool) (k : RefusalKind) (a next : A) → ◌≡◌ {A = Result A RefusalKind} (if b then Ok a else Err k) (Ok next) → a ≡ next
if_allowed true k a next h = cc
if_allowed false k a next h = absurd cc

-- ---- the name

pub new_sound : (h : Heading) (name : List ℕ) → is_word name ≡ true → IsSoundProperty closed (new_property h name)
new_sound h name word = record { named = word; valued = no_values h.ty; listed = blank_given none_given none_apart; said = no_meta }

joined_sound : (h : Heading) (marks : PropertyMarks) (before : Property) (p : PropertyDraft) → IsRead marks before → joined_to h marks before ≡ Ok p → IsSoundProperty closed p
joined_sound h marks (Attr name ty custom uniform default samples connections meta) p r e =
    let draft : PropertyDraft = record { name = name; edit = h.edit; ty = Some ty; custom = custom || h.custom; uniform = uniform || h.uniform; default = default; samples = samples; paths = connections; meta = meta; marks = marks } in
    let sound : IsSoundProperty closed draft = record { named = r.proper.named; valued = record { defaulted = r.proper.defaulted; times = r.proper.times; sampled = r.proper.sampled }; listed = r.listed; said = r.proper.said } in
    subst (IsSoundProperty closed) (if_allowed (is_attribute_of ty h.ty) DuplicateSpec draft p e) sound
joined_sound h marks (Rel name custom targets meta) p r e =
    let draft : PropertyDraft = record { name = name; edit = h.edit; ty = None; custom = custom || h.custom; uniform = false; default = None; samples = []; paths = targets; meta = meta; marks = marks } in
    let sound : IsSoundProperty closed draft = record { named = r.proper.named; valued = tt; listed = r.listed; said = r.proper.said } in
    subst (IsSoundProperty closed) (unless_refused (is_some h.ty) DuplicateSpec draft p e) sound

pub named_sound : (h : Heading) (name : List ℕ) (marks : PropertyMarks) (before : Option Property) (p : PropertyDraft)
    → is_word name ≡ true → IsReadSoFar marks before → joined h name marks before ≡ Ok p → IsSoundProperty closed p
named_sound h name marks None p word r e = let same : new_property h name ≡ p = cc in subst (IsSoundProperty closed) same (new_sound h name word)
named_sound h name marks (Some before) p word r e = joined_sound h marks before p r e

-- ---- values

pub default_begun_sound : (r : Reading) (p next : PropertyDraft) → IsSoundProperty r p → default_act p ≡ Ok next → IsSoundProperty r next
default_begun_sound r p next s e = subst (IsSoundProperty r) (unless_refused (is_some p.default) DuplicateSpec p next e) s

pub default_sound : (r : Reading) (p : PropertyDraft) (v : Value) → IsSoundProperty r p → IsValueOf p.ty v → IsSoundProperty r (with_default v p)
default_sound r p v s is = record { named = s.named; valued = value_given p.ty p.default p.samples v is s.valued; listed = s.listed; said = s.said }

pub samples_begun_sound : (r : Reading) (p next : PropertyDraft) → IsSoundProperty r p → samples_act p ≡ Ok next → IsSoundProperty r next
samples_begun_sound r p next s e =
    let draft : PropertyDraft = record p { marks = record p.marks { sampled = true } } in
    let sound : IsSoundProperty r draft = record { named = s.named; valued = s.valued; listed = s.listed; said = s.said } in
    subst (IsSoundProperty r) (unless_refused p.marks.sampled DuplicateSpec draft next e) sound

pub sample_sound : (r : Reading) (p : PropertyDraft) (time : ℤ) (v : Value) → IsSoundProperty r p → unsigned_abs time ≤ 10 ^ 30 → IsValueOf p.ty v → IsSoundProperty r (with_sample time v p)
sample_sound r p time v s near is = record { named = s.named; valued = sample_given p.ty p.default p.samples time v near is s.valued; listed = s.listed; said = s.said }

-- ---- lists

-- what a list that is given makes of the draft
pub list_is : (p next : PropertyDraft) → list_act p ≡ Ok next
    → (lists : GivenLists) × ((give p.edit p.marks.lists ≡ Ok lists) × (◌≡◌ {A = PropertyDraft} (record p { paths = open_list p.edit p.paths; marks = record p.marks { lists = lists } }) next))
list_is p next e =
    let given = then_ok (give p.edit p.marks.lists) (λ (lists : GivenLists). Ok (record p { paths = open_list p.edit p.paths; marks = record p.marks { lists = lists } })) next e in
    (given.0, (given.1.0, cc (given.1.1)))

pub list_begun_sound : (p next : PropertyDraft) → IsSoundProperty closed p → list_act p ≡ Ok next → IsSoundProperty begun next
list_begun_sound p next s e =
    let given = list_is p next e in
    let draft : PropertyDraft = record p { paths = open_list p.edit p.paths; marks = record p.marks { lists = given.0 } } in
    let sound : IsSoundProperty begun draft = record { named = s.named; valued = s.valued; listed = list_given p.edit p.marks.lists given.0 p.paths given.1.0 s.listed; said = s.said } in
    subst (IsSoundProperty begun) given.1.1 sound

pub list_none_sound : (p : PropertyDraft) → IsSoundProperty begun p → IsSoundProperty closed p
list_none_sound p s = record { named = s.named; valued = s.valued; listed = s.listed.all; said = s.said }

pub list_opened_sound : (p : PropertyDraft) → IsSoundProperty begun p → IsSoundProperty bracketed p
list_opened_sound p s = record { named = s.named; valued = s.valued; listed = list_opens p.edit p.marks.lists p.paths s.listed; said = s.said }

pub list_closed_sound : (p : PropertyDraft) → IsSoundProperty bracketed p → IsSoundProperty closed (with_list_closed p)
list_closed_sound p s = record { named = s.named; valued = s.valued; listed = list_closes p.edit p.marks.lists p.paths s.listed; said = s.said }

-- what a path makes of the draft
pub path_is : (base : List Element) (token : List ℕ) (p next : PropertyDraft) → path_act base token p ≡ Ok next
    → (path : List Element) × ((target_from base (path_text token) ≡ Some path) × (◌≡◌ {A = PropertyDraft} (record p { paths = push_item p.edit path p.paths }) next))
path_is base token p next e = by (target_from base (path_text token)) refl e
  where
    by : (o : Option (List Element)) → target_from base (path_text token) ≡ o → with_path o p ≡ Ok next
        → (path : List Element) × ((target_from base (path_text token) ≡ Some path) × (◌≡◌ {A = PropertyDraft} (record p { paths = push_item p.edit path p.paths }) next))
    by None t e = absurd cc
    by (Some path) t e = (path, (t, cc e))

-- a path, where it is known what it makes of the lists
path_sound : (r after : Reading) (base : List Element) (token : List ℕ) (p next : PropertyDraft)
    → ((path : List Element) → IsProperTarget path → AreLists after p.edit p.marks.lists (push_item p.edit path p.paths))
    → IsPath base → is_utf8 (path_text token) ≡ true → IsSoundProperty r p → path_act base token p ≡ Ok next → IsSoundProperty after next
path_sound r after base token p next put is u s e =
    let given = path_is base token p next e in
    let draft : PropertyDraft = record p { paths = push_item p.edit given.0 p.paths } in
    let sound : IsSoundProperty after draft = record { named = s.named; valued = s.valued; listed = put given.0 (targets_proper base (path_text token) given.0 is u given.1.0); said = s.said } in
    subst (IsSoundProperty after) given.1.1 sound

pub path_alone_sound : (base : List Element) (token : List ℕ) (p next : PropertyDraft)
    → IsPath base → is_utf8 (path_text token) ≡ true → IsSoundProperty begun p → path_act base token p ≡ Ok next → IsSoundProperty closed next
path_alone_sound base token p next is u s e = path_sound begun closed base token p next (λ path t. path_given p.edit p.marks.lists p.paths path t s.listed) is u s e

pub path_bracketed_sound : (base : List Element) (token : List ℕ) (p next : PropertyDraft)
    → IsPath base → is_utf8 (path_text token) ≡ true → IsSoundProperty bracketed p → path_act base token p ≡ Ok next → IsSoundProperty bracketed next
path_bracketed_sound base token p next is u s e = path_sound bracketed bracketed base token p next (λ path t. path_more p.edit p.marks.lists p.paths path t s.listed) is u s e

-- ---- metadata

-- what other metadata make of the draft
pub meta_is : (p next : PropertyDraft) (act : Result MetaEntries RefusalKind) → and_then act (λ meta. Ok (with_meta meta p)) ≡ Ok next
    → (meta : MetaEntries) × ((act ≡ Ok meta) × (with_meta meta p ≡ next))
meta_is p next act e = let given = then_ok act (λ meta. Ok (with_meta meta p)) next e in (given.0, (given.1.0, cc (given.1.1)))

meta_sound : (r : Reading) (p next : PropertyDraft) (act : Result MetaEntries RefusalKind)
    → ((meta : MetaEntries) → act ≡ Ok meta → IsProperMeta is_any_key meta) → IsSoundProperty r p → and_then act (λ meta. Ok (with_meta meta p)) ≡ Ok next → IsSoundProperty r next
meta_sound r p next act put s e =
    let given = meta_is p next act e in
    let sound : IsSoundProperty r (with_meta given.0 p) = record { named = s.named; valued = s.valued; listed = s.listed; said = put given.0 given.1.0 } in
    subst (IsSoundProperty r) given.1.1 sound

pub commented_sound : (r : Reading) (token : List ℕ) (p next : PropertyDraft) → IsSoundProperty r p → meta_comment_act token p ≡ Ok next → IsSoundProperty r next
commented_sound r token p next s e = meta_sound r p next (comment_act token p.meta) (λ meta h. (metadata_read is_any_key).comment token p.meta meta s.said h) s e

pub keyed_sound : (r : Reading) (key : List ℕ) (v : Value) (p next : PropertyDraft) → IsSoundProperty r p → IsReadFor is_any_key key v → meta_act key v p ≡ Ok next → IsSoundProperty r next
keyed_sound r key v p next s for e = meta_sound r p next (value_act key v p.meta) (λ meta h. (metadata_read is_any_key).value key v p.meta meta s.said for h) s e

-- ---- the property

proper_of : (o : Option TypeName) (p : PropertyDraft) → is_word p.name ≡ true → AreValuesOf o p.default p.samples → AreProperTargets p.paths → IsProperMeta is_any_key p.meta
    → IsProperProperty (property_of_type o p)
proper_of None p word values lists said = record { named = word; related = lists; said = said }
proper_of (Some ty) p word values lists said = record { named = word; defaulted = values.defaulted; times = values.times; sampled = values.sampled; connected = lists; said = said }

pub complete_proper : (p : PropertyDraft) → IsSoundProperty closed p → IsProperProperty (property_of p)
complete_proper p s = proper_of p.ty p s.named s.valued (lists_proper p.marks.lists p.paths s.listed) s.said

pub lists_of_draft : (o : Option TypeName) (p : PropertyDraft) → paths_of (property_of_type o p) ≡ p.paths
lists_of_draft None p = refl
lists_of_draft (Some ty) p = refl

-- what is read is marked
pub complete_read : (p : PropertyDraft) → IsSoundProperty closed p → IsRead p.marks (property_of p)
complete_read p s = record { proper = complete_proper p s; listed = subst (AreGiven p.marks.lists) (sym (lists_of_draft p.ty p)) s.listed }

pub properties_read : ReadPropertiesAreProper
properties_read = record {
  named = named_sound;
  default_begun = default_begun_sound;
  defaulted = default_sound;
  samples_begun = samples_begun_sound;
  sampled = sample_sound;
  list_begun = list_begun_sound;
  list_none = list_none_sound;
  path_alone = path_alone_sound;
  list_opened = list_opened_sound;
  path = path_bracketed_sound;
  list_closed = list_closed_sound;
  commented = commented_sound;
  keyed = keyed_sound;
  complete = complete_proper;
}
