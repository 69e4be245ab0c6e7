-- Prims, variant sets and variants begin and end: the tree stays sound.
use Rattle.std.proofs.Common.{◌≡◌, ◌∙◌, ℕ, ◌+◌, ◌<◌, Bool, true, false, ◌&&◌, ◌||◌, List, [], ◌∷◌, ◌++◌, length, length-append, Option, Some, None, is_some, Result, Ok, Err, ap, sym, refl, subst, arith}
use Rattle.std.specs.Prelude.{if◌then◌else◌}
use Rattle.std.specs.Cmp.Lexicographic.{texts_ties}
use Rattle.std.specs.Str.{is_utf8}
use Rattle.std.proofs.lemmas.Str.{chars-nil}
use Rattle.std.proofs.lemmas.Map.Lookups.{exact_bytes}
use Rattle.plain_data.specs.Ends.{last, front, last-push}
use Rattle.sdf_paths.specs.Order.{text_cmp}
use Rattle.sdf_paths.specs.Paths.{IsPath}
use Rattle.sdf_paths.specs.declared.element.Element.{Element}
use Rattle.sdf_paths.specs.declared.element.Element.TheVariants.{Prim, Selection}
use Rattle.sdf_specs.specs.Layers.{SpecEntries}
use Rattle.sdf_values.specs.declared.refusal.RefusalKind.{RefusalKind}
use Rattle.sdf_values.specs.declared.refusal.RefusalKind.TheVariants.{DuplicateSpec, Syntax}
use Rattle.spec_parts.specs.declared.items.Specifier.{Specifier}
use Rattle.spec_parts.specs.declared.items.Specifier.TheVariants.{Over}
use Rattle.spec_parts.specs.declared.items.VariantSet.{VariantSet}
use Rattle.spec_properties.specs.Properties.{same_name, blank_relationship, with_property as property_placed}
use Rattle.spec_tables.specs.Tables.{at_key, with_key}
use Rattle.usd_names.specs.Names.{is_identifier, spells_identifier}
use Rattle.usda_drafts.specs.Bodies.{name_act, with_name}
use Rattle.usda_drafts.specs.Closed.{is_closed, with_spec_at}
use Rattle.usda_drafts.specs.Owners.{owner_of, spec_of, with_child, has_set, with_set, and_variant, with_variant, with_place, property_for}
use Rattle.usda_drafts.specs.Places.{prim_place, variant_place}
use Rattle.usda_drafts.specs.Prims.{entered, prim_at, with_prim, entered_prim, named_prim, prim_name_act, begun_set, set_name_act, with_variant_at, entered_variant, named_variant, variant_name_act, with_statement_over, left_for, left, body_end_act}
use Rattle.usda_drafts.specs.Refusals.{then_with, placed}
use Rattle.usda_drafts.specs.declared.draft.Draft.{Draft}
use Rattle.usda_drafts.specs.declared.owner.Owner.{Owner}
use Rattle.usda_fields.specs.Names.{if_named, identifier_of, variant_of}
use Rattle.usda_lexer.specs.Meanings.{string_text}
use Rattle.usda_lists.specs.Acts.{and_then}
use Rattle.usda_statements.specs.PropertyDrafts.{is_in_hand}
use Rattle.usda_statements.specs.declared.property.PropertyDraft.{PropertyDraft}
use Rattle.usda_words.specs.Words.{Word}
use Rattle.value_texts.proofs.EachOf.{all_so}
use Rattle.trees_read.specs.Drafts.{frame_of, frames, tree_of}
use Rattle.trees_read.specs.Names.{is_among, set_names, AreBelow, IsVariantOf}
use Rattle.trees_read.specs.Trees.{has_spec, Frame, is_open_at, stands, AreChained, IsLastSet, IsFrame, IsSound}
use Rattle.trees_read.proofs.Acts.{Keeps, over_keeps}
use Rattle.trees_read.proofs.Fields.{IfMade, and_made}
use Rattle.trees_read.proofs.Growing.{none_open, shorter, renamed, new_frame, changed, properties_changed, grown, begun, ended}
use Rattle.trees_read.proofs.Names.{child_more, variant_more, set_more}
use Rattle.trees_read.proofs.Paths.{longer, some_with}
use Rattle.trees_read.proofs.Places.{IsPrimPlace, prim_placed, IsVariantPlace, variant_placed}
use Rattle.trees_read.proofs.Properties.{with_once}

-- ---- owners in their order

pub frames_push : (outer : List Owner) (o : Owner) → frames (outer ++ o ∷ []) ≡ frame_of o ∷ frames outer
frames_push [] o = refl
frames_push (x ∷ outer) o = ap (λ (fs : List Frame). fs ++ frame_of x ∷ []) (frames_push outer o)

last_split : {A : Type 0} (xs : List A) (x : A) → last xs ≡ Some x → xs ≡ front xs ++ x ∷ []
last_split [] x h = absurd cc
last_split {A} (y ∷ []) x h = let same : y ≡ x = cc in ap (λ (z : A). let l : List A = z ∷ [] in l) same
last_split {A} (y ∷ z ∷ xs) x h = ap (λ (l : List A). y ∷ l) (last_split (z ∷ xs) x h)

last_none : {A : Type 0} (xs : List A) → last xs ≡ None → xs ≡ []
last_none [] h = refl
last_none (x ∷ []) h = absurd cc
last_none (x ∷ y ∷ xs) h = let bad : y ∷ xs ≡ [] = last_none (y ∷ xs) h in absurd cc

-- the path of the innermost owner is a path
root_path : IsPath []
root_path = record { well_formed = record { ordered = refl; named = refl; few = omega arith }; short = omega arith }

owner_path : (o : Frame) (rest : List Frame) → AreChained (o ∷ rest) → IsPath o.path
owner_path o [] h = subst IsPath (sym h) root_path
owner_path o (p ∷ rest) h = h.1.within

-- nothing that is open stands below the innermost owner
free_below : (specs : SpecEntries) (o : Frame) (rest : List Frame) (e : Element) → AreChained (o ∷ rest) → has_spec specs (o.path ++ e ∷ []) ≡ false → stands (record { specs = specs; owners = o ∷ rest }) (o.path ++ e ∷ []) ≡ false
free_below specs o rest e h none =
    let more : length (o.path ++ e ∷ []) ≡ length o.path + 1 = longer o.path e in
    ap (λ b. b || is_open_at (o ∷ rest) (o.path ++ e ∷ [])) none
    ∙ none_open (o ∷ rest) (o.path ++ e ∷ []) (omega arith, all_so (λ r. length r.path < length o.path) (λ r. length r.path < length (o.path ++ e ∷ [])) (λ r l. omega arith) rest (shorter o rest h))

-- ---- what an act makes

-- as many owners more are open, and the tree stays sound
pub record Grown (n : ℕ) (d next : Draft) : Type 0 where
  pub sound : IsSound (tree_of d) → IsSound (tree_of next)
  pub counted : next.opening.is_too_deep ≡ false → length next.outer ≡ length d.outer + n
  pub hand : is_in_hand next.property ≡ true → is_in_hand d.property ≡ true

-- and the prim that begins is no deeper
pub record GrownAlike (n : ℕ) (d next : Draft) : Type 0 where
  pub grown : Grown n d next
  pub deep : next.opening.is_too_deep ≡ true → d.opening.is_too_deep ≡ true

-- ---- prims

prim_sound : (name : List ℕ) (path : List Element) (d : Draft) → prim_place d.owner.said.path name ≡ Ok (Some path) → is_closed path d.specs ≡ false → IsSound (tree_of d) → IsSound (tree_of (with_prim name path d))
unfolding prim_place is_closed with_prim entered with_child prim_at owner_of
prim_sound name path d made new sound =
    let o : Frame = frame_of d.owner in
    let at : IsPrimPlace o.path name path = prim_placed o.path name path (owner_path o (frames d.outer) sound.opened.chained) made in
    let free : stands (tree_of d) (o.path ++ Prim name ∷ []) ≡ false =
    free_below d.specs o (frames d.outer) (Prim name) sound.opened.chained (subst (λ p. has_spec d.specs p ≡ false) at.is new) in
    let specifier : Specifier = d.opening.specifier in
    let more : IsSound (record { specs = d.specs; owners = new_frame (o.path ++ Prim name ∷ []) specifier d.opening.type_name ∷ renamed o (o.children ++ name ∷ []) o.sets o.set_names o.set ∷ frames d.outer }) =
    begun d.specs o (frames d.outer) (o.children ++ name ∷ []) o.sets (Prim name) specifier d.opening.type_name sound free at.place
    (record { indexed = sound.opened.frames.0.indexed; last_set = sound.opened.frames.0.last_set; variant = sound.opened.frames.0.variant; once = sound.opened.frames.0.once })
    (subst (λ l. IsVariantOf l specifier d.opening.type_name) (sym (last-push o.path (Prim name))) tt)
    (child_more (stands (tree_of d)) (stands (record { specs = d.specs; owners = new_frame (o.path ++ Prim name ∷ []) specifier d.opening.type_name ∷ renamed o (o.children ++ name ∷ []) o.sets o.set_names o.set ∷ frames d.outer })) o.path (Prim name) free
    (grown d.specs o (frames d.outer) (o.children ++ name ∷ []) o.sets (Prim name) specifier d.opening.type_name) name refl o.children o.sets sound.owned.opened.0) in
    subst (λ (fs : List Frame). IsSound (record { specs = d.specs; owners = new_frame path specifier d.opening.type_name ∷ fs })) (sym (frames_push d.outer (record d.owner { children = d.owner.children ++ name ∷ [] })))
    (subst (λ (p : List Element). IsSound (record { specs = d.specs; owners = new_frame p specifier d.opening.type_name ∷ renamed o (o.children ++ name ∷ []) o.sets o.set_names o.set ∷ frames d.outer })) (sym at.is) more)

prim_grown : (name : List ℕ) (path : List Element) (d : Draft) → prim_place d.owner.said.path name ≡ Ok (Some path) → is_closed path d.specs ≡ false → Grown 1 d (with_prim name path d)
unfolding with_prim entered
prim_grown name path d made new = record { sound = prim_sound name path d made new; counted = λ h. length-append d.outer (with_child name d.owner ∷ []); hand = λ h. h }

named_grown : (name : List ℕ) (d : Draft) → IfMade (Grown 1 d) (named_prim name d)
unfolding named_prim entered_prim
named_grown name d = by (prim_place d.owner.said.path name) refl
  where
    by_closed : (path : List Element) → prim_place d.owner.said.path name ≡ Ok (Some path) → (b : Bool) → is_closed path d.specs ≡ b → IfMade (Grown 1 d) (if b then Err DuplicateSpec else Ok (with_prim name path d))
    by_closed path made true new = tt
    by_closed path made false new = prim_grown name path d made new

    by : (r : Result (Option (List Element)) RefusalKind) → prim_place d.owner.said.path name ≡ r → IfMade (Grown 1 d) (and_then r (λ path. entered_prim name path d))
    by (Ok None) made = record { sound = λ s. s; counted = λ h. absurd cc; hand = λ h. h }
    by (Ok (Some path)) made = by_closed path made (is_closed path d.specs) refl
    by (Err k) made = tt

pub prim_name_grown : (token : List ℕ) (d : Draft) → IfMade (Grown 1 d) (prim_name_act token d)
unfolding prim_name_act
prim_name_grown token d = and_made (Grown 1 d) (identifier_of token) (λ name. named_prim name d) (λ name. named_grown name d)

-- ---- variants

no_identifier : is_identifier [] ≡ false
unfolding is_identifier
no_identifier = ap (λ cs. is_utf8 [] && spells_identifier cs) chars-nil ∙ none (is_utf8 [])
  where
    none : (b : Bool) → (b && false) ≡ false
    none true = refl
    none false = refl

-- the table of the names of sets, and the last set, of sets that are named alike
variant_frame : (o : Frame) (sets : List VariantSet) (s more : VariantSet) → o.sets ≡ sets ++ s ∷ [] → more.set ≡ s.set → IsFrame o → IsFrame (renamed o o.children (sets ++ more ∷ []) o.set_names o.set)
variant_frame o sets s more is alike h = record {
  indexed = λ name. h.indexed name ∙ ap (λ l. is_among name (set_names l)) is ∙ ap (is_among name) (names_alike sets);
  last_set = subst (λ l. IsLastSet o.set l) (sym (last-push sets more)) (alike ∙ subst (λ l. IsLastSet o.set l) (ap last is ∙ last-push sets s) h.last_set);
  variant = h.variant;
  once = h.once;
}
  where
    names_alike : (ts : List VariantSet) → set_names (ts ++ s ∷ []) ≡ set_names (ts ++ more ∷ [])
    names_alike [] = ap (λ (n : List ℕ). let l : List (List ℕ) = n ∷ [] in l) (sym alike)
    names_alike (t ∷ ts) = ap (λ (l : List (List ℕ)). t.set ∷ l) (names_alike ts)

variant_sound : (name : List ℕ) (path : List Element) (d : Draft) → variant_place d.owner.said.path d.owner.set name ≡ Ok path → is_closed path d.specs ≡ false → IsSound (tree_of d) → IsSound (tree_of (with_variant_at name path d))
unfolding variant_place is_closed with_variant_at entered with_variant owner_of
variant_sound name path d made new sound = by (last d.owner.sets) refl sound.opened.frames.0.last_set
  where
    o : Frame
    o = frame_of d.owner

    at : IsVariantPlace o.path o.set name path
    at = variant_placed o.path o.set name path (owner_path o (frames d.outer) sound.opened.chained) made

    by : (l : Option VariantSet) → last d.owner.sets ≡ l → IsLastSet d.owner.set l → IsSound (tree_of (record d { outer = d.outer ++ record d.owner { sets = and_variant name l d.owner.sets } ∷ []; owner = owner_of path Over None }))
    by None is none = absurd (let good : is_identifier d.owner.set ≡ true = at.set_named in let bad : true ≡ false = sym (subst (λ n. is_identifier n ≡ true) none good) ∙ no_identifier in cc)
    by (Some s) is one =
        let sets : List VariantSet = front d.owner.sets in
        let split : d.owner.sets ≡ sets ++ s ∷ [] = last_split d.owner.sets s is in
        let more : VariantSet = record s { variants = s.variants ++ name ∷ [] } in
        let e : Element = Selection o.set name in
        let free : stands (tree_of d) (o.path ++ e ∷ []) ≡ false = free_below d.specs o (frames d.outer) e sound.opened.chained (subst (λ p. has_spec d.specs p ≡ false) at.is new) in
        let grows : IsSound (record { specs = d.specs; owners = new_frame (o.path ++ e ∷ []) Over None ∷ renamed o o.children (sets ++ more ∷ []) o.set_names o.set ∷ frames d.outer }) =
        begun d.specs o (frames d.outer) o.children (sets ++ more ∷ []) e Over None sound free at.place (variant_frame o sets s more split refl sound.opened.frames.0)
        (subst (λ l. IsVariantOf l Over None) (sym (last-push o.path e)) (refl, refl))
        (variant_more (stands (tree_of d)) (stands (record { specs = d.specs; owners = new_frame (o.path ++ e ∷ []) Over None ∷ renamed o o.children (sets ++ more ∷ []) o.set_names o.set ∷ frames d.outer })) o.path e free
        (grown d.specs o (frames d.outer) o.children (sets ++ more ∷ []) e Over None) name o.children sets s (ap (λ n. Selection n name) (sym one)) (subst (λ l. AreBelow (stands (tree_of d)) o.path o.children l) split sound.owned.opened.0)) in
        subst (λ (fs : List Frame). IsSound (record { specs = d.specs; owners = new_frame path Over None ∷ fs })) (sym (frames_push d.outer (record d.owner { sets = sets ++ more ∷ [] })))
        (subst (λ (p : List Element). IsSound (record { specs = d.specs; owners = new_frame p Over None ∷ renamed o o.children (sets ++ more ∷ []) o.set_names o.set ∷ frames d.outer })) (sym at.is) grows)

variant_grown : (name : List ℕ) (path : List Element) (d : Draft) → variant_place d.owner.said.path d.owner.set name ≡ Ok path → is_closed path d.specs ≡ false → GrownAlike 1 d (with_variant_at name path d)
unfolding with_variant_at entered
variant_grown name path d made new = record {
  grown = record { sound = variant_sound name path d made new; counted = λ h. length-append d.outer (with_variant name d.owner ∷ []); hand = λ h. h };
  deep = λ h. h;
}

named_variant_grown : (name : List ℕ) (d : Draft) → IfMade (GrownAlike 1 d) (named_variant name d)
unfolding named_variant entered_variant
named_variant_grown name d = by (variant_place d.owner.said.path d.owner.set name) refl
  where
    by_closed : (path : List Element) → variant_place d.owner.said.path d.owner.set name ≡ Ok path → (b : Bool) → is_closed path d.specs ≡ b → IfMade (GrownAlike 1 d) (if b then Err DuplicateSpec else Ok (with_variant_at name path d))
    by_closed path made true new = tt
    by_closed path made false new = variant_grown name path d made new

    by : (r : Result (List Element) RefusalKind) → variant_place d.owner.said.path d.owner.set name ≡ r → IfMade (GrownAlike 1 d) (and_then r (λ path. entered_variant name path d))
    by (Ok path) made = by_closed path made (is_closed path d.specs) refl
    by (Err k) made = tt

pub variant_name_grown : (token : List ℕ) (d : Draft) → IfMade (GrownAlike 1 d) (variant_name_act token d)
unfolding variant_name_act
variant_name_grown token d = and_made (GrownAlike 1 d) (variant_of token) (λ name. named_variant name d) (λ name. named_variant_grown name d)

-- ---- variant sets

names_push : (name : List ℕ) (s : VariantSet) (sets : List VariantSet) → is_among name (set_names (sets ++ s ∷ [])) ≡ (same_name name s.set || is_among name (set_names sets))
names_push name s [] = refl
names_push name s (t ∷ sets) = ap (λ b. same_name name t.set || b) (names_push name s sets) ∙ turned (same_name name t.set) (same_name name s.set) (is_among name (set_names sets))
  where
    turned : (a b c : Bool) → (a || (b || c)) ≡ (b || (a || c))
    turned true true c = refl
    turned true false c = refl
    turned false b c = refl

set_frame : (name : List ℕ) (o : Frame) → IsFrame o → IsFrame (renamed o o.children (o.sets ++ record { set = name; variants = [] } ∷ []) (with_key text_cmp name true o.set_names) name)
set_frame name o h = record {
  indexed = λ n.
      some_with text_cmp exact_bytes n name true o.set_names ∙ ap (λ b. b || is_some (at_key text_cmp n o.set_names)) (sym (texts_ties n name)) ∙ ap (λ b. same_name n name || b) (h.indexed n)
      ∙ sym (names_push n (record { set = name; variants = [] }) o.sets);
  last_set = subst (λ l. IsLastSet name l) (sym (last-push o.sets (record { set = name; variants = [] }))) refl;
  variant = h.variant;
  once = h.once;
}

set_sound : (name : List ℕ) (d : Draft) → is_identifier name ≡ true → has_set name d.owner ≡ false → IsSound (tree_of d) → IsSound (tree_of (record d { owner = with_set name d.owner }))
unfolding has_set with_set
set_sound name d good new sound =
    let o : Frame = frame_of d.owner in
    changed d.specs o (frames d.outer) o.children (o.sets ++ record { set = name; variants = [] } ∷ []) (with_key text_cmp name true o.set_names) name sound (set_frame name o sound.opened.frames.0)
    (set_more (stands (tree_of d)) o.path name o.children o.sets good (sym (sound.opened.frames.0.indexed name) ∙ new) sound.owned.opened.0)

begun_set_grown : (name : List ℕ) (d : Draft) → is_identifier name ≡ true → IfMade (GrownAlike 0 d) (begun_set name d)
unfolding begun_set
begun_set_grown name d good = by (has_set name d.owner) refl
  where
    by : (b : Bool) → has_set name d.owner ≡ b → IfMade (GrownAlike 0 d) (if b then Err DuplicateSpec else Ok (record d { owner = with_set name d.owner }))
    by true new = tt
    by false new = record { grown = record { sound = set_sound name d good new; counted = λ h. omega arith; hand = λ h. h }; deep = λ h. h }

named_well : (is_named : List ℕ → Bool) (text : Option (List ℕ)) → IfMade (λ name. is_named name ≡ true) (if_named is_named text)
named_well is_named None = tt
named_well is_named (Some name) = by (is_named name) refl
  where
    by : (b : Bool) → is_named name ≡ b → IfMade {E = RefusalKind} (λ n. is_named n ≡ true) (if b then Ok name else Err Syntax)
    by true h = h
    by false h = tt

and_known : {A B : Type 0} (Q : A → Type 0) (P : B → Type 0) (r : Result A RefusalKind) (more : A → Result B RefusalKind) → IfMade Q r → ((a : A) → Q a → IfMade P (more a)) → IfMade P (and_then r more)
and_known Q P (Ok a) more q h = h a q
and_known Q P (Err k) more q h = tt

pub set_name_grown : (token : List ℕ) (d : Draft) → IfMade (GrownAlike 0 d) (set_name_act token d)
unfolding set_name_act
set_name_grown token d = and_known (λ name. is_identifier name ≡ true) (GrownAlike 0 d) (identifier_of token) (λ name. begun_set name d) (named_well is_identifier (string_text token)) (λ name good. begun_set_grown name d good)

-- ---- the name of a property

pub record Named (d next : Draft) : Type 0 where
  pub outer : length next.outer ≡ length d.outer
  pub sound : IsSound (tree_of d) → IsSound (tree_of next)
  pub deep : next.opening.is_too_deep ≡ true → d.opening.is_too_deep ≡ true

pub name_kept : (w : Word) (d : Draft) → IfMade (Named d) (name_act w d)
unfolding name_act with_place
name_kept w d = by (property_for d.heading w.text d.owner)
  where
    by : (r : Result PropertyDraft RefusalKind) → IfMade (Named d) (then_with w.start r (with_name w.text w.start d))
    by (Ok p) = record {
      outer = refl;
      sound = λ s. properties_changed d.specs (frame_of d.owner) (frames d.outer) (property_placed (blank_relationship w.text) d.owner.properties) s (with_once (blank_relationship w.text) d.owner.properties s.opened.frames.0.once);
      deep = λ h. h;
    }
    by (Err k) = tt

-- ---- the end of a prim or a variant

-- one owner less is open, and no property is in hand
pub record Closed (d next : Draft) : Type 0 where
  pub sound : IsSound (tree_of d) → IsSound (tree_of next)
  pub counted : ◌<◌ 0 (length d.outer) → length next.outer + 1 ≡ length d.outer
  pub hand : is_in_hand next.property ≡ false
  pub deep : next.opening.is_too_deep ≡ true → d.opening.is_too_deep ≡ true

left_closed : (d : Draft) → is_in_hand d.property ≡ false → Closed d (left d)
unfolding left with_spec_at spec_of
left_closed d over = by (last d.outer) refl
  where
    by : (l : Option Owner) → last d.outer ≡ l → Closed d (left_for l d)
    by None is =
        let none : d.outer ≡ [] = last_none d.outer is in
        record {
          sound = λ s. subst (λ (outer : List Owner). IsSound (record { specs = d.specs; owners = frame_of d.owner ∷ frames outer })) (none ∙ sym (ap front none)) s;
          counted = λ some. let n : length d.outer ≡ 0 = ap length none in absurd (omega arith);
          hand = over;
          deep = λ h. h;
        }
    by (Some p) is =
        let split : d.outer ≡ front d.outer ++ p ∷ [] = last_split d.outer p is in
        record {
          sound = λ s.
              let more : IsSound (record { specs = d.specs; owners = frame_of d.owner ∷ frame_of p ∷ frames (front d.outer) }) =
              subst (λ (fs : List Frame). IsSound (record { specs = d.specs; owners = frame_of d.owner ∷ fs })) (ap frames split ∙ frames_push (front d.outer) p) s in
              ended d.specs (frame_of d.owner) (frame_of p) (frames (front d.outer)) (spec_of d.owner) more refl refl refl refl refl;
          counted = λ some. omega (arith, ap length split, length-append (front d.outer) (p ∷ []));
          hand = over;
          deep = λ h. h;
        }

over_hand : (d : Draft) → is_in_hand (with_statement_over d).property ≡ false
unfolding with_statement_over
over_hand d = refl

over_outer : (d : Draft) → (with_statement_over d).outer ≡ d.outer
unfolding with_statement_over
over_outer d = refl

pub body_end_closed : (d : Draft) → IfMade (Closed d) (body_end_act d)
unfolding body_end_act
body_end_closed d =
    let k : Keeps d (with_statement_over d) = over_keeps d in
    let c : Closed (with_statement_over d) (left (with_statement_over d)) = left_closed (with_statement_over d) (over_hand d) in
    record {
      sound = λ s. c.sound (k.sound s);
      counted = λ some. subst (λ (outer : List Owner). ◌<◌ 0 (length outer) → length (left (with_statement_over d)).outer + 1 ≡ length outer) (over_outer d) c.counted some;
      hand = c.hand;
      deep = λ h. k.deep (c.deep h);
    }

-- ---- where a refusal stands at a byte

pub placed_made : (P : Draft → Type 0) (at : ℕ) (r : Result Draft RefusalKind) → IfMade P r → IfMade P (placed at r)
placed_made P at (Ok d) h = h
placed_made P at (Err k) h = tt
