-- The words of a text, from the first to the last.
use Rattle.std.proofs.Common.{◌≡◌, ◌∙◌, ℕ, ◌+◌, Bool, true, false, not, ◌||◌, List, [], ◌∷◌, ◌++◌, length, Some, Ok, ap, sym, refl, subst, arith}
use Rattle.std.specs.List.{IsDistinct}
use Rattle.std.specs.List.Sorted.{IsStrictlySortedBy}
use Rattle.std.proofs.lemmas.Bool.{false_from_ne_true}
use Rattle.sdf_paths.specs.declared.element.Element.{Element}
use Rattle.text_syntax.proofs.Texts.{followed as values}
use Rattle.text_syntax.specs.Open.{IsAwaited}
use Rattle.usda_drafts.specs.Acts.{act}
use Rattle.usda_drafts.specs.Drafts.{blank, layer_by, layer_of, head_from, head_with}
use Rattle.usda_drafts.specs.Owners.{owner_of, spec_of}
use Rattle.usda_drafts.specs.declared.draft.Draft.{Draft}
use Rattle.usda_drafts.specs.declared.owner.Owner.{Owner}
use Rattle.usda_grammar.specs.Machine.{step, is_done}
use Rattle.usda_grammar.specs.Table.{layer}
use Rattle.usda_grammar.specs.declared.symbols.Symbol.{Symbol}
use Rattle.usda_grammar.specs.declared.symbols.Symbol.TheVariants as symbol
use Rattle.usda_productions.specs.Rules.{layer_forms}
use Rattle.usda_productions.specs.Texts.{MakeBy}
use Rattle.usda_statements.specs.OpenValues.{is_open}
use Rattle.usda_statements.specs.PropertyDrafts.{is_in_hand}
use Rattle.usda_values.specs.Drafts.{is_complete_at}
use Rattle.usda_words.specs.Words.{Word, words_of, word_kind}
use Rattle.value_texts.specs.Following.{awaited, IsOfToken}
use Rattle.trees_read.specs.Drafts.{frames, tree_of, frame_of, IsNested, Follows, IsOver}
use Rattle.trees_read.specs.Laws.{IsReadToEnd, TreesAreRead}
use Rattle.trees_read.specs.Stacks.{ends, names, awaits_body}
use Rattle.trees_read.specs.Trees.{IsSound, is_one}
use Rattle.trees_read.proofs.Growing.{proper}
use Rattle.trees_read.proofs.Kept.{kept}
use Rattle.trees_read.proofs.Names.{none_below}
use Rattle.trees_read.proofs.Paths.{one_apart, longer}
use Rattle.trees_read.proofs.Runs.{IsAtEnd, holds_behind}
use Rattle.trees_read.proofs.Stacks.{done_ends, done_end}
use Rattle.trees_read.proofs.Values.{not_done, awaited_must}

-- ---- before the first word

blank_sound : IsSound (tree_of blank)
unfolding blank owner_of IsStrictlySortedBy IsDistinct
blank_sound = record {
  closed = record { ordered = tt; places = tt; variants = tt; once = tt };
  opened = record { chained = refl; new = (refl, tt); frames = (record { indexed = λ name. refl; last_set = refl; variant = tt; once = tt }, tt) };
  owned = record { owned = λ path e h. let bad : true ≡ false = sym h ∙ nothing path e in absurd cc; closed = tt; opened = (none_below root [] (λ e. nothing [] e), tt) };
}
  where
    root : List Element → Bool
    root q = false || (is_one q [] || false)

    nothing : (path : List Element) (e : Element) → root (path ++ e ∷ []) ≡ false
    nothing path e = ap (λ b. false || (b || false)) (one_apart (path ++ e ∷ []) [] (λ same. let l : length (path ++ e ∷ []) ≡ 0 = ap length same in let m : length (path ++ e ∷ []) ≡ length path + 1 = longer path e in absurd (omega arith)))

blank_nested : IsNested layer blank
unfolding blank
blank_nested = record {
  held = refl;
  balanced = (omega arith, (omega arith, tt));
  bodies = refl;
  counted = λ h. refl;
  too_deep = λ h. absurd cc;
  in_hand = λ h. absurd cc;
}

-- ---- at the end

body_not_done : (stack : List Symbol) → awaits_body stack ≡ true → is_done stack ≡ true → ⊥
body_not_done (symbol.MaybePrimMetadata ∷ symbol.OpenBrace ∷ stack) h done = absurd cc
body_not_done _ h done = absurd cc

pub none_left : {A : Type 0} (xs : List A) → length xs ≡ 0 → xs ≡ []
none_left [] h = refl
none_left (x ∷ xs) h = absurd (omega arith)

over : (stack : List Symbol) (d : Draft) → Follows stack d → is_done stack ≡ true → IsOver d
over stack d follows done = record {
  outer = none_left d.outer (let counts : length d.outer + names stack ≡ ends stack = follows.nested.counted not_deep in omega (arith, done_ends stack done));
  property = false_from_ne_true (is_in_hand d.property) (λ h. let bad : true ≡ false = sym (follows.nested.in_hand h) ∙ done_end stack done in absurd cc);
  value = false_from_ne_true (is_open d.value) not_open;
}
  where
    not_deep : d.opening.is_too_deep ≡ false
    not_deep = false_from_ne_true d.opening.is_too_deep (λ h. body_not_done stack (follows.nested.too_deep h) done)

    incomplete : (b : Bool) → not b ≡ true → b ≡ false
    incomplete true e = absurd cc
    incomplete false e = refl

    not_open : is_open d.value ≡ true → ⊥
    not_open h =
        let f : IsAwaited stack d.value.draft = follows.value h in
        let bad : true ≡ false = sym done ∙ ap is_done f.2 ∙ not_done (awaited d.value.draft) f.0 (awaited_must d.value.draft f.1 (incomplete (is_complete_at d.value.draft.place) h)) in
        absurd cc

ends_so : (stack : List Symbol) (d : Draft) → Follows stack d → is_done stack ≡ true → IsReadToEnd d
unfolding layer_of layer_by head_from head_with spec_of
ends_so stack d follows done =
    let o : IsOver d = over stack d follows done in
    record { over = o; proper = proper (layer_of d) (frame_of d.owner) (subst (λ (outer : List Owner). IsSound (record { specs = d.specs; owners = frame_of d.owner ∷ frames outer })) o.outer follows.sound) refl }

kept_all : (stack : List Symbol) (d : Draft) (w : Word) (s : Symbol) (after : List Symbol) (next : Draft) → IsOfToken w → Follows stack d → step stack w.kind ≡ Some (s, after) → act s w d ≡ Ok next → Follows after next
kept_all stack d w s after next word follows took acted = kept stack d w s after next follows (values.kept stack d w s after next word follows.value took acted) took acted

begins_so : Follows layer blank
begins_so = record { value = values.begins; nested = blank_nested; sound = blank_sound }

read_so : (bytes : List ℕ) (d : Draft) → MakeBy word_kind act layer_forms blank (words_of bytes) d → IsReadToEnd d
read_so bytes d made = let e : IsAtEnd Follows d = holds_behind Follows kept_all bytes d begins_so made in ends_so e.stack d e.holds e.done

pub read_trees : TreesAreRead
read_trees = record { begins = begins_so; kept = kept_all; ends = ends_so; read = read_so }
