-- The list of connections or targets of the property in hand.
use Rattle.std.proofs.Common.{◌≡◌, ◌∙◌, ℕ, List, [], ◌∷◌, ◌++◌, Some, Ok, ap, refl, subst}
use Rattle.std.specs.Prelude.{codes}
use Rattle.list_ops.specs.ListEdits.{firsts}
use Rattle.sdf_paths.specs.declared.element.Element.{Element}
use Rattle.usda_grammar.specs.Machine.{step}
use Rattle.usda_grammar.specs.declared.symbols.Symbol.{Symbol}
use Rattle.usda_grammar.specs.declared.symbols.Symbol.TheVariants as symbol
use Rattle.usda_lists.specs.Acts.{and_then}
use Rattle.usda_lists.specs.Edits.{give}
use Rattle.usda_lists.specs.Lists.{with_list, open_list, push_item}
use Rattle.usda_lists.specs.References.{same_path}
use Rattle.usda_lists.specs.declared.edit.GivenLists.{GivenLists}
use Rattle.usda_statements.specs.PropertyDrafts.{list_act, path_act, with_path, with_list_closed}
use Rattle.usda_statements.specs.declared.property.PropertyDraft.{PropertyDraft}
use Rattle.usda_words.specs.Words.{Word}
use Rattle.usda_writer.specs.Texts.{path_text as path_token}
use Rattle.usda_drafts.specs.Acts.{bodies_act, prims_act, layers_act}
use Rattle.usda_drafts.specs.Bodies.{list_begun, tail_act, dot_act}
use Rattle.usda_drafts.specs.Lists.{in_list_act, list_path_act, end_act}
use Rattle.usda_drafts.specs.Refusals.{then_with}
use Rattle.usda_drafts.specs.Values.{with_property}
use Rattle.usda_drafts.specs.declared.draft.Draft.{Draft}
use Rattle.usda_drafts.specs.declared.draft.OpenList.TheVariants as open_list_of
use Rattle.value_texts.specs.ValueWords.{name_said, path_said, comma, open_bracket, close_bracket, equals, dot}
use Rattle.value_texts.specs.Words.{as_word}
use Rattle.layer_texts.specs.ListWords.{path_words, bracketed_words, explicit_words}
use Rattle.layer_reads.specs.Lists.{IsListRead}
use Rattle.layer_reads.specs.Taking.{AreTaken}
use Rattle.layer_reads.proofs.Lists.{bracketed_taken}
use Rattle.layer_reads.proofs.Taking.{together, above}
use Rattle.layer_reads.proofs.FieldLists.{list_again, list_back}
use Rattle.layer_reads.specs.Kept.{AreKept}
use Rattle.layer_reads.specs.Standing.{Standing}
use Rattle.layer_reads.proofs.EditedLists.{equals_taken}
use Rattle.layer_reads.proofs.Words.{saying_word, word_taken, last_word}
use Rattle.layer_reads.specs.Properties.{Marks, InHand, IsTargetHere}
use Rattle.layer_reads.proofs.Headings.{Back}

module _ (name : List ℕ) (at : Standing) (marks : Marks) (p : PropertyDraft) (n : GivenLists) (given : give p.edit p.marks.lists ≡ Ok n) where
  -- the property with these items in the list of the statement
  abbrev pub With : List (List Element) → PropertyDraft
  With items = record p { paths = with_list p.edit items p.paths; marks = record p.marks { lists = n } }

  abbrev Has : List (List Element) → Draft → Type 0
  Has items d = (d.list ≡ open_list_of.Property) × InHand name at marks (With items) d

  begun : (d : Draft) → InHand name at marks p d → (next : Draft) × Has [] next × (list_begun d ≡ Ok next)
  unfolding list_begun
  begun d h = (
    record (with_property d (With [])) { list = open_list_of.Property },
    (refl, record { stands = h.stands; hand = refl; shut = h.shut; shallow = h.shallow }),
    ap (λ q. then_with d.name_at (list_act q) (λ q. record (with_property d q) { list = open_list_of.Property })) h.hand
        ∙ ap (λ r. then_with d.name_at (and_then r (λ lists. Ok (record p { paths = open_list p.edit p.paths; marks = record p.marks { lists = lists } }))) (λ q. record (with_property d q) { list = open_list_of.Property })) given,
  )

  pushed : (done : List (List Element)) (x : List Element) → record (With done) { paths = push_item p.edit x (With done).paths } ≡ With (done ++ x ∷ [])
  pushed done x =
      ap (λ l. record (With done) { paths = with_list p.edit (l ++ x ∷ []) (with_list p.edit done p.paths) }) (list_back p.edit done p.paths)
      ∙ ap (λ o. record (With done) { paths = o }) (list_again p.edit done (done ++ x ∷ []) p.paths)

  closed : (done : List (List Element)) → with_list_closed (With done) ≡ With (firsts same_path done)
  closed done =
      ap (λ l. record (With done) { paths = with_list p.edit (firsts same_path l) (with_list p.edit done p.paths) }) (list_back p.edit done p.paths)
      ∙ ap (λ o. record (With done) { paths = o }) (list_again p.edit done (firsts same_path done) p.paths)

  path_acts : (w : Word) (d : Draft) (done : List (List Element)) (x : List Element) → IsTargetHere at.owner.said.base x → Has done d
      → in_list_act (as_word (path_said (path_token x))).kind (saying_word (path_said (path_token x)) w) d ≡ Ok (with_property d (With (done ++ x ∷ [])))
  unfolding in_list_act list_path_act
  path_acts w d done x good h =
      ap (λ l. list_path_act l (saying_word (path_said (path_token x)) w) d) h.0
      ∙ ap (λ (s : Standing). then_with w.start (path_act s.owner.said.base (path_token x) d.property) (with_property d)) (h.1).stands
      ∙ ap (λ o. then_with w.start (with_path o d.property) (with_property d)) good
      ∙ ap (λ q. Ok (with_property d (record q { paths = push_item q.edit x q.paths }))) (h.1).hand
      ∙ ap (λ q. Ok (with_property d q)) (pushed done x)

  end_acts : (w : Word) (d : Draft) (done : List (List Element)) → Has done d → in_list_act (as_word close_bracket).kind (saying_word close_bracket w) d ≡ Ok (with_property d (With (firsts same_path done)))
  unfolding in_list_act end_act
  end_acts w d done h =
      ap (λ l. end_act l d) h.0 ∙ ap (λ q. Ok (with_property d (with_list_closed q))) (h.1).hand ∙ ap (λ q. Ok (with_property d q)) (closed done)

  paths_read : IsListRead path_words (IsTargetHere at.owner.said.base) symbol.PathList symbol.PathsOrEnd (λ x. symbol.MorePaths ∷ []) (Has []) Has (λ done. InHand name at marks (With (firsts same_path done)))
  unfolding bodies_act prims_act in_list_act
  paths_read = record {
    opens = λ d h. last_word (symbol.PathList ∷ []) (symbol.PathsOrEnd ∷ []) symbol.PathList d d open_bracket (Has []) h.1.shut (λ below. refl) (λ w. refl) h;
    item = λ done x d good h.
        word_taken (symbol.PathsOrEnd ∷ []) (symbol.MorePaths ∷ []) symbol.PathsOrEnd d (path_said (path_token x)) (Has (done ++ x ∷ [])) h.1.shut (λ below. refl)
        (λ w. (
          with_property d (With (done ++ x ∷ [])),
          (h.0, record { stands = h.1.stands; hand = refl; shut = h.1.shut; shallow = h.1.shallow }),
          path_acts w d done x good h,
        ));
    parts = λ done x d h. last_word (symbol.MorePaths ∷ []) (symbol.PathsOrEnd ∷ []) symbol.MorePaths d d comma (Has done) h.1.shut (λ below. refl) (λ w. refl) h;
    ends = λ done x d h.
        word_taken (symbol.MorePaths ∷ []) [] symbol.MorePaths d close_bracket (InHand name at marks (With (firsts same_path done))) h.1.shut (λ below. refl)
        (λ w. (
          with_property d (With (firsts same_path done)),
          record { stands = h.1.stands; hand = refl; shut = h.1.shut; shallow = h.1.shallow },
          end_acts w d done h,
        ));
  }

  -- the list, `None` where it is empty
  pub list_taken : (xs : List (List Element)) (to : List Symbol) (d : Draft) → AreKept same_path (IsTargetHere at.owner.said.base) xs → Has [] d
      → AreTaken (symbol.PathList ∷ to) d (explicit_words path_words xs) to (InHand name at marks (With xs))
  unfolding bodies_act prims_act in_list_act
  list_taken [] to d kept h = last_word (symbol.PathList ∷ to) to symbol.PathList d d (name_said (codes "None")) (InHand name at marks (With [])) h.1.shut (λ below. refl) (λ w. refl) h.1
  list_taken (x ∷ xs) to d kept h =
      above (symbol.PathList ∷ []) [] to d (bracketed_words path_words (x ∷ xs)) (InHand name at marks (With (x ∷ xs)))
      (subst (λ l. AreTaken (symbol.PathList ∷ []) d (bracketed_words path_words (x ∷ xs)) [] (InHand name at marks (With l))) kept.once
      (bracketed_taken path_words (IsTargetHere at.owner.said.base) symbol.PathList symbol.PathsOrEnd (λ x. symbol.MorePaths ∷ []) (Has []) Has (λ done. InHand name at marks (With (firsts same_path done))) paths_read x xs d kept.each h))

  -- `=` and the list, behind the name of a relationship
  pub targets_taken : (xs : List (List Element)) (to : List Symbol) (d : Draft) → AreKept same_path (IsTargetHere at.owner.said.base) xs → InHand name at marks p d
      → AreTaken (symbol.MaybeTargets ∷ to) d (equals ∷ explicit_words path_words xs) to (InHand name at marks (With xs))
  unfolding bodies_act
  targets_taken xs to d kept h =
      together (symbol.MaybeTargets ∷ to) (symbol.PathList ∷ to) to d (equals ∷ []) (explicit_words path_words xs) (Has []) (InHand name at marks (With xs))
      (word_taken (symbol.MaybeTargets ∷ to) (symbol.PathList ∷ to) symbol.MaybeTargets d equals (Has []) h.shut (λ below. refl) (λ w. begun d h)) (λ e k. list_taken xs to e kept k)

  -- `.connect`, `=` and the list, behind the name of an attribute

  connect_then : (s : Symbol) (xs : List (List Element)) (to : List Symbol) (d : Draft) → ((below : List Symbol) → step (s ∷ below) (as_word (name_said (codes "connect"))).kind ≡ Some (s, symbol.Equals ∷ symbol.PathList ∷ below))
      → ((w : Word) (d : Draft) → bodies_act s (saying_word (name_said (codes "connect")) w) d ≡ list_begun d) → AreKept same_path (IsTargetHere at.owner.said.base) xs → InHand name at marks p d
      → AreTaken (s ∷ to) d (name_said (codes "connect") ∷ equals ∷ explicit_words path_words xs) to (InHand name at marks (With xs))
  connect_then s xs to d goes acts kept h =
      together (s ∷ to) (symbol.Equals ∷ symbol.PathList ∷ to) to d (name_said (codes "connect") ∷ []) (equals ∷ explicit_words path_words xs) (Has []) (InHand name at marks (With xs))
      (word_taken (s ∷ to) (symbol.Equals ∷ symbol.PathList ∷ to) s d (name_said (codes "connect")) (Has []) h.shut (λ below. goes (to ++ below)) (λ w. let b = begun d h in (b.0, b.1, acts w d ∙ b.2)))
      (λ e k.
      together (symbol.Equals ∷ symbol.PathList ∷ to) (symbol.PathList ∷ to) to e (equals ∷ []) (explicit_words path_words xs) (Has []) (InHand name at marks (With xs))
      (equals_taken (symbol.PathList ∷ to) e k.1.shut (Has []) k) (λ f m. list_taken xs to f kept m))

  pub connections_taken : (xs : List (List Element)) (d : Draft) → AreKept same_path (IsTargetHere at.owner.said.base) xs → InHand name at marks p d
      → AreTaken (symbol.MaybeAttributeTail ∷ Back) d (dot ∷ name_said (codes "connect") ∷ equals ∷ explicit_words path_words xs) Back (InHand name at marks (With xs))
  unfolding bodies_act tail_act dot_act
  connections_taken xs d kept h =
      together (symbol.MaybeAttributeTail ∷ Back) (symbol.AfterDot ∷ Back) Back d (dot ∷ []) (name_said (codes "connect") ∷ equals ∷ explicit_words path_words xs) (InHand name at marks p) (InHand name at marks (With xs))
      (last_word (symbol.MaybeAttributeTail ∷ Back) (symbol.AfterDot ∷ Back) symbol.MaybeAttributeTail d d dot (InHand name at marks p) h.shut (λ below. refl) (λ w. refl) h)
      (λ e k. connect_then symbol.AfterDot xs Back e (λ below. refl) (λ w d. refl) kept k)

  pub edited_connections_taken : (xs : List (List Element)) (d : Draft) → AreKept same_path (IsTargetHere at.owner.said.base) xs → InHand name at marks p d
      → AreTaken (symbol.Dot ∷ symbol.ConnectWord ∷ Back) d (dot ∷ name_said (codes "connect") ∷ equals ∷ explicit_words path_words xs) Back (InHand name at marks (With xs))
  unfolding bodies_act prims_act layers_act dot_act
  edited_connections_taken xs d kept h =
      together (symbol.Dot ∷ symbol.ConnectWord ∷ Back) (symbol.ConnectWord ∷ Back) Back d (dot ∷ []) (name_said (codes "connect") ∷ equals ∷ explicit_words path_words xs) (InHand name at marks p) (InHand name at marks (With xs))
      (last_word (symbol.Dot ∷ symbol.ConnectWord ∷ Back) (symbol.ConnectWord ∷ Back) symbol.Dot d d dot (InHand name at marks p) h.shut (λ below. refl) (λ w. refl) h)
      (λ e k. connect_then symbol.ConnectWord xs Back e (λ below. refl) (λ w d. refl) kept k)
