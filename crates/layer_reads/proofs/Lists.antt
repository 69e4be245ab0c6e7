-- Lists of items between brackets, whatever an item is.
use Rattle.std.proofs.Common.{List, [], ◌∷◌, ◌++◌, append_assoc, append-nil, sym, subst}
use Rattle.usda_grammar.specs.declared.symbols.Symbol.{Symbol}
use Rattle.usda_drafts.specs.declared.draft.Draft.{Draft}
use Rattle.value_texts.specs.Cuts.{Said}
use Rattle.value_texts.specs.ValueWords.{comma, open_bracket, close_bracket}
use Rattle.value_texts.specs.Each.{AreAll}
use Rattle.layer_texts.specs.ListWords.{more_words, bracketed_words}
use Rattle.layer_reads.specs.Lists.{IsListRead}
use Rattle.layer_reads.specs.Taking.{AreTaken}
use Rattle.layer_reads.proofs.Taking.{together}

module _ {T : Type 0} (g : T → List Said) (W : T → Type 0) (from or_end : Symbol) (after : T → List Symbol) (Before : Draft → Type 0) (Is End : List T → Draft → Type 0) (read : IsListRead g W from or_end after Before Is End) where
  more_taken : (last : T) (xs done : List T) (d : Draft) → AreAll W xs → Is done d → AreTaken (after last) d (more_words g xs ++ close_bracket ∷ []) [] (End (done ++ xs))
  more_taken last [] done d h is = subst (λ l. AreTaken (after last) d (close_bracket ∷ []) [] (End l)) (sym (append-nil done)) (read.ends done last d is)
  more_taken last (x ∷ xs) done d h is =
      together (after last) (or_end ∷ []) [] d (comma ∷ []) ((g x ++ more_words g xs) ++ close_bracket ∷ []) (Is done) (End (done ++ x ∷ xs)) (read.parts done last d is)
      (λ e k.
      subst (λ l. AreTaken (or_end ∷ []) e l [] (End (done ++ x ∷ xs))) (sym (append_assoc (g x) (more_words g xs) (close_bracket ∷ [])))
      (together (or_end ∷ []) (after x) [] e (g x) (more_words g xs ++ close_bracket ∷ []) (Is (done ++ x ∷ [])) (End (done ++ x ∷ xs)) (read.item done x e h.0 k)
      (λ f m. subst (λ l. AreTaken (after x) f (more_words g xs ++ close_bracket ∷ []) [] (End l)) (append_assoc done (x ∷ []) xs) (more_taken x xs (done ++ x ∷ []) f h.1 m))))

  pub bracketed_taken : (x : T) (xs : List T) (d : Draft) → AreAll W (x ∷ xs) → Before d → AreTaken (from ∷ []) d (bracketed_words g (x ∷ xs)) [] (End (x ∷ xs))
  bracketed_taken x xs d h before =
      together (from ∷ []) (or_end ∷ []) [] d (open_bracket ∷ []) ((g x ++ more_words g xs) ++ close_bracket ∷ []) (Is []) (End (x ∷ xs)) (read.opens d before)
      (λ e k.
      subst (λ l. AreTaken (or_end ∷ []) e l [] (End (x ∷ xs))) (sym (append_assoc (g x) (more_words g xs) (close_bracket ∷ [])))
      (together (or_end ∷ []) (after x) [] e (g x) (more_words g xs ++ close_bracket ∷ []) (Is (x ∷ [])) (End (x ∷ xs)) (read.item [] x e h.0 k) (λ f m. more_taken x xs (x ∷ []) f h.1 m)))
