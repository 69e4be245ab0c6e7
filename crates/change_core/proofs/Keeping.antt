-- What stays as it was composed, and what is known of a place that was reached.
use Rattle.std.proofs.Common.{◌≡◌, ◌∙◌, ap, sym, refl, subst, Bool, true, false, ◌&&◌, ◌||◌, not, List, [], ◌∷◌, ◌++◌, Option, Some, None, IfSome, IfOk, Result, Ok, Err, Contains, ◌⊎◌, inl, inr}
use Rattle.std.specs.Cmp.{IsTotalOrder, eq_by_cmp_equiv}
use Rattle.std.specs.List.Sorted.{IsStrictlySortedBy}
use Rattle.std.specs.Option.{option_map}
use Rattle.std.specs.declared.cmp.Ordering.{Ordering}
use Rattle.std.specs.declared.cmp.Ordering.TheVariants.{Equal}
use Rattle.std.specs.BTreeSet.{BTreeSet, contains}
use Rattle.std.specs.BTreeMap.{is_at}
use Rattle.std.proofs.lemmas.List.Folds.{list_any-append}
use Rattle.std.proofs.lemmas.Map.Views.{list_any-from_Contains}
use Rattle.std.proofs.lemmas.Map.Lookups.{btree_set_from_contains}
use Rattle.compose_api.specs.Agreement.{Agree, IsChanged}
use Rattle.change_core.specs.declared.above.Above.{Above}
use Rattle.change_core.specs.declared.arrive.Arrival.{Arrival}
use Rattle.change_core.specs.declared.kept.Kept.{Kept}
use Rattle.change_core.specs.Kept.{is_listed, AreRead, AreHits, Covers, IsCurrent, reads_above}
use Rattle.change_core.specs.Above.{IsTold, IsAbove, Arrives, told_keys}

-- what follows from what a call answers
pub then_ok : {A E : Type 0} {P Q : A → Type 0} (r : Result A E) → IfOk r P → ((a : A) → P a → Q a) → IfOk r Q
then_ok (Ok a) is step = step a is
then_ok (Err e) is step = tt

or_true : (b : Bool) → (b || true) ≡ true
or_true true = refl
or_true false = refl

or_false : (b : Bool) → (b || false) ≡ b
or_false true = refl
or_false false = refl

-- a changed key that is read is a hit: it is added, or read above and not dropped
hit_is : (added others dropped above changed : Bool) → (added || (others && not dropped)) ≡ true → changed ≡ true → (others ≡ true → above ≡ true) → ((above && not dropped) || (added && changed)) ≡ true
hit_is true others dropped above true read is hits = or_true (above && not dropped)
hit_is false true false above true read is hits = let e : above ≡ true = hits refl in rw e refl
hit_is false true true above true read is hits = absurd cc
hit_is false false dropped above true read is hits = absurd cc
hit_is added others dropped above false read is hits = absurd cc

module _ {Key : Type 0} (cmp : Key → Key → Ordering) where
  -- what is in one of two lists
  pub both_listed : (all first more second : List Key) (k : Key) → all ≡ first ++ more → more ≡ second → (p q : Bool) → is_listed cmp first k ≡ p → is_listed cmp second k ≡ q → is_listed cmp all k ≡ (p || q)
  both_listed all first more second k joined same p q is_p is_q =
      ap (λ xs. is_listed cmp xs k) (joined ∙ ap (λ xs. first ++ xs) same) ∙ (list_any-append (is_at (cmp k)) first second ∙ (ap (λ (b : Bool). b || is_listed cmp second k) is_p ∙ ap (λ (b : Bool). p || b) is_q))

  -- nothing is read above the root place
  pub read_alone : (reads added dropped : List Key) → added ≡ reads → dropped ≡ [] → AreRead cmp reads [] added dropped
  read_alone reads added dropped same none k = ap (λ xs. is_listed cmp xs k) (sym same) ∙ sym (or_false (is_listed cmp added k))

  pub hits_are : (changed : BTreeSet Key) (above added dropped hits reads others : List Key)
      → ((k : Key) → is_listed cmp hits k ≡ ((is_listed cmp above k && not (is_listed cmp dropped k)) || (is_listed cmp added k && contains cmp changed k)))
      → AreHits cmp changed others above → AreRead cmp reads others added dropped → AreHits cmp changed reads hits
  hits_are changed above added dropped hits reads others made over are k read is =
      made k ∙ hit_is (is_listed cmp added k) (is_listed cmp others k) (is_listed cmp dropped k) (is_listed cmp above k) (contains cmp changed k) (sym (are k) ∙ read) is (λ r. over k r is)

  module _ (o : IsTotalOrder cmp) (exact : (x y : Key) → cmp x y ≡ Equal → x ≡ y) where
    listed_if_there : (ks : List Key) (k : Key) → Contains ks k → is_listed cmp ks k ≡ true
    listed_if_there ks k has = list_any-from_Contains (eq_by_cmp_equiv o) k ks has

    -- what differs by the same keys from the same is the same
    pub same_reads : (reads others above over added new dropped gone : List Key) → AreRead cmp reads above added dropped → AreRead cmp others over new gone → over ≡ above → new ≡ added → gone ≡ dropped
        → IsStrictlySortedBy cmp reads → IsStrictlySortedBy cmp others → others ≡ reads
    same_reads reads others above over added new dropped gone are are_now same_above same_added same_dropped sorted sorted_now =
        btree_set_from_contains o (record { keys = others }) (record { keys = reads }) sorted_now sorted
        (λ k. are_now k ∙ (ap (λ xs. is_listed cmp xs k || (is_listed cmp over k && not (is_listed cmp gone k))) same_added
        ∙ (ap (λ xs. is_listed cmp added k || (is_listed cmp xs k && not (is_listed cmp gone k))) same_above
        ∙ (ap (λ xs. is_listed cmp added k || (is_listed cmp above k && not (is_listed cmp xs k))) same_dropped ∙ sym (are k)))))
        exact

    module _ {Held : Type 0} (before now : Key → Held) where
      by_flag : (changed : BTreeSet Key) (reads : List Key) → Covers cmp before now changed → AreHits cmp changed reads [] → (k : Key) → Contains reads k → (flag : Bool) → contains cmp changed k ≡ flag → before k ≡ now k
      by_flag changed reads covers hits k has false is = covers k is
      by_flag changed reads covers hits k has true is = let no : false ≡ true = hits k (listed_if_there reads k has) is in absurd cc

      -- where no changed key is read, the worlds agree on what is read
      pub agree : (changed : BTreeSet Key) (reads : List Key) → Covers cmp before now changed → AreHits cmp changed reads [] → Agree before now reads
      agree changed reads covers hits k has = by_flag changed reads covers hits k has (contains cmp changed k) refl

    module _ {Held : Type 0} (first before after : Key → Held) where
      noted : (changed : List Key) (was listed : Bool) (k : Key) → (was ≡ false → first k ≡ before k) → IsChanged before after changed → is_listed cmp changed k ≡ listed → (was || listed) ≡ false → first k ≡ after k
      noted changed true listed k covers is told none = absurd cc
      noted changed false true k covers is told none = absurd cc
      noted changed false false k covers is told none =
          covers refl ∙ (is k).1 (λ has. let no : true ≡ false = sym (listed_if_there changed k has) ∙ told in absurd cc)

      -- the set goes on to cover what a batch changes
      pub covers_on : (old new : BTreeSet Key) (changed : List Key) → Covers cmp first before old → IsChanged before after changed → ((k : Key) → contains cmp new k ≡ (contains cmp old k || is_listed cmp changed k)) → Covers cmp first after new
      covers_on old new changed covers is more k none = noted changed (contains cmp old k) (is_listed cmp changed k) k (covers k) is refl (sym (more k) ∙ none)

-- what the place above reads is in order
pub sorted_above : {World Place Key : Type 0} (cmp : Key → Key → Ordering) (reads_of : World → Place → List Key) (w : World) → ((w : World) (p : Place) → IsStrictlySortedBy cmp (reads_of w p)) → (above : Option Place)
    → IsStrictlySortedBy cmp (reads_above reads_of w above)
unfolding IsStrictlySortedBy
sorted_above cmp reads_of w sorted None = tt
sorted_above cmp reads_of w sorted (Some above) = sorted w above

module _ {World Place Key Entry Index : Type 0} (index_of : World → Place → Index) (reads_of : World → Place → List Key) (cmp : Key → Key → Ordering) (entry_of : World → Place → Entry) (parent_of : Place → Option Place) where
  told_index : (now : World) (index : Option Index) (named place : Place) → named ≡ place → IfSome index (λ i. i ≡ index_of now place) → IfSome index (λ i. Some i ≡ option_map (index_of now) (Some named))
  told_index now None named place same is = tt
  told_index now (Some i) named place same is = ap Some (is ∙ ap (index_of now) (sym same))

  told_reads : (now : World) (reads : Option (List Key)) (named place : Place) → named ≡ place → IfSome reads (λ keys. keys ≡ reads_of now place) → IfSome reads (λ keys. Some keys ≡ option_map (reads_of now) (Some named))
  told_reads now None named place same is = tt
  told_reads now (Some keys) named place same is = ap Some (is ∙ ap (reads_of now) (sym same))

  -- what is known of a place that was reached
  pub arrives : (now before : World) (changed : BTreeSet Key) (place named : Place) (kept : Kept Place Entry Key) (index : Option Index) (reads hits : Option (List Key)) (same : Bool)
      → named ≡ place → kept.place ≡ place → IsCurrent cmp entry_of reads_of parent_of now kept → IfSome index (λ i. i ≡ index_of now place) → IfSome reads (λ keys. keys ≡ reads_of now place)
      → IfSome hits (AreHits cmp changed (reads_of before place)) → (same ≡ true → reads_of now place ≡ reads_of before place)
      → Arrives index_of reads_of cmp entry_of parent_of now before changed place (record { kept = kept; below = record { place = Some named; index = index; reads = reads; hits = hits; same = same } })
  arrives now before changed place named kept index reads hits same is place_is current index_is reads_is hits_are same_is = record {
    place_is = place_is;
    current = current;
    above = record {
      told = record { index = told_index now index named place is index_is; reads = told_reads now reads named place is reads_is };
      hits = subst (λ p. IfSome hits (AreHits cmp changed (reads_of before p))) (sym is) hits_are;
      same = λ t. ap (reads_of now) is ∙ (same_is t ∙ ap (reads_of before) (sym is));
    };
    below_is = ap Some is;
  }

  -- what was composed is kept with how its reads differ from those of the place above
  pub current_of : (now : World) (place named : Place) (entry : Entry) (reads over added dropped : List Key) (above : Option Place) → named ≡ place → entry ≡ entry_of now place → reads ≡ reads_of now place
      → AreRead cmp reads over added dropped → over ≡ reads_above reads_of now above → above ≡ parent_of place
      → IsCurrent cmp entry_of reads_of parent_of now (record { place = named; entry = entry; added = added; dropped = dropped })
  current_of now place named entry reads over added dropped above is made read are filled parent = record {
    entry = made ∙ ap (entry_of now) (sym is);
    reads = λ k. ap (λ xs. is_listed cmp xs k) (ap (reads_of now) is ∙ sym read)
        ∙ (are k ∙ ap (λ xs. is_listed cmp added k || (is_listed cmp xs k && not (is_listed cmp dropped k))) (filled ∙ ap (reads_above reads_of now) (parent ∙ ap parent_of (sym is))));
  }

  module _ {Held : Type 0} (value_of : World → Key → Held) (cover : (w v : World) (p : Place) → Agree (value_of w) (value_of v) (reads_of w p) → (entry_of v p ≡ entry_of w p) × (reads_of v p ≡ reads_of w p))
      (o : IsTotalOrder cmp) (exact : (x y : Key) → cmp x y ≡ Equal → x ≡ y) where
    -- what read no changed key reads what it read
    pub stays : (now before : World) (changed : BTreeSet Key) (p : Place) → AreHits cmp changed (reads_of before p) [] → Covers cmp (value_of before) (value_of now) changed → (entry_of now p ≡ entry_of before p) × (reads_of now p ≡ reads_of before p)
    stays now before changed p hits covers = cover before now p (agree cmp o exact (value_of before) (value_of now) changed (reads_of before p) covers hits)

    -- it is what would be composed, where the place above reads what it read
    pub moved : (now before : World) (changed : BTreeSet Key) (kept : Kept Place Entry Key) → IsCurrent cmp entry_of reads_of parent_of before kept → AreHits cmp changed (reads_of before kept.place) []
        → Covers cmp (value_of before) (value_of now) changed → reads_above reads_of now (parent_of kept.place) ≡ reads_above reads_of before (parent_of kept.place) → IsCurrent cmp entry_of reads_of parent_of now kept
    moved now before changed kept was hits covers same = let c = stays now before changed kept.place hits covers in record {
      entry = was.entry ∙ sym c.0;
      reads = λ k. ap (λ xs. is_listed cmp xs k) c.1 ∙ (was.reads k ∙ ap (λ xs. is_listed cmp kept.added k || (is_listed cmp xs k && not (is_listed cmp kept.dropped k))) (sym same));
    }

    -- what was composed anew reads what it read
    pub same_as_before : (now before : World) (changed : BTreeSet Key) (old new : Kept Place Entry Key) (hits : List Key) (above : Above Place Index Key) → IsAbove index_of reads_of cmp now before changed above
        → above.place ≡ parent_of old.place → IsCurrent cmp entry_of reads_of parent_of before old → IsCurrent cmp entry_of reads_of parent_of now new → new.place ≡ old.place
        → AreHits cmp changed (reads_of before old.place) hits → Covers cmp (value_of before) (value_of now) changed → ((w : World) (p : Place) → IsStrictlySortedBy cmp (reads_of w p))
        → (hits ≡ []) ⊎ ((above.same ≡ true) × (new.added ≡ old.added) × (new.dropped ≡ old.dropped)) → reads_of now old.place ≡ reads_of before old.place
    same_as_before now before changed old new hits above is parent was current place_is are covers sorted (inl none) =
        (stays now before changed old.place (subst (AreHits cmp changed (reads_of before old.place)) none are) covers).1
    same_as_before now before changed old new hits above is parent was current place_is are covers sorted (inr same) =
        let over : reads_above reads_of now (parent_of new.place) ≡ reads_above reads_of before (parent_of old.place) =
        ap (λ p. reads_above reads_of now (parent_of p)) place_is ∙ (ap (reads_above reads_of now) (sym parent) ∙ (is.same same.0 ∙ ap (reads_above reads_of before) parent)) in
        ap (reads_of now) (sym place_is)
        ∙ same_reads cmp o exact (reads_of before old.place) (reads_of now new.place) (reads_above reads_of before (parent_of old.place)) (reads_above reads_of now (parent_of new.place)) old.added new.added old.dropped new.dropped
        was.reads current.reads over same.1 same.2 (sorted before old.place) (sorted now new.place)
