-- The words of a value whose paths are from the root down mean the same below each prim.
use Rattle.std.proofs.Common.{◌≡◌, ◌∙◌, ℕ, Bool, true, false, List, [], ◌∷◌, ◌++◌, map, Option, Some, None, ap, sym, subst}
use Rattle.std.specs.Prelude.{if◌then◌else◌, codes}
use Rattle.std.specs.Cmp.Lexicographic.{bytes_decides}
use Rattle.std.specs.Option.{option_map}
use Rattle.std.proofs.lemmas.Bool.{and_parts}
use Rattle.sdf_paths.specs.Paths.{printed}
use Rattle.sdf_paths.specs.declared.element.Element.{Element}
use Rattle.sdf_values.specs.Print.{quoted, is_plain_key}
use Rattle.sdf_values.specs.Proper.{all_true}
use Rattle.sdf_values.specs.TypeNames.{element_name}
use Rattle.sdf_values.specs.declared.value.DictItem.{DictItem}
use Rattle.sdf_values.specs.declared.value.DictType.{DictType}
use Rattle.sdf_values.specs.declared.value.DictType.TheVariants as dict_type
use Rattle.sdf_values.specs.declared.value.Value.{Value}
use Rattle.sdf_values.specs.declared.value.Value.TheVariants as value
use Rattle.sdf_values.proofs.Values.{Each, by_cases}
use Rattle.usda_lexer.specs.Blanks.{begins}
use Rattle.usda_lexer.specs.Meanings.{path_text}
use Rattle.sdf_paths.specs.Reader.{path_of}
use Rattle.usda_lists.specs.Paths.{path_from, path_below, absolute_from, absolute_token}
use Rattle.value_texts.specs.Cuts.{Said}
use Rattle.value_texts.specs.ValueWords.{words_of_value, words_of_item, said_step, said_item, more_said, listed_said, entries_said, dict_type_said, key_said, name_said, string_said, open_bracket, close_paren, close_bracket, close_brace, equals}
use Rattle.value_texts.proofs.AssetTokens.{path_means}
use Rattle.sdf_values.proofs.Values as fold
use Rattle.layer_reads.specs.Fixed.{AreFixed}
use Rattle.value_returns.specs.FullPaths.{is_full_path, is_print_of, has_full_paths, has_full_paths_item, full_step, full_item}
use Rattle.value_returns.specs.Laws.{FullPathsAreFixed}

module _ (base : List Element) where
  -- what is to be shown of a value, and of an entry of a dictionary
  abbrev IsSaid : Value → Type 0
  IsSaid v = has_full_paths v ≡ true → AreFixed base (words_of_value v)

  abbrev IsSaidItem : DictItem → Type 0
  IsSaidItem i = has_full_paths_item i ≡ true → AreFixed base (words_of_item i)

  fixed_then : (a b : List Said) → AreFixed base a → AreFixed base b → AreFixed base (a ++ b)
  fixed_then [] b p q = q
  fixed_then (w ∷ a) b p q = (p.0, fixed_then a b p.1 q)

  -- ---- a path

  pub from_root : (t : List ℕ) → begins 47 t ≡ true → path_from base t ≡ path_of t
  unfolding path_from
  from_root t h = ap (λ b. elim b [ true ↦ path_of t | false ↦ path_below 0 (Some base) t ]) h

  same_token : (t : List ℕ) (o : Option (List Element)) → is_print_of o t ≡ true → option_map absolute_token o ≡ Some (codes "<" ++ t ++ codes ">")
  same_token t None h = absurd cc
  same_token t (Some p) h = ap (λ x. Some (60 ∷ x ++ 62 ∷ [])) ((bytes_decides (printed p) t).0 h)

  path_fixed : (t : List ℕ) → is_full_path t ≡ true → absolute_from base (path_text (codes "<" ++ t ++ codes ">")) ≡ Some (codes "<" ++ t ++ codes ">")
  path_fixed t h =
      let p = and_parts (begins 47 t) (is_print_of (path_of t) t) h in
      ap (absolute_from base) (path_means t) ∙ ap (option_map absolute_token) (from_root t p.0) ∙ same_token t (path_of t) p.1

  path_said_fixed : (t : List ℕ) → IsSaid (value.PathText t)
  path_said_fixed t h =
      subst (AreFixed base) (sym (fold.of_path (List Said) (List Said) said_step said_item t))
      (path_fixed t (sym (fold.of_path Bool Bool full_step full_item t) ∙ h), tt)

  -- ---- lists of values

  more_fixed : (vs : List Value) → Each IsSaid vs → all_true (map has_full_paths vs) ≡ true → AreFixed base (more_said (map words_of_value vs))
  more_fixed [] each h = tt
  more_fixed (v ∷ vs) each h =
      let p = and_parts (has_full_paths v) (all_true (map has_full_paths vs)) h in
      (tt, fixed_then (words_of_value v) (more_said (map words_of_value vs)) (each.0 p.0) (more_fixed vs each.1 p.1))

  listed_fixed : (vs : List Value) → Each IsSaid vs → all_true (map has_full_paths vs) ≡ true → AreFixed base (listed_said (map words_of_value vs))
  listed_fixed [] each h = tt
  listed_fixed (v ∷ vs) each h =
      let p = and_parts (has_full_paths v) (all_true (map has_full_paths vs)) h in
      fixed_then (words_of_value v) (more_said (map words_of_value vs)) (each.0 p.0) (more_fixed vs each.1 p.1)

  tuple_fixed : (vs : List Value) → Each IsSaid vs → IsSaid (value.Tuple vs)
  tuple_fixed vs each h =
      subst (AreFixed base) (sym (fold.of_tuple (List Said) (List Said) said_step said_item vs))
      (tt, fixed_then (listed_said (map words_of_value vs)) (close_paren ∷ []) (listed_fixed vs each (sym (fold.of_tuple Bool Bool full_step full_item vs) ∙ h)) (tt, tt))

  array_fixed : (vs : List Value) → Each IsSaid vs → IsSaid (value.Array vs)
  array_fixed vs each h =
      subst (AreFixed base) (sym (fold.of_array (List Said) (List Said) said_step said_item vs))
      (tt, fixed_then (listed_said (map words_of_value vs)) (close_bracket ∷ []) (listed_fixed vs each (sym (fold.of_array Bool Bool full_step full_item vs) ∙ h)) (tt, tt))

  -- ---- dictionaries

  type_fixed : (t : DictType) → AreFixed base (dict_type_said t)
  type_fixed (dict_type.Plain t) = by t.array
    where
      by : (b : Bool) → AreFixed base (name_said (element_name t.element) ∷ (if b then open_bracket ∷ close_bracket ∷ [] else []))
      by true = (tt, (tt, (tt, tt)))
      by false = (tt, tt)
  type_fixed dict_type.Dictionary = (tt, tt)

  key_fixed : (k : List ℕ) (ws : List Said) → AreFixed base ws → AreFixed base (key_said k ∷ equals ∷ ws)
  key_fixed k ws fixed = by (is_plain_key k)
    where
      by : (b : Bool) → AreFixed base ((if b then name_said k else string_said (quoted k)) ∷ equals ∷ ws)
      by true = (tt, (tt, fixed))
      by false = (tt, (tt, fixed))

  item_fixed : (k : List ℕ) (t : DictType) (v : Value) → IsSaid v → IsSaidItem (record { key = k; ty = t; value = v })
  item_fixed k t v said h =
      let i : DictItem = record { key = k; ty = t; value = v } in
      subst (AreFixed base) (sym (fold.of_item (List Said) (List Said) said_step said_item i))
      (fixed_then (dict_type_said t) (key_said k ∷ equals ∷ words_of_value v) (type_fixed t) (key_fixed k (words_of_value v) (said (sym (fold.of_item Bool Bool full_step full_item i) ∙ h))))

  entries_fixed : (items : List DictItem) → Each IsSaidItem items → all_true (map has_full_paths_item items) ≡ true → AreFixed base (entries_said (map words_of_item items))
  entries_fixed [] each h = tt
  entries_fixed (i ∷ is) each h =
      let p = and_parts (has_full_paths_item i) (all_true (map has_full_paths_item is)) h in
      fixed_then (words_of_item i) (entries_said (map words_of_item is)) (each.0 p.0) (entries_fixed is each.1 p.1)

  dict_fixed : (items : List DictItem) → Each IsSaidItem items → IsSaid (value.Dict items)
  dict_fixed items each h =
      subst (AreFixed base) (sym (fold.of_dict (List Said) (List Said) said_step said_item items))
      (tt, fixed_then (entries_said (map words_of_item items)) (close_brace ∷ []) (entries_fixed items each (sym (fold.of_dict Bool Bool full_step full_item items) ∙ h)) (tt, tt))

  -- ---- a value of one word

  one_fixed : (v : Value) (w : Said) → words_of_value v ≡ w ∷ [] → AreFixed base (w ∷ []) → IsSaid v
  one_fixed v w e fixed h = subst (AreFixed base) (sym e) fixed

  value_fixed : (v : Value) → IsSaid v
  value_fixed = by_cases IsSaid IsSaidItem (record {
    bool = λ b. one_fixed (value.Bool b) _ (fold.of_bool (List Said) (List Said) said_step said_item b) (tt, tt);
    whole = λ n. one_fixed (value.Whole n) _ (fold.of_whole (List Said) (List Said) said_step said_item n) (tt, tt);
    number = λ x. one_fixed (value.Number x) _ (fold.of_number (List Said) (List Said) said_step said_item x) (tt, tt);
    time = λ t. one_fixed (value.Time t) _ (fold.of_time (List Said) (List Said) said_step said_item t) (tt, tt);
    text = λ t. one_fixed (value.Text t) _ (fold.of_text (List Said) (List Said) said_step said_item t) (tt, tt);
    asset = λ t. one_fixed (value.Asset t) _ (fold.of_asset (List Said) (List Said) said_step said_item t) (tt, tt);
    path = path_said_fixed;
    word = λ t. one_fixed (value.Word t) _ (fold.of_word (List Said) (List Said) said_step said_item t) (tt, tt);
    block = one_fixed value.Block _ (fold.of_block (List Said) (List Said) said_step said_item) (tt, tt);
    tuple = tuple_fixed;
    array = array_fixed;
    dict = dict_fixed;
    item = item_fixed;
  })

pub full_paths_fixed : FullPathsAreFixed
full_paths_fixed v h base = value_fixed base v h
