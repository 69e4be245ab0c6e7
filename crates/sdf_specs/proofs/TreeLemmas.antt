-- What stands at a path and below it, in a table in the order of paths.
use Rattle.std.proofs.Common.{append-nil, ◌++◌, ℕ, ◌+◌, ◌<◌, length, drop, get_or, ◌≡◌, ◌↔◌, IsTrue, ◌||◌, ◌∙◌, sym, ap, refl, Bool, true, false, not, cond, List, [], ◌∷◌, Some}
use Rattle.std.specs.List.{AllByRecursion}
use Rattle.std.specs.Map.{keys_of}
use Rattle.std.specs.Ordering.{is_le, is_eq}
use Rattle.std.specs.declared.cmp.Ordering.TheVariants.{Less}
use Rattle.std.proofs.lemmas.Map.Keys.{sorted_head, sorted_tail}
use Rattle.sdf_paths.specs.Order.{path_cmp}
use Rattle.sdf_paths.specs.Paths.{has_prefix}
use Rattle.sdf_paths.specs.declared.element.Element.{Element}
use Rattle.spec_tables.specs.Tables.{IsTable, entries_from, without_key}
use Rattle.spec_properties.proofs.NamedLists.{by_test}
use Rattle.sdf_specs.specs.Layers.{PathEntries, tree, without_tree, has_tree, without_paths, spec_at, is_owner}
use Rattle.std.specs.Option.{is_some}
use Rattle.std.proofs.lemmas.List.{drop_more}
use Rattle.sdf_paths.specs.contracts.path.PathOrd.TheImpl.{ghosts as path_order}
use Rattle.sdf_specs.proofs.Ordered.{without_is, from_is, in_order}
use Rattle.sdf_specs.proofs.PathLemmas.{not_both, prefix_le, past_prefix, same_path, finds_itself}

module _ {V : Type 0} (front : List Element) where
  -- the entries at the beginning whose paths begin with `front`
  abbrev pub leading : PathEntries V → PathEntries V
  leading [] = []
  leading (e ∷ es) = cond (has_prefix front e.0) (e ∷ leading es) []

  -- behind an entry that is past the tree nothing of it stands
  none_after : (path : List Element) (es : PathEntries V) → is_le (path_cmp front path) ≡ true → has_prefix front path ≡ false
      → AllByRecursion (λ y. path_cmp path y ≡ Less) (keys_of es) → tree front es ≡ []
  none_after path [] le outside after = refl
  none_after path (e ∷ es) le outside after =
      let rest = none_after path es le outside after.1 in
      let out = past_prefix front path e.0 le outside after.0 in
      ap (λ (b : Bool). cond b (e ∷ tree front es) (tree front es)) out ∙ rest

  pub leading_is : (es : PathEntries V) → IsTable path_cmp es → leading (entries_from path_cmp front es) ≡ tree front es
  leading_is [] table = refl
  leading_is (e ∷ es) table =
      let rest = leading_is es (sorted_tail path_cmp e.0 (keys_of es) table) in
      let after = sorted_head path_cmp e.0 (keys_of es) table in
      let from : PathEntries V = entries_from path_cmp front es in
      let F : Bool → Type 0 = λ b. leading (cond b (e ∷ from) from) ≡ cond (has_prefix front e.0) (e ∷ tree front es) (tree front es) in
      let G : Bool → Type 0 = λ b. cond b (e ∷ leading from) [] ≡ cond b (e ∷ tree front es) (tree front es) in
      let H : Bool → Type 0 = λ b. leading from ≡ cond b (e ∷ tree front es) (tree front es) in
      by_test F (is_le (path_cmp front e.0))
      (λ le. by_test G (has_prefix front e.0) (λ in'. ap (λ (xs : PathEntries V). e ∷ xs) rest) (λ out. sym (none_after e.0 es le out after)))
      (λ gt. by_test H (has_prefix front e.0) (λ in'. not_both (prefix_le front e.0 in') gt) (λ out. rest))

  -- taking entries of the tree away leaves one that is not of it
  keeps : (ts : PathEntries V) (e : List Element × V) (es : PathEntries V) → has_prefix front e.0 ≡ false
      → without_paths (keys_of (tree front ts)) (e ∷ es) ≡ e ∷ without_paths (keys_of (tree front ts)) es
  keeps [] e es out = refl
  keeps (t ∷ ts) e es out =
      let F : Bool → Type 0 = λ b. without_paths (keys_of (cond b (t ∷ tree front ts) (tree front ts))) (e ∷ es) ≡ e ∷ without_paths (keys_of (cond b (t ∷ tree front ts) (tree front ts))) es in
      let others : Bool → Type 0 = λ b. without_paths (keys_of (tree front ts)) (cond b es (e ∷ without_key path_cmp t.0 es)) ≡ e ∷ without_paths (keys_of (tree front ts)) (without_key path_cmp t.0 es) in
      by_test F (has_prefix front t.0)
      (λ in'. by_test others (is_eq (path_cmp t.0 e.0))
      (λ same. not_both (ap (has_prefix front) (sym (same_path t.0 e.0 same)) ∙ in') out)
      (λ apart. keeps ts e (without_key path_cmp t.0 es) out))
      (λ none. keeps ts e es out)

  pub removed_is : (es : PathEntries V) → without_paths (keys_of (tree front es)) es ≡ without_tree front es
  removed_is [] = refl
  removed_is (e ∷ es) =
      let F : Bool → Type 0 = λ b. without_paths (keys_of (cond b (e ∷ tree front es) (tree front es))) (e ∷ es) ≡ cond (not b) (e ∷ without_tree front es) (without_tree front es) in
      by_test F (has_prefix front e.0)
      (λ in'. ap (λ (b : Bool). without_paths (keys_of (tree front es)) (cond b es (e ∷ without_key path_cmp e.0 es))) (finds_itself e.0) ∙ removed_is es)
      (λ out. keeps es e es out ∙ ap (λ (xs : PathEntries V). e ∷ xs) (removed_is es))

  pub some_path : (es : PathEntries V) → has_tree front es ≡ true → keys_of (tree front es) ≡ [] → false ≡ true
  some_path [] some none = some
  some_path (e ∷ es) some none =
      let F : Bool → Type 0 = λ b. (b || has_tree front es) ≡ true → keys_of (cond b (e ∷ tree front es) (tree front es)) ≡ [] → false ≡ true in
      by_test F (has_prefix front e.0) (λ in' s n. absurd cc) (λ out s n. some_path es s n) some none

  pub no_path : (es : PathEntries V) → has_tree front es ≡ false → keys_of (tree front es) ≡ []
  no_path [] none = refl
  no_path (e ∷ es) none =
      let F : Bool → Type 0 = λ b. (b || has_tree front es) ≡ false → keys_of (cond b (e ∷ tree front es) (tree front es)) ≡ [] in
      by_test F (has_prefix front e.0) (λ in' s. absurd cc) (λ out s. no_path es s) none

pub owner_is : {V : Type 0} (path : List Element) (specs : PathEntries V) (r : Bool) → IsTrue r ↔ (path ≡ []) → (r || is_some (spec_at path specs)) ≡ is_owner (Some path) specs
owner_is [] specs r root = ap (λ (b : Bool). b || is_some (spec_at [] specs)) (root.1 refl)
owner_is (e ∷ es) specs true root = let none : e ∷ es ≡ [] = root.0 refl in absurd cc
owner_is (e ∷ es) specs false root = refl

-- one path further
pub one_removed : {V : Type 0} (paths : List (List Element)) (i : ℕ) (path : List Element) (specs new all : PathEntries V) → i < length paths → path ≡ get_or paths i path
    → new ≡ without_key path_order.cmp path specs → without_paths (drop i paths) specs ≡ all → without_paths (drop (i + 1) paths) new ≡ all
one_removed {V} paths i path specs new all within at removed before =
    let key : new ≡ without_key path_cmp (get_or paths i path) specs = removed ∙ (without_is path specs ∙ ap (λ (p : List Element). without_key path_cmp p specs) at) in
    ap (without_paths (drop (i + 1) paths)) key ∙ (ap (λ (ps : List (List Element)). without_paths ps specs) (sym (drop_more paths i path within)) ∙ before)

-- the walk ends where the next path does not begin with `front`, or where there is none
pub ended : {V : Type 0} (front : List Element) (rest : PathEntries V) → rest ≡ [] → leading front rest ≡ []
ended front rest h = ap (leading front) h

pub left_behind : {V : Type 0} (front : List Element) (e : List Element × V) (es rest : PathEntries V) → rest ≡ e ∷ es → false ≡ has_prefix front e.0 → leading front rest ≡ []
left_behind {V} front e es rest h out = ap (leading front) h ∙ ap (λ (b : Bool). let entries : PathEntries V = cond b (e ∷ leading front es) [] in entries) (sym out)

-- what the walk took is the tree
pub walked : {V : Type 0} (front : List Element) (paths : List (List Element)) (specs from rest : PathEntries V) → leading front rest ≡ [] → paths ++ keys_of (leading front rest) ≡ keys_of (leading front from)
    → from ≡ entries_from path_order.cmp front specs → IsTable path_order.cmp specs → paths ≡ keys_of (tree front specs)
walked {V} front paths specs from rest done took begun table =
    sym (append-nil paths)
    ∙ (ap (λ (es : PathEntries V). paths ++ keys_of es) (sym done)
    ∙ (took
    ∙ (ap (λ (es : PathEntries V). keys_of (leading front es)) (begun ∙ from_is front specs)
    ∙ ap keys_of (leading_is front specs (in_order specs table)))))

-- something was there exactly where a path was found
pub told_some : {V : Type 0} (front : List Element) (specs : PathEntries V) (paths : List (List Element)) (none : Bool) → paths ≡ keys_of (tree front specs)
    → IsTrue none ↔ (paths ≡ []) → not none ≡ has_tree front specs
told_some {V} front specs paths none found empty =
    let F : Bool → Type 0 = λ b. has_tree front specs ≡ b → not none ≡ b in
    by_test F (has_tree front specs)
    (λ some is. by_test (λ b. not b ≡ true) none (λ t. some_path front specs is (sym found ∙ empty.0 t)) (λ t. refl))
    (λ nothing is. ap not (empty.1 (found ∙ no_path front specs is))) refl
