-- The derived comparisons of sites tell every two apart.
use Rattle.std.specs.Prelude.{◌≡◌, true}
use Rattle.std.proofs.Common.{refl, ap}
use Rattle.std.specs.declared.cmp.Ordering.TheVariants.{Equal}
use Rattle.std.proofs.lemmas.Map.Lookups.{exact_bytes}
use Rattle.plain_data.specs.Exact.{both_true, then_both, text_same}
use Rattle.sdf_paths.specs.PathOrder.{path_equal, path_tie}
use Rattle.composition.specs.World.{StackName, Root, Asset}
use Rattle.prim_view.specs.contracts.stack_name.StackNamePartialEq.TheImpl.{ghosts as stack_eq}
use Rattle.prim_view.specs.contracts.stack_name.StackNameOrd.TheImpl.{ghosts as stack_order}
use Rattle.site_order.specs.contracts.best.SiteKeyPartialEq.TheImpl.{ghosts as key_eq}
use Rattle.site_order.specs.contracts.best.SiteKeyOrd.TheImpl.{ghosts as key_order}
use Rattle.site_order.specs.declared.best.SiteKey.{SiteKey}

stack_equal : (a b : StackName) → stack_eq.eq a b ≡ true → a ≡ b
stack_equal Root Root h = refl
stack_equal (Asset a) (Asset b) h = ap Asset (text_same a b h)
stack_equal Root (Asset b) h = absurd cc
stack_equal (Asset a) Root h = absurd cc

stack_tie : (a b : StackName) → stack_order.cmp a b ≡ Equal → a ≡ b
stack_tie Root Root h = refl
stack_tie (Asset a) (Asset b) h = ap Asset (exact_bytes a b h)
stack_tie Root (Asset b) h = absurd cc
stack_tie (Asset a) Root h = absurd cc

-- sites that compare equal are one
pub key_equal : (x y : SiteKey) → key_eq.eq x y ≡ true → x ≡ y
key_equal x y h =
    let parts = both_true _ _ h in
    let stack : x.stack ≡ y.stack = stack_equal x.stack y.stack parts.0 in
    let path : x.path ≡ y.path = path_equal x.path y.path parts.1 in
    λ i. record { stack = stack i; path = path i }

-- sites that the derived order does not part are one
pub key_tie : (x y : SiteKey) → key_order.cmp x y ≡ Equal → x ≡ y
key_tie x y h =
    let parts = then_both _ _ h in
    let stack : x.stack ≡ y.stack = stack_tie x.stack y.stack parts.0 in
    let path : x.path ≡ y.path = path_tie x.path y.path parts.1 in
    λ i. record { stack = stack i; path = path i }
