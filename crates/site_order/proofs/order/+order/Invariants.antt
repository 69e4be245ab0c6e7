use Rattle.std.proofs.Common.{◌≡◌, ◌++◌, drop}
use Rattle.std.specs.List.{list_any}
use Rattle.composition.specs.Strength.{by_classes, by_kind, part_of}
use Rattle.site_order.specs.Entries.{entries, parts_of, all_parts, leads_to}
use Rattle.site_order.proofs.order.+order.Given as goal

abbrev pub invariant-push_by_classes-loop-class : goal.invariant-push_by_classes-loop-class
invariant-push_by_classes-loop-class l =
    entries l.out.items ++ by_classes l.kind (drop l.class-index l.class-items) (all_parts l.part l.above l.tree) ≡ entries l.fn.out.items ++ by_classes l.kind l.class-items (all_parts l.part l.above l.tree)

abbrev pub invariant-push_first-loop-child : goal.invariant-push_first-loop-child
invariant-push_first-loop-child l =
    (l.out.items ≡ l.fn.out.items)
    × (list_any (leads_to l.kind l.class) (drop l.child-index l.children) ≡ list_any (leads_to l.kind l.class) l.children)
    × (part_of l.kind l.class (parts_of l.part l.above l.parent (drop l.child-index l.children)) ≡ part_of l.kind l.class (parts_of l.part l.above l.parent l.children))

abbrev pub invariant-push_kind-loop-child : goal.invariant-push_kind-loop-child
invariant-push_kind-loop-child l =
    entries l.out.items ++ by_kind l.kind (parts_of l.part l.above l.parent (drop l.child-index l.children)) ≡ entries l.fn.out.items ++ by_kind l.kind (parts_of l.part l.above l.parent l.children)
