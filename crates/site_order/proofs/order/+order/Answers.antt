use Rattle.std.proofs.Common.{◌∙◌, sym, ap, append_assoc}
use Rattle.std.specs.List.{list_any}
use Rattle.site_order.specs.Entries.{leads_to}
use Rattle.site_order.proofs.Parts.{strong_is, weak_is, part_of_own, part_of_lifted}
use Rattle.site_order.proofs.order.+order.Goals as goal

pub push_class-returns-then-found : goal.push_class-returns-then-found
push_class-returns-then-found t c =
    let own = part_of_own c.args.kind c.args.class.now c.args.part c.args.above c.args.tree.now (ap (list_any (leads_to c.args.kind c.args.class.now)) (sym c.as_slice.ensures) ∙ sym c.in_ok-found.ensures.found ∙ c.if-found.true) in
    simp (c.in_ok-found.ensures.out, c.as_slice.ensures, own)

pub push_class-returns : goal.push_class-returns
push_class-returns t c =
    let both = part_of_lifted c.args.kind c.args.class.now c.args.part c.args.above c.args.tree.now (ap (list_any (leads_to c.args.kind c.args.class.now)) (sym c.as_slice.ensures) ∙ sym c.in_ok-found.ensures.found ∙ c.if-found.false) in
    simp (c.in_ok-_found.ensures.out, c.in_ok-found.ensures.out, c.as_slice.ensures, c.as_slice-2.ensures, both, append_assoc)

pub push_strong-returns : goal.push_strong-returns
push_strong-returns t c =
    simp (c.in_ok-push_by_strength.ensures, c.in_ok-push_node.ensures, strong_is c.args.above c.args.rank c.args.tree.now, append_assoc)

pub push_weak-returns : goal.push_weak-returns
push_weak-returns t c =
    simp (c.in_ok-push_by_strength.ensures, c.in_ok-push_by_classes.ensures, weak_is c.args.above c.args.rank c.args.tree.now, append_assoc)
