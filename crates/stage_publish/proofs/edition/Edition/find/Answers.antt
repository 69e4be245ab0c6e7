use Rattle.std.proofs.Common.{◌∙◌, ap}
use Rattle.std.specs.BTreeMap.{get, is_at}
use Rattle.std.specs.Option.{option_map}
use Rattle.std.specs.Prelude.{slice_get}
use Rattle.stage_publish.specs.Editions.{Published, item_at}
use Rattle.stage_publish.proofs.Finding.{found_at, found_nowhere}
use Rattle.stage_publish.proofs.edition.Edition.find.Goals as goal

pub returns-in-Some : goal.returns-in-Some
returns-in-Some g c =
    c.entry.ensures
    ∙ ap (λ l. option_map (λ e. e.1) (slice_get l c.in-Some.i.now)) c.as_slice.ensures
    ∙ found_at (is_at (g.P.Ord.cmp c.args.place.now)) c.self.inside.items c.in-Some.i.now (c.in-Some.ensures.value ∙ (ap (λ m. get g.P.Ord.cmp m c.args.place.now) c.deref.ensures ∙ c.self.invariant c.args.place.now))
    ∙ ap (λ (p : Published g.row.P.Denot g.row.E.Denot). item_at g.P.Ord.cmp c.args.place.now p.items) c.self.view_is

pub returns-in-None : goal.returns-in-None
returns-in-None g c =
    found_nowhere (is_at (g.P.Ord.cmp c.args.place.now)) c.self.inside.items (c.in-None.ensures.value ∙ (ap (λ m. get g.P.Ord.cmp m c.args.place.now) c.deref.ensures ∙ c.self.invariant c.args.place.now))
    ∙ ap (λ (p : Published g.row.P.Denot g.row.E.Denot). item_at g.P.Ord.cmp c.args.place.now p.items) c.self.view_is
