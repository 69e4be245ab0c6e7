use Rattle.std.proofs.Common.{◌∙◌, ◌∷◌, ◌++◌, sym, ap, get_or}
use Rattle.std.proofs.Math.Seq.{get_or-append_seam, set-append_seam}
use Rattle.std.proofs.Math.ListN.{set}
use Rattle.spec_tables.proofs.few.exchange.Goals as goal

pub returns-clause-exchanged : goal.returns-clause-exchanged
returns-clause-exchanged g c = λ front entry back parts place.
    let here = c.index_mut.result.now in
    let items = c.args.entries.now.items in
    let same = c.index_mut.ensures.value ∙ ap (λ l. get_or l c.args.i here) parts ∙ ap (λ n. get_or (front ++ entry ∷ back) n here) (sym place) ∙ get_or-append_seam front entry back here in
    let after : g.row.K.Denot × g.row.V.Denot = (here.0, c.replace.new.dest) in
    let made = ap (λ l. set l c.args.i after) parts ∙ ap (λ n. set (front ++ entry ∷ back) n after) (sym place) ∙ set-append_seam front entry back after in
    (c.replace.ensures.value ∙ ap (λ e. e.1) same, made ∙ ap (λ (k : g.row.K.Denot). front ++ (k, c.replace.new.dest) ∷ back) (ap (λ e. e.0) same) ∙ ap (λ (v : g.row.V.Denot). front ++ (entry.0, v) ∷ back) c.replace.ensures.after)
