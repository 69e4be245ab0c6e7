use Rattle.std.proofs.Common.{refl, sym}
use Rattle.layer_load.proofs.Asking.{turn_of_file, turn_without}
use Rattle.layer_load.proofs.Fetching.{crate_one, package_one}
use Rattle.layer_load.proofs.one.load_one.Goals as goal

pub returns-in-Crate-clause-answers : goal.returns-in-Crate-clause-answers
returns-in-Crate-clause-answers g c =
    crate_one c.args.before c.unread.result (g.F.LayerFiles.files c.args.files.now) c.args.id.now (sym c.in-Crate.ensures) c.unread.ensures.answers

pub returns-in-Package-clause-answers : goal.returns-in-Package-clause-answers
returns-in-Package-clause-answers g c =
    package_one c.args.before c.unread-in-Package.result (g.F.LayerFiles.files c.args.files.now) c.args.id.now (sym c.in-Package.ensures) c.unread-in-Package.ensures.answers

pub returns-in-Plain-clause-asks : goal.returns-in-Plain-clause-asks
returns-in-Plain-clause-asks g c =
    turn_of_file (g.F.LayerFiles.asked c.args.files.now) (g.F.LayerFiles.asked c.fetch_one.new.files) c.args.id.now c.text.result.now c.text.ensures.same (sym c.in-Plain.ensures) c.fetch_one.ensures.asks

pub returns-in-Crate-clause-asks : goal.returns-in-Crate-clause-asks
returns-in-Crate-clause-asks g c = turn_without (g.F.LayerFiles.asked c.args.files.now) (g.F.LayerFiles.asked c.args.files.now) c.args.id.now refl

pub returns-in-Package-clause-asks : goal.returns-in-Package-clause-asks
returns-in-Package-clause-asks g c = turn_without (g.F.LayerFiles.asked c.args.files.now) (g.F.LayerFiles.asked c.args.files.now) c.args.id.now refl
