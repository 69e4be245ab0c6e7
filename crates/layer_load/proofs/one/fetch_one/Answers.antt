use Rattle.std.proofs.Common.{◌≤◌, length, arith}
use Rattle.io_edges.specs.Edges.{most}
use Rattle.layer_load.proofs.Fetching.{found_file, read_failed, no_memory}
use Rattle.layer_load.proofs.one.fetch_one.Goals as goal

pub returns-in-Found-clause-file : goal.returns-in-Found-clause-file
returns-in-Found-clause-file g c =
    let gave = rw (c.new-bytes.ensures.items, ← c.deref.ensures.value) at c.in-Found.ensures.tells in
    let left = rw (c.new-bytes.ensures.items, ← c.deref.ensures.value) at c.in-Found.ensures.leaves in
    let short : length c.deref.result.now ≤ most = omega (arith, left.1) in
    found_file c.args.before c.read_counted.result (g.F.LayerFiles.files c.args.files.now) c.args.name.now c.deref.result.now gave short c.read_counted.ensures.answers

pub returns-in-Failed-clause-file : goal.returns-in-Failed-clause-file
returns-in-Failed-clause-file g c = read_failed (g.F.LayerFiles.files c.args.files.now) c.args.name.now c.args.before

pub returns-clause-file : goal.returns-clause-file
returns-clause-file g c = no_memory (g.F.LayerFiles.files c.args.files.now) c.args.name.now c.args.before
