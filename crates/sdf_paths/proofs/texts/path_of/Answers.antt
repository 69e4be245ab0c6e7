use Rattle.std.proofs.Common.{sym}
use Rattle.sdf_paths.proofs.PathOf.{path_is, no_path, path_means}
use Rattle.sdf_paths.proofs.texts.path_of.Goals as goal

pub returns-in-Ok : goal.returns-in-Ok
returns-in-Ok c = record {
  path = sym (path_is c.args.text.now c.in-Ok.path c.utf8.text c.in-Ok.ensures.ok);
  read = λ path. path_means c.args.text.now path c.utf8.text;
}

pub returns-in-Err-Bad : goal.returns-in-Err-Bad
returns-in-Err-Bad c =
    let all = rw c.in-Err-Bad.field-0-is at c.in-Err-Bad.ensures in
    record {
      path = sym (no_path c.args.text.now c.utf8.text all.bad.unread);
      read = λ path. path_means c.args.text.now path c.utf8.text;
    }

pub returns-in-Err-NoMemory-clause-read : goal.returns-in-Err-NoMemory-clause-read
returns-in-Err-NoMemory-clause-read c = λ path. path_means c.args.text.now path c.utf8.text
