use Rattle.layer_reads.proofs.Openings.{first_strings_opened, strings_opened, first_paths_opened, paths_opened, first_references_opened, references_opened}
use Rattle.layer_reads.proofs.laws.fields_are_opened.Goals as goal

pub returns : goal.returns
returns c = record {
  first_strings = first_strings_opened;
  strings = strings_opened;
  first_paths = first_paths_opened;
  paths = paths_opened;
  first_references = first_references_opened;
  references = references_opened;
}
