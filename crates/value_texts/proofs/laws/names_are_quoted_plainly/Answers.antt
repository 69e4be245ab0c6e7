use Rattle.value_texts.proofs.QuotedNames.{identifier_quoted, variant_quoted, name_quoted}
use Rattle.value_texts.proofs.laws.names_are_quoted_plainly.Goals as goal

pub returns : goal.returns
returns c = record { identifier = identifier_quoted; variant = variant_quoted; name = name_quoted }
