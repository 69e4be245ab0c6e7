-- What a key finds in parts of a table, passed on.
pub use Rattle.spec_tables.proofs.Splits.{at_none}
