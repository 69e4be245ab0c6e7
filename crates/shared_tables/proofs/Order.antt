-- Tables in the order of their keys, passed on.
pub use Rattle.spec_tables.proofs.Order.{none, table_with, table_without}
