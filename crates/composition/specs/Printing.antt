-- The texts of faults.
-- docs/COMPOSITION.md, 'Faults'.
pub use Rattle.prim_view.specs.Printing.{fault_text}
