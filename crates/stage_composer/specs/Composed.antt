-- The entry at a place and the places that it lists, as composition defines them: crates that stand on the composer take these names
-- from here.
pub use Rattle.prim_compose.specs.Listing.{listed_below}
unfoldable pub use Rattle.prim_compose.specs.Composed.{view_at}
unfoldable pub use Rattle.prim_compose.specs.Listing.{entry_at}
