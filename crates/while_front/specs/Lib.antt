-- The specs that contracts of this crate and of other crates cite.
pub mod Views
pub mod Readable
-- The crate below, which callers name through this one.
pub use Rattle.while_tree.specs as while_tree
