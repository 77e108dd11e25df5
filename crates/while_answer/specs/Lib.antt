-- The specs that contracts of this crate and of other crates cite.
pub mod Texts
pub mod Spelled
pub mod Executed
pub mod Laws
-- Worked values.
pub mod Worked
-- The crates below, which callers name through this one.
pub use Rattle.while_text.specs as while_text
pub use Rattle.while_text.specs.while_tree
pub use Rattle.while_text.specs.while_model
