-- The specs that contracts of this crate and of other crates cite.
pub mod Lexing
pub mod Within
pub mod Grammar
pub mod Courses
pub mod Drafts
pub mod Faults
pub mod Reading
pub mod Views
pub mod Results
-- The crates below, which callers name through this one.
pub use Rattle.while_tree.specs as while_tree
pub use Rattle.while_tree.specs.while_model
pub use Rattle.while_tree.specs.its_model
pub use Rattle.while_tree.specs.poly_terms
pub use Rattle.while_tree.specs.model
