-- The specs that contracts of other crates cite.
pub mod Views
pub mod Readable
-- The crates below, which callers name through this one.
pub use Rattle.while_model.specs as while_model
pub use Rattle.its_model.specs as its_model
pub use Rattle.its_model.specs.poly_terms
pub use Rattle.its_model.specs.model
