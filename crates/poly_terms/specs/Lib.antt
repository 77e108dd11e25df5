-- The specs that contracts of this crate and of other crates cite.
pub mod Expanding
pub mod Faults
pub mod Ordered
pub mod Views
pub mod Answers
pub mod AffineForms
pub mod Checked
-- Laws and worked values.
pub mod Laws
pub mod WorkedForms
-- The definitions for the internal functions and the proofs.
pub mod Wide
pub mod Positions
pub mod Powers
pub mod Operands
pub mod Scaling
pub mod Merging
pub mod Totals
pub mod Keys
pub mod Distinct
pub mod KeyForms
-- The crates below, which callers name through this one.
pub use Rattle.model.specs as model
pub use Rattle.linear_forms.specs.int_laws
pub use Rattle.linear_forms.specs as linear_forms
