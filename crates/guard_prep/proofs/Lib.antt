-- Laws of tightened rows, of the points of rows, and of the sizes of their numbers.
mod DivisorLaws
mod TighteningLaws
mod RangeLaws
pub mod PointLaws
mod LinearPart
pub mod SizeLaws
mod CertificateSizes
pub mod StepLaws
mod WorkedPoints
-- The lemmas of the crates below, which callers name through this one.
pub use Rattle.poly_terms.proofs.model
pub use Rattle.int_laws.proofs as int_laws
pub use Rattle.poly_terms.proofs as poly_terms
pub use Rattle.its_model.proofs as its_model
