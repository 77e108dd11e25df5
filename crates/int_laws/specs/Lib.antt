-- The specs that contracts of this crate and of other crates cite.
pub mod Sums
pub mod Polynomial
pub mod NormalForm
pub mod Divisors
-- Laws and worked values.
pub mod Laws
