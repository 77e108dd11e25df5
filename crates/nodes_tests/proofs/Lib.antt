-- variables and monomials that are written out
pub mod Variables
