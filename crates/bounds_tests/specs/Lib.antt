-- the condition on bounds that tests look at
pub mod Based
