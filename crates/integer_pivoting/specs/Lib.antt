-- what solves a linear program
pub mod Solutions
