-- the inputs of the searches for sizes
pub mod Accepted
-- the input of the search for components
pub mod Answered
