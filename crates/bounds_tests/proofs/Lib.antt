-- laws of the bounds that tests try
pub mod Views
pub mod Bases
