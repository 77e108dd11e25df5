pub mod AffineValues
pub mod Constants
mod Units
