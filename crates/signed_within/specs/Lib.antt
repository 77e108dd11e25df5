pub mod Terms
pub mod Views
pub mod Tests
pub mod Positions
pub mod Singles
pub mod Wholes
pub mod Taking
pub mod Numerators
