-- what the contracts of this crate cite
pub mod GapTests
pub mod Touches
pub mod GapBalances
