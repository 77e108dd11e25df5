-- Facts about sums over a run and about peaks at its steps.
pub mod Sums
-- potentials, their payments, and the laws of both
pub mod Potentials
pub mod Nodes
pub mod Laws
pub mod Phases
pub mod Ranks
-- worked values
pub mod Worked
-- the crates below, which callers name through this one
pub use Rattle.run_counting.specs.model
pub use Rattle.run_counting.specs as run_counting
pub use Rattle.int_laws.specs as int_laws
