-- rules that facts say never occur, as flags
pub mod Never
-- the crate below, which callers name through this one
pub use Rattle.potential_types.specs as potential_types
