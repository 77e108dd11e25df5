-- the last of some
pub mod Lasts
-- the crate below, which callers name through this one
pub use Rattle.text_core.specs as text_core
