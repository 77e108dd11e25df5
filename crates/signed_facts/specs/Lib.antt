-- the crates below, which callers name through this one
pub use Rattle.cert_types.specs as cert_types
pub use Rattle.potential_types.specs as potential_types
