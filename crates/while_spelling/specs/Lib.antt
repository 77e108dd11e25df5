-- what the law cites
pub mod Natural
pub mod Laws
