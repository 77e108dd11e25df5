-- The ring laws, the order laws, polynomial identities, sums, weak duality, and coprime numbers.
pub mod RingLaws
pub mod OrderLaws
pub mod HornerValues
pub mod Identities
pub mod SumLaws
pub mod DotLaws
pub mod Duality
pub mod Coprime
pub mod LeastMultiples
pub mod ZeroLaws
