-- Bases of at least 1, as a test.
use Rattle.std.specs.Prelude.{Bool, true, nat_le, ◌&&◌}
use Rattle.text_core.specs.model.Bounds.{Bound, Constant, Input, SumOf, ProductOf, MaximumOf, PowerOf, Parts, NoParts}
use Rattle.text_core.specs.model.Bounds.{Part}

-- whether every base of the bound is at least 1
abbrev mutual
  pub bases_are_some : Bound → Bool
  bases_are_some (Constant c) = true
  bases_are_some (Input i) = true
  bases_are_some (SumOf bs) = all_bases_are_some bs
  bases_are_some (ProductOf bs) = all_bases_are_some bs
  bases_are_some (MaximumOf bs) = all_bases_are_some bs
  bases_are_some (PowerOf c e) = nat_le 1 c && bases_are_some e

  pub all_bases_are_some : Parts → Bool
  all_bases_are_some NoParts = true
  all_bases_are_some (Part b bs) = bases_are_some b && all_bases_are_some bs
