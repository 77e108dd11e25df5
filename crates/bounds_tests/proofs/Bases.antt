-- If the test succeeds, every base is at least 1.
use Rattle.std.proofs.Common.{◌≡◌, true, nat_le}
use Rattle.std.proofs.lemmas.Bool.{and_parts, leb-true}
use Rattle.text_core.specs.model.Bounds.{Bound, Constant, Input, SumOf, ProductOf, MaximumOf, PowerOf, Parts, NoParts}
use Rattle.text_core.specs.model.Bounds.{Part}
use Rattle.text_core.specs.model.Bounds.{IsBased, AreBased}
use Rattle.bounds_tests.specs.Based.{bases_are_some, all_bases_are_some}

-- the test for a bound, and for parts
mutual
  -- a bound whose bases pass the test is based
  pub is_based : (b : Bound) → bases_are_some b ≡ true → IsBased b
  is_based (Constant c) says = tt
  is_based (Input i) says = tt
  is_based (SumOf bs) says = (tt, are_based bs says)
  is_based (ProductOf bs) says = (tt, are_based bs says)
  is_based (MaximumOf bs) says = (tt, are_based bs says)
  is_based (PowerOf c e) says =
      let both = and_parts (nat_le 1 c) (bases_are_some e) says in
      (leb-true 1 c both.0, is_based e both.1)

  are_based : (bs : Parts) → all_bases_are_some bs ≡ true → AreBased bs
  are_based NoParts says = tt
  are_based (Part b bs) says =
      let both = and_parts (bases_are_some b) (all_bases_are_some bs) says in
      (is_based b both.0, are_based bs both.1)
