-- The tests by which factors are compared. Differences that expand to sums of squares count as never negative.
use Rattle.std.specs.Prelude.{Bool, List, Option}
use Rattle.signed_bounds.specs.Bounds.{Signed}
use Rattle.signed_bounds.specs.Safe.{expands_to_squares}
use Rattle.signed_bounds.specs.Fits.{is_equal, factor_fits}
use Rattle.signed_bounds.specs.Covers.{without_equal, without_fitting, factors_equal, factors_fit}
use Rattle.signed_within.specs.declared.test.Test.{Test}
use Rattle.signed_within.specs.declared.test.Test.TheVariants.{Equal, Fitting}

-- whether a factor may take another one, by the test
abbrev pub takes : Test → Signed → Signed → Bool
takes Equal a b = is_equal expands_to_squares a b
takes Fitting a b = factor_fits expands_to_squares a b

-- the factors without the one that a factor takes
abbrev pub without : Test → Signed → List Signed → Option (List Signed)
without Equal a bs = without_equal expands_to_squares a bs
without Fitting a bs = without_fitting expands_to_squares a bs

-- whether each of the first factors takes one of the second, and none of the second is left over
abbrev pub lists_match : Test → List Signed → List Signed → Bool
lists_match Equal fs gs = factors_equal expands_to_squares fs gs
lists_match Fitting fs gs = factors_fit expands_to_squares fs gs
