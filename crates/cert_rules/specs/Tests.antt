-- Tests that are made one after the other, and the reason of the first that fails.
use Rattle.std.specs.Prelude.{Bool, cond, List, [], ◌∷◌, Option, Some, None}
use Rattle.cert_rules.specs.Reasons.{Reason}

-- a test, and the reason where it fails
pub record TestOf (R : Type 0) : Type 0 where
  pub reason : R
  pub passes : Bool

-- a test of a node
abbrev pub Test : Type 0
Test = TestOf Reason

-- the test with this reason and this answer
abbrev pub test : {R : Type 0} → R → Bool → TestOf R
test reason passes = record { reason = reason; passes = passes }

-- the reason of the first test that fails, if one does
abbrev pub first_failing : {R : Type 0} → List (TestOf R) → Option R
first_failing [] = None
first_failing (t ∷ ts) = cond t.passes (first_failing ts) (Some t.reason)

-- the reasons of all tests that fail, in order
abbrev pub failing : {R : Type 0} → List (TestOf R) → List R
failing [] = []
failing (t ∷ ts) = cond t.passes (failing ts) (t.reason ∷ failing ts)
