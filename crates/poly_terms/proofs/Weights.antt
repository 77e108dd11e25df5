-- The number of nodes of an expression.
use Rattle.std.proofs.Common.{ℕ, ◌+◌, ◌<◌, arith}
use Rattle.model.specs.Terms.{Term, Literal, Variable, Negation, Addition, Subtraction, Multiplication, Exponentiation}

-- the number of nodes
abbrev pub weight : Term → ℕ
weight (Literal z) = 1
weight (Variable i) = 1
weight (Negation e) = 1 + weight e
weight (Addition d e) = 1 + (weight d + weight e)
weight (Subtraction d e) = 1 + (weight d + weight e)
weight (Multiplication d e) = 1 + (weight d + weight e)
weight (Exponentiation e n) = 1 + weight e

-- an expression has at least one node
pub weight-positive : (t : Term) → 0 < weight t
weight-positive (Literal z) = omega arith
weight-positive (Variable i) = omega arith
weight-positive (Negation e) = omega arith
weight-positive (Addition d e) = omega arith
weight-positive (Subtraction d e) = omega arith
weight-positive (Multiplication d e) = omega arith
weight-positive (Exponentiation e n) = omega arith
