-- The rows of a rule satisfy the conditions for certificates.
use Rattle.std.proofs.Common.{ℕ, ◌<◌, ◌≤◌, List, [], ◌∷◌, arith}
use Rattle.std.specs.Prelude.{ℤ, nat_abs}
use Rattle.std.specs.List.{All, AllByRecursion}
use Rattle.std.proofs.lemmas.List.Elements.{All-nil, All-cons}
use Rattle.poly_terms.specs.model.Programs.{Rule}
use Rattle.poly_terms.specs.linear_forms.Forms.{Form}
use Rattle.poly_terms.specs.model.Limits.{coefficient_limit}
use Rattle.farkas_cert.specs.Sizes.{row_limit, AreRowNumbers, HasRowNumbers}
use Rattle.farkas_cert.proofs.Sums.{rows_of_a_rule}
use Rattle.guard_prep.specs.Prepared.{rows_of, unknowns_of}
use Rattle.guard_prep.specs.Laws.{IsPreparable, IsSmallForm, RowsSuitCertificates}
use Rattle.guard_prep.proofs.SizeLaws.{rows-are-small}

-- a small form has numbers below 2^63
small-numbers : (n : ℕ) (f : Form) → IsSmallForm n f → HasRowNumbers f
small-numbers n f h = record { coefs = each f.coefs h.coefs; constant = omega (arith, h.constant) }
  where
    each : (xs : List ℤ) → AllByRecursion (λ a. nat_abs a ≤ coefficient_limit) xs → AreRowNumbers xs
    each [] k = All-nil (λ (x : ℤ). nat_abs x < row_limit)
    each (x ∷ xs) k = All-cons (λ (a : ℤ). nat_abs a < row_limit) x xs (omega (arith, k.0)) (each xs k.1)

-- all small forms of a list satisfy the condition on their numbers
all-numbers : (n : ℕ) (rows : List Form) → AllByRecursion (IsSmallForm n) rows → All HasRowNumbers rows
all-numbers n [] h = All-nil HasRowNumbers
all-numbers n (f ∷ rows) h = All-cons HasRowNumbers f rows (small-numbers n f h.0) (all-numbers n rows h.1)

-- the rows of a rule satisfy the condition on their numbers
numbers : (r : Rule) → IsPreparable r → All HasRowNumbers (rows_of r)
numbers r h = all-numbers (unknowns_of r) (rows_of r) (rows-are-small.rows r h)

-- the rows of a rule satisfy all conditions for certificates
pub rows-suit-certificates : RowsSuitCertificates
rows-suit-certificates = record {
  numbers = numbers;
  sums = λ r h. rows_of_a_rule (rows_of r) (rows-are-small.few_rows r h) (numbers r h);
  unknowns = λ r h. omega (arith, rows-are-small.few_unknowns r h);
}
