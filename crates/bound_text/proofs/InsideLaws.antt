-- The reader of bounds inside another text satisfies the laws of a reader, since it takes the same steps as the reader
-- of bounds alone; and its worked values.
use Rattle.std.proofs.Common.{ℕ, List}
use Rattle.std.specs.Prelude.{codes, length}
use Rattle.text_core.specs.Laws.{Laws}
use Rattle.text_core.specs.Faults.{faults_at}
use Rattle.text_core.specs.Reading.{Answers, answer}
use Rattle.text_core.proofs.FirstFaults.{answer_is, answers_all, one_first_each}
use Rattle.bound_text.specs.Lexing.{tokens}
use Rattle.bound_text.specs.Inside.{inner_bounds}
use Rattle.bound_text.specs.WorkedInside.{two_names, DepthsAreWorkedOut, InnerBoundsAreRead}
use Rattle.bound_text.proofs.ReaderLaws.{bound_laws}

-- the laws of a reader don't depend on the faults that it shows
inner_laws : (most n : ℕ) → Laws (inner_bounds most n)
inner_laws most n = let laws = bound_laws n in record { goes_on = laws.goes_on; ends = laws.ends; reads = laws.reads; differ = laws.differ }

-- the answer of reading a text with this limit on levels is the one that the steps give
abbrev judged : (most : ℕ) (bytes : List ℕ) → Answers (inner_bounds most 2) (length bytes) (tokens two_names bytes) (answer (inner_bounds most 2) (length bytes) (tokens two_names bytes))
judged most bytes = answer_is (inner_bounds most 2) (inner_laws most 2) (length bytes) (tokens two_names bytes)

worked : DepthsAreWorkedOut
unfolding faults_at
worked = record {
  product = judged 1 (codes "A*B");
  sum = judged 1 (codes "A + B");
  begun_sum = judged 1 (codes "A ");
  run = judged 1 (codes "A^2");
  begun_run = judged 1 (codes "A^");
  two_levels = judged 2 (codes "A*B");
  exponent = judged 2 (codes "2^(A*B)");
  exponent_within = judged 3 (codes "2^(A*B)");
  pushed = judged 3 (codes "max(1, 2^A)*B");
  pushed_within = judged 4 (codes "max(1, 2^A)*B");
  behind_one = judged 3 (codes "max(1, 2^(2^A))*B");
  one_alone = judged 3 (codes "max(1, 2^(2^A))");
  bracket = judged 1 (codes "(A + B)*A");
  in_bracket = judged 2 (codes "(A + B)*A");
  bare_bracket = judged 1 (codes "2^(");
  behind_bracket = judged 1 (codes "2^(A");
  before_number = judged 2 (codes "max(A, 170141183460469231731687303715884105728)*B");
  number_alone = judged 3 (codes "max(A, 170141183460469231731687303715884105728)*B");
}

-- the reader of bounds inside another text satisfies the laws of a reader, whatever the limit on levels
pub inner_bounds_are_read : InnerBoundsAreRead
inner_bounds_are_read = record {
  laws = inner_laws;
  answers = λ most n. answers_all (inner_bounds most n) (inner_laws most n);
  one_first = λ most n. one_first_each (inner_bounds most n) (inner_laws most n);
  worked = worked;
}
