-- The worked results of reading small proof files.
use Rattle.std.proofs.Common.{ℕ, refl, ap}
use Rattle.std.specs.Prelude.{nat_le}
use Rattle.text_grammar.specs.text_core.Choices.{when}
use Rattle.text_grammar.specs.text_core.Faults.{faults_at}
use Rattle.cert_lexer.specs.declared.kind.ProofKind.TheVariants.{Limit}
use Rattle.cert_text.specs.Spelled.{lemma_limit, gap_limit}
use Rattle.cert_text.specs.WorkedFaults.{NodesAreRead, LemmasAreRefused, BoundsAreRefused, GapsAreRefused, FilesAreWorkedOut}

-- the worked nodes and gaps are read
nodes : NodesAreRead
unfolding faults_at
nodes = record {
  cite = refl;
  empty = refl;
  unreached = refl;
  uses = refl;
  inside = refl;
  rank = refl;
  spread = refl;
  poly = refl;
  cycle = refl;
  form_of_two = refl;
  two_members = refl;
  weaken = refl;
  in_bracket = refl;
  side_bound = refl;
  no_point = refl;
  never_run = refl;
  gap = refl;
  gap_points = refl;
}

-- the worked refusals of lemmas hold
lemmas : LemmasAreRefused
lemmas = record {
  itself = refl;
  lemma_zero = refl;
  largest_lemma = refl;
  large_lemma = refl;
  cost = refl;
  no_cost = refl;
  unpaid = refl;
  rule_zero = refl;
  third_rule = refl;
  large_rule = refl;
  in_set = refl;
  place_zero = refl;
  second_place = refl;
  large_place = refl;
  symbol = refl;
  largest = refl;
  too_large = refl;
  too_small = refl;
  first_counts = refl;
  deepest = refl;
  too_deep = refl;
  cost_first = refl;
  last_lemma = λ lemmas few. ap (λ (n : ℕ). when (nat_le lemma_limit n) Limit) few;
  lemma_behind = λ lemmas many. ap (λ (n : ℕ). when (nat_le lemma_limit n) Limit) many;
  last_gap = λ gaps few. ap (λ (n : ℕ). when (nat_le gap_limit n) Limit) few;
  gap_behind = λ gaps many. ap (λ (n : ℕ). when (nat_le gap_limit n) Limit) many;
}

-- the worked refusals of bounds hold
bounds : BoundsAreRefused
unfolding faults_at
bounds = record {
  unlisted = refl;
  before_bracket = refl;
  bracket = refl;
  twice = refl;
  open_end = refl;
  small_base = refl;
  large = refl;
  text_ends = refl;
  unlisted_at_end = refl;
  behind_ten = refl;
}

-- the worked refusals of gaps hold
gaps : GapsAreRefused
gaps = record {
  rule = refl;
  large_rule = refl;
  symbol = refl;
  symbol_first = refl;
  name_alone = refl;
  no_dot = refl;
  no_number = refl;
  leading_zero = refl;
  place_zero = refl;
  second_place = refl;
  too_large = refl;
  largest = refl;
  no_denominator = refl;
}

-- all worked answers hold
pub files_worked_out : FilesAreWorkedOut
files_worked_out = record { nodes = nodes; lemmas = lemmas; bounds = bounds; gaps = gaps }
