-- Lemmas on two nested loops, and on a loop that doubles before another one counts, worked out by hand.
use Rattle.std.specs.Prelude.{◌≡◌, ℕ, List, [], ◌∷◌, pos}
use Rattle.cert_program.specs.model.Bounds.{Bound, Constant, Input, PowerOf}
use Rattle.cert_program.specs.model.Facts.{Fact, Time, Size}
use Rattle.cert_program.specs.cert_rules.Nodes.{Member, Proof, Spread, Cycle}
use Rattle.cert_program.specs.cert_rules.Known.{Table, table_of}
use Rattle.cert_program.specs.cert_rules.AcceptsSizes.{cycle_size}
use Rattle.cert_program.specs.cert_rules.Acceptance.{AcceptsLemmas, facts_of_lemmas}
use Rattle.cert_program.specs.Setting.{setting_of}
use Rattle.worked_nodes.specs.WorkedPrograms.{nested_loops, doubling}
use Rattle.worked_nodes.specs.WorkedNodes.{minus, two, at_symbol, rank, side_bound, member, equal_to, entered, cited, sum}
use Rattle.worked_nodes.specs.WorkedNodes.{product, maximum}

-- the first rule runs once: the function is 1 at k and 0 at l
abbrev pub once : Proof
once = rank 1 (1 ∷ []) 1
    (at_symbol 0 (two (pos 0) (pos 0)) (pos 1) ∷ at_symbol 1 (two (pos 0) (pos 0)) (pos 0) ∷ []) ([] ∷ []) [] entered

-- the places after the first rule are A and B
abbrev pub first_place : Proof
first_place = Spread (equal_to 1 1 (two (pos 1) (pos 0)) []) entered

abbrev pub second_place : Proof
second_place = Spread (equal_to 1 2 (two (pos 0) (pos 1)) []) entered

-- the outer of the nested loops falls from A; the multipliers of the rules are given
abbrev pub outer : List (List ℕ) → Proof
outer moves = rank 2 (1 ∷ 2 ∷ 3 ∷ 4 ∷ []) 1
    (at_symbol 0 (two (pos 1) (pos 0)) (pos 0)
    ∷ at_symbol 1 (two (pos 1) (pos 0)) (pos 0)
    ∷ at_symbol 2 (two (pos 1) (pos 0)) (minus 1) ∷ []) moves (1 ∷ []) entered

-- the last rule of the outer loop, which leads back, occurs once in each of its rounds
abbrev pub back : Proof
back = rank 4 (3 ∷ 4 ∷ []) 1
    (at_symbol 1 (two (pos 0) (pos 0)) (pos 0) ∷ at_symbol 2 (two (pos 0) (pos 0)) (pos 1) ∷ [])
    ((0 ∷ []) ∷ (0 ∷ []) ∷ []) (0 ∷ []) (cited (2 ∷ []))

-- the place A after the rules of the loops: at least 1 after the first of them, one less after the last
abbrev pub round_member : Member
round_member = member 2 1 (side_bound (two (pos 1) (pos 0)) (pos 0) (0 ∷ [])) (side_bound (two (pos 0) (pos 0)) (minus 1) (1 ∷ []))

abbrev pub kept_member : Member
kept_member = equal_to 3 1 (two (pos 1) (pos 0)) (0 ∷ [])

abbrev pub back_member : Member
back_member = member 4 1 (side_bound (two (pos 1) (pos 0)) (pos 0) (0 ∷ [])) (side_bound (two (minus 1) (pos 0)) (pos 1) (0 ∷ []))

abbrev pub round_members : List Member
round_members = round_member ∷ kept_member ∷ back_member ∷ []

-- the place B after the rules: A after the first, at least 0 after the second, and at most 0 after the last
abbrev pub handed_over : Member
handed_over = member 2 2 (side_bound (two (pos 1) (pos 0)) (pos 0) (0 ∷ [])) (side_bound (two (pos 0) (pos 0)) (minus 1) (1 ∷ []))

abbrev pub inner_member : Member
inner_member = member 3 2 (side_bound (two (pos 0) (pos 1)) (pos 0) (0 ∷ [])) (side_bound (two (pos 0) (pos 0)) (pos 0) (1 ∷ []))

abbrev pub left_member : Member
left_member = member 4 2 (side_bound (two (pos 0) (pos 0)) (pos 0) (1 ∷ [])) (side_bound (two (pos 0) (minus 1)) (pos 0) (0 ∷ []))

-- the inner loop falls from B
abbrev pub inner : Proof
inner = rank 3 (3 ∷ []) 1 (at_symbol 2 (two (pos 0) (pos 1)) (pos 0) ∷ []) ((0 ∷ []) ∷ []) (1 ∷ []) (cited (2 ∷ 7 ∷ []))

-- all lemmas on the nested loops
abbrev pub nested_lemmas : List Proof
nested_lemmas =
    once ∷
    outer ([] ∷ (0 ∷ []) ∷ (0 ∷ []) ∷ (0 ∷ []) ∷ []) ∷
    first_place ∷
    second_place ∷
    back ∷
    Cycle round_members (cited (3 ∷ 5 ∷ [])) ∷
    Spread handed_over (cited (3 ∷ 6 ∷ [])) ∷
    Cycle (inner_member ∷ []) (cited (7 ∷ [])) ∷
    Spread left_member (cited (7 ∷ 8 ∷ [])) ∷ inner ∷ []

-- 2 * A, and 2 * A^2
abbrev pub twice : Bound
twice = product (Constant 2 ∷ Input 0 ∷ [])

abbrev pub twice_squared : Bound
twice_squared = product (Constant 2 ∷ Input 0 ∷ Input 0 ∷ [])

-- the facts of these lemmas
abbrev pub nested_facts : List (List Fact)
nested_facts =
    (Time 1 (Constant 1) ∷ []) ∷
    (Time 2 (Input 0) ∷ []) ∷
    (Size 1 1 (Input 0) ∷ []) ∷
    (Size 1 2 (Input 1) ∷ []) ∷
    (Time 4 (Input 0) ∷ []) ∷
    (Size 2 1 twice ∷ Size 3 1 twice ∷ Size 4 1 twice ∷ []) ∷
    (Size 2 2 twice ∷ []) ∷ (Size 3 2 twice ∷ []) ∷ (Size 4 2 twice ∷ []) ∷ (Time 3 twice_squared ∷ []) ∷ []

-- n times a bound read as a form over 1
abbrev pub taken : ℕ → Bound → Bound
taken n b = sum (Constant 0 ∷ product (Constant n ∷ b ∷ []) ∷ [])

-- the size of the members: the maximum of the sizes that enter, plus the last rule's time times the sum of the
-- additions from the two rules before it, 0 on the upper side and 1 on the lower
abbrev pub round_size : Bound
round_size =
    product
    (sum
    (maximum (taken 1 (Input 0) ∷ sum (Constant 0 ∷ []) ∷ sum (Constant 0 ∷ []) ∷ []) ∷
    product
    (Input 0 ∷
    maximum
    (sum (Constant 0 ∷ []) ∷ sum (Constant 1 ∷ []) ∷ sum (Constant 0 ∷ []) ∷ sum (Constant 1 ∷ []) ∷ []) ∷ []) ∷ [])
    ∷ [])

-- the known bounds where the members are judged
abbrev pub round_table : Table
round_table = table_of (Size 1 1 (Input 0) ∷ Time 4 (Input 0) ∷ [])

-- all lemmas on the nested loops are accepted, with these facts
pub record NestedLoopsAreJudged : Type 0 where
  pub accepted : AcceptsLemmas (setting_of nested_loops) nested_lemmas
  pub facts : facts_of_lemmas (setting_of nested_loops) nested_lemmas ≡ nested_facts
  pub composed : cycle_size (setting_of nested_loops) round_table round_members ≡ round_size

-- the doubling loop falls from A
abbrev pub rounds : Proof
rounds = rank 2 (1 ∷ 2 ∷ []) 1
    (at_symbol 0 (two (pos 1) (pos 0)) (pos 0) ∷ at_symbol 1 (two (pos 1) (pos 0)) (pos 0) ∷ [])
    ([] ∷ (0 ∷ []) ∷ []) (1 ∷ []) entered

-- the loop is left once
abbrev pub leaving : Proof
leaving = rank 3 (1 ∷ 2 ∷ 3 ∷ []) 1
    (at_symbol 0 (two (pos 0) (pos 0)) (pos 1)
    ∷ at_symbol 1 (two (pos 0) (pos 0)) (pos 1)
    ∷ at_symbol 2 (two (pos 0) (pos 0)) (pos 0) ∷ []) ([] ∷ (0 ∷ []) ∷ [] ∷ []) [] entered

-- the first place after a rule that counts A down is at most what it was, and at least 0
abbrev pub falling : ℕ → Member
falling rule = member rule 1 (side_bound (two (pos 1) (pos 0)) (pos 0) (0 ∷ [])) (side_bound (two (pos 0) (pos 0)) (pos 0) (1 ∷ []))

-- the second place after the rule doubles
abbrev pub doubled_member : Member
doubled_member = equal_to 2 2 (two (pos 0) (pos 2)) (0 ∷ [])

-- the last loop falls from A
abbrev pub last_rounds : Proof
last_rounds =
    rank 4 (4 ∷ []) 1 (at_symbol 2 (two (pos 1) (pos 0)) (pos 0) ∷ []) ((0 ∷ []) ∷ []) (1 ∷ []) (cited (3 ∷ 8 ∷ []))

-- all lemmas on the doubling loop and the one after it
abbrev pub doubling_lemmas : List Proof
doubling_lemmas =
    once ∷
    rounds ∷
    leaving ∷
    first_place ∷
    second_place ∷
    Cycle (falling 2 ∷ []) (cited (4 ∷ [])) ∷
    Cycle (doubled_member ∷ []) (cited (5 ∷ 2 ∷ [])) ∷
    Spread (equal_to 3 1 (two (pos 0) (pos 1)) []) (cited (5 ∷ 7 ∷ [])) ∷
    Spread (equal_to 3 2 (two (pos 0) (pos 1)) []) (cited (5 ∷ 7 ∷ [])) ∷
    Cycle (falling 4 ∷ []) (cited (8 ∷ [])) ∷
    Cycle (equal_to 4 2 (two (pos 0) (pos 1)) (0 ∷ []) ∷ []) (cited (9 ∷ [])) ∷ last_rounds ∷ []

-- 2 * 2^A * B
abbrev pub doubled_size : Bound
doubled_size = product (Constant 2 ∷ PowerOf 2 (Input 0) ∷ Input 1 ∷ [])

-- the facts of these lemmas
abbrev pub doubling_facts : List (List Fact)
doubling_facts =
    (Time 1 (Constant 1) ∷ []) ∷
    (Time 2 (Input 0) ∷ []) ∷
    (Time 3 (Constant 1) ∷ []) ∷
    (Size 1 1 (Input 0) ∷ []) ∷
    (Size 1 2 (Input 1) ∷ []) ∷
    (Size 2 1 (Input 0) ∷ []) ∷
    (Size 2 2 doubled_size ∷ []) ∷
    (Size 3 1 doubled_size ∷ []) ∷
    (Size 3 2 doubled_size ∷ []) ∷
    (Size 4 1 doubled_size ∷ []) ∷ (Size 4 2 doubled_size ∷ []) ∷ (Time 4 doubled_size ∷ []) ∷ []

-- the size of the place that doubles: the size that enters, times 2 to the power of the rule's time
abbrev pub power_size : Bound
power_size =
    product
    (PowerOf 2 (Input 0) ∷ sum (maximum (taken 2 (Input 1) ∷ taken 2 (Input 1) ∷ []) ∷ []) ∷ [])

-- the known bounds where it is judged
abbrev pub power_table : Table
power_table = table_of (Size 1 2 (Input 1) ∷ Time 2 (Input 0) ∷ [])

-- all lemmas on the doubling loop are accepted, with these facts
pub record DoublingIsJudged : Type 0 where
  pub accepted : AcceptsLemmas (setting_of doubling) doubling_lemmas
  pub facts : facts_of_lemmas (setting_of doubling) doubling_lemmas ≡ doubling_facts
  pub composed : cycle_size (setting_of doubling) power_table (doubled_member ∷ []) ≡ power_size
