-- Lemmas on programs with at most one loop, worked out by hand.
use Rattle.std.specs.Prelude.{◌≡◌, ℕ, List, [], ◌∷◌, ℤ, pos, Some}
use Rattle.cert_program.specs.model.Bounds.{Constant, Input}
use Rattle.cert_program.specs.model.Facts.{Fact, Time, Size}
use Rattle.cert_program.specs.cert_rules.Nodes.{Member, Proof, Cite, Empty, Unreached, Never, Spread, Cycle, Weaken}
use Rattle.cert_program.specs.cert_rules.Nodes.{NoProof}
use Rattle.cert_program.specs.cert_rules.Reasons.{Move, Floor, MissingSize, Nonlinear}
use Rattle.cert_program.specs.cert_rules.Acceptance.{AcceptsLemmas, facts_of_lemmas}
use Rattle.cert_program.specs.Setting.{setting_of}
use Rattle.worked_nodes.specs.WorkedPrograms.{counting_down, looping_start, by_twos, guarded_entry, contradicted}
use Rattle.worked_nodes.specs.WorkedPrograms.{between_integers, apart, squaring, squaring_loop}
use Rattle.worked_nodes.specs.WorkedNodes.{minus, one, at_symbol, rank, side_bound, member, equal_to, nonlinear, entered, cited}
use Rattle.worked_nodes.specs.WorkedNodes.{sum, product, maximum, first_reason_in}
use Rattle.worked_nodes.specs.WorkedLoops as two_places

-- the first rule, whose rows have these multipliers, runs once: the function is 1 at k and 0 at l
abbrev pub once : List ℕ → Proof
once multipliers = rank 1 (1 ∷ []) 1
    (at_symbol 0 (one (pos 0)) (pos 1) ∷ at_symbol 1 (one (pos 0)) (pos 0) ∷ []) (multipliers ∷ []) multipliers entered

-- the function (a * A + c) / den falls by the second rule
abbrev pub falling_by : ℕ → ℤ → ℤ → Proof
falling_by den a c = rank 2 (1 ∷ 2 ∷ []) den (at_symbol 0 (one a) c ∷ at_symbol 1 (one a) c ∷ [])
    ([] ∷ (0 ∷ []) ∷ []) (1 ∷ []) entered

-- the function A falls by the second rule
abbrev pub down : Proof
down = falling_by 1 (pos 1) (pos 0)

-- the place after the first rule is A, as a lemma
abbrev pub copied : Proof
copied = Spread (equal_to 1 1 (one (pos 1)) []) entered

-- a member whose place is at most what it was before the rule, and at least minus low
abbrev pub lessened : ℕ → ℕ → Member
lessened rule low = member rule 1 (side_bound (one (pos 1)) (pos 0) (0 ∷ [])) (side_bound (one (pos 0)) (pos low) (1 ∷ []))

-- the lemmas on the program that counts down, with a weaker bound, and their facts
abbrev pub counting_lemmas : List Proof
counting_lemmas =
    once [] ∷
    down ∷
    copied ∷
    Cycle (lessened 2 0 ∷ []) (cited (3 ∷ [])) ∷ Weaken (Cite 2) (sum (Input 0 ∷ Constant 7 ∷ [])) ∷ []

abbrev pub counting_facts : List (List Fact)
counting_facts =
    (Time 1 (Constant 1) ∷ []) ∷
    (Time 2 (Input 0) ∷ []) ∷
    (Size 1 1 (Input 0) ∷ []) ∷
    (Size 2 1 (Input 0) ∷ []) ∷ (Time 2 (sum (Input 0 ∷ Constant 7 ∷ [])) ∷ []) ∷ []

-- the lemmas that the only rule falls from A, and that after it the place is at most what it was
abbrev pub start_lemmas : List Proof
start_lemmas =
    rank 1 (1 ∷ []) 1 (at_symbol 0 (one (pos 1)) (pos 0) ∷ []) ((0 ∷ []) ∷ []) (1 ∷ []) entered ∷
    Cycle (lessened 1 0 ∷ []) entered ∷ []

-- the lemmas that the function (A + 1) / 2 falls by 1 where A falls by 2, and that after the rule A is at least -1
abbrev pub halved_lemmas : List Proof
halved_lemmas =
    once [] ∷ falling_by 2 (pos 1) (pos 1) ∷ copied ∷ Cycle (lessened 2 1 ∷ []) (cited (3 ∷ [])) ∷ []

-- the lemmas for the guard A >= 5, which gives the lower side bound
abbrev pub guarded_lemmas : List Proof
guarded_lemmas =
    once (0 ∷ []) ∷
    Spread (member 1 1 (side_bound (one (pos 1)) (pos 0) (0 ∷ [])) (side_bound (one (pos 0)) (minus 5) (1 ∷ []))) entered ∷ []

-- the lemmas where the second rule never runs, as this node shows, and their facts
abbrev pub dead_lemmas : Proof → List Proof
dead_lemmas never = never ∷ Never (Cite 1) ∷ once [] ∷ copied ∷ []

abbrev pub dead_facts : List (List Fact)
dead_facts =
    (Time 2 (Constant 0) ∷ []) ∷
    (Size 2 1 (Constant 0) ∷ []) ∷ (Time 1 (Constant 1) ∷ []) ∷ (Size 1 1 (Input 0) ∷ []) ∷ []

-- all lemmas on loops that fall are accepted, with these facts; without the 1 the function has no floor, and over 3 it
-- falls by too little
pub record FallingLoopsAreJudged : Type 0 where
  pub counting : AcceptsLemmas (setting_of counting_down) counting_lemmas
  pub counting_stated : facts_of_lemmas (setting_of counting_down) counting_lemmas ≡ counting_facts
  pub start : AcceptsLemmas (setting_of looping_start) start_lemmas
  pub start_stated : facts_of_lemmas (setting_of looping_start) start_lemmas
      ≡ (Time 1 (Input 0) ∷ []) ∷ (Size 1 1 (Input 0) ∷ []) ∷ []
  pub halved : AcceptsLemmas (setting_of by_twos) halved_lemmas
  pub halved_stated : facts_of_lemmas (setting_of by_twos) halved_lemmas
      ≡ (Time 1 (Constant 1) ∷ []) ∷
      (Time 2 (sum (Input 0 ∷ Constant 1 ∷ [])) ∷ []) ∷
      (Size 1 1 (Input 0) ∷ []) ∷ (Size 2 1 (maximum (Input 0 ∷ Constant 1 ∷ [])) ∷ []) ∷ []
  pub no_floor : first_reason_in by_twos [] (falling_by 2 (pos 1) (pos 0)) ≡ Some Floor
  pub too_little : first_reason_in by_twos [] (falling_by 3 (pos 1) (pos 2)) ≡ Some (Move 2)
  pub guarded : AcceptsLemmas (setting_of guarded_entry) guarded_lemmas
  pub guarded_stated : facts_of_lemmas (setting_of guarded_entry) guarded_lemmas
      ≡ (Time 1 (Constant 1) ∷ []) ∷ (Size 1 1 (Input 0) ∷ []) ∷ []

-- lemmas on rules that never run are accepted: their guard has no point, or no integer one, or their source isn't
-- reached
pub record DeadRulesAreJudged : Type 0 where
  pub empty : AcceptsLemmas (setting_of contradicted) (dead_lemmas (Empty 2 (1 ∷ 1 ∷ [])))
  pub empty_stated : facts_of_lemmas (setting_of contradicted) (dead_lemmas (Empty 2 (1 ∷ 1 ∷ []))) ≡ dead_facts
  pub between : AcceptsLemmas (setting_of between_integers) (dead_lemmas (Empty 2 (1 ∷ 1 ∷ [])))
  pub between_stated :
      facts_of_lemmas (setting_of between_integers) (dead_lemmas (Empty 2 (1 ∷ 1 ∷ []))) ≡ dead_facts
  pub unreached : AcceptsLemmas (setting_of apart) (dead_lemmas (Unreached 2 NoProof))
  pub unreached_stated : facts_of_lemmas (setting_of apart) (dead_lemmas (Unreached 2 NoProof)) ≡ dead_facts

-- the lemmas on a place that is squared once
abbrev pub squared_lemmas : List Proof
squared_lemmas = once [] ∷ Spread (nonlinear 1 1) entered ∷ []

-- the lemmas of a loop that squares its second place, except for that place
abbrev pub squaring_lemmas : List Proof
squaring_lemmas =
    two_places.once ∷
    two_places.rounds ∷
    two_places.first_place ∷ two_places.second_place ∷ Cycle (two_places.falling 2 ∷ []) (cited (3 ∷ [])) ∷ []

-- a square outside a loop is accepted; in a loop it reads the place that it is to bound
pub record SquaresAreJudged : Type 0 where
  pub once : AcceptsLemmas (setting_of squaring) squared_lemmas
  pub once_stated : facts_of_lemmas (setting_of squaring) squared_lemmas
      ≡ (Time 1 (Constant 1) ∷ []) ∷ (Size 1 1 (product (Input 0 ∷ Input 0 ∷ [])) ∷ []) ∷ []
  pub others : AcceptsLemmas (setting_of squaring_loop) squaring_lemmas
  pub looped : first_reason_in squaring_loop
      (facts_of_lemmas (setting_of squaring_loop) squaring_lemmas) (Cycle (nonlinear 2 2 ∷ []) (cited (4 ∷ [])))
      ≡ Some (Nonlinear 2 2)
  pub missing : first_reason_in squaring_loop [] (Cycle (nonlinear 2 2 ∷ []) NoProof) ≡ Some (MissingSize 1 2)
