-- Sums, greatest values and charges over copies, as they were worked out by hand.
use Rattle.std.specs.Prelude.{◌≡◌, ℕ, ◌+◌, ◌*◌, List, [], ◌∷◌, ℤ, pos, None, ⊤}
use Rattle.model.specs.Terms.{Literal, Negation, Subtraction, Variable}
use Rattle.model.specs.Programs.{Rule, Program}
use Rattle.model.specs.WorkedRuns.{entering, looping, countdown, entry_alone, over_two_places}
use Rattle.refinement.specs.Simulation.{Projection, Simulates}
use Rattle.refinement.specs.Laws.{same_numbers}
use Rattle.potentials.specs.Sums.{Charge, Weight}
use Rattle.refined_sums.specs.Copies.{at_rule, charges_above, greatest_at, sum_at, weight_below}
use Rattle.refined_sums.specs.Laws.{SumsAndPeaksAreKept}

-- the number of a rule times ten, and 1 more for each start value
abbrev pub ten_times : ℕ → List ℤ → ℕ
ten_times t [] = 10 * t
ten_times t (z ∷ start) = 1 + ten_times t start

-- a step weighs the number of its rule
abbrev pub own_number : Weight
own_number t env = t

-- the rule below a rule has a number that is greater by 5
abbrev pub below : Projection
below = record { symbol = λ s. s; rule = λ t. t + 5 }

-- the copies of a rule, and a charge of nothing at a rule
abbrev pub two_copies : ℕ → List ℕ
two_copies n = (n + 1) ∷ (n + 2) ∷ []

abbrev pub nothing_at : ℕ → Charge
nothing_at n = record { rule = n; form = [] }

pub record SumsAreWorkedOut : Type 0 where
  pub sum : sum_at ten_times (2 ∷ 3 ∷ []) (pos 5 ∷ []) ≡ 52
  pub no_sum : sum_at ten_times [] (pos 5 ∷ []) ≡ 0
  pub greatest : greatest_at ten_times (2 ∷ 4 ∷ 3 ∷ []) (pos 5 ∷ []) ≡ 41
  pub nothing_greatest : greatest_at ten_times [] (pos 5 ∷ []) ≡ 0
  -- a step weighs by the rule below it, and only at one rule
  pub step_below : weight_below below own_number 2 [] ≡ 7
  pub at_it : at_rule 2 (weight_below below own_number) 2 [] ≡ 7
  pub at_other : at_rule 3 (weight_below below own_number) 2 [] ≡ 0
  -- two charges at two copies each
  pub charged : charges_above two_copies (nothing_at 1 ∷ nothing_at 5 ∷ [])
      ≡ nothing_at 2 ∷ nothing_at 3 ∷ nothing_at 6 ∷ nothing_at 7 ∷ []

-- the looping rule with an update that subtracts 2, and the program of entering and this rule
abbrev pub looping_by_2 : Rule
looping_by_2 = record {
  source = looping.source;
  target = looping.target;
  left = looping.left;
  free = looping.free;
  names = looping.names;
  updates = Subtraction (Variable 0) (Literal (pos 2)) ∷ Negation (Variable 0) ∷ [];
  guard = looping.guard;
  cost = None;
}

abbrev pub countdown_by_2 : Program
countdown_by_2 = over_two_places (entering ∷ looping_by_2 ∷ [])

-- a program whose rule has another update doesn't simulate; and sums aren't kept from a program without the rule
pub record SumsAreKeptOrNot : Type 0 where
  pub itself : SumsAndPeaksAreKept countdown countdown same_numbers
  pub other_update : ¬ (Simulates countdown_by_2 countdown same_numbers (λ c. ⊤))
  pub without_rule : ¬ (SumsAndPeaksAreKept countdown entry_alone same_numbers)
