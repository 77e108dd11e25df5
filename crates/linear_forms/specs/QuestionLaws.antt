-- Laws of solutions, duals and prices of a question's linear program.
use Rattle.std.specs.Prelude.{◌≡◌, ℕ, zero, suc, ◌+◌, ◌<◌, List, [], ◌∷◌, length, slice_index_or, ℤ, pos, negsuc, ◌+ℤ◌}
use Rattle.std.specs.Prelude.{◌-ℤ◌, ◌*ℤ◌, nat_abs, ◌≤ℤ◌, ◌<ℤ◌}
use Rattle.std.specs.List.{All}
use Rattle.int_laws.specs.Sums.{sum_to, dot}
use Rattle.linear_forms.specs.Forms.{Form, form_value}
use Rattle.linear_forms.specs.Points.{Meets, IsPoint}
use Rattle.linear_forms.specs.Certificates.{Implies}
use Rattle.linear_forms.specs.Combinations.{zero_form}
use Rattle.linear_forms.specs.LinearProgram.{IsSolution, HasPrices, IsLeast, IsDual}
use Rattle.linear_forms.specs.Questions.{Group, Question, IsShaped, goal_at, double, program_of_question}

-- the numbers after the first n
abbrev pub after : ℕ → (ℕ → ℤ) → ℕ → ℤ
after zero x = x
after (suc n) x = after n (λ j. x (suc j))

-- the parameters that a point of the columns represents: the plus column less the minus column of each pair
abbrev pub parameters_of : (ℕ → ℤ) → ℕ → ℤ
parameters_of x p = x (double p) -ℤ x (suc (double p))

-- the multipliers of a group's rows, from the first columns of the group
abbrev pub multipliers_of : (ℕ → ℤ) → List Form → List ℕ
multipliers_of x [] = []
multipliers_of x (r ∷ rows) = nat_abs (x 0) ∷ multipliers_of (λ j. x (suc j)) rows

-- the multipliers of each group, from the columns after the parameters
abbrev pub multipliers_by_group : (ℕ → ℤ) → List Group → List (List ℕ)
multipliers_by_group x [] = []
multipliers_by_group x (g ∷ gs) = multipliers_of x g.rows ∷ multipliers_by_group (after (suc (length g.rows)) x) gs

-- for each group, the multipliers show that the goal at the parameters v over d follows from the rows
abbrev pub Follows : List Group → List (List ℕ) → (ℕ → ℤ) → ℤ → Type 0
Follows [] ms v d = Unit {0}
Follows (g ∷ gs) [] v d = ⊥
Follows (g ∷ gs) (m ∷ ms) v d = Implies g.rows m (goal_at g v d) × Follows gs ms v d

-- a point or a ray of a group: numerators of the group's unknowns over a denominator, which is 0 for a ray
pub record Element : Type 0 where
  pub parts : ℕ → ℤ
  pub den : ℤ

-- a dual or prices cut into an element for each group: a number for each unknown, and then the denominator
abbrev pub elements_of : (ℕ → ℤ) → List Group → List Element
elements_of y [] = []
elements_of y (g ∷ gs) = record { parts = y; den = y g.unknowns } ∷ elements_of (after (suc g.unknowns) y) gs

-- each element is a point or a ray of its group's rows
abbrev pub AreElements : List Group → List Element → Type 0
AreElements [] ss = Unit {0}
AreElements (g ∷ gs) [] = ⊥
AreElements (g ∷ gs) (s ∷ ss) = ((pos 0 ≤ℤ s.den) × Meets g.rows s.parts s.den) × AreElements gs ss

-- the sum over the groups of the values of parameter p's goal forms at the elements
abbrev pub total_of : ℕ → List Group → List Element → ℤ
total_of p [] ss = pos 0
total_of p (g ∷ gs) [] = pos 0
total_of p (g ∷ gs) (s ∷ ss) = form_value (slice_index_or g.goals p zero_form) s.parts s.den +ℤ total_of p gs ss

-- the sum over the groups of the values of the fixed forms at the elements
abbrev pub fixed_total : List Group → List Element → ℤ
fixed_total [] ss = pos 0
fixed_total (g ∷ gs) [] = pos 0
fixed_total (g ∷ gs) (s ∷ ss) = form_value g.fixed s.parts s.den +ℤ fixed_total gs ss

-- the elements show that no parameters answer the question: each is a point or a ray of its group, the total of each
-- parameter is 0, and the total of the fixed forms is below 0
pub record Refutes (q : Question) (ss : List Element) : Type 0 where
  pub elements : AreElements q.groups ss
  pub balanced : (p : ℕ) → p < q.parameters → total_of p q.groups ss ≡ pos 0
  pub below : fixed_total q.groups ss <ℤ pos 0

-- the parameters v over e make each group's goal at least 0 on each point of its rows
pub record HoldOnPoints (q : Question) (v : ℕ → ℤ) (e : ℤ) : Type 0 where
  pub denominator : pos 0 <ℤ e
  pub each : All (λ g. (z : ℕ → ℤ) (d : ℤ) → IsPoint g.rows z d → pos 0 ≤ℤ form_value (goal_at g v e) z d) q.groups

-- the rows of each group have a point
pub record HavePoints (q : Question) : Type 0 where
  pub each : All (λ g. (z : ℕ → ℤ) × (d : ℤ) × IsPoint g.rows z d) q.groups

-- a solution of the program gives parameters, and multipliers by which each group's goal follows from its rows
pub record SolutionsSolve : Type 0 where
  pub each : (q : Question) (x : ℕ → ℤ) (d : ℤ) → IsShaped q → IsSolution (program_of_question q) x d
      → Follows q.groups (multipliers_by_group (after (double q.parameters) x) q.groups) (parameters_of x) d

-- a dual of the program, cut into elements, refutes the question
pub record DualsRefute : Type 0 where
  pub each : (q : Question) (y : ℕ → ℤ) → IsShaped q → IsDual (program_of_question q) y
      → Refutes q (elements_of y q.groups)

-- if elements refute a question whose groups have points, no parameters make its goals at least 0 on all points
pub record RefutedHasNone : Type 0 where
  pub each : (q : Question) (ss : List Element) → IsShaped q → Refutes q ss → HavePoints q
      → (v : ℕ → ℤ) (e : ℤ) → ¬ HoldOnPoints q v e

-- the positive part of a number
abbrev pub positive_part : ℤ → ℤ
positive_part (pos n) = pos n
positive_part (negsuc n) = pos 0

-- the weight of the parameters v by size: the sum of each size times the absolute value of its parameter
abbrev pub size_weight : Question → (ℕ → ℤ) → ℤ
size_weight q v = sum_to q.parameters (λ p. pos (slice_index_or q.sizes p 0) *ℤ pos (nat_abs (v p)))

-- the weight of the parameters v by height: the sum of each height times the positive part of its parameter
abbrev pub height_weight : Question → (ℕ → ℤ) → ℤ
height_weight q v = sum_to q.parameters (λ p. pos (slice_index_or q.heights p 0) *ℤ positive_part (v p))

-- the negative part of a number
abbrev pub negative_part : ℤ → ℤ
negative_part (pos n) = pos 0
negative_part (negsuc n) = pos (suc n)

-- the weight of parameters by the costs of their columns: the sum of each positive part times the cost of the plus
-- column, and of each negative part times the cost of the minus column
abbrev pub pair_weight : Question → (ℕ → ℤ) → (ℕ → ℤ) → ℤ
pair_weight q cost v =
    sum_to q.parameters (λ p. cost (double p) *ℤ positive_part (v p) +ℤ cost (suc (double p)) *ℤ negative_part (v p))

-- the columns of multipliers and slacks cost nothing
pub record IsOnParameters (q : Question) (cost : ℕ → ℤ) : Type 0 where
  pub each : (k : ℕ) → cost (double q.parameters + k) ≡ pos 0

-- a solution with prices costs at most what any parameters weigh that make the goals at least 0 on all points, by cross
-- products; and its own parameters weigh at most what it costs
pub record PricesBoundWeights : Type 0 where
  pub bounded : (q : Question) (cost x : ℕ → ℤ) (d : ℤ) → IsShaped q → HavePoints q → IsOnParameters q cost → pos 0 <ℤ d
      → HasPrices (program_of_question q) cost x d → (v : ℕ → ℤ) (e : ℤ) → HoldOnPoints q v e
      → (dot (program_of_question q).columns cost x *ℤ e) ≤ℤ (pair_weight q cost v *ℤ d)
  pub own : (q : Question) (cost x : ℕ → ℤ) → IsOnParameters q cost
      → ((j : ℕ) → j < (program_of_question q).columns → (pos 0 ≤ℤ cost j) × (pos 0 ≤ℤ x j))
      → pair_weight q cost (parameters_of x) ≤ℤ dot (program_of_question q).columns cost x

-- the parameters of a solution of least cost weigh at most what any others weigh that make the goals at least 0 on all
-- points: by the sizes and, if these are equal, by the heights, each by cross products
pub record LeastWeighsLeast : Type 0 where
  pub sizes : (q : Question) (x : ℕ → ℤ) (d : ℤ) → IsShaped q → HavePoints q → IsSolution (program_of_question q) x d
      → IsLeast (program_of_question q) x d → (v : ℕ → ℤ) (e : ℤ) → HoldOnPoints q v e
      → (size_weight q (parameters_of x) *ℤ e) ≤ℤ (size_weight q v *ℤ d)
  pub heights : (q : Question) (x : ℕ → ℤ) (d : ℤ) → IsShaped q → HavePoints q → IsSolution (program_of_question q) x d
      → IsLeast (program_of_question q) x d → (v : ℕ → ℤ) (e : ℤ) → HoldOnPoints q v e
      → size_weight q (parameters_of x) *ℤ e ≡ size_weight q v *ℤ d
      → (height_weight q (parameters_of x) *ℤ e) ≤ℤ (height_weight q v *ℤ d)
