-- Questions about rows: which parameters make each goal, a form in these parameters, follow from its rows. The linear
-- program of a question has the parameters and the multipliers of the rows as unknowns. `RuleQuestions` has the
-- questions about rules.
use Rattle.std.specs.Prelude.{◌≡◌, ℕ, zero, suc, ◌+◌, ◌≤◌, nat_lt, if◌then◌else◌, List, [], ◌∷◌, ◌++◌, map, length}
use Rattle.std.specs.Prelude.{replicate, slice_index_or, ℤ, pos, negsuc, neg_ℤ}
use Rattle.std.specs.List.{All}
use Rattle.linear_forms.specs.Forms.{Form, at}
use Rattle.linear_forms.specs.Combinations.{form_sum, form_times, combination}
use Rattle.linear_forms.specs.LinearProgram.{LinearProgram}

-- rows over some unknowns, and a goal that is to follow from them: the fixed form plus the sum of the goal forms, one
-- for each parameter, each multiplied by its parameter
pub record Group : Type 0 where
  pub unknowns : ℕ
  pub rows : List Form
  pub goals : List Form
  pub fixed : Form

-- groups whose goals share signed parameters. Each parameter has a size, which weighs its absolute value, and a height,
-- which weighs its positive part; sizes are compared first
pub record Question : Type 0 where
  pub parameters : ℕ
  pub sizes : List ℕ
  pub heights : List ℕ
  pub groups : List Group

-- the goal of a group at parameters with the numerators v over the denominator d, times d
abbrev pub goal_at : Group → (ℕ → ℤ) → ℤ → Form
goal_at g v d = form_sum (combination g.goals v) (form_times d g.fixed)

-- a group has a goal form for each parameter, and its forms have no coefficient past its unknowns
pub record IsGroupShaped (parameters : ℕ) (g : Group) : Type 0 where
  pub goals_are : length g.goals ≡ parameters
  pub rows_fit : All (λ r. length r.coefs ≤ g.unknowns) g.rows
  pub goals_fit : All (λ f. length f.coefs ≤ g.unknowns) g.goals
  pub fixed_fits : length g.fixed.coefs ≤ g.unknowns

-- each group has this shape, and there are a size and a height for each parameter
pub record IsShaped (q : Question) : Type 0 where
  pub groups_are : All (IsGroupShaped q.parameters) q.groups
  pub sizes_are : length q.sizes ≡ q.parameters
  pub heights_are : length q.heights ≡ q.parameters

-- the number of a form in a line: the coefficient of unknown u, or the constant in the line after the n unknowns
abbrev pub number : ℕ → ℕ → Form → ℤ
number n u f = if nat_lt u n then at f.coefs u else f.constant

-- the number of the slack in a line: -1 in the line of the constant
abbrev pub slack : ℕ → ℕ → ℤ
slack n u = if nat_lt u n then pos 0 else negsuc 0

-- a pair of columns, plus and then minus, for each number
abbrev pub signed : List ℤ → List ℤ
signed [] = []
signed (a ∷ rest) = a ∷ neg_ℤ a ∷ signed rest

-- an equation: its numbers column by column, 0 past the list, and its right side
pub record Equation : Type 0 where
  pub numbers : List ℤ
  pub right : ℤ

-- the equation 0 = 0
abbrev pub no_equation : Equation
no_equation = record { numbers = []; right = pos 0 }

-- line u of a group: the goal's number, less the multipliers times the rows' numbers, and less the slack in the line of
-- the constant, is 0. The columns are the pairs of the parameters, those of the earlier groups, one for the multiplier
-- of each row, and the slack
abbrev pub line : ℕ → Group → ℕ → Equation
line before g u = record {
  numbers = signed (map (number g.unknowns u) g.goals)
      ++ (replicate before (pos 0) ++ (map (λ r. neg_ℤ (number g.unknowns u r)) g.rows ++ (slack g.unknowns u ∷ [])));
  right = neg_ℤ (number g.unknowns u g.fixed);
}

-- the list of the values of f at 0, 1, .. below n
abbrev pub listed : {A : Type 0} → ℕ → (ℕ → A) → List A
listed zero f = []
listed (suc n) f = f 0 ∷ listed n (λ i. f (suc i))

-- the equations: for each group a line for each unknown, and then the line of the constant
abbrev pub equations : ℕ → List Group → List Equation
equations before [] = []
equations before (g ∷ gs) = listed (suc g.unknowns) (line before g) ++ equations (before + suc (length g.rows)) gs

-- twice a number
abbrev pub double : ℕ → ℕ
double zero = zero
double (suc n) = suc (suc (double n))

-- how many columns the groups have: one for each row, and one for each slack
abbrev pub group_columns : List Group → ℕ
group_columns [] = 0
group_columns (g ∷ gs) = suc (length g.rows) + group_columns gs

-- a cost for both columns of each pair
abbrev pub on_both : List ℕ → List ℤ
on_both [] = []
on_both (c ∷ cs) = pos c ∷ pos c ∷ on_both cs

-- a cost for the plus column of each pair
abbrev pub on_plus : List ℕ → List ℤ
on_plus [] = []
on_plus (c ∷ cs) = pos c ∷ pos 0 ∷ on_plus cs

-- the linear program of a question: the first costs are the sizes, on both columns of each parameter, and the second
-- costs are the heights, on the plus columns
unfoldable pub program_of_question : Question → LinearProgram
program_of_question q = record {
  rows = length (equations 0 q.groups);
  columns = double q.parameters + group_columns q.groups;
  entry = λ i j. at (slice_index_or (equations 0 q.groups) i no_equation).numbers j;
  right = λ i. (slice_index_or (equations 0 q.groups) i no_equation).right;
  first = at (on_both q.sizes);
  second = at (on_plus q.heights);
}
