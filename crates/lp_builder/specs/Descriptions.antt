-- The question that the builder's parts describe: groups, goals and costs.
use Rattle.std.specs.Prelude.{◌≡◌, ℕ, ◌+◌, ◌-◌, ◌^◌, ◌<◌, ◌≤◌, List, [], ◌∷◌, ◌++◌, map, length, replicate, slice_get}
use Rattle.std.specs.Prelude.{Some, unsigned_abs}
use Rattle.std.specs.List.{All}
use Rattle.simplex_core.specs.linear_forms.Forms.{Form}
use Rattle.simplex_core.specs.linear_forms.Combinations.{zero_form}
use Rattle.simplex_core.specs.linear_forms.Questions.{Group, Question}
use Rattle.poly_terms.specs.Views.{form_of}
use Rattle.poly_terms.specs.declared.poly.Row.{Row}
use Rattle.lp_builder.specs.declared.description.Goal.{Goal}
use Rattle.lp_builder.specs.declared.description.Cost.{Cost}

-- the goal forms of the parameters from k up to n - 1: those that are listed, and 0 for each other
abbrev pub goal_forms : ℕ → ℕ → List Goal → List Form
goal_forms k n [] = replicate (n - k) zero_form
goal_forms k n (g ∷ gs) = replicate (g.parameter - k) zero_form ++ (form_of g.form ∷ goal_forms (g.parameter + 1) n gs)

-- the group with these unknowns, rows, listed goals and fixed form, in a question with this many parameters
abbrev pub group_of : ℕ → ℕ → List Row → List Goal → Row → Group
group_of parameters unknowns rows goals fixed = record {
  unknowns = unknowns;
  rows = map form_of rows;
  goals = goal_forms 0 parameters goals;
  fixed = form_of fixed;
}

-- the question with these groups, whose parameters have these costs
abbrev pub question_of : List Cost → List Group → Question
question_of costs gs = record {
  parameters = length costs;
  sizes = map (λ c. c.size) costs;
  heights = map (λ c. c.height) costs;
  groups = gs;
}

-- the parameters of the goals ascend, and each is below n
pub record AreParameters (n : ℕ) (goals : List Goal) : Type 0 where
  pub below : (k : ℕ) (g : Goal) → slice_get goals k ≡ Some g → g.parameter < n
  pub ascending : (k l : ℕ) (g h : Goal) → k < l → slice_get goals k ≡ Some g → slice_get goals l ≡ Some h
      → g.parameter < h.parameter

-- a form has no coefficient past its unknowns, and its numbers can be negated in 128 bits
pub record IsWritable (unknowns : ℕ) (f : Form) : Type 0 where
  pub fits : length f.coefs ≤ unknowns
  pub coefs : All (λ a. unsigned_abs a < 2 ^ 127) f.coefs
  pub constant : unsigned_abs f.constant < 2 ^ 127

-- the parts of a group can be written
pub record AreWritable (parameters unknowns : ℕ) (rows : List Row) (goals : List Goal) (fixed : Row) : Type 0 where
  pub listed : AreParameters parameters goals
  pub each_row : All (λ r. IsWritable unknowns (form_of r)) rows
  pub each_goal : All (λ g. IsWritable unknowns (form_of g.form)) goals
  pub fixed_form : IsWritable unknowns (form_of fixed)
