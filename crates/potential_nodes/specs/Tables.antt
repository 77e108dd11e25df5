-- A potential as a table: the functions of symbols and the moves of rules, each with its certificate.
use Rattle.std.specs.Prelude.{ℕ, suc, Bool, false, ◌&&◌, ◌||◌, not, nat_le, if◌then◌else◌, List, [], ◌∷◌}
use Rattle.std.specs.Prelude.{◌++◌}
use Rattle.std.specs.Prelude.{map, pos, Option, Some, None}
use Rattle.potentials.specs.model.Terms.{Term, Literal, Addition, Subtraction, Multiplication}
use Rattle.potentials.specs.model.Programs.{Rule, rule_at}
use Rattle.potentials.specs.model.Polynomials.{Polynomial, polynomial_value}
use Rattle.potentials.specs.model.Paths.{source_in, target_in}
use Rattle.potentials.specs.Sums.{Charge}
use Rattle.potentials.specs.Potentials.{Kind, Keeps, Resets, Never, Potential}
use Rattle.signed_bounds.specs.Bounds.{Signed, Constant, PositivePart}
use Rattle.potential_nodes.specs.Lookup.{lookup, is_there, ascends}
use Rattle.potential_nodes.specs.PolynomialTerms.{form_term, form_after, reads_below}
use Rattle.potential_nodes.specs.Certificates.{Summand, shows}
use Rattle.potential_nodes.specs.Ground.{Ground}
use Rattle.potential_nodes.specs.Checks.{Check, check, BadShape, MissingTime, BadMove}

-- the function of a symbol, over its places
pub record SymbolFunction : Type 0 where
  pub symbol : ℕ
  pub form : Polynomial

-- the move of a rule to a symbol with a function: whether it keeps the function of its source or resets it, its
-- greatest gain, the number of the fact that bounds the gain if one is needed, and the certificate
pub record Move : Type 0 where
  pub rule : ℕ
  pub keeps : Bool
  pub gain : Polynomial
  pub cited : Option ℕ
  pub certificate : List Summand

-- functions, their common denominator, and moves
pub record PotentialTable : Type 0 where
  pub functions : List SymbolFunction
  pub den : ℕ
  pub moves : List Move

-- the symbol of a function, and the rule of a move
abbrev pub symbol_of : SymbolFunction → ℕ
symbol_of f = f.symbol

abbrev pub rule_of : Move → ℕ
rule_of m = m.rule

-- the function of a symbol and the move of a rule, if there is one
abbrev pub function_at : PotentialTable → ℕ → Option SymbolFunction
function_at tab s = lookup symbol_of s tab.functions

abbrev pub move_at : PotentialTable → ℕ → Option Move
move_at tab t = lookup rule_of t tab.moves

-- the polynomial of a function, and the gain of a move, 0 if there is none; and what a move does
abbrev pub form_in : Option SymbolFunction → Polynomial
form_in None = []
form_in (Some f) = f.form

abbrev pub gain_in : Option Move → Polynomial
gain_in None = []
gain_in (Some m) = m.gain

abbrev pub kind_in : Option Move → Kind
kind_in None = Never
kind_in (Some m) = if m.keeps then Keeps else Resets

-- the potential of a table
abbrev pub potential_of : PotentialTable → Potential
potential_of tab = record {
  has = λ s. is_there (function_at tab s);
  function = λ s values. polynomial_value (form_in (function_at tab s)) values;
  kind = λ t. kind_in (move_at tab t);
  gain = λ t env. polynomial_value (gain_in (move_at tab t)) env;
}

-- the charge of a move: its gain
abbrev pub move_charge : Move → Charge
move_charge m = record { rule = m.rule; form = m.gain }

-- whether a symbol, if there is one, has a function; and the function's polynomial, 0 if it has none
abbrev pub has_function : PotentialTable → Option ℕ → Bool
has_function tab None = false
has_function tab (Some s) = is_there (function_at tab s)

abbrev pub form_at : PotentialTable → Option ℕ → Polynomial
form_at tab None = []
form_at tab (Some s) = form_in (function_at tab s)

-- the functions of the source and of the target of a rule
abbrev pub source_form : Ground → PotentialTable → ℕ → Polynomial
source_form g tab t = form_at tab (source_in (rule_at g.program t))

abbrev pub target_form : Ground → PotentialTable → ℕ → Polynomial
target_form g tab t = form_at tab (target_in (rule_at g.program t))

-- the function after a step, over the unknowns of its rule
abbrev pub behind : Ground → PotentialTable → ℕ → Term
behind g tab t = form_after (g.new_values t) (target_form g tab t)

-- den times a form, as an expression
abbrev pub times_den : PotentialTable → Polynomial → Term
times_den tab form = Multiplication (Literal (pos tab.den)) (form_term form)

-- the goal of a move, which is at least 0 at each step by its rule: the function before the step plus the gain, minus
-- the function after it and den times the amount; for a reset the gain minus the function after it
abbrev pub kept_goal : Ground → PotentialTable → Move → Polynomial → Term
kept_goal g tab m amount =
    Subtraction (Addition (form_term (source_form g tab m.rule)) (form_term m.gain))
    (Addition (behind g tab m.rule) (times_den tab amount))

abbrev pub reset_goal : Ground → PotentialTable → Move → Term
reset_goal g tab m = Subtraction (form_term m.gain) (behind g tab m.rule)

abbrev pub move_goal : Ground → PotentialTable → (ℕ → Polynomial) → Move → Term
move_goal g tab amounts m = if m.keeps then kept_goal g tab m (amounts m.rule) else reset_goal g tab m

-- the goal that the function before a step by a rule is at least den times the form
abbrev pub floor_goal : Ground → PotentialTable → ℕ → Polynomial → Term
floor_goal g tab t form = Subtraction (form_term (source_form g tab t)) (times_den tab form)

-- the check that a function reads the places of its symbol alone
abbrev pub function_shape : Ground → SymbolFunction → Check
function_shape g f = check BadShape (reads_below (g.places f.symbol) f.form)

-- the check of a move's shape: its rule leads to a symbol with a function, and leaves one if it keeps the function; its
-- gain reads the rule's variables alone
abbrev pub move_shape : Ground → PotentialTable → Move → Check
move_shape g tab m = check BadShape
    (has_function tab (target_in (rule_at g.program m.rule))
    && ((not m.keeps || has_function tab (source_in (rule_at g.program m.rule)))
    && reads_below (g.variables m.rule) m.gain))

-- the checks of a table's shape: den is at least 1, symbols and rules ascend, and each function and move has its shape
abbrev pub table_shape : Ground → PotentialTable → List Check
table_shape g tab =
    check BadShape (nat_le 1 tab.den) ∷ check BadShape (ascends (map symbol_of tab.functions))
    ∷ check BadShape (ascends (map rule_of tab.moves))
    ∷ (map (function_shape g) tab.functions ++ map (move_shape g tab) tab.moves)

-- each rule that leads to a symbol with a function has a move or never occurs
abbrev pub has_move : PotentialTable → (ℕ → Bool) → ℕ → Rule → Bool
has_move tab never t r =
    not (is_there (function_at tab r.target)) || (is_there (move_at tab t) || never t)

abbrev pub missing_from : PotentialTable → (ℕ → Bool) → ℕ → List Rule → List Check
missing_from tab never t [] = []
missing_from tab never t (r ∷ rules) =
    check (MissingTime t) (has_move tab never t r) ∷ missing_from tab never (suc t) rules

abbrev pub missing_checks : Ground → PotentialTable → (ℕ → Bool) → List Check
missing_checks g tab never = missing_from tab never 1 g.program.rules

-- the check that the certificate of a move shows its goal
abbrev pub move_check : Ground → PotentialTable → (ℕ → Polynomial) → Move → Check
move_check g tab amounts m =
    check (BadMove m.rule) (shows g.is_safe (g.rows m.rule) m.certificate (move_goal g tab amounts m))

-- the level at the start as a bound
abbrev pub start_bound_in : Option SymbolFunction → Signed
start_bound_in None = Constant 0
start_bound_in (Some f) = PositivePart f.form

abbrev pub start_bound : Ground → PotentialTable → Signed
start_bound g tab = start_bound_in (function_at tab g.program.start)
