-- Which while programs are within the limits.
use Rattle.std.specs.Prelude.{ℕ, suc, ◌+◌, ◌<◌, ◌≤◌, List, length, ⊤}
use Rattle.std.specs.List.{AllByRecursion}
use Rattle.while_model.specs.model.Limits.{rule_limit, place_limit, atom_limit}
use Rattle.while_model.specs.model.Programs.{Name, Atom}
use Rattle.while_model.specs.Statements.{Action, Assign, Choose, Skip, Statements, Nothing, Simple, While, If, IsNonempty}
use Rattle.while_model.specs.Moves.{negations}
use Rattle.its_model.specs.text_core.Names.{IsName, AreDistinct}
use Rattle.its_model.specs.Valid.{IsValidTerm, IsValidAtom}

-- An action over n variables fits: an assigned expression reads only them and can be expanded.
abbrev pub FitsAction : ℕ → Action → Type 0
FitsAction n (Assign x e) = (x < n) × IsValidTerm n e
FitsAction n (Choose x) = x < n
FitsAction n Skip = ⊤

-- A test over n variables fits: it has at most 64 atoms, and the differences of its atoms and of their negations can be
-- expanded.
pub record FitsTest (n : ℕ) (test : List Atom) : Type 0 where
  pub few : length test ≤ atom_limit
  pub atoms : AllByRecursion (IsValidAtom n) test
  pub negated : AllByRecursion (IsValidAtom n) (negations test)

-- Each action and each test of the statements fits.
abbrev pub Fits : ℕ → Statements → Type 0
Fits n Nothing = ⊤
Fits n (Simple action rest) = FitsAction n action × Fits n rest
Fits n (While test block rest) = FitsTest n test × Fits n block × Fits n rest
Fits n (If test block other rest) = FitsTest n test × Fits n block × Fits n other × Fits n rest

-- The number of rules: one for each statement, and one more for each negation of an atom of its test.
abbrev pub rules_of : Statements → ℕ
rules_of Nothing = 0
rules_of (Simple action rest) = suc (rules_of rest)
rules_of (While test block rest) = suc (length (negations test)) + (rules_of block + rules_of rest)
rules_of (If test block other rest) =
    suc (length (negations test)) + (rules_of block + (rules_of other + rules_of rest))

-- A program is within the limits: it has a statement, at most 32 inputs with distinct names, and at most 1,000 rules,
-- and its statements fit.
pub record IsReadable (inputs : List Name) (program : Statements) : Type 0 where
  pub nonempty : IsNonempty program
  pub names : AllByRecursion IsName inputs
  pub distinct : AreDistinct inputs
  pub few_inputs : length inputs ≤ place_limit
  pub few_rules : rules_of program ≤ rule_limit
  pub fits : Fits (length inputs) program
