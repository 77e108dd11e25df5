-- The answers of the searches of a program are right.
use Rattle.std.specs.Prelude.{ℕ}
use Rattle.model.specs.Programs.{Program}
use Rattle.its_model.specs.Valid.{IsValid}
use Rattle.cert_types.specs.cert_program.Setting.{setting_of}
use Rattle.bound_fixpoint.specs.Right.{AreRight, AreOne}
use Rattle.time_bounds.specs.ProgramSearches.{searches_of_program}

-- the searches of a valid program answer right: on a rule's emptiness, on which function ranks a rule over a set, on
-- the components of the places of live rules, and on which node gives a component its size, or why it has none
pub record ProgramSearchesAreRight : Type 0 where
  pub each : (p : Program) (pivots : ℕ) → IsValid p → AreRight (searches_of_program p pivots) (setting_of p)

-- each question has one answer within a number of pivots
pub record ProgramSearchesAreOne : Type 0 where
  pub each : (p : Program) (pivots : ℕ) → AreOne (searches_of_program p pivots)
