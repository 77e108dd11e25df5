-- What ties a while program to its translation: executions and runs of as many steps end with the same values.
use Rattle.std.specs.Prelude.{◌≡◌, ℕ, ◌≤◌, List, length, ℤ}
use Rattle.std.specs.List.{Contains}
use Rattle.model.specs.Programs.{Name, Program}
use Rattle.model.specs.Runs.{Config, Step, IsRun, sizes_of_start}
use Rattle.model.specs.Bounds.{Bound, val}
use Rattle.model.specs.Facts.{HoldsTotal}
use Rattle.while_model.specs.Statements.{Statements, IsNonempty}
use Rattle.while_model.specs.Executions.{EndsWith}
use Rattle.while_model.specs.Translation.{program_of, free_name}

-- Some run of n steps ends with these values.
abbrev pub RunEndsWith : Program → List ℤ → ℕ → List ℤ → Type 0
RunEndsWith p start n end =
    (steps : List Step) × (c : Config) × IsRun p start steps c × (length steps ≡ n) × (c.values ≡ end)

-- From a value for each input, some execution of n steps of a program with at least one statement ends with given
-- values exactly if some run of n steps of its translation does. A run begins with a value for each input.
pub record ExecutionsAreRuns : Type 0 where
  pub run : (inputs : List Name) (program : Statements) → IsNonempty program → (start : List ℤ)
      → length start ≡ length inputs → (n : ℕ) (end : List ℤ) → EndsWith program start n end
      → RunEndsWith (program_of inputs program) start n end
  pub execution : (inputs : List Name) (program : Statements) → IsNonempty program → (start : List ℤ) (n : ℕ) (end : List ℤ)
      → RunEndsWith (program_of inputs program) start n end
      → (length start ≡ length inputs) × EndsWith program start n end

-- A bound on the total cost of the translation bounds the number of steps of each execution from a value for each
-- input.
pub record TotalsBoundExecutions : Type 0 where
  pub each : (inputs : List Name) (program : Statements) → IsNonempty program → (bound : Bound)
      → HoldsTotal (program_of inputs program) bound → (start : List ℤ) → length start ≡ length inputs → (n : ℕ)
      (end : List ℤ) → EndsWith program start n end → n ≤ val bound (sizes_of_start start)

-- The name of the free variable is not that of an input.
pub record FreeNamesAreApart : Type 0 where
  pub each : (inputs : List Name) → ¬ (Contains inputs (free_name inputs))
