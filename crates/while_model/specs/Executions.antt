-- Executions of while programs, step by step: the statements left to execute, and the values of the variables.
use Rattle.std.specs.Prelude.{◌≡◌, ℕ, zero, suc, List, ◌⊎◌, ℤ, set}
use Rattle.model.specs.Terms.{value}
use Rattle.model.specs.Programs.{GuardHolds}
use Rattle.while_model.specs.Statements.{Action, Assign, Choose, Skip, Statements, Nothing, Simple, While, If, followed_by}

-- The action leads from the values `env` to the values `end`.
abbrev pub Acts : Action → List ℤ → List ℤ → Type 0
Acts (Assign x e) env end = end ≡ set env x (value e env)
Acts (Choose x) env end = (z : ℤ) × (end ≡ set env x z)
Acts Skip env end = end ≡ env

-- The statements left are the first list if the test holds, and the second list if it doesn't.
abbrev pub Branches : Type 0 → Statements → Statements → Statements → Type 0
Branches Holds one other left = Holds × (left ≡ one) ⊎ ¬ Holds × (left ≡ other)

-- A step executes the first statement: an action is done; a loop whose test holds becomes its block, followed by the
-- loop, and a loop whose test fails is left out; a branch becomes its first or its second block.
abbrev pub Executes : Statements → List ℤ → Statements → List ℤ → Type 0
Executes Nothing env left end = ⊥
Executes (Simple action rest) env left end = Acts action env end × (left ≡ rest)
Executes (While test block rest) env left end =
    (end ≡ env) × Branches (GuardHolds env test) (followed_by block (While test block rest)) rest left
Executes (If test block other rest) env left end =
    (end ≡ env) × Branches (GuardHolds env test) (followed_by block rest) (followed_by other rest) left

-- An execution of n steps leads from the values `start` to the statements left, with the values `end`; the last step is
-- outermost.
abbrev pub IsExecution : Statements → List ℤ → ℕ → Statements → List ℤ → Type 0
IsExecution program start zero left end = (left ≡ program) × (end ≡ start)
IsExecution program start (suc n) left end =
    (before : Statements) × (env : List ℤ) × IsExecution program start n before env × Executes before env left end

-- Some execution of n steps ends with these values.
abbrev pub EndsWith : Statements → List ℤ → ℕ → List ℤ → Type 0
EndsWith program start n end = (left : Statements) × IsExecution program start n left end
