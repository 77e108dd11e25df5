-- The ends of all paths through cases, including those that end nowhere, with their certificates.
use Rattle.std.specs.Prelude.{ℕ, List, [], ◌∷◌, ◌++◌, map}
use Rattle.refinement.specs.model.Programs.{Atom}
use Rattle.refinement.specs.Sections.{Path, passes, fails}
use Rattle.its_model.specs.Views.{atom_of}
use Rattle.refined_programs.specs.declared.ends.Goal as declared_goal
use Rattle.refined_programs.specs.declared.ends.Goal.TheVariants as goals
use Rattle.refined_programs.specs.declared.ends.End as declared_end
use Rattle.refined_programs.specs.declared.section.Multipliers.{Multipliers}
use Rattle.refined_programs.specs.Annotated.{Cases, To, Never, If, form_term}

-- the end of a path: a copy, with multipliers for each of its facts; or nowhere, with multipliers
pub data Goal : Type 0 where
  AtCopy : ℕ → List (List ℕ) → Goal
  Nowhere : List ℕ → Goal

-- the end of a path, with the atoms that hold along it
pub record End : Type 0 where
  pub atoms : List Atom
  pub goal : Goal

-- lists of multipliers as plain data
abbrev pub lists_of : List Multipliers → List (List ℕ)
lists_of by = map (λ m. m.numbers.items) by

-- the ends of the paths after these atoms, in order
abbrev pub ends : List Atom → Cases → List End
ends atoms (To copy by) = record { atoms = atoms; goal = AtCopy copy by } ∷ []
ends atoms (Never by) = record { atoms = atoms; goal = Nowhere by } ∷ []
ends atoms (If test yes_cases no_cases) =
    ends (atoms ++ passes (form_term test) ∷ []) yes_cases ++ ends (atoms ++ fails (form_term test) ∷ []) no_cases

-- the path to a copy, if an end is at one
abbrev pub path_of : List Atom → Goal → List Path
path_of atoms (AtCopy copy by) = record { atoms = atoms; copy = copy } ∷ []
path_of atoms (Nowhere by) = []

-- the paths of the ends at copies, in order
abbrev pub paths_of : List End → List Path
paths_of [] = []
paths_of (e ∷ es) = path_of e.atoms e.goal ++ paths_of es

-- the end of a path, as plain data
abbrev pub goal_of : declared_goal.Goal → Goal
goal_of (goals.Copy copy by) = AtCopy copy (lists_of by.items)
goal_of (goals.Nowhere by) = Nowhere by.numbers.items

-- an end as plain data
abbrev pub end_of : declared_end.End → End
end_of e = record { atoms = map atom_of e.atoms.items; goal = goal_of e.goal }
