-- The preconditions on a rule for taking a step by it.
use Rattle.std.specs.Prelude.{◌+◌, ◌≤◌, length, map}
use Rattle.std.specs.List.{AllByRecursion}
use Rattle.poly_terms.specs.model.Limits.{atom_limit}
use Rattle.poly_terms.specs.Views.{term_of}
use Rattle.its_model.specs.declared.program.Rule.{Rule}
use Rattle.its_model.specs.Valid.{IsValidAtom, IsValidTerm}
use Rattle.its_model.specs.Views.{atom_of}

-- A rule's guard and updates read its own variables and can be expanded, and its guard has at most 64 atoms.
pub record IsSteppable (r : Rule) : Type 0 where
  pub few : length r.guard.items ≤ atom_limit
  pub guard : AllByRecursion (IsValidAtom (r.left + r.free)) (map atom_of r.guard.items)
  pub updates : AllByRecursion (IsValidTerm (r.left + r.free)) (map term_of r.updates.items)
