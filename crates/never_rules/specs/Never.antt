-- Rules that facts say never occur, as flags.
use Rattle.std.specs.Prelude.{◌≡◌, ℕ, ◌<◌, Bool, false, List, [], ◌∷◌, length, Option, Some, None, slice_index_or}
use Rattle.potential_nodes.specs.potentials.Sums.{Charge}
use Rattle.potential_nodes.specs.Facts.{SignedFact, SumFact, PeakFact, SizeFact, is_never}

-- the rule of the first charge, if there is one
abbrev pub first_rule : List Charge → Option ℕ
first_rule [] = None
first_rule (c ∷ charges) = Some c.rule

-- the rule of the first charge of a fact on a sum: the only rule of which the fact can say that it never occurs
abbrev pub charged_rule : SignedFact → Option ℕ
charged_rule (SumFact goal b) = first_rule goal
charged_rule (PeakFact rule form b) = None
charged_rule (SizeFact rule place b) = None

-- the flag at a number says whether some fact says that the rule with this number never occurs
pub record TellNever (facts : List SignedFact) (flags : List Bool) : Type 0 where
  pub each : (t : ℕ) → t < length flags → slice_index_or flags t false ≡ is_never facts t
