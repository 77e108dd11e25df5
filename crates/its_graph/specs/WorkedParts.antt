-- Worked values of the parts of rules with the same set, on a program of two nested loops.
use Rattle.std.specs.Prelude.{ℕ, List, [], ◌∷◌, Option, Some, None}
use Rattle.model.specs.Paths.{any_rule}
use Rattle.model.specs.PathValues.{nested, last_two}
use Rattle.its_graph.specs.Graphs.{HaveSameSets}

-- Rules 2, 3 and 4, which lead between symbols 1 and 2, are in one part, and rule 1 is in none.
abbrev pub inner_part : List (Option ℕ)
inner_part = None ∷ None ∷ Some 1 ∷ Some 1 ∷ Some 1 ∷ []

-- Rule 1, which leads to symbol 1, is in that part too.
abbrev pub with_first : List (Option ℕ)
with_first = None ∷ Some 1 ∷ Some 1 ∷ Some 1 ∷ Some 1 ∷ []

-- Rules 1, 2 and 3 are in one part.
abbrev pub first_three : List (Option ℕ)
first_three = None ∷ Some 1 ∷ Some 1 ∷ Some 1 ∷ None ∷ []

-- Rules 2, 3 and 4 have the same set if no rule has a time, and rule 1 has another one; if only rules 3 and 4 have
-- none, these two have different sets, and rule 3 may be in one part with rules 1 and 2, which have a time.
pub record PartsAreWorkedOut : Type 0 where
  pub one_part : HaveSameSets nested any_rule inner_part
  pub another_set : ¬ (HaveSameSets nested any_rule with_first)
  pub different_sets : ¬ (HaveSameSets nested last_two inner_part)
  pub timed_rules : HaveSameSets nested last_two first_three
