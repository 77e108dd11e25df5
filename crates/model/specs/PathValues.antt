-- Worked values of paths, of the rules that can come just before a rule, and of sets and their entries.
use Rattle.std.specs.Prelude.{◌≡◌, ℕ, [], ◌∷◌, Bool, not, ◌==◌, ◌||◌, Some, None}
use Rattle.model.specs.Programs.{Program}
use Rattle.model.specs.Paths.{IsReached, HasPath, any_rule, target_of, source_of, pre, IsInSet}
use Rattle.model.specs.Entries.{IsEntry, entries}
use Rattle.model.specs.Worked.{bare_rule, with_rules}

-- two nested loops: rule 1 from 0 to 1, rule 2 from 1 to 2, rule 3 from 2 to itself, and rule 4 from 2 back to 1
abbrev pub nested : Program
nested = with_rules (bare_rule 0 1 ∷ bare_rule 1 2 ∷ bare_rule 2 2 ∷ bare_rule 2 1 ∷ [])

-- the allowed rules are all but rule 2; and, in the second definition, rules 3 and 4 alone
abbrev pub not_second : ℕ → Bool
not_second t = not (t == 2)

abbrev pub last_two : ℕ → Bool
last_two t = (t == 3) || (t == 4)

-- The virtual entry leads to the start symbol and has no source. Symbol 2 is reachable, but not without rule 2, and no
-- path leads from 1 to 0. If all rules are untimed, rule 1 is in the set of rule 3; if only rules 3 and 4 are, rule 3
-- is in its own set and rule 4 isn't. Rule 2 is an entry of the set of rule 3 alone, and rules 1 and 3 aren't. The
-- entries of the set of rules 2 and 4 are rules 1 and 3; that of rule 1 alone, and that of all rules, is the virtual
-- entry; the empty set has none.
pub record PathsAreWorkedOut : Type 0 where
  pub entry_target : target_of nested 0 ≡ Some 0
  pub entry_source : source_of nested 0 ≡ None
  pub third_target : target_of nested 3 ≡ Some 2
  pub no_fifth : target_of nested 5 ≡ None
  pub before_first : pre nested 1 ≡ 0 ∷ []
  pub before_second : pre nested 2 ≡ 1 ∷ 4 ∷ []
  pub before_third : pre nested 3 ≡ 2 ∷ 3 ∷ []
  pub reached : IsReached nested any_rule 2
  pub cut_off : ¬ (IsReached nested not_second 2)
  pub no_way_back : ¬ (HasPath nested any_rule 1 0)
  pub in_set : IsInSet nested any_rule 3 1
  pub own_set : IsInSet nested last_two 3 3
  pub not_in_set : ¬ (IsInSet nested last_two 3 4)
  pub timed : ¬ (IsInSet nested last_two 3 2)
  pub entry : IsEntry nested (3 ∷ []) 2
  pub not_entry : ¬ (IsEntry nested (3 ∷ []) 1)
  pub member_no_entry : ¬ (IsEntry nested (3 ∷ []) 3)
  pub listed_entries : entries nested (4 ∷ 2 ∷ []) ≡ 1 ∷ 3 ∷ []
  pub virtual_entry : entries nested (1 ∷ []) ≡ 0 ∷ []
  pub all_rules : entries nested (1 ∷ 2 ∷ 3 ∷ 4 ∷ []) ≡ 0 ∷ []
  pub no_set : entries nested [] ≡ []
