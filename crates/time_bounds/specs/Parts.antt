-- The sets of a round; those of a component are computed once.
use Rattle.std.specs.Prelude.{◌≡◌, ℕ, suc, ◌<◌, length, true, Some, None, slice_index_or}
use Rattle.model.specs.Programs.{Program}
use Rattle.its_graph.specs.Graphs.{HaveSameSets}
use Rattle.rank_search.specs.rule_questions.ProgramQuestions.{places_of}
use Rattle.bound_fixpoint.specs.Keys.{is_untimed}
use Rattle.bound_fixpoint.specs.Sets.{IsSetOfRule, AreShutOf}
use Rattle.size_bounds.specs.Tables.{bounds_in}
use Rattle.size_bounds.specs.declared.table.Table.{Table}
use Rattle.time_bounds.specs.declared.parts.OpenSet.{OpenSet}
use Rattle.time_bounds.specs.declared.parts.Parts.{Parts}
use Rattle.time_bounds.specs.Questions.{AreUntimed}

-- the set of the rule, with its shut places
pub record IsOpenSet (p : Program) (tab : Table) (t : ℕ) (s : OpenSet) : Type 0 where
  pub set : IsSetOfRule p (bounds_in tab) t s.set.items
  pub shut : AreShutOf p (bounds_in tab) s.set.items (places_of s.shut.items)

-- the flags say which rules have no time; rules of one component have the same set, and the set stored for a component
-- is that of each of its rules, with its shut places
pub record AreParts (p : Program) (tab : Table) (parts : Parts) : Type 0 where
  pub flags : AreUntimed p tab parts.untimed.items
  pub one_each : length parts.of_rules.items ≡ suc (length p.rules)
  pub within : (t m : ℕ) → slice_index_or parts.of_rules.items t None ≡ Some m → m < length parts.found.items
  pub same : HaveSameSets p (is_untimed (bounds_in tab)) parts.of_rules.items
  pub found : (t m : ℕ) (s : OpenSet) → is_untimed (bounds_in tab) t ≡ true
      → slice_index_or parts.of_rules.items t None ≡ Some m → slice_index_or parts.found.items m None ≡ Some s
      → IsOpenSet p tab t s
