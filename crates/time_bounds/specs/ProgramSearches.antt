-- The searches of a program.
use Rattle.std.specs.Prelude.{ℕ, Bool}
use Rattle.model.specs.Programs.{Program}
use Rattle.cert_types.specs.cert_program.Setting.{setting_of}
use Rattle.rvg_components.specs.Flows.{Locals}
use Rattle.rvg_components.specs.Listing.{AreComponents}
use Rattle.bound_fixpoint.specs.Keys.{over}
use Rattle.bound_fixpoint.specs.Searches.{Searches}
use Rattle.time_bounds.specs.ProgramRules.{IsEmptinessOf, IsRankingOf}
use Rattle.time_bounds.specs.ProgramSizes.{AreLive, AreLocals, AreLocalsOf, AnswersPlaces, lacks_side_bounds}

-- the searches of a program, if each linear program may take this many pivots: whether a rule is infeasible, which
-- function ranks a rule over a set, the components of the places of live rules, and which node gives a component its
-- size
abbrev pub searches_of_program : Program → ℕ → Searches
searches_of_program p pivots = record {
  Empties = IsEmptinessOf p pivots;
  Ranks = IsRankingOf p pivots;
  AreComponents = λ components. (is_live : ℕ → Bool) × AreLive p pivots is_live
      × ((local : Locals) × AreLocals p pivots is_live local
      × AreComponents (setting_of p) is_live local components);
  Sizes = λ b keys answer. (local : Locals) × AreLocalsOf p pivots local keys
      × AnswersPlaces (setting_of p) (over b) local keys (lacks_side_bounds local keys) answer;
}
