-- What a gap proves, and the agreement of its checks with its definition.
use Rattle.std.specs.Prelude.{◌≡◌, ◌↔◌, ℕ}
use Rattle.run_counting.specs.model.Programs.{Program, arity_of}
use Rattle.rule_forms.specs.linear_forms.RuleQuestions.{RuleForms, RankedSet, symbols_of_set}
use Rattle.rule_forms.specs.RankLaws.{IsSetOf}
use Rattle.rule_forms.specs.Ranking.{NoRank}
use Rattle.cert_rules.specs.Gaps.{Gap, is_shut}
use Rattle.cert_rules.specs.GapChecks.{GapFault, GapHolds, gap_checks}
use Rattle.cert_rules.specs.Graph.{symbols_of}
use Rattle.cert_rules.specs.Reasons.{AllPass, IsFirstAmong}

-- a gap is about a set of rules of a program: both have the same rules, strict rule and shut places, and the symbols of
-- the set are the sources and targets of its rules
pub record IsAbout (p : Program) (b : RankedSet) (g : Gap) : Type 0 where
  pub same_set : b.set ≡ g.set
  pub same_rule : b.strict ≡ g.rule
  pub same_shut : (s i : ℕ) → b.shut s i ≡ is_shut g.shut s i
  pub places : (s : ℕ) → b.arity s ≡ arity_of p s
  pub symbols : symbols_of_set b ≡ symbols_of p g.set

-- where a gap about a set of rules holds, no function with coefficient 0 at every shut place ranks its strict rule
pub record GapsExcludeFunctions : Type 0 where
  pub each : (p : Program) (b : RankedSet) (g : Gap) → IsSetOf b → IsAbout p b g → GapHolds p b.rule g → NoRank b

-- the gap has no first fault
pub record HasNoFault (p : Program) (rule : ℕ → RuleForms) (g : Gap) : Type 0 where
  pub none : (x : GapFault) → ¬ (IsFirstAmong (gap_checks p rule g) x)

-- the checks of a gap all pass exactly if it holds, which is exactly if it has no first fault; and it has at most one
-- first fault
pub record GapChecksAreInLine : Type 0 where
  pub pass : (p : Program) (rule : ℕ → RuleForms) (g : Gap) → AllPass (gap_checks p rule g) ↔ GapHolds p rule g
  pub none : (p : Program) (rule : ℕ → RuleForms) (g : Gap) → GapHolds p rule g ↔ HasNoFault p rule g
  pub one : (p : Program) (rule : ℕ → RuleForms) (g : Gap) (x y : GapFault)
      → IsFirstAmong (gap_checks p rule g) x → IsFirstAmong (gap_checks p rule g) y → x ≡ y
