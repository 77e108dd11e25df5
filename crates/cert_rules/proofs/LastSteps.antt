-- Where a step begins and ends, and which rule can come next, as membership in lists.
use Rattle.std.proofs.Common.{◌≡◌, ℕ, true, List, [], ◌∷◌, Option, Some, sym, ap, ◌∙◌}
use Rattle.std.specs.Prelude.{ℤ}
use Rattle.run_counting.specs.model.Programs.{Program}
use Rattle.run_counting.specs.model.Runs.{Config, Step, IsStep, IsRun, last_rule}
use Rattle.run_counting.specs.model.Paths.{source_of, target_of, same_symbol, entry_and_rules, pre}
use Rattle.run_counting.proofs.model.StepLaws.{source_of-rule, target_of-rule, listed}
use Rattle.run_counting.specs.model.Entries.{is_in}
use Rattle.run_counting.proofs.model.Membership.{same_number, is_in-contained, rule_is_numbered, entry_is_numbered}

-- a step leaves the source of its rule
pub source-step : (p : Program) (b : Config) (s : Step) (c : Config) → IsStep p b s c → source_of p s.rule ≡ Some b.at
source-step p b s c h = source_of-rule p s.rule h.rule h.numbered ∙ ap Some (sym h.leads.source)

-- a step leads to its rule's target
pub target-step : (p : Program) (b : Config) (s : Step) (c : Config) → IsStep p b s c → target_of p s.rule ≡ Some c.at
target-step p b s c h = target_of-rule p s.rule h.rule h.numbered ∙ ap Some (sym h.leads.target)

-- the last rule is one of the program's, or the virtual entry
pub last_is_numbered : (p : Program) (start : List ℤ) (steps : List Step) (c : Config) → IsRun p start steps c
    → is_in (last_rule steps) (entry_and_rules p) ≡ true
last_is_numbered p start [] c run = entry_is_numbered p
last_is_numbered p start (s ∷ earlier) c (b, run, step) = rule_is_numbered p s.rule step.rule step.numbered

-- two symbols that are both a are the same, by the test
pub same_symbol-from : (o w : Option ℕ) (a : ℕ) → o ≡ Some a → w ≡ Some a → same_symbol o w ≡ true
same_symbol-from o w a e f = rw (e, f) (same_number a)

-- the rule of the step before can come just before the rule of a step
pub last_precedes : (p : Program) (start : List ℤ) (earlier : List Step) (b : Config) (s : Step) (c : Config)
    → IsRun p start earlier b → IsStep p b s c
    → is_in (last_rule earlier) (pre p s.rule) ≡ true
last_precedes p start earlier b s c run step =
    is_in-contained (pre p s.rule) (last_rule earlier) (listed p start s earlier c (b, run, step))
