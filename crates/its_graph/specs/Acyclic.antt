-- What an acyclic graph implies for the runs of a program.
use Rattle.std.specs.Prelude.{ℕ, length}
use Rattle.model.specs.Programs.{Program}
use Rattle.model.specs.Bounds.{Constant}
use Rattle.model.specs.Facts.{Holds, HoldsLength, Time}
use Rattle.model.specs.Paths.{HasCycle}

-- In every run each rule occurs at most once, and there are at most as many steps as rules.
pub record EachRuleAtMostOnce (p : Program) : Type 0 where
  pub times : (rule : ℕ) → Holds p (Time rule (Constant 1))
  pub total : HoldsLength p (Constant (length p.rules))

-- Without a cycle, each rule occurs at most once in every run.
abbrev pub WithoutCycleEachRuleAtMostOnce : Type 0
WithoutCycleEachRuleAtMostOnce = (p : Program) → ¬ (HasCycle p) → EachRuleAtMostOnce p
