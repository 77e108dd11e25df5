-- Gaps of programs, and that a gap that holds for a valid program excludes ranking functions.
use Rattle.std.specs.Prelude.{◌≡◌, ℕ, List}
use Rattle.guard_prep.specs.model.Programs.{Program}
use Rattle.guard_prep.specs.its_model.Valid.{IsValid}
use Rattle.cert_rules.specs.GapChecks.{GapHolds}
use Rattle.cert_rules.specs.Gaps.{SymbolPlace, Gap}
use Rattle.cert_rules.specs.rule_forms.Ranking.{NoRank}
use Rattle.cert_program.specs.RankedSets.{forms_at, ranked_set}

-- a gap that is found has the given set, strict rule and shut places, and it holds
pub record IsFoundGap (p : Program) (set : List ℕ) (strict : ℕ) (shut : List SymbolPlace) (g : Gap) : Type 0 where
  pub rule : g.rule ≡ strict
  pub same_set : g.set ≡ set
  pub same_shut : g.shut ≡ shut
  pub holds : GapHolds p (forms_at p) g

-- where a gap holds for a valid program, no affine function with coefficient 0 at its shut places ranks its strict rule
-- over its set
pub record GapsExcludeFunctions : Type 0 where
  pub each : (p : Program) → IsValid p → (g : Gap) → GapHolds p (forms_at p) g
      → NoRank (ranked_set p g.set g.rule g.shut)
