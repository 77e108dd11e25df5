-- A program without its atoms that have large numbers has all of the program's runs, and its bounds carry over.
use Rattle.std.specs.Prelude.{ℕ, ⊤}
use Rattle.refinement.specs.model.Programs.{Program}
use Rattle.refinement.specs.Lifted.{AllRunsLift, BoundsAreKept}
use Rattle.refinement.specs.Laws.{HasWeakerGuards, same_numbers}
use Rattle.section_makers.specs.Lighter.{lighter}

-- for each limit, the program without large atoms has weaker guards, each run of the program is one of its runs, and
-- its bounds carry over
pub record LighterProgramsKeepBounds : Type 0 where
  pub weaker : (n : ℕ) (p : Program) → HasWeakerGuards p (lighter n p)
  pub lifts : (n : ℕ) (p : Program) → AllRunsLift p (lighter n p) same_numbers (λ c. ⊤)
  pub bounds : (n : ℕ) (p : Program) → BoundsAreKept p (lighter n p) same_numbers
