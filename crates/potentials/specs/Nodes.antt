-- The facts that nodes state, with the bounds that they compose.
use Rattle.std.specs.Prelude.{◌≡◌, ℕ, ◌+◌, ◌*◌, ◌≤◌, max, min, List, ◌++◌, ℤ, pos, ◌≤ℤ◌, if◌then◌else◌, ◌==◌}
use Rattle.run_counting.specs.model.Programs.{Program}
use Rattle.run_counting.specs.model.Runs.{Config, Step}
use Rattle.run_counting.specs.model.Spending.{or_zero}
use Rattle.potentials.specs.Sums.{Weight, HoldsSum, HoldsPeak, once_for}
use Rattle.potentials.specs.Potentials.{Potential, Goal, level, begin_at, payments, gains, kept_gains, Pays, Covers}
use Rattle.potentials.specs.Potentials.{Resets, IsTaken}

-- a bound: for each list of start values a number
abbrev pub Bounding : Type 0
Bounding = List ℤ → ℕ

-- b is at least a / den: each n with den * n at most a is at most b
pub record IsAtLeastQuotient (den : ℕ) (a b : Bounding) : Type 0 where
  pub each : (start : List ℤ) (n : ℕ) → den * n ≤ a start → n ≤ b start

-- the level at the start of a run
abbrev pub first_level : Program → Potential → Bounding
first_level p f start = level f (begin_at p start)

-- a potential pays for a goal from all start values, and covers a form of a rule from all of them
abbrev pub AlwaysPays : Program → Potential → ℕ → Goal → Type 0
AlwaysPays p f den g = (start : List ℤ) → Pays p start f den g

abbrev pub AlwaysCovers : Program → Potential → ℕ → ℕ → (List ℤ → ℤ) → Type 0
AlwaysCovers p f den rule form = (start : List ℤ) → Covers p start f den rule form

-- for each rule that resets the function, top is a bound on its gain at each step
pub record ResetsHavePeaks (p : Program) (f : Potential) (top : Bounding) : Type 0 where
  pub each : (t : ℕ) → f.kind t ≡ Resets → HoldsPeak p t (f.gain t) top

-- the fact of a potential that pays for a goal, with a bound on its gains, holds: a bound on a sum
abbrev pub FallsHold : Type 0
FallsHold = (p : Program) (f : Potential) (den : ℕ) (g : Goal) (gained b : Bounding) → AlwaysPays p f den g
    → HoldsSum p (gains f) gained → IsAtLeastQuotient den (λ start. first_level p f start + gained start) b
    → HoldsSum p (payments g) b

-- the fact of a potential that covers a form, with bounds on the gains of its resets and on the sum of its other gains,
-- holds: a bound on a peak
abbrev pub PeaksHold : Type 0
PeaksHold = (p : Program) (f : Potential) (den rule : ℕ) (form : List ℤ → ℤ) (top gained b : Bounding)
    → 1 ≤ den → AlwaysCovers p f den rule form → ResetsHavePeaks p f top → HoldsSum p (kept_gains f) gained
    → IsAtLeastQuotient den (λ start. max (first_level p f start) (top start) + gained start) b
    → HoldsPeak p rule form b

-- the fact of a form that is at most a number at every step by a rule holds
abbrev pub RowsHold : Type 0
RowsHold = (p : Program) (rule n : ℕ) (form : List ℤ → ℤ)
    → ((start : List ℤ) (c : Config) (s : Step) (d : Config) → IsTaken p start c s d → s.rule ≡ rule
    → form (c.values ++ s.free) ≤ℤ pos n)
    → HoldsPeak p rule form (λ start. n)

-- the fact of a rule that occurs at most n times, with a form that is at most m, holds: the sum of the form's positive
-- parts is at most the product
abbrev pub TimesHold : Type 0
TimesHold = (p : Program) (rule : ℕ) (form : List ℤ → ℤ) (often high : Bounding) → HoldsSum p (once_for rule) often
    → HoldsPeak p rule form high
    → HoldsSum p (λ t env. if t == rule then or_zero (form env) else 0) (λ start. often start * high start)

-- the lesser of two bounds on the same sum holds, and so does that of two bounds on the same peak
abbrev pub LeastOfSumsHolds : Type 0
LeastOfSumsHolds = (p : Program) (w : Weight) (a b : Bounding) → HoldsSum p w a → HoldsSum p w b
    → HoldsSum p w (λ start. min (a start) (b start))

abbrev pub LeastOfPeaksHolds : Type 0
LeastOfPeaksHolds = (p : Program) (rule : ℕ) (form : List ℤ → ℤ) (a b : Bounding) → HoldsPeak p rule form a
    → HoldsPeak p rule form b → HoldsPeak p rule form (λ start. min (a start) (b start))

-- the sum of two bounds on sums is a bound on the sum of both
abbrev pub AddedSumsHold : Type 0
AddedSumsHold = (p : Program) (v w : Weight) (a b : Bounding) → HoldsSum p v a → HoldsSum p w b
    → HoldsSum p (λ t env. v t env + w t env) (λ start. a start + b start)

-- a bound on a sum is one on the sum of any weight that is nowhere greater
abbrev pub PartsHold : Type 0
PartsHold = (p : Program) (v w : Weight) (a : Bounding) → ((t : ℕ) (env : List ℤ) → v t env ≤ w t env)
    → HoldsSum p w a → HoldsSum p v a

-- a bound that is nowhere less than one that holds, holds
abbrev pub BoundsAboveHold : Type 0
BoundsAboveHold = (p : Program) (w : Weight) (a b : Bounding) → ((start : List ℤ) → a start ≤ b start)
    → HoldsSum p w a → HoldsSum p w b

abbrev pub PeakBoundsAboveHold : Type 0
PeakBoundsAboveHold = (p : Program) (rule : ℕ) (form : List ℤ → ℤ) (a b : Bounding)
    → ((start : List ℤ) → a start ≤ b start) → HoldsPeak p rule form a → HoldsPeak p rule form b

-- all kinds of facts hold
pub record NodesHold : Type 0 where
  pub falls : FallsHold
  pub peaks : PeaksHold
  pub rows : RowsHold
  pub times : TimesHold
  pub least_sums : LeastOfSumsHolds
  pub least_peaks : LeastOfPeaksHolds
  pub sums : AddedSumsHold
  pub parts : PartsHold
  pub bounds_above : BoundsAboveHold
  pub peak_bounds_above : PeakBoundsAboveHold
