-- Loops that are fed: how much their members can grow if each step multiplies them by a factor and adds to them.
use Rattle.std.specs.Prelude.{◌≡◌, ℕ, ◌+◌, ◌*◌, ◌^◌, ◌≤◌, max, Bool, true, List, [], ◌∷◌, ℤ}
use Rattle.run_counting.specs.model.Programs.{Program}
use Rattle.run_counting.specs.model.Runs.{Config, Step, IsRun, count, last_rule}
use Rattle.run_counting.specs.model.Entries.{is_in}
use Rattle.run_counting.specs.Paying.{income}

-- the product of the factors of the rules of all steps, each rule's factor once for each of its steps
abbrev pub growth : (ℕ → ℕ) → List ℕ → List Step → ℕ
growth factor [] steps = 1
growth factor (t ∷ ts) steps = factor t ^ count t steps * growth factor ts steps

-- the product of the factors of all steps, times the sum of the base and all that the steps added
abbrev pub grown : ℕ → (ℕ → ℕ) → (ℕ → ℕ) → List ℕ → List Step → ℕ
grown base factor addition ts steps = growth factor ts steps * (base + income addition ts steps)

-- the members of a loop are fed: a run without a step leaves them within the base; and after a step by rule t each
-- member is within the base, or within the factor of t times a bound on the members before the step, plus the addition
-- of t
-- addition of t
pub record IsFed {C : Type 0} (IsRunTo : List Step → C → Type 0) (size : C → ℕ → ℕ) (member : ℕ → ℕ → Bool) (base : ℕ)
    (factor addition : ℕ → ℕ) (ts : List ℕ) : Type 0 where
  pub least : (t : ℕ) → 1 ≤ factor t
  pub listed : (t i : ℕ) → member t i ≡ true → is_in t ts ≡ true
  pub start : (c : C) → IsRunTo [] c → (i : ℕ) → member 0 i ≡ true → size c i ≤ base
  pub step : (s : Step) (earlier : List Step) (d : C) → IsRunTo (s ∷ earlier) d
      → (c : C) × IsRunTo earlier c
      × ((g : ℕ) → ((j : ℕ) → member (last_rule earlier) j ≡ true → size c j ≤ g) → (i : ℕ) → member s.rule i ≡ true
      → size d i ≤ max base (factor s.rule * g + addition s.rule))

-- after every run each member of its last rule is at most the product of the factors of all steps, times the sum of the
-- base and all that the steps added
pub record LoopsGrow : Type 0 where
  pub each : (p : Program) (start : List ℤ) (size : Config → ℕ → ℕ) (member : ℕ → ℕ → Bool) (base : ℕ)
      (factor addition : ℕ → ℕ) (ts : List ℕ)
      → IsFed (λ steps c. IsRun p start steps c) size member base factor addition ts
      → (steps : List Step) (c : Config) → IsRun p start steps c → (i : ℕ) → member (last_rule steps) i ≡ true
      → size c i ≤ grown base factor addition ts steps
