-- The level of a potential changes from step to step by the gain and the payment.
use Rattle.std.proofs.Common.{◌≡◌, ℕ, ◌+◌, ◌*◌, ◌≤◌, true, false, Bool, List, [], ◌∷◌, ◌++◌, max}
use Rattle.std.proofs.Common.{refl, ◌∙◌, ap, subst, arith}
use Rattle.std.specs.Prelude.{ℤ, pos, ◌+ℤ◌, ◌*ℤ◌, ◌≤ℤ◌}
use Rattle.std.proofs.lemmas.Int.{ints}
use Rattle.std.proofs.Math.Nat.{le-max_left, le-max_right}
use Rattle.std.proofs.Common.{mul-add}
use Rattle.run_counting.specs.model.Programs.{Program}
use Rattle.run_counting.specs.model.Runs.{Config, Step, IsRun}
use Rattle.run_counting.specs.model.Spending.{or_zero}
use Rattle.potentials.specs.Sums.{weighed, variables_at}
use Rattle.potentials.specs.Potentials.{Kind, Keeps, Resets, Never, Potential, Goal, level, begin_at, taken, nothing_paid}
use Rattle.potentials.specs.Potentials.{payments, gains, gain_by, kept_gains, IsTaken, IsKept, MovesBy}
use Rattle.potentials.specs.Potentials.{Pays, Covers, ResetsReach}
use Rattle.potentials.specs.Laws.{PotentialsPayForGoals, PotentialsCoverPeaks}
use Rattle.potentials.proofs.PositiveParts.{le-or_zero, or_zero-le, or_zero-mono, or_zero-times, or_zero-sum, or_zero-paid}
use Rattle.potentials.proofs.SumLaws.{variables-are}

-- the level at a symbol with a function is its positive part, and at another symbol 0
pub level-some : (f : Potential) (c : Config) → f.has c.at ≡ true → level f c ≡ or_zero (f.function c.at c.values)
level-some f c h = rw h refl

pub level-none : (f : Potential) (c : Config) → f.has c.at ≡ false → level f c ≡ 0
level-none f c h = rw h refl

-- a step by a rule that is paid for takes the amount, and another step takes 0
pub taken-some : (g : Goal) (t : ℕ) (env : List ℤ) → g.is_paid t ≡ true → taken g t env ≡ g.amount t env
taken-some g t env h = rw h refl

pub taken-none : (g : Goal) (t : ℕ) (env : List ℤ) → g.is_paid t ≡ false → taken g t env ≡ pos 0
taken-none g t env h = rw h refl

-- a run begins at the level of its start values
pub level-first : (p : Program) (start : List ℤ) (f : Potential) (c : Config) → IsRun p start [] c
    → level f c ≡ level f (begin_at p start)
level-first p start f c run =
    ap (λ (a : ℕ). level f (record { at = a; values = c.values })) run.at
    ∙ ap (λ (v : List ℤ). level f (record { at = p.start; values = v })) run.values

module _ (p : Program) (start : List ℤ) (f : Potential) (den : ℕ) (g : Goal) (pays : Pays p start f den g)
    (c : Config) (s : Step) (d : Config) (step : IsTaken p start c s d) where
  -- the values of the step's variables
  abbrev pub env : List ℤ
  env = c.values ++ s.free

  -- a step that isn't paid for takes nothing
  free : g.is_paid s.rule ≡ false → den * payments g s.rule env ≡ 0
  free h = let none = ap or_zero (taken-none g s.rule env h) in
      let nothing = ap (λ (n : ℕ). den * n) none in omega (arith, nothing)

  -- a paid step takes at most the level before it
  borne : g.is_paid s.rule ≡ true → den * payments g s.rule env ≤ level f c
  borne h =
      let paid = pays.each c s d step h in
      let amount = ap (λ (z : ℤ). den * or_zero z) (taken-some g s.rule env h) in
      let high = level-some f c paid.source in
      let part = or_zero-times den (g.amount s.rule env) (f.function c.at c.values) paid.floor in
      omega (arith, amount, high, part)

  -- any step takes at most the level before it
  within : (v : Bool) → g.is_paid s.rule ≡ v → den * payments g s.rule env ≤ level f c
  within true h = borne h
  within false h = let nothing = free h in omega (arith, nothing)

  -- the level after a step that keeps the function, plus the payment, is at most the level before it and the gain
  kept : f.kind s.rule ≡ Keeps → f.has d.at ≡ true → (v : Bool) → g.is_paid s.rule ≡ v → IsKept f den g c s d
      → den * payments g s.rule env + or_zero (f.function d.at d.values) ≤ level f c + gains f s.rule env
  kept keeps has true h move =
      let paid = pays.each c s d step h in
      let e = taken-some g s.rule env h in
      let falls = subst (λ (z : ℤ). (f.function d.at d.values +ℤ pos den *ℤ z)
      ≤ℤ (f.function c.at c.values +ℤ f.gain s.rule env)) e move.falls in
      let amount = ap (λ (z : ℤ). den * or_zero z) e in
      let high = level-some f c move.source in
      let part = or_zero-paid den (f.function d.at d.values) (g.amount s.rule env) (f.function c.at c.values)
      (f.gain s.rule env) falls paid.floor (paid.amount keeps has) in
      omega (arith, amount, high, part)
  kept keeps has false h move =
      let e = taken-none g s.rule env h in
      let falls = subst (λ (z : ℤ). (f.function d.at d.values +ℤ pos den *ℤ z)
      ≤ℤ (f.function c.at c.values +ℤ f.gain s.rule env)) e move.falls in
      let plain : f.function d.at d.values ≤ℤ (f.function c.at c.values +ℤ f.gain s.rule env)
      = without (f.function d.at d.values) (f.function c.at c.values +ℤ f.gain s.rule env) falls in
      let nothing = free h in
      let high = level-some f c move.source in
      let part = or_zero-sum (f.function d.at d.values) (f.function c.at c.values) (f.gain s.rule env) plain in
      omega (arith, nothing, high, part)
    where
      without : (a b : ℤ) → (a +ℤ pos den *ℤ pos 0) ≤ℤ b → a ≤ℤ b
      without a b h = omega (arith, ints, h)

  -- the level after a step to a symbol with a function, by the kind of its rule
  moved : (k : Kind) → f.kind s.rule ≡ k → f.has d.at ≡ true → MovesBy k f den g c s d
      → den * payments g s.rule env + or_zero (f.function d.at d.values) ≤ level f c + gains f s.rule env
  moved Keeps e has move = kept e has (g.is_paid s.rule) refl move
  moved Resets e has move =
      let one = within (g.is_paid s.rule) refl in
      let two = or_zero-mono (f.function d.at d.values) (f.gain s.rule env) move in
      omega (arith, one, two)
  moved Never e has move = absurd move

  -- the payment of a step, plus the level after it, is at most the level before it plus the gain
  pub level-pays : den * payments g s.rule env + level f d ≤ level f c + gains f s.rule env
  level-pays = go (f.has d.at) refl
    where
      go : (v : Bool) → f.has d.at ≡ v → den * payments g s.rule env + level f d ≤ level f c + gains f s.rule env
      go true has =
          let high = level-some f d has in
          let part = moved (f.kind s.rule) refl has (pays.moves.each c s d step has) in
          omega (arith, high, part)
      go false has =
          let low = level-none f d has in
          let one = within (g.is_paid s.rule) refl in
          omega (arith, low, one)

-- the payments of a run are bounded by its first level and its gains
pub run-pays : (p : Program) (start : List ℤ) (f : Potential) (den : ℕ) (g : Goal) → Pays p start f den g
    → (steps : List Step) (c : Config) → IsRun p start steps c
    → den * weighed p (payments g) start steps + level f c
    ≤ level f (begin_at p start) + weighed p (gains f) start steps
run-pays p start f den g pays [] c run = let first = level-first p start f c run in omega (arith, first)
run-pays p start f den g pays (s ∷ earlier) d (c, run, step) =
    let before = run-pays p start f den g pays earlier c run in
    let env = variables-are p start s earlier c run in
    let one = level-pays p start f den g pays c s d (record { earlier = earlier; run = run; step = step }) in
    let now = subst (λ (v : List ℤ). den * payments g s.rule v + level f d ≤ level f c + gains f s.rule v) env one in
    let sum = mul-add den (payments g s.rule (variables_at p start s earlier)) (weighed p (payments g) start earlier) in
    omega (arith, before, now, sum)

pub potentials_pay : PotentialsPayForGoals
potentials_pay = record { each = run-pays }

module _ (p : Program) (start : List ℤ) (f : Potential) (den rule top : ℕ) (form : List ℤ → ℤ)
    (covers : Covers p start f den rule form) (reach : ResetsReach p start f top) where
  -- after a step to a symbol with a function the level is at most the level before it plus the gain that is kept, or
  -- top
  rises : (c : Config) (s : Step) (d : Config) → IsTaken p start c s d → f.has d.at ≡ true → (k : Kind)
      → f.kind s.rule ≡ k → MovesBy k f den nothing_paid c s d → (room : ℕ) → level f c ≤ max (level f (begin_at p start)) top + room
      → or_zero (f.function d.at d.values) ≤ max (level f (begin_at p start)) top + (gain_by k (f.gain s.rule (c.values ++ s.free)) + room)
  rises c s d step has Keeps e move room low =
      let high = level-some f c move.source in
      let plain = without (f.function d.at d.values) (f.function c.at c.values +ℤ f.gain s.rule (c.values ++ s.free)) move.falls in
      let part = or_zero-sum (f.function d.at d.values) (f.function c.at c.values) (f.gain s.rule (c.values ++ s.free)) plain in
      omega (arith, low, high, part)
    where
      without : (a b : ℤ) → (a +ℤ pos den *ℤ pos 0) ≤ℤ b → a ≤ℤ b
      without a b h = omega (arith, ints, h)
  rises c s d step has Resets e move room low =
      let gain = reach.each c s d step e in
      let high = or_zero-le (f.function d.at d.values) top (through (f.function d.at d.values) (f.gain s.rule (c.values ++ s.free)) (pos top) move gain) in
      let ceil = le-max_right (level f (begin_at p start)) top in
      omega (arith, high, ceil)
    where
      through : (a b c : ℤ) → a ≤ℤ b → b ≤ℤ c → a ≤ℤ c
      through a b c h k = omega (arith, ints)
  rises c s d step has Never e move room low = absurd move

  -- the level of a run is at most the ceiling plus the gains of the steps that keep the function
  level-covered : (steps : List Step) (c : Config) → IsRun p start steps c
      → level f c ≤ max (level f (begin_at p start)) top + weighed p (kept_gains f) start steps
  level-covered [] c run =
      let first = level-first p start f c run in
      let ceil = le-max_left (level f (begin_at p start)) top in
      omega (arith, first, ceil)
  level-covered (s ∷ earlier) d (c, run, step) = go (f.has d.at) refl (level-covered earlier c run)
    where
      go : (v : Bool) → f.has d.at ≡ v
          → level f c ≤ max (level f (begin_at p start)) top + weighed p (kept_gains f) start earlier
          → level f d ≤ max (level f (begin_at p start)) top + weighed p (kept_gains f) start (s ∷ earlier)
      go true has before =
          let taken : IsTaken p start c s d = record { earlier = earlier; run = run; step = step } in
          let high = level-some f d has in
          let part = rises c s d taken has (f.kind s.rule) refl (covers.moves.each c s d taken has) (weighed p (kept_gains f) start earlier) before in
          let now = subst (λ (v : List ℤ). or_zero (f.function d.at d.values) ≤ max (level f (begin_at p start)) top
          + (gain_by (f.kind s.rule) (f.gain s.rule v) + weighed p (kept_gains f) start earlier))
          (variables-are p start s earlier c run) part in
          omega (arith, high, now)
      go false has before = let low = level-none f d has in omega (arith, low)

  -- a covered form is at most that bound
  pub form-covered : (s : Step) (earlier : List Step) (d : Config) → IsRun p start (s ∷ earlier) d → s.rule ≡ rule
      → (pos den *ℤ form (variables_at p start s earlier))
      ≤ℤ pos (max (level f (begin_at p start)) top + weighed p (kept_gains f) start earlier)
  form-covered s earlier d (c, run, step) same =
      let covered = covers.each c s d (record { earlier = earlier; run = run; step = step }) same in
      let high = level-some f c covered.source in
      let low = level-covered earlier c run in
      let part = le-or_zero (f.function c.at c.values) in
      let bound = joined (pos den *ℤ form (c.values ++ s.free)) (f.function c.at c.values) (or_zero (f.function c.at c.values))
      (level f c) (max (level f (begin_at p start)) top + weighed p (kept_gains f) start earlier) covered.floor part high low in
      subst (λ (v : List ℤ). (pos den *ℤ form v)
      ≤ℤ pos (max (level f (begin_at p start)) top + weighed p (kept_gains f) start earlier))
      (variables-are p start s earlier c run) bound
    where
      joined : (a b : ℤ) (m n k : ℕ) → a ≤ℤ b → b ≤ℤ pos m → n ≡ m → n ≤ k → a ≤ℤ pos k
      joined a b m n k h i e l = omega (arith, ints, h, i, e, l)

pub potentials_cover : PotentialsCoverPeaks
potentials_cover = record {
  each = λ p start f den rule top form covers reach. form-covered p start f den rule top form covers reach;
}
