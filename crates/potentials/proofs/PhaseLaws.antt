-- Runs that go in two phases: after m counted steps the first function is at most V(m) = F - den * m, and twice the
-- second one at most U(m) = 2 * G + 2 * m * F - den * m * (m + 1), where F and G are their values at the start.
use Rattle.std.proofs.Common.{◌≡◌, ◌⊎◌, inl, inr, ℕ, zero, suc, ◌+◌, ◌-◌, ◌*◌, ◌<◌, ◌≤◌, Bool, true, false, List, [], ◌∷◌}
use Rattle.std.proofs.Common.{refl, ◌∙◌, ap, subst, arith, mul-le-mul_left}
use Rattle.std.specs.Prelude.{ℤ, pos, ◌+ℤ◌, ◌-ℤ◌, ◌*ℤ◌, ◌≤ℤ◌, if◌then◌else◌}
use Rattle.std.proofs.lemmas.Int.{ints}
use Rattle.std.proofs.lemmas.Bool.{cases_lt}
use Rattle.run_counting.specs.model.Programs.{Program}
use Rattle.run_counting.specs.model.Runs.{Config, Step, IsRun}
use Rattle.run_counting.specs.model.Spending.{or_zero}
use Rattle.int_laws.proofs.OrderLaws.{mul-le-mul_ℤ}
use Rattle.potentials.specs.Sums.{weighed}
use Rattle.potentials.specs.Potentials.{IsTaken}
use Rattle.potentials.specs.Phases.{Phases, counts, FallsInPhases, IsHighBefore, GoesInPhases, IsAtLeastRoot}
use Rattle.potentials.specs.Phases.{under_root, PhasesHold}
use Rattle.potentials.proofs.PositiveParts.{le-or_zero}

-- arithmetic: if a quadratic inequality in m holds, den * m is at most den + 2 * a plus the root
module _ (den m a b r : ℕ) where
  -- the inequality multiplied by den
  scaled : den * (m * (m + 1)) ≤ 2 * b + 2 * (m * a)
      → (den * m) * (den * m) + den * (den * m) ≤ 2 * (den * b) + 2 * (a * (den * m))
  scaled h = let more = mul-le-mul_left den h in omega (arith, more)

  -- the square of the part of x above 2 * a is bounded
  squared : (x e rest : ℕ) → e + 2 * a ≡ x → x * x + rest ≤ 2 * (den * b) + 2 * (a * x) → e * e ≤ 2 * (den * b)
  squared x e rest is h =
      let square = ap (λ (v : ℕ). v * v) is in
      let product = ap (λ (v : ℕ). a * v) is in
      omega (arith, h, square, product)

  pub under-root : IsAtLeastRoot (2 * (den * b)) r → den * (m * (m + 1)) ≤ 2 * b + 2 * (m * a) → den * m ≤ 2 * a + r
  under-root root h = go (cases_lt (2 * a) (den * m))
    where
      go : (2 * a < den * m) ⊎ (den * m ≤ 2 * a) → den * m ≤ 2 * a + r
      go (inl above) =
          let e = den * m - 2 * a in
          let is : (den * m - 2 * a) + 2 * a ≡ den * m = whole (den * m) (2 * a) above in
          let low = root.each e (squared (den * m) e (den * (den * m)) is (scaled h)) in
          joined (den * m) (2 * a) e r is low
        where
          whole : (x y : ℕ) → y < x → (x - y) + y ≡ x
          whole x y h = omega (arith, h)

          joined : (x y e r : ℕ) → e + y ≡ x → e ≤ r → x ≤ y + r
          joined x y e r i l = omega (arith, i, l)
      go (inr below) = omega (arith, below)

module _ (den : ℕ) (f g : ℤ) where
  -- bounds on the first function after m counted steps, and on twice the second one
  abbrev pub first_after : ℕ → ℤ
  first_after zero = f
  first_after (suc m) = first_after m -ℤ pos den

  abbrev pub second_after : ℕ → ℤ
  second_after zero = g +ℤ g
  second_after (suc m) = (second_after m +ℤ (first_after m +ℤ first_after m)) -ℤ pos (den + den)

  -- the bounds in closed form
  first-closed : (m : ℕ) → first_after m +ℤ pos (den * m) ≡ f
  first-closed zero = omega (arith, ints)
  first-closed (suc m) = let before = first-closed m in omega (arith, ints, before)

  second-closed : (m : ℕ) → second_after m +ℤ pos (den * (m * (m + 1))) ≡ (g +ℤ g) +ℤ (pos m *ℤ f +ℤ pos m *ℤ f)
  second-closed zero = omega (arith, ints)
  second-closed (suc m) =
      let before = second-closed m in
      let first = first-closed m in
      let one : pos (suc m) *ℤ f ≡ pos m *ℤ f +ℤ f = more m in
      next (second_after m) (first_after m) (pos m *ℤ f) (pos (suc m) *ℤ f) m before first one
    where
      more : (m : ℕ) → pos (suc m) *ℤ f ≡ pos m *ℤ f +ℤ f
      more m = omega (arith, ints)

      next : (u v p q : ℤ) (m : ℕ) → u +ℤ pos (den * (m * (m + 1))) ≡ (g +ℤ g) +ℤ (p +ℤ p)
          → v +ℤ pos (den * m) ≡ f → q ≡ p +ℤ f
          → ((u +ℤ (v +ℤ v)) -ℤ pos (den + den)) +ℤ pos (den * (suc m * (suc m + 1))) ≡ (g +ℤ g) +ℤ (q +ℤ q)
      next u v p q m h i e = omega (arith, ints, h, i, e)

  -- if the second bound is at least twice den, m is small enough
  pub counted-low : (m : ℕ) → pos (den + den) ≤ℤ second_after m
      → den * (m * (m + 1)) ≤ 2 * or_zero (g -ℤ pos den) + 2 * (m * or_zero f)
  counted-low m h =
      let closed = second-closed m in
      let product = mul-le-mul_ℤ (pos m) f (pos (or_zero f)) (omega (arith, ints)) (le-or_zero f) in
      let part = le-or_zero (g -ℤ pos den) in
      low (second_after m) (pos m *ℤ f) (or_zero (g -ℤ pos den)) (m * or_zero f) (den * (m * (m + 1))) h closed part product
    where
      low : (u p : ℤ) (b q s : ℕ) → pos (den + den) ≤ℤ u → u +ℤ pos s ≡ (g +ℤ g) +ℤ (p +ℤ p)
          → (g -ℤ pos den) ≤ℤ pos b → p ≤ℤ pos q → s ≤ 2 * b + 2 * q
      low u p b q s h i j k = omega (arith, ints, h, i, j, k)

module _ (p : Program) (start : List ℤ) (f : Phases) (den : ℕ) (goes : GoesInPhases p start f den) where
  -- the values of both functions at the start
  abbrev first_0 : ℤ
  first_0 = f.first p.start start

  abbrev second_0 : ℤ
  second_0 = f.second p.start start

  -- the invariant after n counted steps: the bounds on the functions, if there are some; and either no step was
  -- counted, or the second function was at least den before the last counted one
  record Behind (n : ℕ) (c : Config) : Type 0 where
    pub first : f.has c.at ≡ true → f.first c.at c.values ≤ℤ first_after den first_0 second_0 n
    pub second : f.has c.at ≡ true
        → (f.second c.at c.values +ℤ f.second c.at c.values) ≤ℤ second_after den first_0 second_0 n
    pub last : (n ≡ 0) ⊎ ((m : ℕ) × (n ≡ suc m) × (pos (den + den) ≤ℤ second_after den first_0 second_0 m))

  -- the invariant is kept by a step that isn't counted
  uncounted : (n : ℕ) (c : Config) (s : Step) (d : Config) → IsTaken p start c s d → f.counted s.rule ≡ false
      → Behind n c → Behind n d
  uncounted n c s d step e before = record {
    first = λ has. first has (goes.moves c s d step has);
    second = λ has. second has (goes.moves c s d step has);
    last = before.last;
  }
    where
      less : (y x v : ℤ) → (y +ℤ pos 0) ≤ℤ x → x ≤ℤ v → y ≤ℤ v
      less y x v h i = omega (arith, ints, h, i)

      twice : (y x v : ℤ) → (y +ℤ pos 0) ≤ℤ (x +ℤ pos 0) → (x +ℤ x) ≤ℤ v → (y +ℤ y) ≤ℤ v
      twice y x v h i = omega (arith, ints, h, i)

      first : f.has d.at ≡ true → FallsInPhases f den c s d
          → f.first d.at d.values ≤ℤ first_after den first_0 second_0 n
      first has move =
          let falls = subst (λ (v : Bool). (f.first d.at d.values +ℤ (if v then pos den else pos 0)) ≤ℤ f.first c.at c.values) e move.first in
          less _ _ _ falls (before.first move.source)

      second : f.has d.at ≡ true → FallsInPhases f den c s d
          → (f.second d.at d.values +ℤ f.second d.at d.values) ≤ℤ second_after den first_0 second_0 n
      second has move =
          let falls = subst (λ (v : Bool). (f.second d.at d.values +ℤ (if v then pos den else pos 0))
          ≤ℤ (f.second c.at c.values +ℤ (if v then f.first c.at c.values else pos 0))) e move.second in
          twice _ _ _ falls (before.second move.source)

  -- the invariant is kept by a counted step
  counted : (n : ℕ) (c : Config) (s : Step) (d : Config) → IsTaken p start c s d → f.counted s.rule ≡ true
      → Behind n c → Behind (suc n) d
  counted n c s d step e before = record {
    first = λ has. first has (goes.moves c s d step has);
    second = λ has. second has (goes.moves c s d step has);
    last = inr (n, refl, enough (goes.floors c s d step e));
  }
    where
      less : (y x v : ℤ) → (y +ℤ pos den) ≤ℤ x → x ≤ℤ v → y ≤ℤ (v -ℤ pos den)
      less y x v h i = omega (arith, ints, h, i)

      twice : (y x z u v : ℤ) → (y +ℤ pos den) ≤ℤ (x +ℤ z) → (x +ℤ x) ≤ℤ u → z ≤ℤ v
          → (y +ℤ y) ≤ℤ ((u +ℤ (v +ℤ v)) -ℤ pos (den + den))
      twice y x z u v h i j = omega (arith, ints, h, i, j)

      doubled : (y u : ℤ) → pos den ≤ℤ y → (y +ℤ y) ≤ℤ u → pos (den + den) ≤ℤ u
      doubled y u h i = omega (arith, ints, h, i)

      enough : IsHighBefore f den c → pos (den + den) ≤ℤ second_after den first_0 second_0 n
      enough high = doubled (f.second c.at c.values) (second_after den first_0 second_0 n) high.floor (before.second high.source)

      first : f.has d.at ≡ true → FallsInPhases f den c s d
          → f.first d.at d.values ≤ℤ (first_after den first_0 second_0 n -ℤ pos den)
      first has move =
          let falls = subst (λ (v : Bool). (f.first d.at d.values +ℤ (if v then pos den else pos 0)) ≤ℤ f.first c.at c.values) e move.first in
          less _ _ _ falls (before.first move.source)

      second : f.has d.at ≡ true → FallsInPhases f den c s d
          → (f.second d.at d.values +ℤ f.second d.at d.values)
          ≤ℤ ((second_after den first_0 second_0 n +ℤ (first_after den first_0 second_0 n +ℤ first_after den first_0 second_0 n)) -ℤ pos (den + den))
      second has move =
          let falls = subst (λ (v : Bool). (f.second d.at d.values +ℤ (if v then pos den else pos 0))
          ≤ℤ (f.second c.at c.values +ℤ (if v then f.first c.at c.values else pos 0))) e move.second in
          twice _ _ _ _ _ falls (before.second move.source) (before.first move.source)

  -- the invariant holds after each run
  behind-run : (steps : List Step) (c : Config) → IsRun p start steps c → Behind (weighed p (counts f) start steps) c
  behind-run [] c run = record {
    first = λ has. equal _ _ (ap (λ (a : ℕ). f.first a c.values) run.at ∙ ap (λ (v : List ℤ). f.first p.start v) run.values);
    second = λ has. equal _ _ (ap (λ (z : ℤ). z +ℤ z) (ap (λ (a : ℕ). f.second a c.values) run.at ∙ ap (λ (v : List ℤ). f.second p.start v) run.values));
    last = inl refl;
  }
    where
      equal : (x y : ℤ) → x ≡ y → x ≤ℤ y
      equal x y e = omega (arith, ints)
  behind-run (s ∷ earlier) d (c, run, step) = go (f.counted s.rule) refl (behind-run earlier c run)
    where
      taken : IsTaken p start c s d
      taken = record { earlier = earlier; run = run; step = step }

      go : (v : Bool) → f.counted s.rule ≡ v → Behind (weighed p (counts f) start earlier) c
          → Behind (weighed p (counts f) start (s ∷ earlier)) d
      go true e before =
          let is : suc (weighed p (counts f) start earlier) ≡ weighed p (counts f) start (s ∷ earlier) = rw e (omega arith) in
          subst (λ (n : ℕ). Behind n d) is (counted (weighed p (counts f) start earlier) c s d taken e before)
      go false e before =
          let is : weighed p (counts f) start earlier ≡ weighed p (counts f) start (s ∷ earlier) = rw e (omega arith) in
          subst (λ (n : ℕ). Behind n d) is (uncounted (weighed p (counts f) start earlier) c s d taken e before)

  -- den times the number of counted steps is at most the bound
  pub phases-low : (r : ℕ) → IsAtLeastRoot (under_root p f den start) r → (steps : List Step) (c : Config)
      → IsRun p start steps c
      → den * weighed p (counts f) start steps ≤ den + 2 * or_zero (f.first p.start start) + r
  phases-low r root steps c run = go (weighed p (counts f) start steps) (behind-run steps c run).last
    where
      go : (n : ℕ) → (n ≡ 0) ⊎ ((m : ℕ) × (n ≡ suc m) × (pos (den + den) ≤ℤ second_after den first_0 second_0 m))
          → den * n ≤ den + 2 * or_zero (f.first p.start start) + r
      go n (inl none) = let zero = ap (λ (k : ℕ). den * k) none in omega (arith, zero)
      go n (inr (m, is, high)) =
          let low = under-root den m (or_zero first_0) (or_zero (second_0 -ℤ pos den)) r root (counted-low den first_0 second_0 m high) in
          let more = ap (λ (k : ℕ). den * k) is in
          omega (arith, low, more)

pub phases_hold : PhasesHold
phases_hold p f den root b goes roots above = record {
  each = λ start steps c run.
      above.each start (weighed p (counts f) start steps) (phases-low p start f den (goes start) (root start) (roots start) steps c run);
}
