-- A ranking function with entries is a potential whose only gains are at entries.
use Rattle.std.proofs.Common.{◌≡◌, ℕ, ◌+◌, ◌*◌, ◌≤◌, ◌==◌, Bool, true, false, List, [], ◌∷◌}
use Rattle.std.proofs.Common.{refl, ◌∙◌, ap, arith, mul-add, le_of_mul-le-mul_right}
use Rattle.std.specs.Prelude.{ℤ, pos, ◌+ℤ◌, ◌*ℤ◌, ◌≤ℤ◌, if◌then◌else◌}
use Rattle.std.proofs.lemmas.Int.{ints}
use Rattle.run_counting.specs.model.Programs.{Program}
use Rattle.run_counting.specs.model.Runs.{Config, Step, IsRun, count}
use Rattle.run_counting.specs.Paying.{income}
use Rattle.run_counting.proofs.Counting.{income-step}
use Rattle.run_counting.proofs.model.Membership.{same_number-sound}
use Rattle.potentials.specs.Sums.{weighed, once_for}
use Rattle.potentials.specs.Potentials.{Keeps, Resets, payments, gains, IsTaken}
use Rattle.potentials.specs.Potentials.{MovesBy, IsPayment, Pays}
use Rattle.potentials.specs.Ranks.{Ranking, Entries, brings, ranking_potential, ranking_goal, Ranks, RanksAreFalls}
use Rattle.potentials.proofs.SumLaws.{weighed-same, count-is}
use Rattle.potentials.proofs.LevelLaws.{run-pays}

module _ (p : Program) (start : List ℤ) (r : Ranking) (e : Entries) (ranks : Ranks p start r e) where
  -- a step by one of the function's rules keeps it, and takes 1 if it is by the rule that it ranks
  kept-falls : (c : Config) (s : Step) (d : Config) → IsTaken p start c s d → r.is_member s.rule ≡ true
      → r.has d.at ≡ true → (v : Bool) → (s.rule == r.rule) ≡ v
      → (r.function d.at d.values +ℤ pos r.den *ℤ (if v then pos 1 else pos 0)) ≤ℤ (r.function c.at c.values +ℤ pos 0)
  kept-falls c s d step member has true same =
      once _ _ (ranks.falls c s d step (same_number-sound s.rule r.rule same) has)
    where
      once : (x y : ℤ) → (x +ℤ pos r.den) ≤ℤ y → (x +ℤ pos r.den *ℤ pos 1) ≤ℤ (y +ℤ pos 0)
      once x y h = omega (arith, ints, h)
  kept-falls c s d step member has false other = never _ _ (ranks.keeps c s d step member has)
    where
      never : (x y : ℤ) → x ≤ℤ y → (x +ℤ pos r.den *ℤ pos 0) ≤ℤ (y +ℤ pos 0)
      never x y h = omega (arith, ints, h)

  -- each step has the effect that the potential says
  rank-move : (c : Config) (s : Step) (d : Config) → IsTaken p start c s d → r.has d.at ≡ true
      → MovesBy (if r.is_member s.rule then Keeps else Resets) (ranking_potential r e) r.den (ranking_goal r) c s d
  rank-move c s d step has = go (r.is_member s.rule) refl
    where
      go : (v : Bool) → r.is_member s.rule ≡ v
          → MovesBy (if v then Keeps else Resets) (ranking_potential r e) r.den (ranking_goal r) c s d
      go true member = record {
        source = ranks.leaves c s d step member;
        falls = rw member (kept-falls c s d step member has (s.rule == r.rule) refl);
      }
      go false other = rw other (ranks.enters c s d step other has)

  -- each step by the ranked rule is a payment
  rank-payment : (c : Config) (s : Step) (d : Config) → IsTaken p start c s d → (s.rule == r.rule) ≡ true
      → IsPayment (ranking_potential r e) r.den (ranking_goal r) c s d
  rank-payment c s d step paid =
      let same = same_number-sound s.rule r.rule paid in
      record {
        source = ranks.leaves c s d step (ap r.is_member same ∙ ranks.member);
        floor = once _ (ranks.floor c s d step same);
        amount = λ keeps has. omega (arith, ints);
      }
    where
      once : (y : ℤ) → pos r.den ≤ℤ y → (pos r.den *ℤ pos 1) ≤ℤ y
      once y h = omega (arith, ints, h)

  -- the potential pays for the goal
  pub rank-pays : Pays p start (ranking_potential r e) r.den (ranking_goal r)
  rank-pays = record { moves = record { each = rank-move }; each = rank-payment }

  -- the sum of the gains is at most den times the sum of the entries' weights
  gains-low : (steps : List Step)
      → weighed p (gains (ranking_potential r e)) start steps + r.den * brings e 0 ≤ r.den * income e.weight e.listed steps
  gains-low [] = omega arith
  gains-low (s ∷ earlier) = go (r.is_member s.rule) refl (gains-low earlier)
    where
      more : r.den * income e.weight e.listed (s ∷ earlier) ≡ r.den * brings e s.rule + r.den * income e.weight e.listed earlier
      more = ap (λ (n : ℕ). r.den * n) (income-step e.weight e.listed s earlier)
          ∙ mul-add r.den (brings e s.rule) (income e.weight e.listed earlier)

      go : (v : Bool) → r.is_member s.rule ≡ v
          → weighed p (gains (ranking_potential r e)) start earlier + r.den * brings e 0 ≤ r.den * income e.weight e.listed earlier
          → weighed p (gains (ranking_potential r e)) start (s ∷ earlier) + r.den * brings e 0
          ≤ r.den * income e.weight e.listed (s ∷ earlier)
      go true member ih = let all = more in rw member (omega (arith, ih, all))
      go false other ih = let all = more in rw other (omega (arith, ih, all))

  -- the payments are the count of the ranked rule
  paid-once : (t : ℕ) (env : List ℤ) → payments (ranking_goal r) t env ≡ once_for r.rule t env
  paid-once t env = go (t == r.rule) refl
    where
      go : (v : Bool) → (t == r.rule) ≡ v → payments (ranking_goal r) t env ≡ once_for r.rule t env
      go true same = rw same refl
      go false other = rw other refl

  pub rank-counts : 1 ≤ r.den → (steps : List Step) (c : Config) → IsRun p start steps c
      → count r.rule steps ≤ income e.weight e.listed steps
  rank-counts one steps c run =
      let paid = run-pays p start (ranking_potential r e) r.den (ranking_goal r) rank-pays steps c run in
      let counted = weighed-same p (payments (ranking_goal r)) (once_for r.rule) paid-once start steps ∙ count-is p r.rule ranks.rule start steps in
      let times = ap (λ (n : ℕ). r.den * n) counted in
      let gained = gains-low steps in
      let first = ranks.begins in
      cancelled r.den (count r.rule steps) (income e.weight e.listed steps) one (omega (arith, paid, times, gained, first))
    where
      cancelled : (q a b : ℕ) → 1 ≤ q → q * a ≤ q * b → a ≤ b
      cancelled q a b one k = let turned : a * q ≤ b * q = omega (arith, k) in le_of_mul-le-mul_right turned one

pub ranks_are_falls : RanksAreFalls
ranks_are_falls = record { pays = rank-pays; counts = λ p start r e one ranks. rank-counts p start r e ranks one }
