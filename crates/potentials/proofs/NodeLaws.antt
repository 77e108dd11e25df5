-- The facts of nodes hold with the bounds that they compose.
use Rattle.std.proofs.Common.{◌≡◌, ◌≢◌, ◌⊎◌, inl, inr, ℕ, ◌+◌, ◌*◌, ◌≤◌, ◌==◌, true, false, List, [], ◌∷◌, max, min}
use Rattle.std.proofs.Common.{refl, sym, subst, arith}
use Rattle.std.specs.Prelude.{ℤ, pos, ◌≤ℤ◌, if◌then◌else◌}
use Rattle.std.proofs.lemmas.Int.{ints}
use Rattle.std.proofs.lemmas.Bool.Decides.{eqb_tells}
use Rattle.std.proofs.Common.{add-mul, mul-le-mul_right}
use Rattle.std.proofs.Math.Nat.{le-min}
use Rattle.run_counting.specs.model.Programs.{Program}
use Rattle.run_counting.specs.model.Runs.{Config, Step, IsRun}
use Rattle.run_counting.specs.model.Spending.{or_zero}
use Rattle.potentials.specs.Sums.{weighed, variables_at, once_for}
use Rattle.potentials.specs.Potentials.{Potential, level, begin_at, payments, kept_gains, ResetsReach}
use Rattle.potentials.specs.Nodes.{Bounding, ResetsHavePeaks}
use Rattle.potentials.specs.Nodes.{FallsHold, PeaksHold, RowsHold, TimesHold, LeastOfSumsHolds, LeastOfPeaksHolds}
use Rattle.potentials.specs.Nodes.{AddedSumsHold, PartsHold, BoundsAboveHold, PeakBoundsAboveHold, NodesHold}
use Rattle.potentials.proofs.PositiveParts.{le-or_zero, or_zero-le, or_zero-times}
use Rattle.potentials.proofs.SumLaws.{variables-are, weighed-mono, weighed-add}
use Rattle.potentials.proofs.LevelLaws.{run-pays, form-covered}

pub falls : FallsHold
falls p f den g gained b pays sum above = record {
  each = λ start steps c run.
      let paid = run-pays p start f den g (pays start) steps c run in
      let most = sum.each start steps c run in
      above.each start (weighed p (payments g) start steps) (omega (arith, paid, most));
}

-- if top is a peak of the gain of each reset, no reset gains more
pub resets-reach : (p : Program) (f : Potential) (top : Bounding) → ResetsHavePeaks p f top → (start : List ℤ)
    → ResetsReach p start f (top start)
resets-reach p f top peaks start = record {
  each = λ c s d step resets.
      let peak = (peaks.each s.rule resets).each start s step.earlier d (c, step.run, step.step) refl in
      subst (λ (v : List ℤ). f.gain s.rule v ≤ℤ pos (top start))
      (sym (variables-are p start s step.earlier c step.run)) peak;
}

pub peaks : PeaksHold
peaks p f den rule form top gained b one covers resets sum above = record { each = peak }
  where
    peak : (start : List ℤ) (s : Step) (earlier : List Step) (d : Config) → IsRun p start (s ∷ earlier) d
        → s.rule ≡ rule → form (variables_at p start s earlier) ≤ℤ pos (b start)
    peak start s earlier d (c, run, step) same =
        let z = form (variables_at p start s earlier) in
        let high = form-covered p start f den rule (top start) form (covers start) (resets-reach p f top resets start) s earlier d (c, run, step) same in
        let part = or_zero-times den z (pos (max (level f (begin_at p start)) (top start) + weighed p (kept_gains f) start earlier)) high in
        let most = sum.each start earlier c run in
        let low = above.each start (or_zero z) (omega (arith, part, most)) in
        through z (or_zero z) (b start) (le-or_zero z) low
      where
        through : (z : ℤ) (m n : ℕ) → z ≤ℤ pos m → m ≤ n → z ≤ℤ pos n
        through z m n h k = omega (arith, ints, h, k)

pub rows : RowsHold
rows p rule n form low = record { each = peak }
  where
    peak : (start : List ℤ) (s : Step) (earlier : List Step) (d : Config) → IsRun p start (s ∷ earlier) d
        → s.rule ≡ rule → form (variables_at p start s earlier) ≤ℤ pos n
    peak start s earlier d (c, run, step) same =
        subst (λ (v : List ℤ). form v ≤ℤ pos n) (variables-are p start s earlier c run)
        (low start c s d (record { earlier = earlier; run = run; step = step }) same)

pub times : TimesHold
times p rule form often high sum peak = record { each = each }
  where
    grown : (start : List ℤ) (steps : List Step) (c : Config) → IsRun p start steps c
        → weighed p (λ t env. if t == rule then or_zero (form env) else 0) start steps
        ≤ weighed p (once_for rule) start steps * high start
    grown start [] c run = omega arith
    grown start (s ∷ earlier) d (c, run, step) = go (eqb_tells s.rule rule) (grown start earlier c run)
      where
        go : ((s.rule == rule) ≡ true) × (s.rule ≡ rule) ⊎ ((s.rule == rule) ≡ false) × (s.rule ≢ rule)
            → weighed p (λ t env. if t == rule then or_zero (form env) else 0) start earlier
            ≤ weighed p (once_for rule) start earlier * high start
            → weighed p (λ t env. if t == rule then or_zero (form env) else 0) start (s ∷ earlier)
            ≤ weighed p (once_for rule) start (s ∷ earlier) * high start
        go (inl (test, same)) before =
            let low = or_zero-le (form (variables_at p start s earlier)) (high start)
            (peak.each start s earlier d (c, run, step) same) in
            rw test (omega (arith, low, before, add-mul 1 (weighed p (once_for rule) start earlier) (high start)))
        go (inr (test, other)) before =
            rw test (omega (arith, before, add-mul 0 (weighed p (once_for rule) start earlier) (high start)))

    each : (start : List ℤ) (steps : List Step) (c : Config) → IsRun p start steps c
        → weighed p (λ t env. if t == rule then or_zero (form env) else 0) start steps ≤ often start * high start
    each start steps c run =
        let one = grown start steps c run in
        let two = mul-le-mul_right (high start) (sum.each start steps c run) in
        omega (arith, one, two)

pub least_sums : LeastOfSumsHolds
least_sums p w a b one two = record {
  each = λ start steps c run. le-min (one.each start steps c run) (two.each start steps c run);
}

pub least_peaks : LeastOfPeaksHolds
least_peaks p rule form a b one two = record {
  each = λ start s earlier c run same.
      let z = form (variables_at p start s earlier) in
      let low = le-min (or_zero-le z (a start) (one.each start s earlier c run same)) (or_zero-le z (b start) (two.each start s earlier c run same)) in
      through z (or_zero z) (min (a start) (b start)) (le-or_zero z) low;
}
  where
    through : (z : ℤ) (m n : ℕ) → z ≤ℤ pos m → m ≤ n → z ≤ℤ pos n
    through z m n h k = omega (arith, ints, h, k)

pub added_sums : AddedSumsHold
added_sums p v w a b one two = record {
  each = λ start steps c run.
      let sum = weighed-add p v w start steps in
      let x = one.each start steps c run in
      let y = two.each start steps c run in
      omega (arith, sum, x, y);
}

pub parts : PartsHold
parts p v w a less sum = record {
  each = λ start steps c run.
      let low = weighed-mono p v w less start steps in
      let most = sum.each start steps c run in
      omega (arith, low, most);
}

pub bounds_above : BoundsAboveHold
bounds_above p w a b less sum = record {
  each = λ start steps c run.
      let most = sum.each start steps c run in
      let low = less start in
      omega (arith, most, low);
}

pub peak_bounds_above : PeakBoundsAboveHold
peak_bounds_above p rule form a b less peak = record {
  each = λ start s earlier c run same.
      through (form (variables_at p start s earlier)) (a start) (b start) (peak.each start s earlier c run same) (less start);
}
  where
    through : (z : ℤ) (m n : ℕ) → z ≤ℤ pos m → m ≤ n → z ≤ℤ pos n
    through z m n h k = omega (arith, ints, h, k)

pub nodes_hold : NodesHold
nodes_hold = record {
  falls = falls;
  peaks = peaks;
  rows = rows;
  times = times;
  least_sums = least_sums;
  least_peaks = least_peaks;
  sums = added_sums;
  parts = parts;
  bounds_above = bounds_above;
  peak_bounds_above = peak_bounds_above;
}
