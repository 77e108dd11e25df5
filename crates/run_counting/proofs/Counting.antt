-- The counting lemma: the income by the entries bounds how often a level can decrease.
use Rattle.std.proofs.Common.{◌≡◌, ◌⊎◌, inl, inr, ℕ, ◌+◌, ◌*◌, ◌≤◌, true, false, List, [], ◌∷◌, refl, sym, ap, arith}
use Rattle.std.proofs.Common.{mul-add, add-mul, le_of_mul-le-mul_right}
use Rattle.model.specs.Runs.{Config, Step, IsRun, count, one_if_same}
use Rattle.model.specs.Entries.{is_in}
use Rattle.model.proofs.Membership.{is_in-cases, no_is_not_yes}
use Rattle.model.proofs.RunLaws.{one_if_same-same, one_if_same-other}
use Rattle.run_counting.specs.Paying.{allowance, income, IsPaidFor, HasPaid, EntriesPay, PotentialsPay}

-- the allowance of a listed entry is at least its weight
pub allowed : (weight : ℕ → ℕ) (es : List ℕ) (e : ℕ) → is_in e es ≡ true → weight e ≤ allowance weight es e
allowed weight [] e h = absurd (no_is_not_yes false refl h)
allowed weight (x ∷ es) e h = go (is_in-cases e x es h) (λ m. allowed weight es e m)
  where
    go : (e ≡ x) ⊎ (is_in e es ≡ true) → (is_in e es ≡ true → weight e ≤ allowance weight es e)
        → weight e ≤ allowance weight (x ∷ es) e
    go (inl same) ih =
        let one : one_if_same e x * weight x ≡ 1 * weight x =
        ap (λ (n : ℕ). n * weight x) (one_if_same-same e x same) in
        omega (arith, one, ap weight same)
    go (inr m) ih = omega (arith, ih m)

-- one more step adds its allowance to the income
pub income-step : (weight : ℕ → ℕ) (es : List ℕ) (s : Step) (steps : List Step)
    → income weight es (s ∷ steps) ≡ allowance weight es s.rule + income weight es steps
income-step weight [] s steps = refl
income-step weight (e ∷ es) s steps =
    regroup _ _ _ _ _ _ (add-mul (one_if_same s.rule e) (count e steps) (weight e)) (income-step weight es s steps)
  where
    regroup : (x a b y c d : ℕ) → x ≡ a + b → y ≡ c + d → x + y ≡ (a + c) + (b + d)
    regroup x a b y c d e f = omega arith

module _ {C : Type 0} (IsRunTo : List Step → C → Type 0) (HasLevel : C → ℕ → Type 0) (q t : ℕ) (weight : ℕ → ℕ)
    (es : List ℕ) where
  -- a level within the rest of the income shows what has been paid for
  shown : (steps : List Step) (c : C) (l : ℕ) → HasLevel c l → q * count t steps + l ≤ q * income weight es steps
      → HasPaid HasLevel q t weight es steps c
  shown steps c l has left = record {
    level = l;
    has = has;
    left = left;
    often = λ one. cancelled (count t steps) (income weight es steps) one (omega (arith, left));
  }
    where
      cancelled : (a b : ℕ) → 1 ≤ q → q * a ≤ q * b → a ≤ b
      cancelled a b one k = let turned : a * q ≤ b * q = omega (arith, k) in le_of_mul-le-mul_right turned one

  -- if levels pay for a rule, the income of a run has paid for its steps
  pub paid : IsPaidFor IsRunTo HasLevel q t weight es → (steps : List Step) (c : C) → IsRunTo steps c
      → HasPaid HasLevel q t weight es steps c
  paid h [] c run =
      let first = h.start c run in
      shown [] c first.0 first.1
      (omega (arith, ap (λ (n : ℕ). q * n) (one_if_same-other 0 t (λ e. h.rule (sym e))), first.2))
  paid h (s ∷ earlier) d run =
      let moved = h.step s earlier d run in
      let before = paid h earlier moved.0 moved.1 in
      let behind = moved.2 before.level before.has in
      shown (s ∷ earlier) d behind.0 behind.1
      (omega (
        arith,
        before.left,
        behind.2,
        mul-add q (one_if_same s.rule t) (count t earlier),
        ap (λ (n : ℕ). q * n) (income-step weight es s earlier),
        mul-add q (allowance weight es s.rule) (income weight es earlier),
      ))

-- the counting lemma for the runs of a program
pub entries_pay : (HasLevel : Config → ℕ → Type 0) → EntriesPay HasLevel
entries_pay HasLevel = record {
  each =
      λ p start q t weight es h steps c run. paid (λ ss d. IsRun p start ss d) HasLevel q t weight es h steps c run;
}

-- the counting lemma for potentials
pub potentials_pay : PotentialsPay
potentials_pay potential = entries_pay (λ c l. l ≡ potential c)
