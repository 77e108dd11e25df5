-- How much a loop can grow: the size that enters, times the factors of the steps, and the additions of the steps.
use Rattle.std.proofs.Common.{◌≡◌, ◌⊎◌, inl, inr, ℕ, suc, ◌+◌, ◌*◌, ◌^◌, ◌≤◌, max, Bool, true, false, List, [], ◌∷◌}
use Rattle.std.proofs.Common.{refl, sym, ap, ◌∙◌, arith, mul-le-mul, le_trans, le_of_eq}
use Rattle.std.proofs.Math.Nat.{pow-le-pow_right, one-le-pow}
use Rattle.std.proofs.Common.{pow-suc}
use Rattle.run_counting.specs.model.Runs.{Step, IsRun, count, one_if_same, last_rule}
use Rattle.run_counting.proofs.model.RunLaws.{one_if_same-same}
use Rattle.run_counting.specs.model.Entries.{is_in}
use Rattle.run_counting.specs.Paying.{income}
use Rattle.cert_rules.specs.Feeding.{growth, grown, IsFed, LoopsGrow}
use Rattle.run_counting.proofs.Counting.{allowed, income-step}
use Rattle.run_counting.proofs.model.Membership.{is_in-cases, no_is_not_yes}

module _ (factor : ℕ → ℕ) (least : (t : ℕ) → 1 ≤ factor t) where
  -- factors of at least 1 multiply to at least 1
  growth-positive : (ts : List ℕ) (steps : List Step) → 1 ≤ growth factor ts steps
  growth-positive [] steps = omega arith
  growth-positive (t ∷ ts) steps =
      mul-le-mul (one-le-pow (count t steps) (factor t) (least t)) (growth-positive ts steps)

  -- one more step doesn't make the growth less
  growth-grows : (ts : List ℕ) (s : Step) (steps : List Step) → growth factor ts steps ≤ growth factor ts (s ∷ steps)
  growth-grows [] s steps = omega arith
  growth-grows (t ∷ ts) s steps = mul-le-mul (pow-le-pow_right (least t) (omega arith)) (growth-grows ts s steps)

  -- a step multiplies the growth by the factor of its rule, if that is listed
  growth-step : (ts : List ℕ) (s : Step) (steps : List Step) → is_in s.rule ts ≡ true
      → factor s.rule * growth factor ts steps ≤ growth factor ts (s ∷ steps)
  growth-step [] s steps h = absurd (no_is_not_yes false refl h)
  growth-step (t ∷ ts) s steps h = go (is_in-cases s.rule t ts h) (λ k. growth-step ts s steps k)
    where
      go : (s.rule ≡ t) ⊎ (is_in s.rule ts ≡ true)
          → (is_in s.rule ts ≡ true → factor s.rule * growth factor ts steps ≤ growth factor ts (s ∷ steps))
          → factor s.rule * growth factor (t ∷ ts) steps ≤ growth factor (t ∷ ts) (s ∷ steps)
      go (inl e) ih =
          let one : one_if_same s.rule t + count t steps ≡ suc (count t steps) =
          omega (arith, one_if_same-same s.rule t e) in
          let power : factor t ^ (one_if_same s.rule t + count t steps) ≡ factor t ^ count t steps * factor t =
          ap (λ (n : ℕ). factor t ^ n) one ∙ pow-suc (factor t) (count t steps) in
          let turned : factor s.rule * growth factor (t ∷ ts) steps ≡ (factor t ^ count t steps * factor t) * growth
          factor ts steps =
          ap (λ (u : ℕ). factor u * growth factor (t ∷ ts) steps) e ∙ swapped (factor t) (factor t ^ count t steps)
          (growth factor ts steps) in
          le_trans (le_of_eq turned) (mul-le-mul (le_of_eq (sym power)) (growth-grows ts s steps))
        where
          swapped : (a b c : ℕ) → a * (b * c) ≡ (b * a) * c
          swapped a b c = omega arith
      go (inr k) ih =
          le_trans (le_of_eq (swapped (factor s.rule) (factor t ^ count t steps) (growth factor ts steps)))
          (mul-le-mul (pow-le-pow_right (least t) (omega arith)) (ih k))
        where
          swapped : (a b c : ℕ) → a * (b * c) ≡ b * (a * c)
          swapped a b c = omega arith

module _ {C : Type 0} (IsRunTo : List Step → C → Type 0) (size : C → ℕ → ℕ) (member : ℕ → ℕ → Bool) (base : ℕ)
    (factor addition : ℕ → ℕ) (ts : List ℕ) where
  -- the bound on the members after these steps: the product of the factors, times the base and all that the steps added
  abbrev most : List Step → ℕ
  most steps = grown base factor addition ts steps

  -- members that are fed: after every run each member of its last rule is at most the product of the factors of all
  -- steps, times the base and all that the steps added
  pub fed : IsFed IsRunTo size member base factor addition ts → (steps : List Step) (c : C) → IsRunTo steps c
      → (i : ℕ) → member (last_rule steps) i ≡ true → size c i ≤ most steps
  fed h [] c run i k = le_trans (h.start c run i k)
      (le_times (growth factor ts []) base (income addition ts []) (growth-positive factor h.least ts []))
    where
      le_times : (a b c : ℕ) → 1 ≤ a → b ≤ a * (b + c)
      le_times a b c l = let k : 1 * (b + c) ≤ a * (b + c) = mul-le-mul l (omega arith) in omega (arith, k)
  fed h (s ∷ earlier) d run i k = go (h.step s earlier d run) (λ c r j m. fed h earlier c r j m)
    where
      le_times : (a b c : ℕ) → 1 ≤ a → b ≤ a * (b + c)
      le_times a b c l = let k : 1 * (b + c) ≤ a * (b + c) = mul-le-mul l (omega arith) in omega (arith, k)

      more : factor s.rule * most earlier + addition s.rule ≤ most (s ∷ earlier)
      more =
          let listed = h.listed s.rule i k in
          let one : 1 * 1 ≤ factor s.rule * growth factor ts earlier =
          mul-le-mul (h.least s.rule) (growth-positive factor h.least ts earlier) in
          let added : 1 * addition s.rule ≤ (factor s.rule * growth factor ts earlier) * addition s.rule =
          mul-le-mul one (omega arith) in
          let together : (factor s.rule * growth factor ts earlier) *
          (base + income addition ts earlier + addition s.rule) ≤ most (s ∷ earlier) =
          mul-le-mul (growth-step factor h.least ts s earlier listed)
          (omega (arith, income-step addition ts s earlier, allowed addition ts s.rule listed)) in
          spread (factor s.rule) (growth factor ts earlier) (base + income addition ts earlier) (addition s.rule) _
          added together
        where
          spread : (f g b a w : ℕ) → 1 * a ≤ (f * g) * a → (f * g) * (b + a) ≤ w → f * (g * b) + a ≤ w
          spread f g b a w l k = omega (arith, l, k)

      go : (c : C) × IsRunTo earlier
          c × ((g : ℕ) → ((j : ℕ) → member (last_rule earlier) j ≡ true → size c j ≤ g) → (i : ℕ)
          → member s.rule i ≡ true → size d i ≤ max base (factor s.rule * g + addition s.rule))
          → ((c : C) → IsRunTo earlier c → (j : ℕ) → member (last_rule earlier) j ≡ true → size c j ≤ most earlier)
          → size d i ≤ most (s ∷ earlier)
      go (c, r, step) ih =
          omega (
            arith,
            step (most earlier) (λ j m. ih c r j m) i k,
            more,
            le_times (growth factor ts (s ∷ earlier))
                base (income addition ts (s ∷ earlier)) (growth-positive factor h.least ts (s ∷ earlier)),
          )

-- the bound on the growth of loops holds on the runs of a program
pub loops_grow : LoopsGrow
loops_grow = record {
  each =
      λ p start size member base factor addition ts h steps c run i k. fed (λ ss d. IsRun p start ss d) size member base
      factor addition ts h steps c run i k;
}
