-- The levels that entries add, as a bound.
use Rattle.std.proofs.Common.{◌≡◌, ℕ, ◌*◌, ◌≤◌, ◌==◌, true, List, [], ◌∷◌, arith, mul-le-mul}
use Rattle.std.proofs.lemmas.Bool.{or_left, or_right}
use Rattle.run_counting.specs.model.Runs.{Step, count}
use Rattle.run_counting.specs.model.Bounds.{Bound, ProductOf, val, val_sum}
use Rattle.run_counting.specs.model.Entries.{is_in}
use Rattle.cert_rules.specs.Composed.{both_parts, parts_for}
use Rattle.run_counting.specs.Paying.{income}
use Rattle.run_counting.proofs.model.Membership.{same_number}

-- the sum, over the entries of a run, of their weights is at most the bound with a part for each: its time times its
-- weight
pub income-bounded : (time weight : ℕ → Bound) (m : List ℕ) (es : List ℕ) (steps : List Step)
    → ((e : ℕ) → is_in e es ≡ true → count e steps ≤ val (time e) m)
    → income (λ e. val (weight e) m) es steps ≤ val_sum
    (parts_for (λ e. ProductOf (both_parts (time e) (weight e))) es) m
income-bounded time weight m [] steps h = omega arith
income-bounded time weight m (e ∷ es) steps h =
    let here : count e steps * val (weight e) m ≤ val (time e) m * (val (weight e) m * 1) =
    mul-le-mul (h e (or_left (e == e) (is_in e es) (same_number e))) (omega arith) in
    omega (arith, here, income-bounded time weight m es steps (λ x k. h x (or_right (x == e) (is_in x es) k)))
