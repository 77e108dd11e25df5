-- Proofs of which levels pay for what rule 2 takes out of the account.
use Rattle.std.proofs.Common.{◌≡◌, ℕ, suc, ◌+◌, ◌*◌, ◌-◌, ◌≤◌, List, [], ◌∷◌, refl, ap, arith}
use Rattle.model.specs.Runs.{Step, one_if_same}
use Rattle.model.specs.Worked.{by_rule}
use Rattle.run_counting.specs.Paying.{allowance, IsPaidFor}
use Rattle.run_counting.specs.Worked.{IsAccount, weighs, AccountsPay}

-- a level that is a function of the balance pays if it is low enough at first, and each step changes it by at most the
-- allowed amount
level_pays : (level : ℕ → ℕ) (q w : ℕ) (es : List ℕ) → level 0 ≤ q * allowance (weighs w) es 0
    → ((u c d : ℕ) → d + one_if_same u 2 ≡ c + 3 * one_if_same u 1
    → level d + q * one_if_same u 2 ≤ level c + q * allowance (weighs w) es u)
    → IsPaidFor IsAccount (λ c l. l ≡ level c) q 2 (weighs w) es
level_pays level q w es low changes = record {
  rule = λ e. omega (arith, e);
  start = λ c empty. (level c, refl, omega (arith, ap level empty, low));
  step = λ s earlier d run.
      (run.0, run.1, λ k e. (level d, refl, omega (arith, e, changes s.rule run.0 d run.2)));
}

-- if a level that is a function of the balance pays, each step changes it by at most the allowed amount
changes_so : (level : ℕ → ℕ) (q w : ℕ) (es : List ℕ) → IsPaidFor IsAccount (λ c l. l ≡ level c) q 2 (weighs w) es
    → (s : Step) (earlier : List Step) (d : ℕ) → IsAccount (s ∷ earlier) d
    → (c : ℕ) × IsAccount earlier c
    × (level d + q * one_if_same s.rule 2 ≤ level c + q * allowance (weighs w) es s.rule)
changes_so level q w es h s earlier d run =
    let moved = h.step s earlier d run in
    let behind = moved.2 (level moved.0) refl in (moved.0, moved.1, omega (arith, behind.1, behind.2))

-- after rule 1 there are three coins, and after rules 1 and 2 there are two
deposit : IsAccount (by_rule 1 ∷ []) 3
deposit = (0, refl, refl)

payment : IsAccount (by_rule 2 ∷ by_rule 1 ∷ []) 2
payment = (3, deposit, refl)

-- levels that aren't a function of the balance pay as well
levels_from : IsPaidFor IsAccount (λ c l. c ≤ l) 1 2 (weighs 3) (1 ∷ [])
levels_from = record {
  rule = λ e. omega (arith, e);
  start = λ c empty. (c, omega arith, omega (arith, empty));
  step = λ s earlier d run. (
    run.0,
    run.1,
    λ k above. let spare : k ≡ run.0 + (k - run.0) = omega (arith, above) in (
      d + (k - run.0),
      omega arith,
      omega (arith, spare, run.2),
    ),
  );
}

-- the worked values of levels that pay, and of those that don't, hold
pub accounts_pay : AccountsPay
accounts_pay = record {
  balance = level_pays (λ c. c) 1 3 (1 ∷ []) (omega arith) (λ u c d e. omega (arith, e));
  doubled = level_pays (λ c. 2 * c) 2 3 (1 ∷ []) (omega arith) (λ u c d e. omega (arith, e));
  twice = level_pays (λ c. c) 1 2 (1 ∷ 1 ∷ []) (omega arith) (λ u c d e. omega (arith, e));
  one_more = level_pays (λ c. suc c) 1 3 (0 ∷ 1 ∷ []) (omega arith) (λ u c d e. omega (arith, e));
  from_balance = levels_from;
  light = λ h. let step = changes_so (λ c. c) 1 2 (1 ∷ []) h (by_rule 1) [] 3 deposit in
      omega (arith, step.1, step.2);
  no_entry = λ h. let step = changes_so (λ c. c) 1 3 (0 ∷ []) h (by_rule 1) [] 3 deposit in
      omega (arith, step.1, step.2);
  takes_one = λ h. let step = changes_so (λ c. c) 2 3 (1 ∷ []) h (by_rule 2) (by_rule 1 ∷ []) 2 payment in
      omega (arith, step.1.1, step.1.2, step.2);
  given = λ h. let first = h.start 0 refl in omega (arith, first.1, first.2);
  no_level = λ h. let first = h.start 0 refl in first.1;
  any_level = λ h. let step = h.step (by_rule 2) (by_rule 1 ∷ []) 2 payment in
      let behind = step.2 0 tt in omega (arith, behind.2);
  virtual = λ h. h.rule refl;
  all_paid = record { level = 0; has = refl; left = omega arith; often = λ one. omega arith };
  no_more = λ h. omega (arith, h.has, h.left);
}
