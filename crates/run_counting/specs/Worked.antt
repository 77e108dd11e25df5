-- Worked values of levels that pay for a rule, and of levels that don't.
use Rattle.std.specs.Prelude.{◌≡◌, ℕ, suc, ◌+◌, ◌*◌, ◌≤◌, List, [], ◌∷◌, ⊤}
use Rattle.model.specs.Runs.{Step, one_if_same}
use Rattle.model.specs.Worked.{four_steps}
use Rattle.run_counting.specs.Paying.{allowance, income, IsPaidFor, HasPaid}

-- an account, with balance 0 at first: rule 1 pays in three coins, rule 2 takes out one, which has to be there, and no
-- other rule changes the balance
abbrev pub IsAccount : List Step → ℕ → Type 0
IsAccount [] c = c ≡ 0
IsAccount (s ∷ earlier) d = (c : ℕ) × IsAccount earlier c × (d + one_if_same s.rule 2 ≡ c + 3 * one_if_same s.rule 1)

-- the level of a balance is the balance itself
abbrev pub Balance : ℕ → ℕ → Type 0
Balance c l = l ≡ c

-- every rule has the same weight
abbrev pub weighs : ℕ → ℕ → ℕ
weighs w e = w

-- worked values of the allowance of a rule that is listed once, twice and not at all, and of the income after rule 1
-- and three times rule 2; the weight of each rule is its number plus 2
pub record EntriesBringIn : Type 0 where
  pub listed : allowance (λ e. e + 2) (0 ∷ 3 ∷ []) 3 ≡ 5
  pub twice : allowance (λ e. e + 2) (3 ∷ 0 ∷ 3 ∷ []) 3 ≡ 10
  pub not_listed : allowance (λ e. e + 2) (0 ∷ 3 ∷ []) 1 ≡ 0
  pub virtual : income (λ e. e + 2) (0 ∷ []) four_steps ≡ 2
  pub both : income (λ e. e + 2) (1 ∷ 2 ∷ []) four_steps ≡ 15

-- levels that pay for rule 2, and levels that don't
pub record AccountsPay : Type 0 where
  -- the levels pay if rule 1 has weight 3 and rule 2 takes 1; if levels and amounts are doubled; if rule 1 has weight 2
  -- and is listed twice; if the level is the balance plus 1 and the virtual entry is listed too; and if every number
  -- from the balance on is a level
  pub balance : IsPaidFor IsAccount Balance 1 2 (weighs 3) (1 ∷ [])
  pub doubled : IsPaidFor IsAccount (λ c l. l ≡ 2 * c) 2 2 (weighs 3) (1 ∷ [])
  pub twice : IsPaidFor IsAccount Balance 1 2 (weighs 2) (1 ∷ 1 ∷ [])
  pub one_more : IsPaidFor IsAccount (λ c l. l ≡ suc c) 1 2 (weighs 3) (0 ∷ 1 ∷ [])
  pub from_balance : IsPaidFor IsAccount (λ c l. c ≤ l) 1 2 (weighs 3) (1 ∷ [])
  -- the levels don't pay if rule 1 has weight 2, if it isn't listed, or if rule 2 takes 2; if the level is the balance
  -- plus 1 and the virtual entry isn't listed; if there is no level; if every number is a level, so that a step can't
  -- take from level 0; and if the rule to be paid for is the virtual entry
  pub light : ¬ (IsPaidFor IsAccount Balance 1 2 (weighs 2) (1 ∷ []))
  pub no_entry : ¬ (IsPaidFor IsAccount Balance 1 2 (weighs 3) (0 ∷ []))
  pub takes_one : ¬ (IsPaidFor IsAccount Balance 2 2 (weighs 3) (1 ∷ []))
  pub given : ¬ (IsPaidFor IsAccount (λ c l. l ≡ suc c) 1 2 (weighs 3) (1 ∷ []))
  pub no_level : ¬ (IsPaidFor IsAccount (λ c l. ⊥) 1 2 (weighs 3) (1 ∷ []))
  pub any_level : ¬ (IsPaidFor IsAccount (λ c l. ⊤) 1 2 (weighs 3) (1 ∷ []))
  pub virtual : ¬ (IsPaidFor IsAccount Balance 1 0 (weighs 3) (0 ∷ 1 ∷ []))
  -- after rule 1 and three times rule 2 everything has been paid for if the level is 0, and not if it is 1
  pub all_paid : HasPaid Balance 1 2 (weighs 3) (1 ∷ []) four_steps 0
  pub no_more : ¬ (HasPaid Balance 1 2 (weighs 3) (1 ∷ []) four_steps 1)
