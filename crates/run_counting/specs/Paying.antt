-- Levels that pay for steps (potentials): how often a rule can occur if each of its steps decreases a level that only
-- entries increase.
use Rattle.std.specs.Prelude.{◌≡◌, ◌≢◌, ℕ, ◌+◌, ◌*◌, ◌≤◌, List, [], ◌∷◌, ℤ}
use Rattle.model.specs.Programs.{Program}
use Rattle.model.specs.Runs.{Config, Step, IsRun, count, one_if_same}

-- the sum of a function over a list
abbrev pub sum_over : (ℕ → ℕ) → List ℕ → ℕ
sum_over f [] = 0
sum_over f (e ∷ es) = f e + sum_over f es

-- how much a step by rule u may increase the level: the weight of u, for each time that u is listed as an entry
abbrev pub allowance : (ℕ → ℕ) → List ℕ → ℕ → ℕ
allowance weight es u = sum_over (λ e. one_if_same u e * weight e) es

-- the sum over the entries of how often each occurs, times its weight
abbrev pub income : (ℕ → ℕ) → List ℕ → List Step → ℕ
income weight es steps = sum_over (λ e. count e steps * weight e) es

-- Levels pay for rule t; a configuration may have many of them or none. A run begins at a level of at most q times the
-- allowance of the virtual entry. For each level before a step there is a level after it that is higher by at most q
-- times the allowance of the step's rule and, if that rule is t, is lower by q in addition.
pub record IsPaidFor {C : Type 0} (IsRunTo : List Step → C → Type 0) (HasLevel : C → ℕ → Type 0) (q t : ℕ)
    (weight : ℕ → ℕ) (es : List ℕ) : Type 0 where
  pub rule : t ≢ 0
  pub start : (c : C) → IsRunTo [] c → (l : ℕ) × HasLevel c l × (l ≤ q * allowance weight es 0)
  pub step : (s : Step) (earlier : List Step) (d : C) → IsRunTo (s ∷ earlier) d
      → (c : C) × IsRunTo earlier c × ((k : ℕ) → HasLevel c k
      → (l : ℕ) × HasLevel d l × (l + q * one_if_same s.rule t ≤ k + q * allowance weight es s.rule))

-- The income by the entries has paid for the steps by rule t: the configuration has a level that, added to q times the
-- number of these steps, is at most q times the income. So if q is at least 1, the number of these steps is at most the
-- income.
pub record HasPaid {C : Type 0} (HasLevel : C → ℕ → Type 0) (q t : ℕ) (weight : ℕ → ℕ) (es : List ℕ)
    (steps : List Step) (c : C) : Type 0 where
  pub level : ℕ
  pub has : HasLevel c level
  pub left : q * count t steps + level ≤ q * income weight es steps
  pub often : 1 ≤ q → count t steps ≤ income weight es steps

-- the counting lemma: if levels pay for a rule of a program, then in every run the rule has been paid for, so it occurs
-- at most as often as the entries, each occurrence counted with the entry's weight
pub record EntriesPay (HasLevel : Config → ℕ → Type 0) : Type 0 where
  pub each : (p : Program) (start : List ℤ) (q t : ℕ) (weight : ℕ → ℕ) (es : List ℕ)
      → IsPaidFor (λ steps c. IsRun p start steps c) HasLevel q t weight es
      → (steps : List Step) (c : Config) → IsRun p start steps c → HasPaid HasLevel q t weight es steps c

-- the counting lemma holds if a potential gives each configuration its only level
abbrev pub PotentialsPay : Type 0
PotentialsPay = (potential : Config → ℕ) → EntriesPay (λ c l. l ≡ potential c)
