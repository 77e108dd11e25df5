-- Potentials: functions at some symbols, from which steps pay, and which some steps raise.
use Rattle.std.specs.Prelude.{◌≡◌, ℕ, Bool, true, false, List, ◌++◌, ℤ, pos, ◌+ℤ◌, ◌*ℤ◌, ◌≤ℤ◌}
use Rattle.std.specs.Prelude.{if◌then◌else◌}
use Rattle.run_counting.specs.model.Programs.{Program}
use Rattle.run_counting.specs.model.Runs.{Config, Step, IsRun, IsStep}
use Rattle.run_counting.specs.model.Spending.{or_zero}
use Rattle.potentials.specs.Sums.{Weight}

-- what a rule does to the function of its target: it keeps the function of its source, up to the gain; it resets the
-- function to at most the gain; or it never occurs
pub data Kind : Type 0 where
  Keeps : Kind
  Resets : Kind
  Never : Kind

-- a potential: which symbols have a function, and the function of the values there; for each rule what it does to the
-- function, and the most that it gains, over the rule's variables
pub record Potential : Type 0 where
  pub has : ℕ → Bool
  pub function : ℕ → List ℤ → ℤ
  pub kind : ℕ → Kind
  pub gain : ℕ → List ℤ → ℤ

-- the level at a configuration: the positive part of its symbol's function, and 0 if there is none
abbrev pub level : Potential → Config → ℕ
level f c = if f.has c.at then or_zero (f.function c.at c.values) else 0

-- the configuration at which runs with these start values begin
abbrev pub begin_at : Program → List ℤ → Config
begin_at p start = record { at = p.start; values = start }

-- a goal: which rules are paid for, and the amount for each, over its variables
pub record Goal : Type 0 where
  pub is_paid : ℕ → Bool
  pub amount : ℕ → List ℤ → ℤ

-- the amount that a step by a rule takes if the rule is paid for, else 0
abbrev pub taken : Goal → ℕ → List ℤ → ℤ
taken g t env = if g.is_paid t then g.amount t env else pos 0

-- the goal without payments
abbrev pub nothing_paid : Goal
nothing_paid = record { is_paid = λ t. false; amount = λ t env. pos 0 }

-- the payments and the gains as weights: the positive parts
abbrev pub payments : Goal → Weight
payments g t env = or_zero (taken g t env)

abbrev pub gains : Potential → Weight
gains f t env = or_zero (f.gain t env)

-- the gain of a rule that keeps the function, else 0
abbrev pub gain_by : Kind → ℤ → ℕ
gain_by Keeps h = or_zero h
gain_by Resets h = 0
gain_by Never h = 0

abbrev pub kept_gains : Potential → Weight
kept_gains f t env = gain_by (f.kind t) (f.gain t env)

-- a run from the start values takes the step from c to d
pub record IsTaken (p : Program) (start : List ℤ) (c : Config) (s : Step) (d : Config) : Type 0 where
  pub earlier : List Step
  pub run : IsRun p start earlier c
  pub step : IsStep p c s d

-- a step keeps the function: its source has one, and the function after the step, plus den times the amount taken, is
-- at most the function before it plus the gain
pub record IsKept (f : Potential) (den : ℕ) (g : Goal) (c : Config) (s : Step) (d : Config) : Type 0 where
  pub source : f.has c.at ≡ true
  pub falls : (f.function d.at d.values +ℤ pos den *ℤ taken g s.rule (c.values ++ s.free))
      ≤ℤ (f.function c.at c.values +ℤ f.gain s.rule (c.values ++ s.free))

-- the effect of a step to a symbol with a function, by the kind of its rule
abbrev pub MovesBy : Kind → Potential → ℕ → Goal → Config → Step → Config → Type 0
MovesBy Keeps f den g c s d = IsKept f den g c s d
MovesBy Resets f den g c s d = f.function d.at d.values ≤ℤ f.gain s.rule (c.values ++ s.free)
MovesBy Never f den g c s d = ⊥

-- each step that a run takes to a symbol with a function has the effect that the kind of its rule says
pub record Moves (p : Program) (start : List ℤ) (f : Potential) (den : ℕ) (g : Goal) : Type 0 where
  pub each : (c : Config) (s : Step) (d : Config) → IsTaken p start c s d → f.has d.at ≡ true
      → MovesBy (f.kind s.rule) f den g c s d

-- a step is a payment: its source has a function, which is at least den times the amount; and if the step keeps the
-- function and leads to a symbol with one, the amount isn't negative
pub record IsPayment (f : Potential) (den : ℕ) (g : Goal) (c : Config) (s : Step) (d : Config) : Type 0 where
  pub source : f.has c.at ≡ true
  pub floor : (pos den *ℤ g.amount s.rule (c.values ++ s.free)) ≤ℤ f.function c.at c.values
  pub amount : f.kind s.rule ≡ Keeps → f.has d.at ≡ true → pos 0 ≤ℤ g.amount s.rule (c.values ++ s.free)

-- a potential pays for a goal: its moves hold, and each step that is paid for is a payment
pub record Pays (p : Program) (start : List ℤ) (f : Potential) (den : ℕ) (g : Goal) : Type 0 where
  pub moves : Moves p start f den g
  pub each : (c : Config) (s : Step) (d : Config) → IsTaken p start c s d → g.is_paid s.rule ≡ true
      → IsPayment f den g c s d

-- a function covers a form at a step: its source has one, which is at least den times the form
pub record IsCovered (f : Potential) (den : ℕ) (form : List ℤ → ℤ) (c : Config) (s : Step) : Type 0 where
  pub source : f.has c.at ≡ true
  pub floor : (pos den *ℤ form (c.values ++ s.free)) ≤ℤ f.function c.at c.values

-- a potential covers a form of a rule: its moves hold with nothing paid, and it covers the form at each step by the
-- rule
pub record Covers (p : Program) (start : List ℤ) (f : Potential) (den : ℕ) (rule : ℕ) (form : List ℤ → ℤ) : Type 0 where
  pub moves : Moves p start f den nothing_paid
  pub each : (c : Config) (s : Step) (d : Config) → IsTaken p start c s d → s.rule ≡ rule → IsCovered f den form c s

-- no step that resets the function gains more than top
pub record ResetsReach (p : Program) (start : List ℤ) (f : Potential) (top : ℕ) : Type 0 where
  pub each : (c : Config) (s : Step) (d : Config) → IsTaken p start c s d → f.kind s.rule ≡ Resets
      → f.gain s.rule (c.values ++ s.free) ≤ℤ pos top
