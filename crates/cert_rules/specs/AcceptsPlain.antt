-- When the nodes without an arithmetic certificate of their own are accepted: citing, empty and unreached rules, rules
-- that never run, and weaker bounds.
use Rattle.std.specs.Prelude.{◌≡◌, ℕ, suc, ◌-◌, ◌≤◌, not, Bool, true, List, [], ◌∷◌, length, Option, Some, None, ⊤}
use Rattle.std.specs.List.{range_with_len}
use Rattle.run_counting.specs.model.Programs.{Program, Rule, rule_at, arity_of}
use Rattle.run_counting.specs.model.Bounds.{Bound, Constant, Input}
use Rattle.run_counting.specs.model.Facts.{Fact, Time, Size, Cost}
use Rattle.bound_expr.specs.Numbers.{HasTidyNumbers, ReadsBelow}
use Rattle.rule_forms.specs.linear_forms.Certificates.{Implies, minus_one}
use Rattle.run_counting.specs.model.Paths.{target_of, IsReached}
use Rattle.cert_rules.specs.Known.{is_zero_bound, has_zero_time}
use Rattle.cert_rules.specs.Limits.{AreInLimit}
use Rattle.cert_rules.specs.Setting.{Setting}

-- the number is that of a rule
pub record IsRule (p : Program) (t : ℕ) : Type 0 where
  pub rule : Rule
  pub numbered : rule_at p t ≡ Some rule

-- a lemma that is cited is an earlier one; lemmas count from 1
pub record AcceptsCite (past : List (List Fact)) (n : ℕ) : Type 0 where
  pub least : 1 ≤ n
  pub earlier : n ≤ length past

-- multipliers for the rows of a rule: one a row, within the limit
pub record AreMultipliers (s : Setting) (t : ℕ) (multipliers : List ℕ) : Type 0 where
  pub long : length multipliers ≡ length (s.rows t)
  pub limit : AreInLimit multipliers

-- the shape of an `empty` node, checked before anything else
pub record HasEmptyShape (s : Setting) (t : ℕ) (multipliers : List ℕ) : Type 0 where
  pub rule : IsRule s.program t
  pub one_each : AreMultipliers s t multipliers

-- an empty rule: the rows, each times its multiplier, add up to -1, so that no point meets them
pub record AcceptsEmpty (s : Setting) (t : ℕ) (multipliers : List ℕ) : Type 0 where
  pub shape : HasEmptyShape s t multipliers
  pub empty : Implies (s.rows t) multipliers minus_one

-- the rule may run: no fact says that its time is 0
abbrev pub may_run : List Fact → ℕ → Bool
may_run facts t = not (has_zero_time facts t)

-- the source of a rule isn't reached by the rules that pass the test
abbrev pub IsUnreached : Program → (ℕ → Bool) → ℕ → Type 0
IsUnreached p is_allowed t = (r : Rule) → rule_at p t ≡ Some r → ¬ (IsReached p is_allowed r.source)

-- an unreached rule: its source isn't reached by rules that may run
pub record AcceptsUnreached (p : Program) (is_allowed : ℕ → Bool) (t : ℕ) : Type 0 where
  pub shape : IsRule p t
  pub reached : IsUnreached p is_allowed t

-- exactly one fact, a time of a rule above 0
abbrev pub IsOneTime : List Fact → Type 0
IsOneTime (Time (suc t) b ∷ []) = ⊤
IsOneTime facts = ⊥

-- the first fact is a time that is 0
abbrev pub IsZeroTime : List Fact → Type 0
IsZeroTime (Time t b ∷ facts) = is_zero_bound b ≡ true
IsZeroTime facts = ⊥

-- a premise shows that a rule never runs: it states exactly one fact, a time of the rule, and this is 0
pub record AcceptsNever (facts : List Fact) : Type 0 where
  pub shape : IsOneTime facts
  pub zero : IsZeroTime facts

-- size 0 for each of these places
abbrev pub zero_sizes : ℕ → List ℕ → List Fact
zero_sizes t [] = []
zero_sizes t (i ∷ is) = Size t i (Constant 0) ∷ zero_sizes t is

-- the numbers of the places of a symbol, if there is one
abbrev pub places_at : Program → Option ℕ → List ℕ
places_at p None = []
places_at p (Some a) = range_with_len 1 (arity_of p a)

-- the facts about a rule that never runs: size 0 for each place of its target
abbrev pub never_facts : Program → List Fact → List Fact
never_facts p (Time t b ∷ []) = zero_sizes t (places_at p (target_of p t))
never_facts p facts = []

-- the facts about the virtual entry: it occurs once, and place i has the size of start argument i
abbrev pub start_sizes : List ℕ → List Fact
start_sizes [] = []
start_sizes (i ∷ is) = Size 0 i (Input (i - 1)) ∷ start_sizes is

abbrev pub start_facts : Program → List Fact
start_facts p = Time 0 (Constant 1) ∷ start_sizes (places_at p (Some p.start))

-- the shape of a bound that a `weaken` node writes: its inputs are start arguments, its bases at least 2, its constants
-- below 2^127
pub record HasWeakenShape (p : Program) (b : Bound) : Type 0 where
  pub inputs : ReadsBelow (arity_of p p.start) b
  pub numbers : HasTidyNumbers b

-- the only fact of the premise has a bound that is below this one
abbrev pub IsWeaker : Setting → List Fact → Bound → Type 0
IsWeaker s (Time t a ∷ []) b = s.below a b ≡ true
IsWeaker s (Size t i a ∷ []) b = s.below a b ≡ true
IsWeaker s (Cost t a ∷ []) b = s.below a b ≡ true
IsWeaker s facts b = ⊥

-- a `weaken` node is accepted: its premise states exactly one fact, whose bound is below the new one
pub record AcceptsWeaken (s : Setting) (facts : List Fact) (b : Bound) : Type 0 where
  pub shape : HasWeakenShape s.program b
  pub weaker : IsWeaker s facts b

-- the fact of the premise, with the new bound
abbrev pub weakened : List Fact → Bound → List Fact
weakened (Time t a ∷ []) b = Time t b ∷ []
weakened (Size t i a ∷ []) b = Size t i b ∷ []
weakened (Cost t a ∷ []) b = Cost t b ∷ []
weakened facts b = []
