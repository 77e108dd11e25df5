-- Preconditions of finding the first fault of a gap: points with small numbers, the prepared rows and new values of a
-- rule, and the first element of a list that fails.
use Rattle.std.specs.Prelude.{◌≡◌, ◌⊎◌, ℕ, zero, suc, ◌≤◌, true, false, List, [], ◌∷◌, length, option_map, Option, Some, None}
use Rattle.std.specs.Prelude.{slice_get, slice_index_or, ◌<◌, ◌*◌, ◌^◌, Bool, pos, map, filter, not}
use denote.Ref.{Bor}
use Rattle.farkas_cert.specs.linear_forms.Limits.{point_limit}
use Rattle.farkas_cert.specs.linear_forms.RuleQuestions.{RuleForms, Coefficient}
use Rattle.farkas_cert.specs.model.Entries.{is_in}
use Rattle.farkas_cert.specs.model.Programs.{Program, arity_of}
use Rattle.farkas_cert.specs.Sizes.{AreParts, HasRowNumbers}
use Rattle.farkas_cert.specs.declared.scaled.Scaled.{Scaled}
use Rattle.guard_prep.specs.declared.rule_rows.RuleRows.{RuleRows}
use Rattle.guard_prep.specs.Views.{prepared_of}
use Rattle.cert_types.specs.cert_rules.AcceptsPlain.{IsRule}
use Rattle.cert_types.specs.cert_program.RankedSets.{forms_of, forms_at}
use Rattle.cert_types.specs.cert_rules.GapChecks.{IsGapPoint, point_of, balance, balanced}
use Rattle.cert_types.specs.cert_rules.Gaps.{ScaledPoint}
use Rattle.cert_types.specs.cert_rules.Gaps as plain
use Rattle.cert_types.specs.cert_rules.Numbers.{IsAscending}
use Rattle.std.specs.List.{All, AllByRecursion, range_with_len}
use Rattle.cert_types.specs.AnswerViews.{scaled_of}

-- the prepared rows of the rule with a number; rules count from 1
abbrev pub prepared_rule_in : List RuleRows → ℕ → Option RuleRows
prepared_rule_in prepared_rules zero = None
prepared_rule_in prepared_rules (suc t) = slice_get prepared_rules t

-- the forms of a rule with these prepared rows, except for its symbols
abbrev pub forms_by_prepared_rule : Option RuleRows → RuleForms
forms_by_prepared_rule None = record { source = 0; target = 0; left = 0; unknowns = 0; rows = []; new_values = [] }
forms_by_prepared_rule (Some m) = forms_of 0 0 (prepared_of m)

-- the forms of the rule with a number, except for its symbols
abbrev pub forms_by : List RuleRows → ℕ → RuleForms
forms_by prepared_rules t = forms_by_prepared_rule (prepared_rule_in prepared_rules t)

-- a point with at most 128 parts and numbers within the limit
pub record IsNear (z : ScaledPoint) : Type 0 where
  pub few : length z.parts ≤ 128
  pub parts_limit : AreParts z.parts
  pub den_limit : z.den ≤ point_limit

-- all points of the rules of an ascending set are near, and there is one for each rule
pub record AreNearPoints (set : List ℕ) (zs : List ScaledPoint) : Type 0 where
  pub ascending : IsAscending set
  pub long : length zs ≡ length set
  pub near : (t : ℕ) → is_in t set ≡ true → IsNear (point_of set zs t)

-- there is a scaled point for each rule of a set, with a part for each of the rule's unknowns and numbers within the limit
abbrev pub HaveGapPoints : List RuleRows → List ℕ → List Scaled → Type 0
HaveGapPoints prepared_rules set zs = (length zs ≡ length set)
    × AllByRecursion (λ t. IsGapPoint (forms_by prepared_rules t) (point_of set (map scaled_of zs) t)) set

-- the rows and the new values of each rule have small numbers
pub record HaveSmallRows (prepared_rules : List RuleRows) : Type 0 where
  pub rows : (t : ℕ) → All HasRowNumbers (forms_by prepared_rules t).rows
  pub new_values : (t : ℕ) → All HasRowNumbers (forms_by prepared_rules t).new_values

-- an element is the first one in a list of which P doesn't hold: all elements before it hold
abbrev pub IsFirstFailing : {A : Type 0} → (A → Type 0) → List A → A → Type 0
IsFirstFailing P [] y = ⊥
IsFirstFailing P (x ∷ xs) y = (¬ P x × (x ≡ y)) ⊎ (P x × IsFirstFailing P xs y)

-- the prepared rows that a borrow refers to, if there is one
abbrev pub optional_prepared_rule : Option (Bor RuleRows) → Option RuleRows
optional_prepared_rule o = option_map (λ m. m.now) o

-- a place of a symbol
abbrev pub coefficient_at : ℕ → ℕ → Coefficient
coefficient_at symbol place = record { symbol = symbol; place = place }

-- an upper bound of the absolute value of a new value at a near point
abbrev pub near_value_limit : ℕ
near_value_limit = 129 * 2 ^ 108

-- a flag for place 0 and each place that a symbol may have: whether it is shut
pub record AreShutFlags (flags : List Bool) (shut : List plain.SymbolPlace) (symbol : ℕ) : Type 0 where
  pub long : length flags ≡ 33
  pub each : (i : ℕ) → i < 33 → slice_index_or flags i false ≡ plain.is_shut shut symbol i

-- the balance of a coefficient is 0
abbrev pub IsBalanced : Program → plain.Gap → Coefficient → Type 0
IsBalanced p g c = balance (forms_at p) g c ≡ pos 0

-- the places of a symbol that need a balance: place 0, and each that isn't shut
abbrev pub places_at : Program → plain.Gap → ℕ → List Coefficient
places_at p g s =
    map (λ i. record { symbol = s; place = i })
    (0 ∷ filter (λ i. not (plain.is_shut g.shut s i)) (range_with_len 1 (arity_of p s)))

-- the answer is the first place, by symbols and then by places, that isn't shut and isn't balanced
abbrev pub IsFirstUnbalanced : Program → plain.Gap → Option (ℕ × ℕ) → Type 0
IsFirstUnbalanced p g None = AllByRecursion (IsBalanced p g) (balanced p g)
IsFirstUnbalanced p g (Some c) = IsFirstFailing (IsBalanced p g) (balanced p g) (coefficient_at c.0 c.1)

-- the set of a gap ascends, has only numbers of rules and holds the strict rule
pub record IsGapSet (p : Program) (g : plain.Gap) : Type 0 where
  pub ascending : IsAscending g.set
  pub rules : AllByRecursion (IsRule p) g.set
  pub inside : is_in g.rule g.set ≡ true

-- the denominators of the strict rule's move and of the floor are both 0
abbrev pub HasNoDenominators : plain.Gap → Type 0
HasNoDenominators g = ((point_of g.set g.moves g.rule).den ≡ 0) × (g.floor.den ≡ 0)
