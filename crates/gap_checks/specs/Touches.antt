-- The touches of a set: each occurrence of a symbol as the source or the target of one of its rules.
use Rattle.std.specs.Prelude.{◌≡◌, ℕ, zero, suc, ◌+◌, ◌<◌, ◌≤◌, true, List, [], ◌∷◌, length, slice_index_or, ℤ, pos, ◌-ℤ◌}
use Rattle.std.specs.List.{AllWithin}
use Rattle.std.specs.List.Sorted.{IsNonDecreasingBy, IsPermutation}
use Rattle.farkas_cert.specs.linear_forms.RuleQuestions.{RuleForms, Coefficient, at_source, at_target}
use Rattle.farkas_cert.specs.model.Entries.{is_in}
use Rattle.farkas_cert.specs.model.Programs.{Program}
use Rattle.cert_types.specs.cert_rules.AcceptsPlain.{IsRule}
use Rattle.cert_types.specs.cert_rules.GapChecks.{value_at}
use Rattle.cert_types.specs.cert_rules.Gaps.{ScaledPoint}
use Rattle.gap_checks.specs.declared.touching.Group.{Group}
use Rattle.gap_checks.specs.declared.touching.Way.{Way}
use Rattle.gap_checks.specs.declared.touching.Way.TheVariants.{Leaves, Arrives}
use Rattle.gap_checks.specs.declared.touching.Touch.{Touch}

-- each number of a set is that of a rule
abbrev pub AreRules : Program → List ℕ → Type 0
AreRules p set = (t : ℕ) → is_in t set ≡ true → IsRule p t

-- the rule at a position of a set
abbrev pub rule_in : List ℕ → ℕ → ℕ
rule_in set i = slice_index_or set i 0

-- the point at a position, among those of the rules of a set
abbrev pub point_in : List ScaledPoint → ℕ → ScaledPoint
point_in zs i = slice_index_or zs i (record { parts = []; den = 0 })

-- the rule at a position of a set leaves a symbol
abbrev pub leaving_touch : (ℕ → RuleForms) → List ℕ → ℕ → Touch
leaving_touch rule set i = record { symbol = (rule (rule_in set i)).source; position = i; way = Leaves }

-- the rule at a position of a set leads to a symbol
abbrev pub arriving_touch : (ℕ → RuleForms) → List ℕ → ℕ → Touch
arriving_touch rule set i = record { symbol = (rule (rule_in set i)).target; position = i; way = Arrives }

-- the touches of this many rules of a set, from a position on
abbrev pub touches_from : (ℕ → RuleForms) → List ℕ → ℕ → ℕ → List Touch
touches_from rule set i zero = []
touches_from rule set i (suc n) = leaving_touch rule set i ∷ arriving_touch rule set i ∷ touches_from rule set (i + 1) n

-- all touches of a set, in the order of symbols
pub record AreTouches (rule : ℕ → RuleForms) (set : List ℕ) (touches : List Touch) : Type 0 where
  pub all : IsPermutation (touches_from rule set 0 (length set)) touches
  pub ordered : IsNonDecreasingBy (λ t. t.symbol) touches

-- a group of the touches in order, which are all touches of one symbol
pub record IsGroup (touches : List Touch) (group : Group) : Type 0 where
  pub some : group.start < group.end
  pub bound : group.end ≤ length touches
  pub before : AllWithin (λ t. t.symbol < group.symbol) touches 0 group.start
  pub within : AllWithin (λ t. t.symbol ≡ group.symbol) touches group.start group.end
  pub behind : AllWithin (λ t. group.symbol < t.symbol) touches group.end (length touches)

-- what leaves a place of a symbol by a rule at its point, or the opposite of what arrives there
abbrev pub share_by : Way → RuleForms → ScaledPoint → Coefficient → ℤ
share_by Leaves r z c = value_at (at_source r c) z
share_by Arrives r z c = pos 0 -ℤ value_at (at_target r c) z

-- the share of a touch in the balance of a place of a symbol, at the points of the set's rules
abbrev pub share_of : (ℕ → RuleForms) → List ℕ → List ScaledPoint → Coefficient → Touch → ℤ
share_of rule set zs c t = share_by t.way (rule (rule_in set t.position)) (point_in zs t.position) c
