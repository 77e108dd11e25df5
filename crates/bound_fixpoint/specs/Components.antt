-- The components of the places of live rules, and rules that never run.
use Rattle.std.specs.Prelude.{◌≡◌, ◌⊎◌, ◌↔◌, ℕ, Bool, true, not, List, [], ◌∷◌, ⊤}
use Rattle.std.specs.List.{All}
use Rattle.rule_questions.specs.model.Programs.{Program}
use Rattle.rule_questions.specs.cert_rules.Nodes.{ResultVariable}
use Rattle.rule_questions.specs.cert_rules.AcceptsPlain.{IsRule, IsUnreached}
use Rattle.rule_questions.specs.cert_rules.AcceptsSizes.{ComesBefore}
use Rattle.bound_fixpoint.specs.Keys.{IsPlace, has_key}
use Rattle.bound_fixpoint.specs.Searches.{Searches, NoPoint}

-- a rule is empty: multipliers show that its rows have no rational point
pub record IsEmpty (q : Searches) (t : ℕ) : Type 0 where
  pub multipliers : List ℕ
  pub shown : q.Empties t (NoPoint multipliers)

-- a rule never runs: it is empty, or no path of rules that aren't empty leads to its source
abbrev pub IsDead : Program → (ℕ → Bool) → ℕ → Type 0
IsDead p is_empty t = (is_empty t ≡ true) ⊎ IsUnreached p (λ e. not (is_empty e)) t

-- the members of a component ascend
abbrev pub AreResultVariablesAscending : List ResultVariable → Type 0
AreResultVariablesAscending [] = ⊤
AreResultVariablesAscending (m ∷ []) = ⊤
AreResultVariablesAscending (m ∷ n ∷ rest) = ComesBefore m n × AreResultVariablesAscending (n ∷ rest)

-- one of the components has the place after the rule as a member
abbrev pub IsCovered : List (List ResultVariable) → ℕ → ℕ → Type 0
IsCovered [] t i = ⊥
IsCovered (c ∷ cs) t i = (has_key c t i ≡ true) ⊎ IsCovered cs t i

-- the component is one of these
abbrev pub IsOneOf : List (List ResultVariable) → List ResultVariable → Type 0
IsOneOf [] members = ⊥
IsOneOf (c ∷ cs) members = (c ≡ members) ⊎ IsOneOf cs members

-- no place is a member of two components
abbrev pub AreApart : List (List ResultVariable) → Type 0
AreApart [] = ⊤
AreApart (c ∷ cs) = ((t i : ℕ) → has_key c t i ≡ true → ¬ (IsCovered cs t i)) × AreApart cs

-- lists of the places of live rules, each of which is in exactly one list, once; inside each list they ascend
pub record AreComponentsOf (q : Searches) (p : Program) (components : List (List ResultVariable)) : Type 0 where
  pub is_empty : ℕ → Bool
  pub empty : (t : ℕ) → IsRule p t → (is_empty t ≡ true) ↔ IsEmpty q t
  pub ascending : All AreResultVariablesAscending components
  pub apart : AreApart components
  pub live : (t i : ℕ) → IsCovered components t i ↔ (IsRule p t × (¬ (IsDead p is_empty t)) × IsPlace p t i)
