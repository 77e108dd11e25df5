-- When lists of facts state exactly the bounds that a table knows.
use Rattle.std.specs.Prelude.{◌≡◌, ◌⊎◌, ℕ, List, [], ◌∷◌, Some}
use Rattle.std.specs.List.{All, Contains}
use Rattle.rule_questions.specs.model.Bounds.{Bound}
use Rattle.rule_questions.specs.model.Facts.{Fact, Time, Size, Cost}
use Rattle.rule_questions.specs.cert_rules.Setting.{Setting}
use Rattle.rule_questions.specs.cert_rules.AcceptsPlain.{IsRule, start_facts}
use Rattle.rule_questions.specs.cert_rules.Acceptance.{facts_of_lemma}
use Rattle.bound_fixpoint.specs.Keys.{Bounds, place_fact, size_by}

-- the fact states a known runtime bound or size bound
abbrev pub IsFactOf : Bounds → Fact → Type 0
IsFactOf b (Time t c) = b t 0 ≡ Some c
IsFactOf b (Size t i c) = size_by b t i ≡ Some c
IsFactOf b (Cost t c) = ⊥

-- each of these facts states a known bound
abbrev pub AreFactsOf : Bounds → List Fact → Type 0
AreFactsOf b facts = All (IsFactOf b) facts

-- the bound of a key is stated by the lemma with the key's number; number 0 is that of the virtual entry
abbrev pub IsStatedBy : Setting → List (List Fact) → (ℕ → ℕ → ℕ) → ℕ → ℕ → Bound → Type 0
IsStatedBy s past number t i c = ((number t i ≡ 0) × Contains (start_facts s.program) (place_fact t i c))
    ⊎ Contains (facts_of_lemma past (number t i)) (place_fact t i c)

-- the lemmas and the virtual entry state only bounds of a second table, which has all known bounds; each known bound is
-- stated by its number; and the lemma of a rule's time states nothing else
pub record SayBounds (s : Setting) (past : List (List Fact)) (number : ℕ → ℕ → ℕ) (b all : Bounds) : Type 0 where
  pub keeps : (t i : ℕ) (c : Bound) → b t i ≡ Some c → all t i ≡ Some c
  pub are : All (AreFactsOf all) past
  pub start : AreFactsOf all (start_facts s.program)
  pub stated : (t i : ℕ) (c : Bound) → b t i ≡ Some c → IsStatedBy s past number t i c
  pub alone : (t : ℕ) (c : Bound) → IsRule s.program t → b t 0 ≡ Some c
      → facts_of_lemma past (number t 0) ≡ Time t c ∷ []
