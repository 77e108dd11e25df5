-- Why a node or a gap isn't accepted: checks that are made one after the other, and the reason of the first that fails.
use Rattle.std.specs.Prelude.{◌≡◌, ℕ, ◌⊎◌, List, [], ◌∷◌, ⊤}

-- the reasons, in the words of the proof text: wrong lengths, numbers out of range or over their limit, lists that
-- don't ascend, no earlier lemma, and no cost; rows that don't add up to -1; a source that is reached; a time that
-- isn't 0; a rule by which the function may rise; a function without a floor; a side bound of a result variable, up or
-- low, that isn't shown, where place 0 is the rule's cost; a time or a size that isn't known; a result variable whose
-- polynomial side bound reads a member; a composed bound with this many nodes; and a bound that isn't weaker
pub data Reason : Type 0 where
  Shape : Reason
  NotEmpty : Reason
  Reached : Reason
  NotZero : Reason
  Move : ℕ → Reason
  Floor : Reason
  SideBoundUp : ℕ → ℕ → Reason
  SideBoundLow : ℕ → ℕ → Reason
  MissingTime : ℕ → Reason
  MissingSize : ℕ → ℕ → Reason
  Nonlinear : ℕ → ℕ → Reason
  Large : ℕ → Reason
  NotWeaker : Reason

-- a condition, and the reason that is given if it doesn't hold
pub record CheckOf (R : Type 0) : Type 1 where
  pub reason : R
  pub holds : Type 0

-- a check of a node
abbrev pub Check : Type 1
Check = CheckOf Reason

-- a check: this condition, with this reason
abbrev pub check : {R : Type 0} → R → Type 0 → CheckOf R
check reason holds = record { reason = reason; holds = holds }

-- the check or test that a function gives for each element of a list, followed by the others
abbrev pub for_each {ℓ} : {A : Type 0} {B : Type ℓ} → (A → B) → List A → List B → List B
for_each f [] rest = rest
for_each f (x ∷ xs) rest = f x ∷ for_each f xs rest

-- all checks pass
abbrev pub AllPass : {R : Type 0} → List (CheckOf R) → Type 0
AllPass [] = ⊤
AllPass (c ∷ cs) = c.holds × AllPass cs

-- the reason of the first check that fails: all before it pass
abbrev pub IsFirstAmong : {R : Type 0} → List (CheckOf R) → R → Type 0
IsFirstAmong [] r = ⊥
IsFirstAmong (c ∷ cs) r = (¬ c.holds × (c.reason ≡ r)) ⊎ (c.holds × IsFirstAmong cs r)
