-- Rules under a list of facts, and the answers about facts and rules from which the next list is computed.
use Rattle.std.specs.Prelude.{◌≡◌, ◌⊎◌, ⊤, ℕ, suc, ◌<◌, ◌≤◌, List, [], ◌∷◌, ◌++◌, length, map, Vec, Option, Some, None}
use Rattle.std.specs.Prelude.{slice_get}
use Rattle.std.specs.declared.alloc.Global.{Global}
use Rattle.std.specs.List.{All}
use Rattle.poly_terms.specs.linear_forms.Certificates.{Implies, minus_one}
use Rattle.poly_terms.specs.linear_forms.Forms.{Form}
use Rattle.poly_terms.specs.linear_forms.RuleQuestions.{RuleForms}
use Rattle.poly_terms.specs.model.Programs.{Program}
use Rattle.poly_terms.specs.Views.{form_of}
use Rattle.farkas_cert.specs.Sizes.{AreWithinLimit}
use Rattle.lp_builder.specs.Descriptions.{IsWritable}
use Rattle.rule_questions.specs.ProgramQuestions.{forms_at}
use Rattle.location_facts.specs.declared.fact.LocFact.{LocFact}
use Rattle.location_facts.specs.declared.fact.FactProof.{FactProof}
use Rattle.location_facts.specs.declared.implied.Answered.{Answered}
use Rattle.location_facts.specs.declared.implied.Answered.TheVariants.{Shown, Refuted, Missed}
use Rattle.location_facts.specs.declared.implied.RuleUnderFacts.{RuleUnderFacts}
use Rattle.location_facts.specs.Candidates.{IsCandidate, order_number}
use Rattle.location_facts.specs.Certificates.{IsWithinLimit, Shows}
use Rattle.location_facts.specs.Faults.{rules_into, IsFactAt, ProofsShow}
use Rattle.location_facts.specs.Kept.{goal_program, IsSolvedWithin, IsImplied, IsImpliedByAll}
use Rattle.location_facts.specs.Replies.{IsRefuting}
use Rattle.location_facts.specs.Rows.{combined}

-- either these multipliers within the limit show that rows have no point, and the linear program for them is solved; or
-- there are none, and it isn't solved
abbrev pub DecidesEmpty : ℕ → ℕ → List Form → Option (Vec ℕ Global) → Type 0
DecidesEmpty pivots unknowns rows None = ¬ IsSolvedWithin pivots (goal_program unknowns rows minus_one)
DecidesEmpty pivots unknowns rows (Some multipliers) =
    IsSolvedWithin pivots (goal_program unknowns rows minus_one) × AreWithinLimit multipliers.items
    × Implies rows multipliers.items minus_one

-- a goal is implied by rows: one of two linear programs is solved, the one that asks whether the rows have no point or
-- the one of the goal
abbrev pub IsGoalImplied : ℕ → ℕ → List Form → Form → Type 0
IsGoalImplied pivots unknowns rows goal =
    IsSolvedWithin pivots (goal_program unknowns rows minus_one)
    ⊎ IsSolvedWithin pivots (goal_program unknowns rows goal)

-- the goal is implied, and this proof within the limit shows it; or it isn't implied
abbrev pub DecidesGoal : ℕ → ℕ → List Form → Form → Option FactProof → Type 0
DecidesGoal pivots unknowns rows goal None = ¬ IsGoalImplied pivots unknowns rows goal
DecidesGoal pivots unknowns rows goal (Some proof) =
    IsGoalImplied pivots unknowns rows goal × IsWithinLimit proof × Shows rows goal proof

-- the proof of an answer, if it has one
abbrev pub proof_in : Answered → Option FactProof
proof_in (Shown proof) = Some proof
proof_in (Refuted z) = None
proof_in Missed = None

-- if an answer has a point or ray, it refutes the goal
abbrev pub RefutesGoal : ℕ → List Form → Form → Answered → Type 0
RefutesGoal unknowns rows goal (Shown proof) = ⊤
RefutesGoal unknowns rows goal (Refuted z) = IsRefuting unknowns rows goal z.parts.items z.den
RefutesGoal unknowns rows goal Missed = ⊤

-- a rule under a list of facts: its combined rows, which can be written, and whether they have no point
pub record IsUnder (pivots : ℕ) (r : RuleForms) (kept : List LocFact) (u : RuleUnderFacts) : Type 0 where
  pub rows : map form_of u.rows.items ≡ combined r kept
  pub writable : All (λ w. IsWritable r.unknowns (form_of w)) u.rows.items
  pub few : length u.rows.items ≤ 371
  pub empty : DecidesEmpty pivots r.unknowns (combined r kept) u.empty

-- every rule into its symbol implies a fact under a list, with a certificate for each within the limit; or one of them
-- doesn't imply it
abbrev pub DecidesProofs : Program → ℕ → List LocFact → LocFact → Option (Vec FactProof Global) → Type 0
DecidesProofs p pivots kept f None = ¬ IsImpliedByAll p pivots kept f
DecidesProofs p pivots kept f (Some proofs) =
    IsImpliedByAll p pivots kept f × (length proofs.items ≡ length (rules_into p f.symbol))
    × All IsWithinLimit proofs.items
    × ProofsShow p kept f proofs.items (length proofs.items)

-- candidate facts in ascending order without repetition: each has a greater number than the one before, and the first
-- at least k
abbrev pub Ascend : Program → ℕ → List LocFact → Type 0
Ascend p k [] = ⊤
Ascend p k (f ∷ kept) = IsCandidate p f × (k ≤ order_number f) × Ascend p (suc (order_number f)) kept

abbrev pub AreInOrder : Program → List LocFact → Type 0
AreInOrder p kept = Ascend p 0 kept

-- for each rule into a fact's symbol there is a proof that shows the fact under a list, within the limit
pub record HasProofs (p : Program) (kept : List LocFact) (f : LocFact) (ps : List FactProof) : Type 0 where
  pub one_each : length ps ≡ length (rules_into p f.symbol)
  pub numbers : All IsWithinLimit ps
  pub shown : ProofsShow p kept f ps (length ps)

-- each of the facts that are found has such proofs
pub record AreProofsUnder (p : Program) (kept found : List LocFact) (proofs : List (List FactProof)) : Type 0 where
  pub one_each : length proofs ≡ length found
  pub each : (i : ℕ) (f : LocFact) (ps : List FactProof) → IsFactAt found proofs i f ps → HasProofs p kept f ps

-- the first n rules into a symbol imply a fact under a list, with proofs that show it
pub record AreImplied (p : Program) (pivots : ℕ) (kept : List LocFact) (f : LocFact) (proofs : List FactProof) (n : ℕ)
    : Type 0 where
  pub numbers : All IsWithinLimit proofs
  pub shown : ProofsShow p kept f proofs n
  pub implied : (k t : ℕ) → k < n → slice_get (rules_into p f.symbol) k ≡ Some t
      → IsImplied pivots (forms_at p t) kept f

-- a fact with proofs is appended with them to the earlier ones; a fact without proofs isn't
abbrev pub IsPushed : LocFact → Option (Vec FactProof Global) → List LocFact → List LocFact
    → List (Vec FactProof Global) → List (Vec FactProof Global) → Type 0
IsPushed f None facts then_facts lists then_lists = (then_facts ≡ facts) × (then_lists ≡ lists)
IsPushed f (Some v) facts then_facts lists then_lists = (then_facts ≡ facts ++ f ∷ []) × (then_lists ≡ lists ++ v ∷ [])
