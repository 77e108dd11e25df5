-- Laws of which facts are candidates, which are kept, what proved facts imply, and what strengthening changes.
use Rattle.std.specs.Prelude.{◌≡◌, ◌↔◌, ◌⊎◌, ℕ, ◌+◌, ◌<◌, List, ℤ, Some, slice_get}
use Rattle.std.specs.List.{All, Contains}
use Rattle.poly_terms.specs.linear_forms.Certificates.{minus_one}
use Rattle.poly_terms.specs.linear_forms.LinearProgram.{LinearProgram}
use Rattle.poly_terms.specs.linear_forms.RuleQuestions.{RuleForms}
use Rattle.lp_builder.specs.simplex_core.declared.answers.Answer.{Answer}
use Rattle.lp_builder.specs.simplex_core.declared.answers.Answer.TheVariants.{Solution, Dual, OutOfLimits}
use Rattle.lp_builder.specs.simplex_core.HitsLimit.{IsWholeAnswer}
use Rattle.poly_terms.specs.model.Bounds.{Bound}
use Rattle.poly_terms.specs.model.Facts.{Fact, Holds, HoldsTotal, HoldsLength}
use Rattle.poly_terms.specs.model.Programs.{Program}
use Rattle.poly_terms.specs.model.Runs.{Config, Step, IsRun}
use Rattle.its_model.specs.Valid.{IsValid}
use Rattle.location_facts.specs.declared.fact.LocFact.{LocFact}
use Rattle.location_facts.specs.declared.fact.FactProof.{FactProof}
use Rattle.location_facts.specs.declared.fact.FactFault.{FactFault}
use Rattle.location_facts.specs.Candidates.{IsCandidate, order_number, candidates}
use Rattle.location_facts.specs.Certificates.{AreInductive}
use Rattle.location_facts.specs.Facts.{HoldsAlways}
use Rattle.location_facts.specs.Faults.{AreProved, IsFirstFault}
use Rattle.location_facts.specs.Kept.{IsNext, AreKept, EndsWith, goal_program, IsSolvedWithin, IsImplied}
use Rattle.location_facts.specs.Rows.{combined, row_after}
use Rattle.location_facts.specs.Strengthening.{strengthened}

-- the list of candidate facts contains each of them and no others, in order: each has a greater number than the one
-- before it
pub record CandidatesAreListed : Type 0 where
  pub listed : (p : Program) (f : LocFact) → Contains (candidates p) f ↔ IsCandidate p f
  pub ordered : (p : Program) (i : ℕ) (f g : LocFact) → slice_get (candidates p) i ≡ Some f
      → slice_get (candidates p) (i + 1) ≡ Some g → order_number f < order_number g

-- candidate facts that hold on every run of a program
pub record AreHeld (p : Program) (kept : List LocFact) : Type 0 where
  pub candidates : All (IsCandidate p) kept
  pub hold : All (HoldsAlways p) kept

-- facts that hold by induction along runs hold on every run of a valid program; facts with faultless proofs hold by
-- induction, whatever their origin, so they hold on every run, and they are candidates
pub record ProvedFactsHold : Type 0 where
  pub inductive : (p : Program) (facts : List LocFact) → IsValid p → AreInductive p facts → All (HoldsAlways p) facts
  pub by_induction : (p : Program) (kept : List LocFact) (proofs : List (List FactProof)) → AreProved p kept proofs
      → AreInductive p kept
  pub proved : (p : Program) (kept : List LocFact) (proofs : List (List FactProof)) → IsValid p
      → AreProved p kept proofs → AreHeld p kept

-- facts and their proofs have at most one first fault, and if they have one they aren't faultless
pub record FaultsAreDecided : Type 0 where
  pub excluded : (p : Program) (kept : List LocFact) (proofs : List (List FactProof)) (x : FactFault)
      → IsFirstFault p kept proofs x → ¬ (AreProved p kept proofs)
  pub one : (p : Program) (kept : List LocFact) (proofs : List (List FactProof)) (x y : FactFault)
      → IsFirstFault p kept proofs x → IsFirstFault p kept proofs y → x ≡ y

-- strengthened by candidate facts, a valid program is valid; if these hold on every run, it has the same runs, and each
-- bound of it holds for the program itself
pub record StrengtheningChangesNoRun : Type 0 where
  pub valid : (p : Program) (kept : List LocFact) → IsValid p → All (IsCandidate p) kept → IsValid (strengthened kept p)
  pub runs : (p : Program) (kept : List LocFact) → IsValid p → AreHeld p kept → (start : List ℤ) (steps : List Step)
      (c : Config) → IsRun p start steps c ↔ IsRun (strengthened kept p) start steps c
  pub bounds : (p : Program) (kept : List LocFact) → IsValid p → AreHeld p kept → (fact : Fact)
      → Holds (strengthened kept p) fact → Holds p fact
  pub totals : (p : Program) (kept : List LocFact) → IsValid p → AreHeld p kept → (bound : Bound)
      → HoldsTotal (strengthened kept p) bound → HoldsTotal p bound
  pub lengths : (p : Program) (kept : List LocFact) → IsValid p → AreHeld p kept → (bound : Bound)
      → HoldsLength (strengthened kept p) bound → HoldsLength p bound

-- a list has at most one next list, and the sequence from a list at most one last list; so at most one list of facts is
-- kept
pub record KeptFactsAreOne : Type 0 where
  pub next : (p : Program) (pivots : ℕ) (old new other : List LocFact) → IsNext p pivots old new
      → IsNext p pivots old other → new ≡ other
  pub ends : (p : Program) (pivots : ℕ) (from end other : List LocFact) → EndsWith p pivots end from
      → EndsWith p pivots other from → end ≡ other
  pub kept : (p : Program) (pivots : ℕ) (end other : List LocFact) → AreKept p pivots end → AreKept p pivots other
      → end ≡ other

-- the answer to a linear program is a solution
abbrev pub SaysSolution : Answer → Type 0
SaysSolution (Solution s) = Unit {0}
SaysSolution (Dual s) = ⊥
SaysSolution (OutOfLimits c) = ⊥

-- a linear program is solved within a number of pivots exactly if its answer is a solution, as a dual shows that it has
-- none. So the answers to the two linear programs of a rule and a fact decide whether the rule implies the fact
pub record AnswersDecideImplied : Type 0 where
  pub solved : (q : LinearProgram) (pivots : ℕ) (a : Answer) → IsWholeAnswer q pivots a
      → SaysSolution a ↔ IsSolvedWithin pivots q
  pub implied : (pivots : ℕ) (r : RuleForms) (kept : List LocFact) (f : LocFact) (a b : Answer)
      → IsWholeAnswer (goal_program r.unknowns (combined r kept) minus_one) pivots a
      → IsWholeAnswer (goal_program r.unknowns (combined r kept) (row_after r.new_values f)) pivots b
      → (SaysSolution a ⊎ SaysSolution b) ↔ IsImplied pivots r kept f
