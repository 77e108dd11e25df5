-- The proofs of a fact by the rules into its symbol, one rule after the other.
use Rattle.std.proofs.Common.{◌≡◌, ℕ, ◌+◌, ◌<◌, ap, arith, sym, ◌∙◌, subst, List, [], ◌∷◌, ◌++◌, length}
use Rattle.std.proofs.Common.{length-append, get_or, Some, None}
use Rattle.std.specs.Prelude.{Vec}
use Rattle.std.specs.declared.alloc.Global.{Global}
use Rattle.poly_terms.specs.model.Programs as plain
use Rattle.rule_questions.specs.ProgramQuestions.{forms_at}
use Rattle.location_facts.specs.declared.fact.LocFact.{LocFact}
use Rattle.location_facts.specs.declared.fact.FactProof.{FactProof}
use Rattle.location_facts.specs.Faults.{rules_into, ProofsShow}
use Rattle.location_facts.specs.Implied.{DecidesGoal, DecidesProofs, AreImplied}
use Rattle.location_facts.specs.Kept.{IsImpliedByAll}
use Rattle.location_facts.specs.Rows.{row_after, combined}
use Rattle.location_facts.proofs.RoundSteps.{implied-more, implied-all, missed}
use Rattle.location_facts.proofs.ShownRules.{read}

-- after one more proof
pub proofs-longer : (old new : List FactProof) (proof : FactProof) (n : ℕ) → length old ≡ n → new ≡ old ++ proof ∷ []
    → length new ≡ n + 1
proofs-longer old new proof n many made =
    let a = ap (λ (ps : List FactProof). length ps) made in let b = length-append old (proof ∷ []) in
    omega (arith, many, a, b)

module _ (p : plain.Program) (pivots : ℕ) (kept : List LocFact) (f : LocFact) where
  -- if a rule that is read doesn't imply the fact, not every rule does
  pub missed-read : (k t : ℕ) (into : List ℕ) → into ≡ rules_into p f.symbol → k < length into → t ≡ get_or into k t
      → DecidesGoal pivots (forms_at p t).unknowns (combined (forms_at p t) kept)
      (row_after (forms_at p t).new_values f) None
      → ¬ IsImpliedByAll p pivots kept f
  missed-read k t into e l g not =
      missed p pivots kept f k t (subst (λ (ts : List ℕ). k < length ts) e l)
      (subst (λ (ts : List ℕ). t ≡ get_or ts k t) e g) not

  -- after a rule that is read and implies the fact, as a proof shows
  pub implied-read : (proofs : List FactProof) (k t : ℕ) (proof : FactProof) (into : List ℕ)
      → into ≡ rules_into p f.symbol → k < length into → t ≡ get_or into k t → AreImplied p pivots kept f proofs k
      → length proofs ≡ k
      → DecidesGoal pivots (forms_at p t).unknowns (combined (forms_at p t) kept)
      (row_after (forms_at p t).new_values f)
      (Some proof) → AreImplied p pivots kept f (proofs ++ proof ∷ []) (k + 1)
  implied-read proofs k t proof into e l g h many verdict =
      implied-more p pivots kept f proofs k t proof h many
      (read (rules_into p f.symbol) k t (subst (λ (ts : List ℕ). k < length ts) e l)
      (subst (λ (ts : List ℕ). t ≡ get_or ts k t) e g)) verdict.1 verdict.2 verdict.0

  -- after all rules, every rule implies the fact
  pub proofs-all : (proofs : Vec FactProof Global) (k : ℕ) → k ≡ length (rules_into p f.symbol)
      → length proofs.items ≡ k → AreImplied p pivots kept f proofs.items k
      → DecidesProofs p pivots kept f (Some proofs)
  proofs-all proofs k all many h = (
    implied-all p pivots kept f proofs.items (subst (AreImplied p pivots kept f proofs.items) all h),
    many ∙ all,
    h.numbers,
    subst (ProofsShow p kept f proofs.items) (sym many) h.shown,
  )
