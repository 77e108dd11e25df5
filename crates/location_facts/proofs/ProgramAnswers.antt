-- What the answers of linear programs show of implied facts.
use Rattle.std.proofs.Common.{◌⊎◌, inl, inr, ℕ, List}
use Rattle.std.specs.Prelude.{pos, ◌↔◌}
use Rattle.poly_terms.specs.linear_forms.Certificates.{minus_one}
use Rattle.poly_terms.specs.linear_forms.Causes.{cause_of}
use Rattle.poly_terms.specs.linear_forms.Forms.{at}
use Rattle.poly_terms.specs.linear_forms.LinearProgram.{LinearProgram}
use Rattle.poly_terms.specs.linear_forms.RuleQuestions.{RuleForms}
use Rattle.lp_builder.specs.simplex_core.declared.answers.Answer.{Answer}
use Rattle.lp_builder.specs.simplex_core.declared.answers.Answer.TheVariants.{Solution, Dual, OutOfLimits}
use Rattle.lp_builder.specs.simplex_core.HitsLimit.{IsWholeAnswer}
use Rattle.lp_builder.proofs.simplex_core.Certificates.{dual-excludes}
use Rattle.rule_questions.proofs.HitsLimit.{solution-hits_no_limit}
use Rattle.location_facts.specs.declared.fact.LocFact.{LocFact}
use Rattle.location_facts.specs.Kept.{goal_program, IsSolvedWithin, IsImplied}
use Rattle.location_facts.specs.Laws.{SaysSolution, AnswersDecideImplied}
use Rattle.location_facts.specs.Rows.{row_after, combined}

-- a linear program is solved exactly if its answer is a solution
pub solved-by : (q : LinearProgram) (pivots : ℕ) (a : Answer) → IsWholeAnswer q pivots a
    → SaysSolution a ↔ IsSolvedWithin pivots q
solved-by q pivots (Solution s) h = (
  λ _. record {
    solution = record { x = at s.numbers.items; d = pos s.den; solution = h.solution };
    hits_no_limit = solution-hits_no_limit q pivots s h;
  },
  λ _. tt,
)
solved-by q pivots (Dual s) h = (λ no. absurd no, λ k. dual-excludes q (at s.numbers.items) h.certified k.solution)
solved-by q pivots (OutOfLimits c) h = (λ no. absurd no, λ k. k.hits_no_limit.each (cause_of c) h)

-- a rule implies a fact exactly if the answer to one of its two linear programs is a solution
implied-by : (pivots : ℕ) (r : RuleForms) (kept : List LocFact) (f : LocFact) (a b : Answer)
    → IsWholeAnswer (goal_program r.unknowns (combined r kept) minus_one) pivots a
    → IsWholeAnswer (goal_program r.unknowns (combined r kept) (row_after r.new_values f)) pivots b
    → (SaysSolution a ⊎ SaysSolution b) ↔ IsImplied pivots r kept f
implied-by pivots r kept f a b g h = (there, back)
  where
    first : SaysSolution a ↔ IsSolvedWithin pivots (goal_program r.unknowns (combined r kept) minus_one)
    first = solved-by (goal_program r.unknowns (combined r kept) minus_one) pivots a g

    second : SaysSolution b ↔ IsSolvedWithin pivots
        (goal_program r.unknowns (combined r kept) (row_after r.new_values f))
    second = solved-by (goal_program r.unknowns (combined r kept) (row_after r.new_values f)) pivots b h

    there : SaysSolution a ⊎ SaysSolution b → IsImplied pivots r kept f
    there (inl s) = inl (first.0 s)
    there (inr s) = inr (second.0 s)

    back : IsImplied pivots r kept f → SaysSolution a ⊎ SaysSolution b
    back (inl s) = inl (first.1 s)
    back (inr s) = inr (second.1 s)

-- the answers to the two linear programs of a rule and a fact decide whether the rule implies the fact
pub answers-tell-implied : AnswersDecideImplied
answers-tell-implied = record { solved = solved-by; implied = implied-by }
