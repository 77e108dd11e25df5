-- A linear program that has an answer in integers hits no limit.
use Rattle.std.proofs.Common.{ℕ, sym, subst}
use Rattle.poly_terms.proofs.linear_forms.CauseLaws.{named, named-is}
use Rattle.poly_terms.specs.linear_forms.LinearProgram.{LinearProgram}
use Rattle.lp_builder.specs.simplex_core.declared.answers.Answer.TheVariants.{Solution, Dual, OutOfLimits}
use Rattle.lp_builder.specs.simplex_core.declared.scaling.Numerators.{Numerators}
use Rattle.lp_builder.specs.simplex_core.HitsLimit.{HitsLimit, IsWholeAnswer}
use Rattle.lp_builder.proofs.simplex_core.OneWholeAnswer.{whole-same}
use Rattle.rule_questions.specs.Programs.{NothingHitsLimit}

-- a linear program that is answered by a solution hits no limit
pub solution-hits_no_limit : (p : LinearProgram) (pivots : ℕ) (s : Numerators) → IsWholeAnswer p pivots (Solution s)
    → NothingHitsLimit p pivots
solution-hits_no_limit p pivots s h = record {
  each = λ c t. whole-same p pivots (Solution s) (OutOfLimits (named c)) h (subst (HitsLimit p pivots) (sym (named-is c)) t);
}

-- a linear program that is answered by a dual hits no limit
pub dual-hits_no_limit : (p : LinearProgram) (pivots : ℕ) (s : Numerators) → IsWholeAnswer p pivots (Dual s)
    → NothingHitsLimit p pivots
dual-hits_no_limit p pivots s h = record {
  each = λ c t. whole-same p pivots (Dual s) (OutOfLimits (named c)) h (subst (HitsLimit p pivots) (sym (named-is c)) t);
}
