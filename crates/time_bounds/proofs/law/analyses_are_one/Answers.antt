use Rattle.time_bounds.proofs.OneAnalysis.{analysis_one}
use Rattle.time_bounds.proofs.OneOutcome.{outcome_one}
use Rattle.time_bounds.proofs.OneProgram.{program_searches_one}
use Rattle.time_bounds.proofs.law.analyses_are_one.Goals as goal

pub returns : goal.returns
returns c = record {
  each = λ p pivots x y h k. analysis_one p pivots (program_searches_one.each p pivots) x y h k;
  outcomes = λ p pivots x y h l k m. outcome_one p pivots (program_searches_one.each p pivots) x y h l k m;
}
