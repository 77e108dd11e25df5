use Rattle.simplex_core.proofs.Agreement.{answers-agree, hits_limit-agree, whole-answers-agree}
use Rattle.simplex_core.proofs.laws.agreeing_programs_answer_the_same.Goals as goal

pub returns : goal.returns
returns c = record { each = answers-agree; hits_limit = hits_limit-agree; whole = whole-answers-agree }
