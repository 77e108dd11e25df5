use Rattle.call_plans.proofs.Worked.{worked, meanings, endings}
use Rattle.call_plans.proofs.WorkedPairs.{worked_pairs, pair_meanings, pair_endings}
use Rattle.call_plans.proofs.law.worked_plans_hold.Goals as goal

pub returns-clause-answers : goal.returns-clause-answers
returns-clause-answers c = worked

pub returns-clause-meanings : goal.returns-clause-meanings
returns-clause-meanings c = meanings

pub returns-clause-ends : goal.returns-clause-ends
returns-clause-ends c = endings

pub returns-clause-two_answers : goal.returns-clause-two_answers
returns-clause-two_answers c = worked_pairs

pub returns-clause-two_meanings : goal.returns-clause-two_meanings
returns-clause-two_meanings c = pair_meanings

pub returns-clause-two_ends : goal.returns-clause-two_ends
returns-clause-two_ends c = pair_endings
