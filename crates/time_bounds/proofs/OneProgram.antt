-- The searches of each program have one answer to each question.
use Rattle.rank_search.proofs.rule_questions.OneEmptyAnswer.{empties-one}
use Rattle.rank_search.proofs.Uniqueness.{ranks-one}
use Rattle.local_size.proofs.OneLocal.{locals-one}
use Rattle.time_bounds.specs.SearchLaws.{ProgramSearchesAreOne}
use Rattle.time_bounds.proofs.OneSizes.{searches_one}

pub program_searches_one : ProgramSearchesAreOne
program_searches_one = record { each = λ p pivots. searches_one p pivots empties-one locals-one ranks-one }
