-- The problem of a text that is read is the one that it spells, within the limits.
use Rattle.lp_text.specs.Views.{lp_of}
use Rattle.lp_text.proofs.LpReading.{given-answers, given-complete, given-proper, given-narrow}
use Rattle.lp_text.proofs.reading.read_lp.Goals as goal

pub problem_of-requires : goal.problem_of-requires
problem_of-requires c = c.in-Ok.ensures.answer.within

pub returns-in-Ok-clause-answer : goal.returns-in-Ok-clause-answer
returns-in-Ok-clause-answer c =
    given-answers c.args.bytes.now (lp_of c.in-Ok.written) c.in-Ok.ensures.answer c.problem_of.result c.problem_of.ensures

pub returns-in-Ok-clause-complete : goal.returns-in-Ok-clause-complete
returns-in-Ok-clause-complete c = λ p k.
    given-complete c.args.bytes.now (lp_of c.in-Ok.written) c.in-Ok.ensures.answer c.problem_of.result c.problem_of.ensures p k

pub returns-in-Ok-clause-proper : goal.returns-in-Ok-clause-proper
returns-in-Ok-clause-proper c =
    given-proper c.args.bytes.now (lp_of c.in-Ok.written) c.in-Ok.ensures.answer c.problem_of.result c.problem_of.ensures

pub returns-in-Ok-clause-narrow : goal.returns-in-Ok-clause-narrow
returns-in-Ok-clause-narrow c =
    given-narrow c.args.bytes.now (lp_of c.in-Ok.written) c.in-Ok.ensures.answer c.problem_of.result c.problem_of.ensures
