-- An answer to the problem is one to the linear program that the text spells.
use Rattle.std.proofs.lemmas.Result.{IfOk-weaker}
use Rattle.simplex_core.specs.Problem.{program_of}
use Rattle.lp_text.specs.Problems.{program_in}
use Rattle.lp_text.specs.Views.{lp_of}
use Rattle.lp_text.proofs.LpProblems.{problem-proper, problem-agrees, problem-narrow}
use Rattle.lp_answer.specs.Answers.{IsAnswerTo}
use Rattle.lp_answer.proofs.AnswersAgree.{lp_answers-agree}
use Rattle.lp_answer.proofs.answering.answer_lp.Goals as goal

pub answer_problem-requires-clause-proper : goal.answer_problem-requires-clause-proper
answer_problem-requires-clause-proper c =
    problem-proper (lp_of c.args.written.now) c.in_ok-problem.problem c.requires c.in_ok-problem.ensures

pub answer_problem-requires-clause-narrow : goal.answer_problem-requires-clause-narrow
answer_problem-requires-clause-narrow c =
    problem-narrow (lp_of c.args.written.now) c.in_ok-problem.problem c.requires c.in_ok-problem.ensures

pub returns : goal.returns
returns c =
    let p = lp_of c.args.written.now in
    let q = c.in_ok-problem.problem in
    IfOk-weaker c.answer_problem.result (IsAnswerTo (program_of q)) (IsAnswerTo (program_in p))
    (lp_answers-agree (program_of q) (program_in p) (problem-agrees p q c.requires c.in_ok-problem.ensures))
    c.answer_problem.ensures
