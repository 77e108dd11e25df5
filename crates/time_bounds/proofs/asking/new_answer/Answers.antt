use Rattle.its_model.specs.Views.{program_of}
use Rattle.time_bounds.proofs.AnswerLaws.{answered_of}
use Rattle.time_bounds.proofs.asking.new_answer.Goals as goal

pub returns-clause-answered : goal.returns-clause-answered
returns-clause-answered c =
    answered_of (program_of c.args.cx.now.program.now) c.args.cx.now.pivots c.args.rule _ c.args.cx.now.empties.items _ _ _ c.requires.ready.valid c.requires.rules
    c.deref-2.ensures.value c.deref-3.ensures.value c.deref-4.ensures.value c.in_ok-answer.ensures
