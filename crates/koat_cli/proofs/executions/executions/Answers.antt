use Rattle.std.proofs.Common.{List, ℕ, ◌++◌, ◌∙◌, ap}
use Rattle.its_model.specs.Views.{program_of}
use Rattle.while_answer.specs.Texts.{point_lines}
use Rattle.while_answer.specs.while_text.Views.{source_of}
use Rattle.koat_cli.proofs.WhileAnswers.{executions_answered}
use Rattle.koat_cli.proofs.executions.executions.Goals as goal

pub returns : goal.returns
returns c =
    let source = source_of c.args.source.now in
    let lines = c.in_ok-found.found.text.items in
    executions_answered source c.args.pivots c.requires lines c.extend_from_slice.new.self.items
    ((c.in_ok-extend_from_slice.ensures {u = tt}).items
    ∙ (ap (λ (t : List ℕ). c.in_ok-text.text.items ++ t) c.deref-2.ensures.value
    ∙ ap (λ (t : List ℕ). t ++ lines)
    (c.in_ok-text.ensures {u = tt} ∙ ap (λ (at : List ℕ). point_lines 0 at) c.deref.ensures.value)))
    (program_of c.in_ok-program.program) c.in_ok-found.found.status c.in_ok-program.ensures.program
    c.in_ok-found.ensures
