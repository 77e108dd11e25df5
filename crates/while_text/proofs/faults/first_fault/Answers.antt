use Rattle.std.proofs.Common.{ap, sym, ◌∙◌, Option, Some}
use Rattle.text_grammar.specs.declared.token.Fault.{Fault}
use Rattle.text_grammar.specs.Following.{first_of_two}
use Rattle.text_grammar.specs.Marks.{fault_of}
use Rattle.while_text.specs.declared.kind.Kind.{Kind}
use Rattle.while_text.specs.Reading.{while_text}
use Rattle.while_text.proofs.faults.first_fault.Goals as goal

pub returns-in-Some-Some : goal.returns-in-Some-Some
returns-in-Some-Some c = λ text.
    ap Some (c.first_of.ensures text)
    ∙ sym (
    ap (λ (b : Option (Fault Kind)). first_of_two (while_text text) (fault_of b) (fault_of c.args.other)) c.in-Some-Some.is-0
    ∙ ap (λ (o : Option (Fault Kind)). first_of_two (while_text text) (fault_of (Some c.in-Some-Some.best)) (fault_of o))
    c.in-Some-Some.is-1)
