use Rattle.std.proofs.Common.{sym, ap, ◌∙◌, [], ◌∷◌}
use Rattle.text_core.specs.Readers.{Fault}
use Rattle.its_text.specs.Kinds.{Kind}
use Rattle.its_text.specs.StateFaults.{expansion_faults}
use Rattle.expr_reader.specs.Faults.{fault_of}
use Rattle.its_reader.proofs.expression.kind_of.Goals as goal

pub returns-in-Some : goal.returns-in-Some
returns-in-Some c = λ at. ap (λ k. let x : Fault Kind = record { kind = k; at = at } in x ∷ []) c.of.ensures
    ∙ ap (λ o. expansion_faults at (fault_of o)) (sym c.in-Some.is)

pub returns-in-None : goal.returns-in-None
returns-in-None c = λ at. ap (λ o. expansion_faults at (fault_of o)) (sym c.in-None.is)
