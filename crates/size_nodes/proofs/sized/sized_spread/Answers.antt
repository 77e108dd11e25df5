use Rattle.std.proofs.Common.{◌∙◌, ap, sym, map}
use Rattle.cert_types.specs.Views.{result_variable_of, member_of}
use Rattle.size_nodes.specs.Needs.{first_missing}
use Rattle.size_nodes.proofs.SpreadAnswers.{is-missing}
use Rattle.size_nodes.proofs.sized.sized_spread.Goals as goal

pub returns-in-Some : goal.returns-in-Some
returns-in-Some g c = λ p given.
    let tab = g.K.Known.table c.args.known.now in
    is-missing p tab (member_of c.args.m.now) given.shape given.up given.low (result_variable_of c.in-Some.result_variable)
    (ap (first_missing tab) (sym (c.in_ok-needed.ensures p given) ∙ ap (map result_variable_of) (sym c.deref.ensures.value))
    ∙ sym c.in-Some.ensures)
