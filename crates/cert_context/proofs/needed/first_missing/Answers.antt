use Rattle.std.proofs.Common.{arith}
use Rattle.cert_types.specs.Views.{result_variable_of}
use Rattle.cert_context.specs.Needed.{HasSize}
use Rattle.cert_context.proofs.NeededBounds.{has-more, has-all, lacks-first}
use Rattle.cert_context.proofs.needed.first_missing.Goals as goal

pub returns-then-not-fits : goal.returns-then-not-fits
returns-then-not-fits g c =
    lacks-first result_variable_of (HasSize (g.K.Known.table c.args.known.now)) c.args.result_variables.now c.loop-result_variable.result_variable-index _
    c.loop-result_variable-test.true c.loop-result_variable.invariant (λ h. let f = c.has_size-fits.ensures.1 h in let no : ⊥ = cc in no)

pub loop-result_variable-preserved : goal.loop-result_variable-preserved
loop-result_variable-preserved g c =
    has-more result_variable_of (HasSize (g.K.Known.table c.args.known.now)) c.args.result_variables.now c.loop-result_variable.result_variable-index _
    c.loop-result_variable-test.true c.loop-result_variable.invariant (c.has_size-fits.ensures.0 c.if-not-fits.false)

pub returns : goal.returns
returns g c =
    has-all result_variable_of (HasSize (g.K.Known.table c.args.known.now)) c.args.result_variables.now c.loop-result_variable.result_variable-index
    (omega (arith, c.loop-result_variable-test.false)) c.loop-result_variable.invariant
