use Rattle.std.proofs.Common.{arith}
use Rattle.std.specs.Prelude.{pos}
use Rattle.std.proofs.lemmas.Int.{ints}
use Rattle.simplex_core.specs.linear_forms.Forms.{at}
use Rattle.simplex_core.specs.linear_forms.QuestionLaws.{parameters_of}
use Rattle.rule_questions.proofs.Lists.{listed-pushed}
use Rattle.local_size.specs.Asking.{kind_of, coefficient_of}
use Rattle.local_size.proofs.reading.coefs_from.Goals as goal

pub loop-unknown-preserved : goal.loop-unknown-preserved
loop-unknown-preserved c =
    let e = c.coefficient.ensures in
    let t = c.coefficient.type_inv in
    listed-pushed c.loop-unknown.unknown
    (coefficient_of (kind_of c.args.kind) (parameters_of (at c.args.numbers.now)) (pos c.args.den))
    c.loop-unknown.coefs.items c.push.new.self.items _ c.loop-unknown.invariant c.in_ok-push.ensures.items (omega
    (arith, ints, e, t))
