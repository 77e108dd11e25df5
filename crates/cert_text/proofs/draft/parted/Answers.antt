use Rattle.std.proofs.Common.{ap, sym, ◌∙◌, arith}
use Rattle.std.proofs.lemmas.Int.{ints}
use Rattle.cert_text.specs.Remembered.{before_last, last_of}
use Rattle.cert_text.proofs.KeptLaws.{before_behind, last_behind}
use Rattle.cert_text.proofs.draft.parted.Goals as goal

pub returns-in-Some-clause-before : goal.returns-in-Some-clause-before
returns-in-Some-clause-before c =
    sym (ap before_last c.in-Some.ensures.items ∙ before_behind c.pop.new.self.items c.in-Some.last)

pub returns-in-Some-clause-last : goal.returns-in-Some-clause-last
returns-in-Some-clause-last c =
    let e = ap last_of c.in-Some.ensures.items ∙ last_behind c.pop.new.self.items c.in-Some.last in
    omega (arith, ints, e)
