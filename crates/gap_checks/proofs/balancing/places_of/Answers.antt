use Rattle.std.proofs.Common.{arith}
use Rattle.its_model.specs.Views.{program_of}
use Rattle.guard_prep.proofs.StepLaws.{few-places}
use Rattle.gap_checks.proofs.balancing.places_of.Goals as goal

pub returns : goal.returns
returns c =
    let p = program_of c.args.p.now in
    let few = few-places p.symbols c.args.symbol c.requires.symbols in
    (c.arity_at.ensures, omega (arith, c.arity_at.ensures, few))
