use Rattle.std.proofs.Common.{[], ◌∷◌, ap}
use Rattle.cert_types.specs.Views.{fact_of}
use Rattle.cert_types.specs.declared.fact.Fact.{Fact}
use Rattle.cert_types.specs.cert_rules.Known.{has_zero_time}
use Rattle.check_file.proofs.ZeroRules.{adds-none}
use Rattle.check_file.proofs.unreached.push_zero.Goals as goal

pub returns-in-Size : goal.returns-in-Size
returns-in-Size c =
    adds-none _ (fact_of c.args.fact.now) (λ t. ap (λ (f : Fact). has_zero_time (fact_of f ∷ []) t) c.in-Size.is)

pub returns-in-Cost : goal.returns-in-Cost
returns-in-Cost c =
    adds-none _ (fact_of c.args.fact.now) (λ t. ap (λ (f : Fact). has_zero_time (fact_of f ∷ []) t) c.in-Cost.is)
