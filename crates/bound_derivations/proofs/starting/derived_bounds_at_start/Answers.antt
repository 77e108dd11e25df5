use Rattle.std.proofs.Common.{subst, ℕ, arith}
use Rattle.std.proofs.lemmas.List.{length-map}
use Rattle.its_model.specs.Views.{program_of, rule_of}
use Rattle.bound_derivations.specs.Starting.{AreStartTimes}
use Rattle.bound_derivations.proofs.StartIndex.{started}
use Rattle.bound_derivations.proofs.starting.derived_bounds_at_start.Goals as goal

pub returns-clause-derived : goal.returns-clause-derived
returns-clause-derived c =
    started (program_of c.args.p.now) _ c.new.result.items c.requires.valid
    (subst (λ (n : ℕ). AreStartTimes n c.in_ok-times.times.items)
    (let long = length-map c.args.p.now.rules.items rule_of in
    omega (arith, long, c.len.ensures, c.args.p.now.rules.ok.0))
    c.in_ok-times.ensures) c.in_ok-sizes.ensures c.new.ensures.items
