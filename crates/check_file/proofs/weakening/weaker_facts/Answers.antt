use Rattle.std.proofs.Common.{inl, inr, refl}
use Rattle.bound_expr.specs.Views.{bound_of}
use Rattle.bound_expr.proofs.Nodes.{HasTidyNumbers-based}
use Rattle.its_model.specs.Views.{program_of}
use Rattle.cert_types.specs.Views.{fact_of, facts_of}
use Rattle.cert_types.specs.cert_program.Setting.{setting_of}
use Rattle.check_file.proofs.SingleFacts.{no-weaker, not-weaker, shape-written}
use Rattle.check_file.proofs.weakening.weaker_facts.Goals as goal

pub returns-in_default : goal.returns-in_default
returns-in_default c =
    let p = program_of c.args.p.now in
    let shape = shape-written p c.arity_at.result (bound_of c.args.bound.now) c.arity_at.ensures (c.is_writable.ensures.0 c.if-not-is_writable.false) in
    inr (shape, inl (no-weaker (setting_of p) (facts_of c.args.facts.now) (bound_of c.args.bound.now) c.in_default.ensures, refl))

pub below-requires-clause-b_based : goal.below-requires-clause-b_based
below-requires-clause-b_based c =
    HasTidyNumbers-based (bound_of c.args.bound.now) (c.is_writable.ensures.0 c.if-not-is_writable.false).numbers

pub returns-then-not-below : goal.returns-then-not-below
returns-then-not-below c =
    let p = program_of c.args.p.now in
    let shape = shape-written p c.arity_at.result (bound_of c.args.bound.now) c.arity_at.ensures (c.is_writable.ensures.0 c.if-not-is_writable.false) in
    inr (
      shape,
      inl (
        not-weaker (setting_of p) (facts_of c.args.facts.now) (fact_of c.in-Some.fact.now)
            (bound_of c.bound_at.result.now) (bound_of c.args.bound.now) c.below.result c.in-Some.ensures c.bound_at.ensures
            c.below.ensures.exact c.if-not-below.true,
        refl,
      ),
    )
