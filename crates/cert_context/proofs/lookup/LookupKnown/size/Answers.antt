use Rattle.std.proofs.Common.{◌∙◌, List, Some, ap}
use denote.Ref.{Bor}
use Rattle.cert_types.specs.declared.fact.Fact.{Fact}
use Rattle.cert_context.specs.Lookups.{bound_at, facts_at}
use Rattle.cert_context.proofs.Keys.{size-found}
use Rattle.cert_context.proofs.lookup.LookupKnown.size.Goals as goal

pub returns-in-Some : goal.returns-in-Some
returns-in-Some c =
    let l = c.args.self.now in
    c.bound_from.ensures
    ∙ (ap (λ (rs : List (Bor Fact)). bound_at (facts_at rs) (Some c.in-Some.position.now)) c.deref.ensures.value
    ∙ (ap (bound_at (facts_at l.facts.items)) (c.in-Some.ensures.value ∙ l.sizes_stated.each c.args.rule c.args.place)
    ∙ size-found (facts_at l.facts.items) c.args.rule c.args.place))

pub returns-in-None : goal.returns-in-None
returns-in-None c =
    let l = c.args.self.now in
    ap (bound_at (facts_at l.facts.items)) (c.in-None.ensures.value ∙ l.sizes_stated.each c.args.rule c.args.place)
    ∙ size-found (facts_at l.facts.items) c.args.rule c.args.place
