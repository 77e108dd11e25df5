use Rattle.std.proofs.Common.{◌≤◌, ◌∙◌, length, ap, sym, arith}
use Rattle.std.proofs.lemmas.Bool.Decides.{nat_tests}
use Rattle.std.proofs.lemmas.Bool.{ltb-true}
use Rattle.cert_types.specs.Views.{facts_of}
use Rattle.cert_context.proofs.KeptFacts.{facts-found, facts-past}
use Rattle.cert_context.proofs.stated_facts.facts_at.Goals as goal

pub returns-in-Some : goal.returns-in-Some
returns-in-Some c =
    let found = c.in-Some.ensures.lookup in
    ap facts_of c.deref-in-Some.ensures.value
    ∙ facts-found c.deref.result.now c.args.kept.now.stated.items c.args.position c.in-Some.facts.now c.deref.ensures.value
    (ltb-true c.args.position (length c.deref.result.now) (sym found.0)) found.1

pub returns-in-None : goal.returns-in-None
returns-in-None c =
    let none = c.in-None.ensures.lookup.0 in
    let past : length c.deref.result.now ≤ c.args.position = grind (arith, nat_tests) in
    facts-past c.deref.result.now c.args.kept.now.stated.items c.args.position c.deref.ensures.value past
