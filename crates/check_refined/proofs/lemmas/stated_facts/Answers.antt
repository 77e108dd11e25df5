use Rattle.std.proofs.Common.{List, map, ap, ◌∙◌}
use Rattle.std.proofs.lemmas.Result.{err_from_is_err_and}
use Rattle.its_model.specs.Views.{program_of}
use Rattle.cert_types.specs.AnswerViews.{file_of}
use Rattle.cert_types.specs.Views.{facts_of}
use Rattle.cert_types.specs.declared.fact.Fact.{Fact}
use Rattle.potential_nodes.specs.PlainFacts.{signed_fact}
use Rattle.potential_types.specs.Views.{fact_view, lemma_of}
use Rattle.check_refined.proofs.PartAnswers.{plain-refused, plain-stated, signed-refused, facts-stated}
use Rattle.check_refined.proofs.lemmas.stated_facts.Goals as goal

pub returns-in_err-stated : goal.returns-in_err-stated
returns-in_err-stated c =
    let q = err_from_is_err_and c.from_residual.result c.from_residual.ensures.1 in
    rw (q.1, q.2)
    (plain-refused (program_of c.args.p.now) (file_of c.args.plain.now) (map lemma_of c.args.signed.now) _
    c.in_err-stated.ensures.answered)

pub returns-in_err-found : goal.returns-in_err-found
returns-in_err-found c =
    let p = program_of c.args.p.now in
    let f = file_of c.args.plain.now in
    let facts = map fact_view c.in_ok-facts.facts.items in
    let signed = c.in_ok-facts.ensures
    ∙ ap (λ (xs : List Fact). map (signed_fact p) (facts_of xs)) c.deref.ensures.value in
    let q = err_from_is_err_and c.from_residual-in_err-found.result c.from_residual-in_err-found.ensures.1 in
    rw (q.1, q.2)
    (signed-refused p f (map lemma_of c.args.signed.now) facts c.in_ok-stated.ensures.answered.accepted
    (plain-stated p f (facts_of c.in_ok-stated.stated.items) facts c.in_ok-stated.ensures.answered signed) _
    c.in_err-found.ensures.judged)

pub returns : goal.returns
returns c =
    let p = program_of c.args.p.now in
    let f = file_of c.args.plain.now in
    let facts = map fact_view c.in_ok-facts.facts.items in
    let signed = c.in_ok-facts.ensures
    ∙ ap (λ (xs : List Fact). map (signed_fact p) (facts_of xs)) c.deref.ensures.value in
    facts-stated p f (map lemma_of c.args.signed.now) facts c.in_ok-stated.ensures.answered.accepted
    (plain-stated p f (facts_of c.in_ok-stated.stated.items) facts c.in_ok-stated.ensures.answered signed)
    (map fact_view c.in_ok-found.found.items) c.in_ok-found.ensures.judged
