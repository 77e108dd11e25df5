use Rattle.std.proofs.Common.{List, map, sym, ap, subst}
use Rattle.std.proofs.lemmas.Result.{err_from_is_err_and}
use Rattle.its_model.specs.Views.{program_of}
use Rattle.potential_types.specs.Views.{fact_view, lemma_of}
use Rattle.potential_types.specs.declared.facts.SignedFact as facts
use Rattle.potential_types.specs.declared.nodes.SignedLemma as lemmas
use Rattle.refined_types.specs.claim_types.Views.{claims_of}
use Rattle.refined_types.specs.claim_types.declared.claim.Claim as claims
use Rattle.program_claims.specs.Claims.{AllHoldOf}
use Rattle.claims_check.specs.Views.{stated_of}
use Rattle.refined_types.specs.Views.{file_view}
use Rattle.check_refined.specs.Refusals.{StatesFacts, RefusesLemmas}
use Rattle.check_refined.proofs.FileAnswers.{above-valid, above-seen, evidence-seen, lemmas-refuse, claims-refuse}
use Rattle.check_refined.proofs.FileAnswers.{file-accepted}
use Rattle.check_refined.proofs.files.check_over.Goals as goal

pub stated_facts-requires-clause-valid : goal.stated_facts-requires-clause-valid
stated_facts-requires-clause-valid c =
    above-valid (program_of c.args.p.now) (file_view c.args.file.now).section (program_of c.args.spelled_program.now)
    c.requires.valid c.requires.spelled

pub check_claims-requires : goal.check_claims-requires
check_claims-requires c =
    let p = program_of c.args.p.now in
    let f = file_view c.args.file.now in
    let above = program_of c.args.spelled_program.now in
    let stated = map fact_view c.in_ok-facts.facts.items in
    record {
      program = c.requires.valid;
      above = above-seen p f.section above stated _ c.requires.spelled
          (evidence-seen p c.as_ref.result c.args.file.now.section _ stated c.as_ref.ensures.value
          (ap (λ (xs : List facts.SignedFact). map fact_view xs) c.deref-2.ensures.value));
      valid = above-valid p f.section above c.requires.valid c.requires.spelled;
    }

pub returns-in_err-facts-clause-answered : goal.returns-in_err-facts-clause-answered
returns-in_err-facts-clause-answered c =
    let p = program_of c.args.p.now in
    let f = file_view c.args.file.now in
    let above = program_of c.args.spelled_program.now in
    let r = c.in_err-facts.field-0.0 in
    let refused = subst (λ (xs : List lemmas.SignedLemma). RefusesLemmas above f.plain (map lemma_of xs) r)
    c.deref.ensures.value c.in_err-facts.ensures in
    let q = err_from_is_err_and c.from_residual.result c.from_residual.ensures.1 in
    rw (q.1, q.2) (lemmas-refuse p f above r c.requires.spelled refused)

pub returns-in_err-stated-clause-answered : goal.returns-in_err-stated-clause-answered
returns-in_err-stated-clause-answered c =
    let p = program_of c.args.p.now in
    let f = file_view c.args.file.now in
    let above = program_of c.args.spelled_program.now in
    let stated = map fact_view c.in_ok-facts.facts.items in
    let states = subst (λ (xs : List lemmas.SignedLemma). StatesFacts above f.plain (map lemma_of xs) stated)
    c.deref.ensures.value c.in_ok-facts.ensures in
    let same = evidence-seen p c.as_ref.result c.args.file.now.section _ stated c.as_ref.ensures.value
    (ap (λ (xs : List facts.SignedFact). map fact_view xs) c.deref-2.ensures.value) in
    let q = err_from_is_err_and c.from_residual-in_err-stated.result c.from_residual-in_err-stated.ensures.1 in
    rw (q.1, q.2)
    (claims-refuse p f above c.requires.spelled stated states _ same _ c.in_err-stated.field-0.0
    (ap (λ (xs : List claims.Claim). claims_of xs) c.deref-3.ensures.value) c.in_err-stated.ensures)

pub returns-clause-answered : goal.returns-clause-answered
returns-clause-answered c =
    let p = program_of c.args.p.now in
    let f = file_view c.args.file.now in
    let above = program_of c.args.spelled_program.now in
    let stated = map fact_view c.in_ok-facts.facts.items in
    let states = subst (λ (xs : List lemmas.SignedLemma). StatesFacts above f.plain (map lemma_of xs) stated)
    c.deref.ensures.value c.in_ok-facts.ensures in
    let same = evidence-seen p c.as_ref.result c.args.file.now.section _ stated c.as_ref.ensures.value
    (ap (λ (xs : List facts.SignedFact). map fact_view xs) c.deref-2.ensures.value) in
    file-accepted p f above c.requires.spelled stated states _ same _ (map stated_of c.in_ok-stated.stated.items)
    (ap (λ (xs : List claims.Claim). claims_of xs) c.deref-3.ensures.value) c.in_ok-stated.ensures

pub returns-clause-holds : goal.returns-clause-holds
returns-clause-holds c =
    let p = program_of c.args.p.now in
    let answer = returns-clause-answered c in
    subst (AllHoldOf p) (sym answer.statements)
    (c.accepted_refined_files_hold.ensures.claims p (file_view c.args.file.now) c.requires.valid answer.accepted)
