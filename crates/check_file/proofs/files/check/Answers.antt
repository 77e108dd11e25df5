use Rattle.its_model.specs.Views.{program_of}
use Rattle.cert_types.specs.Views.{facts_of}
use Rattle.cert_context.specs.CheckContexts.{program}
use Rattle.check_file.proofs.FileAnswers.{kept-same, hold-same, facts-hold, gaps-exclude}
use Rattle.check_file.proofs.files.check.Goals as goal

pub returns-clause-facts : goal.returns-clause-facts
returns-clause-facts c =
    let p = program_of c.args.p.now in
    let q = program c.in_ok-context.context in
    let f = c.args.f.now in
    let same = c.in_ok-context.ensures.same in
    facts-hold p f c.in_ok-kept.kept (kept-same p q f same c.deref.result.now c.in_ok-kept.kept c.deref.ensures.value c.in_ok-kept.ensures)
    (hold-same p q f same c.deref-2.result.now c.deref-2.ensures.value c.in-None.ensures)
    (facts_of c.in_ok-all_stated-in-None.field-0.items) c.in_ok-all_stated-in-None.ensures c.requires.valid

pub returns-clause-gaps : goal.returns-clause-gaps
returns-clause-gaps c =
    let p = program_of c.args.p.now in
    let q = program c.in_ok-context.context in
    let f = c.args.f.now in
    let same = c.in_ok-context.ensures.same in
    gaps-exclude p f c.in_ok-kept.kept (kept-same p q f same c.deref.result.now c.in_ok-kept.kept c.deref.ensures.value c.in_ok-kept.ensures)
    (hold-same p q f same c.deref-2.result.now c.deref-2.ensures.value c.in-None.ensures)
    (facts_of c.in_ok-all_stated-in-None.field-0.items) c.in_ok-all_stated-in-None.ensures c.requires.valid
