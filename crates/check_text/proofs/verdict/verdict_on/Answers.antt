use Rattle.std.proofs.Common.{ℕ, List, All, length, subst, sym}
use Rattle.std.proofs.lemmas.List.{length-map}
use Rattle.its_model.specs.Views.{name_of, program_of}
use Rattle.cert_types.specs.AnswerViews.{file_of}
use Rattle.cert_types.specs.Views.{fact_of}
use Rattle.cert_types.specs.declared.fact.Fact.{Fact}
use Rattle.check_text.specs.StatedErrors.{FactReadsBelow}
use Rattle.check_text.proofs.Verdicts.{facts-over_start}
use Rattle.check_text.proofs.verdict.verdict_on.Goals as goal

pub text_of_accepted-requires : goal.text_of_accepted-requires
text_of_accepted-requires c =
    let names = c.args.p.now.start_names.items in
    subst (λ (facts : List Fact). All (λ f. FactReadsBelow (length names) (fact_of f)) facts)
    (sym c.deref.ensures.value)
    (subst (λ (n : ℕ). All (λ f. FactReadsBelow n (fact_of f)) c.in-Ok.facts.items) (length-map names name_of)
    (facts-over_start (program_of c.args.p.now) (file_of c.args.f.now) c.in-Ok.facts.items c.requires
    c.in-Ok.ensures.answered))
