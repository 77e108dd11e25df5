use Rattle.std.proofs.Common.{◌≡◌, List, map, ap, ◌∙◌}
use Rattle.refined_programs.specs.model.Programs.{Rule, rule_at}
use Rattle.refined_programs.specs.refinement.Sections as plain
use Rattle.refined_programs.specs.refinement.Obligations.{guard_along}
use Rattle.refined_programs.specs.its_model.declared.guard.Atom.{Atom}
use Rattle.refined_programs.specs.its_model.Views.{atom_of, rule_of, program_of}
use Rattle.refined_programs.specs.Ends.{End, end_of}
use Rattle.refined_programs.specs.Views.{copy_of}
use Rattle.refinement_rows.specs.Certified.{with_guard}
use Rattle.section_checks.specs.Faults.{obligations_of}
use Rattle.refinement_check.specs.Views.{obligation_of, obligations_by}
use Rattle.refinement_check.proofs.EndObligations.{ok-equal, obligations-along}
use Rattle.refinement_check.proofs.certificates.obligations.Goals as goal

pub returns-in_ok-along-in-Some : goal.returns-in_ok-along-in-Some
returns-in_ok-along-in-Some c =
    let copies : List plain.Copy = map copy_of c.args.copies.now in
    let r : Rule = rule_of c.in-Some.rule.now in
    let along : Rule = rule_of c.in_ok-along-in-Some.along in
    let e : End = end_of c.args.end.now.end in
    let o = rule_at (program_of c.args.p.now) c.args.end.now.rule in
    let same : along ≡ with_guard r (guard_along r e.atoms) =
    c.in_ok-along-in-Some.ensures
    ∙ ap (λ (atoms : List Atom). with_guard r (guard_along r (map atom_of atoms))) c.deref.ensures.value in
    ok-equal c.obligations_along.result (λ found. map obligation_of found.items)
    (obligations_by copies c.args.number along e.goal) (obligations_of copies c.args.number o e)
    (obligations-along copies c.args.number r along o e same c.in-Some.ensures) c.obligations_along.ensures
