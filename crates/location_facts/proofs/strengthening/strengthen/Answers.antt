use Rattle.std.proofs.Common.{◌≡◌, List, ap, sym, ◌∙◌, subst}
use Rattle.std.specs.Prelude.{◌↔◌, ℤ}
use Rattle.its_model.specs.declared.program.Program.{Program}
use Rattle.its_model.specs.Valid.{IsValid}
use Rattle.its_model.specs.Views.{program_of}
use Rattle.poly_terms.specs.model.Programs as plain
use Rattle.poly_terms.specs.model.Runs.{Config, Step, IsRun}
use Rattle.location_facts.specs.declared.fact.LocFact.{LocFact}
use Rattle.location_facts.specs.Strengthening.{strengthened}
use Rattle.location_facts.proofs.StrongLaws.{ok-then, strengthening-changes-no-run}
use Rattle.location_facts.proofs.strengthening.strengthen.Goals as goal

pub returns : goal.returns
returns c =
    let p = program_of c.args.p.now in
    let kept = c.args.f.now.kept.items in
    let is : (q : Program) → program_of q ≡ strengthened c.deref.result.now p → program_of q ≡ strengthened kept p =
    λ q e. e ∙ ap (λ (k : List LocFact). strengthened k p) c.deref.ensures.value in
    record {
      exact = ok-then c.strengthened_program.result (λ q. program_of q ≡ strengthened c.deref.result.now p)
          (λ q. program_of q ≡ strengthened kept p) is c.strengthened_program.ensures;
      still_valid = ok-then c.strengthened_program.result (λ q. program_of q ≡ strengthened c.deref.result.now p)
          (λ q. IsValid (program_of q))
          (λ q e. subst IsValid (sym (is q e))
          (strengthening-changes-no-run.valid p kept c.requires.valid c.requires.held.candidates))
          c.strengthened_program.ensures;
      same_runs = ok-then c.strengthened_program.result (λ q. program_of q ≡ strengthened c.deref.result.now p)
          (λ q. (start : List ℤ) (steps : List Step) (d : Config)
          → IsRun p start steps d ↔ IsRun (program_of q) start steps d)
          (λ q e start steps d. subst (λ (x : plain.Program). IsRun p start steps d ↔ IsRun x start steps d)
          (sym (is q e)) (strengthening-changes-no-run.runs p kept c.requires.valid c.requires.held start steps d))
          c.strengthened_program.ensures;
    }
