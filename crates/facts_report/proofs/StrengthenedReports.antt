-- The results for a program strengthened by facts that hold are true of the program itself.
use Rattle.std.proofs.Common.{◌≡◌, ℕ, Bool, List, [], ◌∷◌, length, map, is_some, refl, sym, ◌∙◌, ap, subst}
use Rattle.std.proofs.lemmas.List.{length-map}
use Rattle.model.specs.Facts.{Time, Size, Cost}
use Rattle.model.specs.Programs.{Program, Rule, arity_of}
use Rattle.its_model.specs.declared.program.Program as code
use Rattle.its_model.specs.Valid.{IsValid}
use Rattle.its_model.specs.Views.{name_of, program_of}
use Rattle.outcome.specs.Reports.{Report}
use Rattle.outcome.specs.Holding.{IsReportOn, ReportHolds}
use Rattle.location_facts.specs.declared.fact.LocFact.{LocFact}
use Rattle.location_facts.specs.declared.fact.FactProof.{FactProof}
use Rattle.location_facts.specs.Faults.{AreProved}
use Rattle.location_facts.specs.Kept.{AreKept}
use Rattle.location_facts.specs.Laws.{AreHeld}
use Rattle.location_facts.specs.Strengthening.{strengthened_rule, strengthened}
use Rattle.location_facts.proofs.ProvedFacts.{facts-hold}
use Rattle.location_facts.proofs.StrongLaws.{strengthening-changes-no-run}
use Rattle.time_bounds.specs.Analysis.{IsAnalysis}
use Rattle.time_bounds.specs.Whys.{ReasonsAreTrue}
use Rattle.facts_report.specs.WithFacts.{IsFoundWithFacts}

-- the strengthened program has as many start arguments
pub same_number_of_names : (q p : code.Program) (kept : List LocFact) → program_of q ≡ strengthened kept (program_of p)
    → length q.start_names.items ≡ length p.start_names.items
same_number_of_names q p kept e =
    sym (length-map q.start_names.items name_of)
    ∙ (ap (λ (x : Program). length x.start_names) e ∙ length-map p.start_names.items name_of)

-- the rules of the strengthened program have the same targets
targets_same : (p : Program) (kept : List LocFact) (rules : List Rule)
    → map (λ rule. arity_of p rule.target) (map (strengthened_rule kept) rules)
    ≡ map (λ rule. arity_of p rule.target) rules
targets_same p kept [] = refl
targets_same p kept (r ∷ rules) = ap (λ (ns : List ℕ). arity_of p r.target ∷ ns) (targets_same p kept rules)

-- the rules of a strengthened program have a cost exactly if those of the program do
costs_kept : (kept : List LocFact) (rules : List Rule)
    → map (λ rule. is_some rule.cost) (map (strengthened_rule kept) rules) ≡ map (λ rule. is_some rule.cost) rules
costs_kept kept [] = refl
costs_kept kept (r ∷ rules) = ap (λ (bs : List Bool). is_some r.cost ∷ bs) (costs_kept kept rules)

-- a report on the strengthened program is one on the program
report_on : (p : Program) (kept : List LocFact) (r : Report) → IsReportOn (strengthened kept p) r → IsReportOn p r
report_on p kept r h = record {
  times = h.times ∙ length-map p.rules (strengthened_rule kept);
  costs = h.costs ∙ costs_kept kept p.rules;
  total = h.total;
  sizes = h.sizes ∙ targets_same p kept p.rules;
}

-- each bound of a report on a strengthened program holds for the program itself
report_holds : (p : Program) (kept : List LocFact) (r : Report) → IsValid p → AreHeld p kept
    → ReportHolds (strengthened kept p) r → ReportHolds p r
report_holds p kept r valid held h = record {
  times = λ t b e. strengthening-changes-no-run.bounds p kept valid held (Time t b) (h.times t b e);
  costs = λ t b e. strengthening-changes-no-run.bounds p kept valid held (Cost t b) (h.costs t b e);
  total = λ b e. strengthening-changes-no-run.totals p kept valid held b (h.total b e);
  sizes = λ t i b e. strengthening-changes-no-run.bounds p kept valid held (Size t i b) (h.sizes t i b e);
}

-- the report of the analysis of a strengthened program is found with the facts
pub found_with : (p q : Program) (pivots : ℕ) (kept : List LocFact) (proofs : List (List FactProof)) (r : Report)
    → IsValid p
    → AreKept p pivots kept → AreProved p kept proofs → q ≡ strengthened kept p → IsAnalysis q pivots r
    → ReportHolds q r
    → ReasonsAreTrue q pivots r → IsReportOn q r → IsFoundWithFacts p pivots kept r
found_with p q pivots kept proofs r valid are_kept proved e found holds reasons on =
    let held : AreHeld p kept = facts-hold.proved p kept proofs valid proved in
    record {
      kept = are_kept;
      held = held;
      found = subst (λ (x : Program). IsAnalysis x pivots r) e found;
      on_program = report_on p kept r (subst (λ (x : Program). IsReportOn x r) e on);
      true_on_all_runs = report_holds p kept r valid held (subst (λ (x : Program). ReportHolds x r) e holds);
      reasons = subst (λ (x : Program). ReasonsAreTrue x pivots r) e reasons;
    }
