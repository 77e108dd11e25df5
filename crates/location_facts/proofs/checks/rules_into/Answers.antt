use Rattle.std.proofs.Common.{◌≡◌, ap, ◌+◌, ◌∙◌, filter, refl, subst, sym, Some}
use Rattle.std.specs.List.{range_with_len}
use Rattle.its_model.specs.Views.{program_of}
use Rattle.poly_terms.specs.model.Paths.{target_of, same_symbol}
use Rattle.location_facts.proofs.FaultLists.{into_pushed, into_passed}
use Rattle.location_facts.proofs.checks.rules_into.Goals as goal
use Rattle.location_facts.proofs.checks.rules_into.Goals.{then-leads_there+in_ok-push, else-leads_there}

pub loop-before-preserved : goal.loop-before-preserved
loop-before-preserved c =
    let p = program_of c.args.p.now in
    let s = c.args.symbol in
    let n = c.loop-before.before in
    let tested = ap (λ o. same_symbol o (Some s)) (sym c.target_of.ensures) ∙ sym c.is_symbol-leads_there.ensures in
    elim c.if-leads_there.branch [
      | then-leads_there+in_ok-push w ↦
          subst (λ v. v.items ≡ filter (λ t. same_symbol (target_of p t) (Some s)) (range_with_len 1 (n + 1)))
          (sym w.found-is)
          (into_pushed p s n (n + 1) c.loop-before.found.items w.push.new.self.items c.loop-before.invariant refl
          (tested ∙ w.if-leads_there.true) w.in_ok-push.ensures.items)
      | else-leads_there w ↦
          subst (λ v. v.items ≡ filter (λ t. same_symbol (target_of p t) (Some s)) (range_with_len 1 (n + 1)))
          (sym w.found-is)
          (into_passed p s n (n + 1) c.loop-before.found.items c.loop-before.invariant refl
          (tested ∙ w.if-leads_there.false))
    ]
