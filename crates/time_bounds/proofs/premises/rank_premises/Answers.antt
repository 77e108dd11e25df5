use Rattle.std.proofs.Common.{◌∙◌, ap, sym, List, ◌++◌, take, get_or}
use Rattle.std.proofs.lemmas.List.{take_more}
use Rattle.its_model.specs.Views.{program_of}
use Rattle.cert_types.specs.cert_rules.Nodes.{ResultVariable}
use Rattle.cert_types.specs.Views.{rank_of}
use Rattle.bound_fixpoint.specs.Needs.{premises_of_all, entry_premises}
use Rattle.time_bounds.proofs.NeedLists.{premises-append}
use Rattle.time_bounds.proofs.premises.rank_premises.Goals as goal

pub loop-entry-preserved : goal.loop-entry-preserved
loop-entry-preserved c =
    let p = program_of c.args.p.now in
    let node = rank_of c.args.node.now in
    let es = c.deref-entry-items.result.now in
    c.in_ok-push_needed.ensures
    ∙ (ap (λ (ks : List ResultVariable). ks ++ entry_premises p node (get_or es c.loop-entry.entry-index 0)) c.loop-entry.invariant
    ∙ (sym (premises-append p node (take c.loop-entry.entry-index es) (get_or es c.loop-entry.entry-index 0))
    ∙ ap (premises_of_all p node) (sym (take_more es c.loop-entry.entry-index 0 c.loop-entry-test.true))))
