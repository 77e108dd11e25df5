use Rattle.std.proofs.Common.{[], ◌∷◌, List, map, take, subst, sym, ◌∙◌, ap}
use Rattle.std.proofs.lemmas.List.{take_more, map-append}
use Rattle.bound_expr.specs.Views.{bound_of}
use Rattle.cert_types.specs.cert_rules.Nodes.{ResultVariable}
use Rattle.cert_types.specs.Views.{result_variable_of}
use Rattle.bound_derivations.specs.ByKey.{IsWritten}
use Rattle.bound_derivations.proofs.Writes.{written_more}
use Rattle.bound_derivations.proofs.writing.put_each.Goals as goal

pub loop-key-preserved : goal.loop-key-preserved
loop-key-preserved c =
    subst
    (λ (ks : List ResultVariable). IsWritten c.args.table.now ks (bound_of c.args.bound.now) c.args.lemma c.put_copy.new.table)
    (sym (ap (map result_variable_of) (take_more c.args.keys.now c.loop-key.key-index _ c.loop-key-test.true)
    ∙ map-append result_variable_of (take c.loop-key.key-index c.args.keys.now) (_ ∷ [])))
    (written_more c.args.table.now c.loop-key.table c.put_copy.new.table
    (map result_variable_of (take c.loop-key.key-index c.args.keys.now)) (result_variable_of _ ∷ []) (bound_of c.args.bound.now)
    c.args.lemma c.loop-key.invariant c.in_ok-put_copy.ensures)
