use Rattle.std.proofs.Common.{◌≡◌, ◌+◌, ◌++◌, map, sym, subst}
use Rattle.cert_types.specs.rule_forms.Kinds.{arguments}
use Rattle.local_size.specs.Asking.{kind_of, other_places}
use Rattle.local_size.proofs.KindLists.{others-pushed, others-passed}
use Rattle.local_size.proofs.kinds.push_others.Goals as goal
use Rattle.local_size.proofs.kinds.push_others.Goals.{then-other-place+in_ok-push_argument, else-other-place}

pub loop-before-preserved : goal.loop-before-preserved
loop-before-preserved c =
    let first = map kind_of c.args.kinds.now.items in
    let n = c.loop-before.before in
    let place = c.args.place in
    elim c.if-other-place.branch [
      | then-other-place+in_ok-push_argument w ↦
          subst (λ v. map kind_of v.items ≡ first ++ arguments (other_places (n + 1) place)) (sym w.kinds-is)
          (others-pushed first n place c.loop-before.kinds.items w.push_argument.new.kinds.items w.if-other-place.true
          c.loop-before.invariant w.in_ok-push_argument.ensures)
      | else-other-place w ↦
          subst (λ v. map kind_of v.items ≡ first ++ arguments (other_places (n + 1) place)) (sym w.kinds-is)
          (others-passed first n place c.loop-before.kinds.items w.if-other-place.false c.loop-before.invariant)
    ]
