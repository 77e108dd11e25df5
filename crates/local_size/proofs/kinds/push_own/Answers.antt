use Rattle.std.proofs.Common.{map, arith}
use Rattle.std.proofs.lemmas.Result.{IfOk-weaker}
use Rattle.local_size.specs.Asking.{kind_of}
use Rattle.local_size.proofs.KindLists.{own-pushed, own-passed}
use Rattle.local_size.proofs.kinds.push_own.Goals as goal

pub returns-then-place-left : goal.returns-then-place-left
returns-then-place-left c =
    own-passed c.args.left c.args.place (map kind_of c.args.kinds.now.items) c.if-place-left.true

pub returns : goal.returns
returns c =
    let l = c.requires in
    let k = c.if-place-left.false in
    IfOk-weaker c.push_argument.result _ _
    (λ _ e. own-pushed c.args.left c.args.place (map kind_of c.args.kinds.now.items) _ (omega (arith, l)) (omega
    (arith, k)) e) c.push_argument.ensures
