use Rattle.std.proofs.Common.{List, map, Option, sym, subst}
use Rattle.std.specs.Prelude.{IfSome}
use Rattle.std.specs.List.{All}
use Rattle.cert_types.specs.Views.{member_of}
use Rattle.cert_types.specs.declared.side_bound.Member.{Member}
use Rattle.time_bounds.specs.Candidates.{IsAccepted}
use Rattle.analysis_tests.proofs.Accepted.{accepted_more}
use Rattle.analysis_tests.proofs.members.push_member.Goals as goal

pub returns-in_ok-push : goal.returns-in_ok-push
returns-in_ok-push c = λ p valid rows all.
    subst (λ (ms : List Member). All (IsAccepted p) (map member_of ms)) (sym c.in_ok-push.ensures.items)
    (accepted_more p c.args.members.now.items c.in-Some.member all
    (subst (λ (o : Option Member). IfSome o (λ m. IsAccepted p (member_of m))) c.in-Some.is
    (c.in_ok-member.ensures p valid rows)))
