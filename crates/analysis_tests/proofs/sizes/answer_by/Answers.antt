use Rattle.std.proofs.Common.{List, map, sym, subst}
use Rattle.std.specs.List.{All}
use Rattle.cert_types.specs.Views.{member_of}
use Rattle.cert_types.specs.declared.side_bound.Member.{Member}
use Rattle.time_bounds.specs.Candidates.{IsAccepted}
use Rattle.analysis_tests.proofs.sizes.answer_by.Goals as goal

pub asked_of-requires : goal.asked_of-requires
asked_of-requires c =
    let p = c.requires.0 in
    let rest = c.requires.1 in (
      p,
      (
        rest.0,
        (
          rest.1.0,
          (
            rest.1.1,
            subst (λ (ms : List Member). All (IsAccepted p) (map member_of ms)) (sym c.deref-2.ensures.value)
                (c.in_ok-members.ensures p rest.0 rest.1.1),
          ),
        ),
      ),
    )
