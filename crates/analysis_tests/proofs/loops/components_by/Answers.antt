use Rattle.std.proofs.Common.{List, Vec, sym, subst}
use Rattle.std.specs.declared.alloc.Global.{Global}
use Rattle.local_size.specs.declared.answer.LocalAnswer.{LocalAnswer}
use Rattle.rvg_components.specs.Listing.{answer_lists, AreLocalsFor}
use Rattle.time_bounds.proofs.RowLaws.{are_prepared}
use Rattle.analysis_tests.proofs.Answered.{locals_for}
use Rattle.analysis_tests.proofs.loops.components_by.Goals as goal

pub all_locals-requires : goal.all_locals-requires
all_locals-requires c = are_prepared c.requires.0 c.requires.1.0 c.args.prepared_rules.now c.requires.1.1.1.0

pub components-requires : goal.components-requires
components-requires c =
    let p = c.requires.0 in
    let rest = c.requires.1 in (
      p,
      record {
        valid = rest.0;
        graph = rest.1.0;
        rows = rest.1.1.0;
        locals_for =
            subst (λ (ls : List (Vec LocalAnswer Global)). AreLocalsFor p (answer_lists ls) c.args.live.now)
            (sym c.deref.ensures.value)
            (locals_for p c.args.prepared_rules.now c.in_ok-locals.locals.items c.args.live.now rest.0 rest.1.1.0
            c.in_ok-locals.ensures rest.1.1.1);
      },
    )
