use Rattle.std.specs.Prelude.{map}
use Rattle.its_model.specs.Views.{program_of}
use Rattle.refined_programs.specs.Views.{annotated_copy}
use Rattle.facts_section.specs.Counted.{form_copy_at}
use Rattle.facts_section.proofs.CopyLists.{copy_pushed_unless_start}
use Rattle.facts_section.proofs.copies.all_copies.Goals as goal

pub loop-symbol-preserved : goal.loop-symbol-preserved
loop-symbol-preserved c =
    copy_pushed_unless_start (program_of c.args.p.now) c.args.kept.now c.loop-symbol.symbol
    (form_copy_at (program_of c.args.p.now) c.args.kept.now c.args.p.now.start)
    (map annotated_copy c.loop-symbol.copies.items) (map annotated_copy c.push_unless_start.new.copies.items)
    c.loop-symbol.invariant c.in_ok-push_unless_start.ensures
