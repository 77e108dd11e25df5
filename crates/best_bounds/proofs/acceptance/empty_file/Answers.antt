use Rattle.std.proofs.Common.{refl}
use Rattle.best_bounds.proofs.EmptyFiles.{empty_accepted}
use Rattle.best_bounds.proofs.acceptance.empty_file.Goals as goal

pub returns-clause-accepted : goal.returns-clause-accepted
returns-clause-accepted c =
    empty_accepted _ _ c.small_files_are_judged.ensures refl c.new.ensures.items c.new-2.ensures.items
    c.new-3.ensures.items c.new-4.ensures.items c.new-5.ensures.items
