use Rattle.std.proofs.Common.{◌++◌, List, map, subst}
use Rattle.its_model.specs.Views.{program_of}
use Rattle.claims_check.specs.declared.statement.Statement.{Statement}
use Rattle.claims_check.specs.Views.{stated_of}
use Rattle.best_bounds.specs.Subjects.{KeepsSubjects}
use Rattle.best_bounds.proofs.FoundFiles.{with_file_found}
use Rattle.best_bounds.proofs.searches.with_file.Goals as goal

pub returns : goal.returns
returns c =
    let best = map stated_of c.in_ok-best.best.items in
    let keeps =
    subst (λ (xs : List Statement). KeepsSubjects (map stated_of xs ++ map stated_of c.args.file.stated.items) best)
    c.deref.ensures.value
    (subst (λ (ys : List Statement). KeepsSubjects (map stated_of c.deref.result.now ++ map stated_of ys) best)
    c.deref-2.ensures.value c.in_ok-best.ensures) in
    with_file_found (program_of c.args.p.now) c.args.known c.args.file
    (record { file = c.better_file-better.result; best = c.in_ok-best.best }) c.requires.known c.requires.file keeps
    c.better_file-better.ensures.one
