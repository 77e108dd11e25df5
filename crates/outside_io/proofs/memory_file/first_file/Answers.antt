-- The first file of this name is found, and no later one.
use Rattle.std.proofs.Common.{◌∙◌, ap, sym, nat_eq}
use Rattle.std.specs.Cmp.Lexicographic.{pointwise}
use Rattle.outside_io.proofs.MemoryFileLemmas.{get-found, get-passed, get-ended}
use Rattle.outside_io.proofs.memory_file.first_file.Goals as goal

pub returns-then-eq : goal.returns-then-eq
returns-then-eq c =
    let same = ap (pointwise nat_eq c.args.name.now) (sym c.as_str.ensures.value) ∙ sym c.eq.ensures ∙ c.if-eq.true in
    let found = get-found _ _ _ _ c.loop-file-test.true c.file-item.is same in
    cc

pub loop-file-preserved : goal.loop-file-preserved
loop-file-preserved c =
    let other = ap (pointwise nat_eq c.args.name.now) (sym c.as_str.ensures.value) ∙ sym c.eq.ensures ∙ c.if-eq.false in
    c.loop-file.invariant ∙ get-passed _ _ _ _ c.loop-file-test.true c.file-item.is other

pub returns : goal.returns
returns c = sym (c.loop-file.invariant ∙ get-ended _ _ _ c.loop-file-test.false)
