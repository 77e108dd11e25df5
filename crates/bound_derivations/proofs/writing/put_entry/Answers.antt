use Rattle.std.proofs.Common.{sym, ◌∙◌, arith}
use Rattle.bound_derivations.proofs.Entries.{entry_past, entry_filled, entry_set}
use Rattle.bound_derivations.proofs.writing.put_entry.Goals as goal

pub returns-then-position-len : goal.returns-then-position-len
returns-then-position-len g c =
    sym (entry_past c.args.row.now.items c.args.position c.args.value
    (omega (arith, c.if-position-len.true, c.len.ensures, c.args.row.now.ok.0)))

pub returns-then-is_some : goal.returns-then-is_some
returns-then-is_some g c =
    entry_filled c.args.row.now.items c.args.position c.args.value c.index.result.now
    (omega (arith, c.if-position-len.false, c.len.ensures, c.args.row.now.ok.0)) c.index.ensures
    (sym c.is_some.ensures ∙ c.if-is_some.true)

pub returns : goal.returns
returns g c =
    entry_set c.args.row.now.items c.args.position c.args.value c.index.result.now
    (omega (arith, c.if-position-len.false, c.len.ensures, c.args.row.now.ok.0)) c.index.ensures
    (sym c.is_some.ensures ∙ c.if-is_some.false)
