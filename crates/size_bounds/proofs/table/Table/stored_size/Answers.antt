use Rattle.std.proofs.Common.{◌-◌, List, Option, sym, ap, ◌∙◌, arith}
use Rattle.outcome.specs.declared.entry.Stored.{Stored}
use Rattle.size_bounds.specs.Tables.{entry_at}
use Rattle.size_bounds.proofs.StoredBounds.{size_read, size_past}
use Rattle.size_bounds.proofs.table.Table.stored_size.Goals as goal

pub returns-then-rule-len : goal.returns-then-rule-len
returns-then-rule-len c =
    sym (size_past c.args.self.now c.args.rule c.args.place (omega (arith, c.if-rule-len.true, c.len.ensures, c.args.self.now.sizes.ok.0)))

pub returns : goal.returns
returns c =
    c.stored_at.ensures
    ∙ (ap (λ (os : List (Option Stored)). entry_at os (c.args.place - 1)) c.deref.ensures.value
    ∙ sym (size_read c.args.self.now c.args.rule c.args.place c.index.result.now c.if-place-eq0.false
    (omega (arith, c.if-rule-len.false, c.len.ensures, c.args.self.now.sizes.ok.0)) c.index.ensures))
