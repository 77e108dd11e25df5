use Rattle.std.proofs.Common.{ℕ, sym, ◌∙◌, ap}
use Rattle.bound_derivations.specs.ByKey.{rows_of, put_place}
use Rattle.bound_derivations.proofs.Entries.{place_zero}
use Rattle.bound_derivations.proofs.writing.put.Goals as goal

pub returns-then-key-eq0-clause-sizes : goal.returns-then-key-eq0-clause-sizes
returns-then-key-eq0-clause-sizes c =
    place_zero (rows_of c.args.table.now) c.args.key.rule c.args.stored
    ∙ ap (λ (n : ℕ). put_place (rows_of c.args.table.now) c.args.key.rule n c.args.stored) (sym c.if-key-eq0.true)
