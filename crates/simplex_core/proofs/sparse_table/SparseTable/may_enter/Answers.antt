use Rattle.std.proofs.Common.{◌≡◌, ℕ, ◌+◌, ap, sym, ◌∙◌, subst, arith, true, false}
use Rattle.std.specs.Prelude.{pos, int_lt}
use Rattle.int_laws.specs.NormalForm.{is_zero}
use Rattle.simplex_core.specs.Tableau.{cost_row}
use Rattle.simplex_core.specs.Search.{every}
use Rattle.simplex_core.proofs.Searches.{fails-every}
use Rattle.std.proofs.Common.{add-one}
use Rattle.simplex_core.proofs.Searches.{both-and, and_no, no_and}
use Rattle.simplex_core.proofs.sparse_table.SparseTable.may_enter.Goals as goal

pub returns-then-not-is_zero_at : goal.returns-then-not-is_zero_at
returns-then-not-is_zero_at c p t shows =
    let answer = c.is_zero_at.ensures p t shows in
    let fails : c.is_zero_at.result ≡ false = c.if-not-is_zero_at.true in
    let at_row = ap (λ (r : ℕ). is_zero (t.entry (r + c.loop-before.before) c.args.column)) (sym shows.rows) ∙ (sym answer ∙ fails) in
    sym (and_no (int_lt (t.entry (cost_row p c.args.cost) c.args.column) (pos 0)) _
    (fails-every c.args.cost c.loop-before.before (λ k. is_zero (t.entry (cost_row p k) c.args.column)) c.loop-before-test.true at_row))

pub loop-before-preserved : goal.loop-before-preserved
loop-before-preserved c p t shows =
    let answer = c.is_zero_at.ensures p t shows in
    let passes : c.is_zero_at.result ≡ true = c.if-not-is_zero_at.false in
    let at_row = ap (λ (r : ℕ). is_zero (t.entry (r + c.loop-before.before) c.args.column)) (sym shows.rows) ∙ (sym answer ∙ passes) in
    rw (add-one c.loop-before.before) (both-and _ _ (c.loop-before.invariant p t shows) at_row)

pub returns-then-not-is_negative_at : goal.returns-then-not-is_negative_at
returns-then-not-is_negative_at c p t shows =
    let answer = c.is_negative_at.ensures p t shows in
    let fails : c.is_negative_at.result ≡ false = c.if-not-is_negative_at.true in
    let at_row = ap (λ (r : ℕ). int_lt (t.entry (r + c.args.cost) c.args.column) (pos 0)) (sym shows.rows) ∙ (sym answer ∙ fails) in
    sym (no_and _ (every c.args.cost (λ l. is_zero (t.entry (cost_row p l) c.args.column))) at_row)

pub returns : goal.returns
returns c p t shows =
    let done : c.loop-before.before ≡ c.args.cost = omega arith in
    let zeros = subst (λ (k : ℕ). every k (λ l. is_zero (t.entry (cost_row p l) c.args.column)) ≡ true) done (c.loop-before.invariant p t shows) in
    let answer = c.is_negative_at.ensures p t shows in
    let passes : c.is_negative_at.result ≡ true = c.if-not-is_negative_at.false in
    let at_row = ap (λ (r : ℕ). int_lt (t.entry (r + c.args.cost) c.args.column) (pos 0)) (sym shows.rows) ∙ (sym answer ∙ passes) in
    sym (both-and _ _ at_row zeros)
