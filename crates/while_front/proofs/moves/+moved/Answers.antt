use Rattle.std.proofs.Common.{◌≡◌, ℕ, ◌+◌, ◌-◌, ◌<◌, ◌^◌, ◌++◌, List, length, drop, map, ap, sym, ◌∙◌, arith}
use Rattle.std.proofs.lemmas.List.{length-drop}
use Rattle.while_model.specs.Statements.{Statements, size}
use Rattle.while_model.specs.Moves.{first, moves}
use Rattle.while_tree.specs.Views.{before, stmt_of, statements_of}
use Rattle.while_front.specs.Views.{statement_size, move_of}
use Rattle.while_front.proofs.Statements.{size_before, next_is, left_step, moves_step}
use Rattle.while_front.proofs.moves.+moved.Goals as goal

pub push_moves-loop-stmt-preserved : goal.push_moves-loop-stmt-preserved
push_moves-loop-stmt-preserved t c =
    let body = c.args.body.now in
    let i = c.loop-stmt.stmt-index in
    let item = c.stmt-item.result in
    let rest = drop (i + 1) body in
    let here = c.loop-stmt.here in
    let after = c.args.after in
    let out = map move_of c.loop-stmt.moves.items in
    let new = map move_of c.push_statement.new.moves.items in
    let all = map move_of c.args.moves.now.items ++ moves c.args.at after (statements_of body) in
    let low = c.loop-stmt-test.true in
    let more = left_step body i item low c.stmt-item.is in
    let one = c.statement_size_of.ensures in
    let sized = size_before (stmt_of item) (statements_of rest) in
    let total = ap size more in
    let room = c.loop-stmt.invariant.1 in
    let count = c.loop-stmt.invariant.2 in
    let short = length-drop (i + 1) body in
    let next = c.next_point-next.ensures
    ∙ next_is (here + c.statement_size_of.result) after (c.loop-stmt.left - 1) rest (omega (arith, count, low, short))
    ∙ ap (λ (k : ℕ). first (here + k) after (statements_of rest)) one in (
      ap (λ (k : ℕ). new ++ moves (here + k) after (statements_of rest)) one
          ∙ moves_step out new all (stmt_of item) (map stmt_of rest) here after c.next_point-next.result next
          c.in_ok-push_statement.ensures
          (ap (λ (v : Statements). out ++ moves here after v) (sym more) ∙ c.loop-stmt.invariant.0),
      omega (arith, one, sized, total, room),
      omega (arith, count, low),
    )
