use Rattle.std.proofs.Common.{ap, arith, length, length-drop}
use Rattle.its_reader.specs.Views.{lexeme_of, mode_of, maybe_of}
use Rattle.its_reader.proofs.Tokens.{taken_within, taken_first, behind_depth, all_left}
use Rattle.its_reader.proofs.lexer.Lexer.take.Goals as goal

pub overflow_add-self : goal.overflow_add-self
overflow_add-self c =
    let w = taken_within (mode_of c.args.self.now.mode) c.args.first c.args.others.now c.args.self.now.text.now
    (lexeme_of c.lexeme_in-lexeme.result) c.requires.text c.lexeme_in-lexeme.ensures in
    let k = w.1 in let b = c.requires.bounded in omega (arith, k, b)

pub slice_bounds-self-count : goal.slice_bounds-self-count
slice_bounds-self-count c =
    let w = taken_within (mode_of c.args.self.now.mode) c.args.first c.args.others.now c.args.self.now.text.now
    (lexeme_of c.lexeme_in-lexeme.result) c.requires.text c.lexeme_in-lexeme.ensures in
    let k = w.1 in omega (arith, k)

pub slice_bounds-self-start : goal.slice_bounds-self-start
slice_bounds-self-start c =
    let w = taken_within (mode_of c.args.self.now.mode) c.args.first c.args.others.now c.args.self.now.text.now
    (lexeme_of c.lexeme_in-lexeme.result) c.requires.text c.lexeme_in-lexeme.ensures in
    let k = w.1 in omega (arith, k)

pub returns-clause-tokens : goal.returns-clause-tokens
returns-clause-tokens c =
    taken_first (mode_of c.args.self.now.mode) (mode_of c.mode_after-self.result) c.args.self.now.at c.args.first
    c.args.others.now c.args.self.now.text.now _ (lexeme_of c.lexeme_in-lexeme.result)
    c.requires.text c.lexeme_in-lexeme.ensures c.mode_after-self.ensures
    (all_left c.lexeme_in-lexeme.result.len c.args.self.now.text.now)

pub returns-clause-whole : goal.returns-clause-whole
returns-clause-whole c =
    let w = taken_within (mode_of c.args.self.now.mode) c.args.first c.args.others.now c.args.self.now.text.now
    (lexeme_of c.lexeme_in-lexeme.result) c.requires.text c.lexeme_in-lexeme.ensures in
    let k = w.1 in let e = ap length (all_left c.lexeme_in-lexeme.result.len c.args.self.now.text.now) in
    omega (arith, k, e, length-drop c.lexeme_in-lexeme.result.len c.args.self.now.text.now)

pub returns-clause-shorter : goal.returns-clause-shorter
returns-clause-shorter c =
    let w = taken_within (mode_of c.args.self.now.mode) c.args.first c.args.others.now c.args.self.now.text.now
    (lexeme_of c.lexeme_in-lexeme.result) c.requires.text c.lexeme_in-lexeme.ensures in
    let j = w.0 in let k = w.1 in let e = ap length (all_left c.lexeme_in-lexeme.result.len c.args.self.now.text.now) in
    omega (arith, j, k, e, length-drop c.lexeme_in-lexeme.result.len c.args.self.now.text.now)

pub returns-clause-depth : goal.returns-clause-depth
returns-clause-depth c =
    let w = taken_within (mode_of c.args.self.now.mode) c.args.first c.args.others.now c.args.self.now.text.now
    (lexeme_of c.lexeme_in-lexeme.result) c.requires.text c.lexeme_in-lexeme.ensures in
    let j = w.0 in let d = c.requires.depth in
    let e = behind_depth c.args.self.now.mode c.mode_after-self.result (maybe_of c.lexeme_in-lexeme.result.piece)
    c.mode_after-self.ensures in omega (arith, j, d, e)
