use Rattle.std.proofs.Common.{◌≤◌, length, arith}
use Rattle.bound_text.specs.Printing.{piece_of}
use Rattle.cert_lexer.specs.Outlines.{innermost_frame}
use Rattle.cert_lexer.specs.Representation.{frames_in}
use Rattle.cert_lexer.proofs.LevelsLaws.{taken_behind}
use Rattle.cert_lexer.proofs.levels.Levels.take.Goals as goal

pub returns-else-len : goal.returns-else-len
returns-else-len c = λ marks bs size h.
    let a = c.len.ensures in
    let b = c.len-2.ensures in
    let i = c.args.self.now.begun.ok.0 in
    let j = c.args.outline.now.frames.ok.0 in
    let t = c.if-len.false in
    let few : length c.args.self.now.begun.items ≤ length c.args.outline.now.frames.items = omega (arith, a, b, i, j, t) in
    taken_behind c.args.self.now c.saturating_add-self.result (innermost_frame (frames_in c.args.outline.now))
    c.args.outline.now.innermost (piece_of c.args.piece) c.args.change marks bs (length c.args.outline.now.frames.items) h size
    few c.saturating_add-self.ensures
