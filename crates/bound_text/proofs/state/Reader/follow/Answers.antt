use Rattle.bound_text.specs.Printing.{piece_of}
use Rattle.bound_text.specs.Views.{outer_of, parts_in}
use Rattle.bound_text.proofs.SteppingLaws.{small_base}
use Rattle.bound_text.proofs.state.Reader.follow.Goals as goal

pub follow_number-requires-clause-small : goal.follow_number-requires-clause-small
follow_number-requires-clause-small c =
    small_base c.args.self.now.position (outer_of c.args.self.now.outer.opened.items) (parts_in c.args.self.now.terms) (parts_in c.args.self.now.factors) c.in-Number.number (piece_of c.args.piece) c.in-Number.is c.requires.no_base
