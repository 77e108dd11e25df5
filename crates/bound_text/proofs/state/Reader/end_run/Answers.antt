use Rattle.std.proofs.Common.{arith, ap}
use Rattle.bound_text.specs.Printing.{piece_of}
use Rattle.bound_text.specs.Views.{outer_of, parts_in}
use Rattle.bound_text.proofs.RunLaws.{copies_settled, run_obeys}
use Rattle.bound_text.proofs.state.Reader.end_run.Goals as goal

pub check_size-requires : goal.check_size-requires
check_size-requires c = copies_settled c.min.result c.args.variable (parts_in c.args.self.now.factors) (parts_in c.push_copies.new.self) (omega arith) c.in_ok-push_copies-in-Number.ensures

pub returns-in_ok-push_copies-in-Number : goal.returns-in_ok-push_copies-in-Number
returns-in_ok-push_copies-in-Number c =
    run_obeys (outer_of c.args.self.now.outer.opened.items) (parts_in c.args.self.now.terms) (parts_in c.args.self.now.factors) (parts_in c.push_copies.new.self) (piece_of c.args.piece) c.in-Number.count c.min.result
    c.args.variable _ c.check_size.result (ap piece_of c.in-Number.is) (omega arith) (omega arith) c.min.ensures c.in_ok-push_copies-in-Number.ensures c.check_size.ensures
