use Rattle.its_reader.proofs.TailPromises.{mark_over, square_over}
use Rattle.its_reader.proofs.draft.Draft.behind_atoms.Goals as goal

pub returns-in_ok-ruled-in-Mark : goal.returns-in_ok-ruled-in-Mark
returns-in_ok-ruled-in-Mark c = mark_over c.args.opening c.in-Mark.is c.in_ok-ruled-in-Mark.ensures

pub returns-in_ok-shut-in-Square : goal.returns-in_ok-shut-in-Square
returns-in_ok-shut-in-Square c = square_over c.args.opening c.in-Square.is c.in_ok-shut-in-Square.ensures
