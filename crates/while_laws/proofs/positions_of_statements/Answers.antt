-- Positions are those of statements.
use Rattle.while_laws.proofs.Positions as lemmas
use Rattle.while_laws.proofs.positions_of_statements.Goals as goal

pub returns : goal.returns
returns c = lemmas.positions_hold
