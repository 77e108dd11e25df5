-- The reader builds the terms and atoms of programs from expressions and atoms.
use Rattle.while_laws.proofs.ReadAlike as lemmas
use Rattle.while_laws.proofs.read_alike.Goals as goal

pub returns : goal.returns
returns c = record { values = lemmas.values_alike; tests = lemmas.tests_alike }
