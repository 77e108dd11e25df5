-- The token lists derived as an expression or as atoms are those that spell one of programs.
use Rattle.while_laws.proofs.DerivedAlike as lemmas
use Rattle.while_laws.proofs.derived_alike.Goals as goal

pub returns : goal.returns
returns c = record { sums = lemmas.sums_alike; atoms = lemmas.atoms_alike }
