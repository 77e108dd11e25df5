use Rattle.cert_program.proofs.Faithful as lemmas
use Rattle.cert_program.proofs.laws.polynomials_are_nonlinear.Goals as goal

pub returns : goal.returns
returns c = lemmas.polynomials-nonlinear
