use Rattle.bland_end.proofs.Sequences.{never-twice}
use Rattle.bland_end.proofs.laws.no_basis_comes_twice.Goals as goal

pub returns : goal.returns
returns c = record { each = never-twice }
