use Rattle.std.proofs.Common.{arith}
use Rattle.bland_end.proofs.Pivoted.{pivoted-canonical, pivoted-rows, pivoted-costs, sequence-pivoted}
use Rattle.bland_end.proofs.laws.bases_decide_tableaux.Goals as goal

pub returns : goal.returns
returns c = record {
  scales = λ p t i h. (pivoted-canonical p t h).positive i;
  rows = λ p t u i k n h g same li lk e l. pivoted-rows p t u h g same i k n li lk e (omega (arith, l));
  costs = λ p t u q n h g same few l. pivoted-costs p t u h g same q n few (omega (arith, l));
  sequence = sequence-pivoted;
}
