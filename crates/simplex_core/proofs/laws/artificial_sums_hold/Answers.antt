use Rattle.simplex_core.proofs.SequenceLaws.{tableau_at-is_tableau}
use Rattle.simplex_core.proofs.ArtificialSums.{artificial-over, artificial-none}
use Rattle.simplex_core.proofs.laws.artificial_sums_hold.Goals as goal

pub returns : goal.returns
returns c = record {
  over = λ p k t x d reached basic passes. artificial-over p t x d (tableau_at-is_tableau p k t reached) basic passes;
  none = λ p k t x d reached basic fails. artificial-none p t x d (tableau_at-is_tableau p k t reached) basic fails;
}
