use Rattle.std.proofs.Common.{refl}
use Rattle.cert_rules.proofs.WorkedFaithful.{counting_is_faithful}
use Rattle.cert_rules.proofs.WorkedAccepted.{four_lemmas_accepted, mistakes_refused, plain_nodes}
use Rattle.cert_rules.proofs.WorkedSizes.{size_nodes}
use Rattle.cert_rules.proofs.WorkedReasons.{reasons_worked}
use Rattle.cert_rules.proofs.worked_values_hold.Goals as goal

pub returns : goal.returns
returns c = record {
  faithful = counting_is_faithful;
  accepted = four_lemmas_accepted;
  refused = mistakes_refused;
  plain = plain_nodes;
  sizes = size_nodes;
  whole = record { both_entries = refl; both_before = refl; both_summed = refl; factor = refl; power = refl };
  reasons = reasons_worked;
}
