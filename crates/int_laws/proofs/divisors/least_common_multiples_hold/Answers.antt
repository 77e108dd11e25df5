use Rattle.int_laws.proofs.LeastMultiples.{product-multiple, multiple-one}
use Rattle.int_laws.proofs.divisors.least_common_multiples_hold.Goals as goal

pub returns : goal.returns
returns c = record { product = product-multiple; one = multiple-one }
