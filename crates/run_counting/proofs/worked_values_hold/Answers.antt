use Rattle.std.proofs.Common.{refl}
use Rattle.run_counting.proofs.Accounts.{accounts_pay}
use Rattle.run_counting.proofs.worked_values_hold.Goals as goal

pub returns : goal.returns
returns c = record {
  entries = record { listed = refl; twice = refl; not_listed = refl; virtual = refl; both = refl };
  accounts = accounts_pay;
}
