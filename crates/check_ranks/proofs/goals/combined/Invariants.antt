use Rattle.std.proofs.Common.{◌≡◌, ◌*◌, ◌^◌, ◌≤◌, drop, map}
use Rattle.std.specs.Prelude.{◌+ℤ◌, unsigned_abs}
use Rattle.farkas_cert.proofs.Sums.{zip_dot}
use Rattle.poly_terms.specs.Views.{form_of}
use Rattle.cert_context.specs.Columns.{number_in}
use Rattle.check_ranks.proofs.goals.combined.Given as goal

-- the sum so far and the products left make the whole sum; each term so far added at most 2^119
abbrev pub invariant-loop-i : goal.invariant-loop-i
invariant-loop-i l = record {
  sum : l.sum +ℤ zip_dot (drop l.i (map (number_in l.column) (map form_of l.new_values))) (drop l.i l.coefs)
      ≡ zip_dot (map (number_in l.column) (map form_of l.new_values)) l.coefs;
  size : unsigned_abs l.sum ≤ l.i * 2 ^ 119;
}
