use Rattle.std.proofs.Common.{◌≡◌, ◌*◌, ◌^◌, ◌≤◌, drop}
use Rattle.std.specs.Prelude.{◌+ℤ◌, unsigned_abs}
use Rattle.farkas_cert.proofs.Sums.{zip_dot}
use Rattle.farkas_cert.proofs.scaled.dot.Given as goal

-- the sum and the rest are the dot product; each term so far added at most 2^108
abbrev pub invariant-loop-i : goal.invariant-loop-i
invariant-loop-i l = record {
  sum : l.sum +ℤ zip_dot (drop l.i l.coefs) (drop l.i l.parts) ≡ zip_dot l.coefs l.parts;
  size : unsigned_abs l.sum ≤ l.i * 2 ^ 108;
}
