-- The limits on the integers of certificates and of points.
use Rattle.std.specs.Prelude.{ℕ, ◌^◌}

-- the greatest absolute value of a multiplier, a coefficient, a constant or a denominator of a certificate
abbrev pub certificate_limit : ℕ
certificate_limit = 2 ^ 56

-- the greatest absolute value of a coordinate of a point, of a ray or of a gap, or of its denominator
abbrev pub point_limit : ℕ
point_limit = 2 ^ 45
