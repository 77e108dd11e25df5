-- The certificates that are being read.
use Rattle.std.specs.Prelude.{List, [], ◌∷◌, ◌++◌}
use Rattle.potential_types.specs.potential_nodes.Certificates.{Summand}

-- the summands of the certificate that is being read, and the two certificates before it
pub record Certificates : Type 0 where
  pub summands : List Summand
  pub first : List Summand
  pub second : List Summand

abbrev pub no_certificates : Certificates
no_certificates = record { summands = []; first = []; second = [] }

-- one summand more
abbrev pub with_summand : Summand → Certificates → Certificates
with_summand s c = record c { summands = c.summands ++ s ∷ [] }

-- the certificate ends: it is the second one, and the one before it the first
abbrev pub certificate_ended : Certificates → Certificates
certificate_ended c = record { summands = []; first = c.second; second = c.summands }

-- the first and the second certificate are used
abbrev pub without_first : Certificates → Certificates
without_first c = record c { first = [] }

abbrev pub without_second : Certificates → Certificates
without_second c = record c { second = [] }
