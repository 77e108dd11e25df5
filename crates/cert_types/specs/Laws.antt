-- The functions of this crate compose the bounds that the nodes of `cert_rules` compose.
use Rattle.std.specs.Prelude.{◌≡◌, ℕ, Option}
use Rattle.poly_terms.specs.model.Bounds.{Bound}
use Rattle.poly_terms.specs.model.Paths.{pre}
use Rattle.cert_program.specs.cert_rules.Nodes.{Member}
use Rattle.cert_program.specs.cert_rules.Setting.{Setting}
use Rattle.cert_program.specs.cert_rules.ComposedSizes.{poly_at, spread_of}
use Rattle.cert_types.specs.Composing.{spread_over}

-- the size of a spread is the maximum over the rules that can come before its rule, with the polynomial of its place
pub record SpreadsAreOverWhatComesBefore : Type 0 where
  pub each : (s : Setting) (m : Member) (size : ℕ → ℕ → Option Bound)
      → spread_of s m size ≡ spread_over (poly_at s m.result_variable) m.local size (pre s.program m.result_variable.rule)
