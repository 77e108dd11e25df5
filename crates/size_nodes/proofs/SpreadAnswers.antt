-- The answers for a place that doesn't loop.
use Rattle.std.proofs.Common.{◌≡◌, inl, inr, ℕ, [], ◌∷◌, Some, None, sym, ap}
use Rattle.model.specs.Bounds.{Bound}
use Rattle.bound_table.specs.InForce.{rewritten}
use Rattle.bound_table.specs.RewriteResult.{Fits, TooLarge, rewritten_within}
use Rattle.cert_types.specs.cert_rules.Nodes.{ResultVariable, Member}
use Rattle.cert_types.specs.cert_rules.Known.{Table}
use Rattle.cert_types.specs.cert_rules.AcceptsSizes.{HasMemberShape, AcceptsUp, AcceptsLow, AcceptsSpread, spread_size}
use Rattle.cert_types.specs.cert_rules.Reasons.{MissingSize, Large, IsFirstAmong}
use Rattle.cert_types.specs.cert_rules.Checks.{large_nodes, check_size, needed_into, spread_checks}
use Rattle.cert_types.proofs.cert_rules.SizeReasons.{passes-spread}
use Rattle.cert_types.proofs.cert_rules.CheckLists.{passes_each}
use Rattle.cert_types.specs.cert_program.Setting.{setting_of}
use Rattle.cert_types.proofs.cert_program.Small.{small-bounds}
use Rattle.model.specs.Programs.{Program}
use Rattle.size_nodes.specs.Needs.{first_missing}
use Rattle.size_nodes.proofs.FirstMissing.{all-known, first-missing, behind-each}

module _ (p : Program) (tab : Table) (m : Member) (shape : HasMemberShape (setting_of p) m)
    (up : AcceptsUp (setting_of p) m) (low : AcceptsLow (setting_of p) m) where
  -- the first size that is missing
  pub is-missing : (result_variable : ResultVariable) → first_missing tab (needed_into (setting_of p) [] (m ∷ [])) ≡ Some result_variable
      → IsFirstAmong (spread_checks (setting_of p) tab m) (MissingSize result_variable.rule result_variable.place)
  is-missing result_variable e = inr (
    shape,
    inr (up, inr (low, first-missing tab (needed_into (setting_of p) [] (m ∷ [])) _ result_variable e)),
  )

  -- if no size is missing, the answer is a bound that is too large
  pub is-large : (n : ℕ) → first_missing tab (needed_into (setting_of p) [] (m ∷ [])) ≡ None
      → rewritten_within (spread_size (setting_of p) tab m) ≡ TooLarge n
      → IsFirstAmong (spread_checks (setting_of p) tab m) (Large n)
  is-large n e h =
      let k = (small-bounds.large (spread_size (setting_of p) tab m) n).0 h in
      inr (
        shape,
        inr (
          up,
          inr (
            low,
            behind-each (check_size tab) (needed_into (setting_of p) [] (m ∷ [])) _ (Large n)
                (all-known tab (needed_into (setting_of p) [] (m ∷ [])) e)
                (inl (k.0, large-told n k.1)),
          ),
        ),
      )
    where
      large-told : (n : ℕ) → n ≡ large_nodes rewritten (spread_size (setting_of p) tab m)
          → Large (large_nodes rewritten (spread_size (setting_of p) tab m)) ≡ Large n
      large-told n e = ap Large (sym e)

  -- otherwise the node is accepted, and states this bound
  pub is-accepted : (b : Bound) → first_missing tab (needed_into (setting_of p) [] (m ∷ [])) ≡ None
      → rewritten_within (spread_size (setting_of p) tab m) ≡ Fits b
      → AcceptsSpread (setting_of p) tab m × (b ≡ rewritten (spread_size (setting_of p) tab m))
  is-accepted b e h =
      let k = (small-bounds.fits (spread_size (setting_of p) tab m) b).0 h in (
        passes-spread (setting_of p) tab m (
          shape,
          (
            up,
            (
              low,
              passes_each (check_size tab) _ (needed_into (setting_of p) [] (m ∷ []))
                  (all-known tab (needed_into (setting_of p) [] (m ∷ [])) e) (k.0, tt),
            ),
          ),
        ),
        k.1,
      )
