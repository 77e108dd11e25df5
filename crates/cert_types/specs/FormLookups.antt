-- The forms of a ranking function, looked up by their symbols.
use Rattle.std.specs.Prelude.{◌≡◌, ℕ, List, map, Some}
use Rattle.std.specs.BTreeMap.{BTreeMap, get}
use Rattle.std.specs.Ordering.{nat_cmp}
use denote.Ref.{Bor}
use Rattle.cert_program.specs.cert_rules.Composed.{rank_form}
use Rattle.cert_types.specs.declared.rank.Form.{Form}
use Rattle.cert_types.specs.Sizes.{form_found}
use Rattle.cert_types.specs.Views.{form_of}

-- at each symbol a map has the first form there
pub record HasForms (forms : List Form) (firsts : BTreeMap ℕ (Bor Form)) : Type 0 where
  pub each : (a : ℕ) → form_found (get nat_cmp firsts a) ≡ rank_form (map form_of forms) (Some a)
