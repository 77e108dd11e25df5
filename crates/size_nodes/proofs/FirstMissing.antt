-- The first size that is needed and isn't known, and the first check that fails.
use Rattle.std.proofs.Common.{◌≡◌, inl, inr, List, [], ◌∷◌, Option, Some, None, refl, sym, ap, ◌∙◌}
use Rattle.std.specs.List.{AllByRecursion}
use Rattle.model.specs.Bounds.{Bound}
use Rattle.cert_types.specs.cert_rules.Nodes.{ResultVariable}
use Rattle.cert_types.specs.cert_rules.Known.{Table}
use Rattle.cert_types.specs.cert_rules.Reasons.{Reason, MissingSize, Check, for_each, IsFirstAmong}
use Rattle.cert_types.specs.cert_rules.Checks.{check_size}
use Rattle.cert_types.proofs.cert_rules.FirstReasons.{HasSize}
use Rattle.size_nodes.specs.Needs.{this_or, first_missing}
use Rattle.model.proofs.Cases.{none_some as none-some, some_same as some-same}

-- if the check for each element passes, the first check that fails is the first one after them
pub behind-each : {A : Type 0} (f : A → Check) (xs : List A) (rest : List Check) (r : Reason)
    → AllByRecursion (λ x. (f x).holds) xs → IsFirstAmong rest r → IsFirstAmong (for_each f xs rest) r
behind-each f [] rest r h k = k
behind-each f (x ∷ xs) rest r h k = inr (h.0, behind-each f xs rest r h.1 k)

module _ (tab : Table) where
  -- if no size is missing, all of these sizes are known
  pub all-known : (result_variables : List ResultVariable) → first_missing tab result_variables ≡ None → AllByRecursion (HasSize tab) result_variables
  all-known [] e = tt
  all-known (result_variable ∷ result_variables) e = go (tab.size result_variable.rule result_variable.place) refl e (all-known result_variables)
    where
      go : (o : Option Bound) → tab.size result_variable.rule result_variable.place ≡ o → this_or o result_variable (first_missing tab result_variables) ≡ None
          → (first_missing tab result_variables ≡ None → AllByRecursion (HasSize tab) result_variables)
          → HasSize tab result_variable × AllByRecursion (HasSize tab) result_variables
      go None h k later = absurd (none-some result_variable (sym k))
      go (Some b) h k later = ((b, h), later k)

  -- the first missing size is that of the first check that fails
  pub first-missing : (result_variables : List ResultVariable) (rest : List Check) (result_variable : ResultVariable) → first_missing tab result_variables ≡ Some result_variable
      → IsFirstAmong (for_each (check_size tab) result_variables rest) (MissingSize result_variable.rule result_variable.place)
  first-missing [] rest result_variable e = absurd (none-some result_variable e)
  first-missing (x ∷ xs) rest result_variable e = go (tab.size x.rule x.place) refl e (first-missing xs rest result_variable)
    where
      go : (o : Option Bound) → tab.size x.rule x.place ≡ o → this_or o x (first_missing tab xs) ≡ Some result_variable
          → (first_missing tab xs ≡ Some result_variable
          → IsFirstAmong (for_each (check_size tab) xs rest) (MissingSize result_variable.rule result_variable.place))
          → IsFirstAmong (for_each (check_size tab) (x ∷ xs) rest) (MissingSize result_variable.rule result_variable.place)
      go None h k later =
          inl (
            (λ known. none-some known.0 (sym h ∙ known.1)),
            ap (λ (s : ResultVariable). MissingSize s.rule s.place) (some-same x result_variable k),
          )
      go (Some b) h k later = inr ((b, h), later k)
