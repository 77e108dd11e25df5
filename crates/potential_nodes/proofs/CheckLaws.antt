-- Checks that all hold, and the first that fails.
use Rattle.std.proofs.Common.{◌≡◌, Bool, true, false, List, [], ◌∷◌, Some, None, refl, ap}
use Rattle.potentials.proofs.model.Cases.{none_some, some_none, some_same}
use Rattle.potential_nodes.specs.Checks.{Reason, Check, first_refused, AllHold, IsFirstFailure, RefusalsAreFailures}

-- if no check is refused, all hold
pub all-hold : (checks : List Check) → first_refused checks ≡ None → AllHold checks
all-hold [] h = tt
all-hold (c ∷ checks) h = go c.holds refl (λ k. all-hold checks k)
  where
    go : (v : Bool) → c.holds ≡ v → (first_refused checks ≡ None → AllHold checks) → AllHold (c ∷ checks)
    go true e ih = (e, ih (rw e at h))
    go false e ih = absurd (some_none c.reason (rw e at h))

-- if all checks hold, none is refused
pub none-refused : (checks : List Check) → AllHold checks → first_refused checks ≡ None
none-refused [] h = refl
none-refused (c ∷ checks) (first, others) = rw first (none-refused checks others)

-- a refusal has the reason of the first check that fails
first-failure : (checks : List Check) (reason : Reason) → first_refused checks ≡ Some reason
    → IsFirstFailure checks reason
first-failure [] reason h = absurd (none_some reason h)
first-failure (c ∷ checks) reason h = go c.holds refl (λ k. first-failure checks reason k)
  where
    go : (v : Bool) → c.holds ≡ v → (first_refused checks ≡ Some reason → IsFirstFailure checks reason)
        → IsFirstFailure (c ∷ checks) reason
    go true e ih =
        let later = ih (rw e at h) in
        record {
          before = c ∷ later.before;
          failed = later.failed;
          after = later.after;
          listed = ap (λ (cs : List Check). c ∷ cs) later.listed;
          held = (e, later.held);
          fails = later.fails;
          says = later.says;
        }
    go false e ih = record {
      before = [];
      failed = c;
      after = checks;
      listed = refl;
      held = tt;
      fails = e;
      says = some_same c.reason reason (rw e at h);
    }

pub refusals_are_failures : RefusalsAreFailures
refusals_are_failures = record { holds = all-hold; accepts = none-refused; refuses = first-failure }
