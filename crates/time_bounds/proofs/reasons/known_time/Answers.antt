use Rattle.std.proofs.Common.{◌≡◌, true, false, Option, sym, ap, ◌∙◌, refl}
use denote.Ref.{Bor}
use Rattle.model.proofs.Membership.{no_is_not_yes}
use Rattle.outcome.specs.declared.entry.Stored.{Stored}
use Rattle.bound_fixpoint.specs.Keys.{lacks}
use Rattle.size_bounds.specs.Tables.{optional_stored, bound_stored}
use Rattle.time_bounds.proofs.reasons.known_time.Goals as goal

pub unreachable-requires : goal.unreachable-requires
unreachable-requires c =
    let none : true ≡ false =
    ap (λ (o : Option (Bor Stored)). lacks (bound_stored (optional_stored o))) (sym c.in-None.is)
    ∙ (ap (λ (o : Option Stored). lacks (bound_stored o)) c.stored_time.ensures ∙ c.requires) in
    no_is_not_yes true none refl
