-- Statements of reports, as they were worked out by hand.
use Rattle.std.specs.Prelude.{◌≡◌, [], ◌∷◌, Some, None}
use Rattle.model.specs.Bounds.{Constant}
use Rattle.signed_bounds.specs.Bounds as signed
use Rattle.outcome.specs.Reports.{Timed, Untimed, TimeLarge, Sized, Unsized, SizeLarge, Costed, Uncosted, Report}
use Rattle.program_claims.specs.Claims.{ByOne, ByEach, OnTime, Time, Cost, Total, Above, Below}
use Rattle.facts_proof.specs.Statements.{bound_statements}
use Rattle.facts_proof.specs.Entries.{own_statements}

-- a report on three rules: the second has no time, the third has a cost; after the first rule the second place has a
-- size, and after the third its one place
abbrev pub three_rules : Report
three_rules = record {
  times = Timed (Constant 1) ∷ Untimed (TimeLarge 9) ∷ Timed (Constant 4) ∷ [];
  costs = None ∷ None ∷ Some (Costed (Constant 7)) ∷ [];
  total = None;
  sizes = (Unsized (SizeLarge 9) ∷ Sized (Constant 2) ∷ []) ∷ [] ∷ (Sized (Constant 0) ∷ []) ∷ [];
}

pub record StatementsAreWorkedOut : Type 0 where
  -- rules and places have the numbers of their entries, also after entries without a bound
  pub bounds : bound_statements three_rules
      ≡ Time 1 (signed.Constant 1) ∷ Time 3 (signed.Constant 4) ∷ Cost 3 (signed.Constant 7)
      ∷ Above 1 2 (signed.Constant 2) ∷ Below 1 2 (signed.Constant 2)
      ∷ Above 3 1 (signed.Constant 0) ∷ Below 3 1 (signed.Constant 0) ∷ []
  pub total : bound_statements (record { times = []; costs = []; total = Some (Constant 5); sizes = [] })
      ≡ Total (signed.Constant 5) ∷ []
  pub nothing : bound_statements (record {
    times = Untimed (TimeLarge 9) ∷ [];
    costs = Some (Uncosted (SizeLarge 9)) ∷ [];
    total = None;
    sizes = (Unsized (SizeLarge 9) ∷ []) ∷ [];
  }) ≡ []
  -- a claim by one lemma has the lemma's bound, not its own
  pub by_one : own_statements (OnTime 3 (ByOne 2)) ≡ []
  pub by_each : own_statements (OnTime 3 (ByEach (2 ∷ []) (signed.Constant 6))) ≡ Time 3 (signed.Constant 6) ∷ []
