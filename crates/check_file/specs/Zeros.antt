-- Rules whose time is 0.
use Rattle.std.specs.Prelude.{◌≡◌, ℕ, ◌||◌, eqb, true, List}
use Rattle.std.specs.BTreeSet.{BTreeSet, contains}
use Rattle.std.specs.List.{list_any}
use Rattle.std.specs.Ordering.{nat_cmp}
use Rattle.model.specs.Facts.{Fact}
use Rattle.cert_context.specs.Statements.{stated_at}
use Rattle.cert_context.specs.declared.stated_facts.StatedFacts.{StatedFacts}
use Rattle.cert_types.specs.cert_rules.Known.{has_zero_time}

-- the rules whose time is 0 by one of these facts were added to a list
pub record AddsZeros (old : List ℕ) (facts : List Fact) (new : List ℕ) : Type 0 where
  pub each : (t : ℕ) → list_any (eqb t) new ≡ (list_any (eqb t) old || has_zero_time facts t)

-- a list has exactly the rules whose time is 0 by one of these facts
pub record AreZeros (facts : List Fact) (cut : List ℕ) : Type 0 where
  pub each : (t : ℕ) → list_any (eqb t) cut ≡ has_zero_time facts t

-- a list has each rule whose time is 0 by a fact stored at a position of the set
pub record HasZerosAt (kept : StatedFacts) (seen : BTreeSet ℕ) (cut : List ℕ) : Type 0 where
  pub each : (n t : ℕ) → contains nat_cmp seen n ≡ true → has_zero_time (stated_at kept n) t ≡ true
      → list_any (eqb t) cut ≡ true
