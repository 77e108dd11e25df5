-- Facts that are joined in order and looked up by key: the first that matches counts.
use Rattle.std.specs.Prelude.{◌≡◌, ℕ, ◌++◌, true, List}
use Rattle.std.specs.BTreeSet.{BTreeSet, contains}
use Rattle.std.specs.Ordering.{nat_cmp}
use Rattle.model.specs.Facts.{Fact}
use Rattle.cert_types.specs.cert_rules.Known.{table_of}
use Rattle.cert_context.specs.Statements.{stated_at}
use Rattle.cert_context.specs.declared.stated_facts.StatedFacts.{StatedFacts}

-- the new facts give, by key, the same bounds as the old facts with the others appended
pub record StatesAlso (old others new : List Fact) : Type 0 where
  pub same : table_of new ≡ table_of (old ++ others)

-- the stored facts at the positions of a set change no bound by key when they are appended to these facts
pub record StatesAllAt (kept : StatedFacts) (seen : BTreeSet ℕ) (facts : List Fact) : Type 0 where
  pub each : (n : ℕ) → contains nat_cmp seen n ≡ true → table_of (facts ++ stated_at kept n) ≡ table_of facts
