-- A size that is found is accepted after the lemmas that it cites.
use Rattle.std.specs.Prelude.{◌≡◌, List, Vec}
use Rattle.std.specs.declared.alloc.Global.{Global}
use Rattle.model.specs.Facts.{Fact}
use Rattle.cert_types.specs.declared.fact.Fact as code
use Rattle.cert_types.specs.declared.proof.Proof.{Proof}
use Rattle.cert_types.specs.cert_rules.Acceptance.{Accepts, facts_of}
use Rattle.cert_types.specs.cert_rules.Nodes.{Member}
use Rattle.cert_types.specs.cert_rules.Setting.{Setting}
use Rattle.cert_types.specs.Views.{proof_of, facts_of as facts_stated}
use Rattle.bound_fixpoint.specs.Keys.{Bounds}
use Rattle.bound_fixpoint.specs.Stated.{SayBounds}
use Rattle.size_bounds.specs.declared.answer.SizeAnswer.TheVariants as answers
use Rattle.size_bounds.specs.declared.table.Table.{Table}
use Rattle.size_bounds.specs.SizeAnswers.{IsSpreadAnswer, IsCycleAnswer}
use Rattle.size_bounds.specs.Tables.{table_of, bounds_in, number_at}

-- after any lists of lemmas that state only known bounds, and each bound of the table by its number in the table, the
-- node found for a place, or for the members of a loop, is accepted and states the facts found with it
pub record FoundSizesAreAccepted : Type 0 where
  pub spread : (s : Setting) (past : List (List Fact)) (t : Table) (all : Bounds)
      → SayBounds s past (number_at t) (bounds_in t) all → (m : Member) (node : Proof) (facts : Vec code.Fact Global)
      → IsSpreadAnswer s (table_of t) (number_at t) m (answers.Found node facts)
      → Accepts s past (proof_of node) × (facts_of s past (proof_of node) ≡ facts_stated facts.items)
  pub cycle : (s : Setting) (past : List (List Fact)) (t : Table) (all : Bounds)
      → SayBounds s past (number_at t) (bounds_in t) all → (members : List Member) (node : Proof)
      (facts : Vec code.Fact Global) → IsCycleAnswer s (table_of t) (number_at t) members (answers.Found node facts)
      → Accepts s past (proof_of node) × (facts_of s past (proof_of node) ≡ facts_stated facts.items)
