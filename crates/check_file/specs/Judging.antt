-- The results of checking a node, a part of a lemma, and lemmas.
use Rattle.std.specs.Prelude.{◌≡◌, ℕ, ◌+◌, ◌<◌, ◌≤◌, List, [], ◌∷◌, ◌++◌, length, map, ⊤}
use Rattle.std.specs.List.{AllByRecursion}
use Rattle.model.specs.Programs.{Program}
use Rattle.cert_types.specs.cert_rules.Nodes.{Proof}
use Rattle.cert_types.specs.cert_rules.Numbering.{nodes_of}
use Rattle.cert_types.specs.cert_rules.AcceptsPlain.{start_facts}
use Rattle.cert_types.specs.cert_rules.Acceptance.{facts_of, AcceptsLemmas, facts_of_lemmas}
use Rattle.cert_types.specs.cert_rules.Setting.{Setting}
use Rattle.cert_types.specs.cert_rules.Reasons.{AllPass}
use Rattle.cert_types.specs.cert_rules.Checks.{checks_of}
use Rattle.check_file.specs.declared.judging.Judged.{Judged}
use Rattle.check_file.specs.declared.judging.Joined.{Joined}
use Rattle.cert_context.specs.declared.stated_facts.StatedFacts.{StatedFacts}
use Rattle.cert_context.specs.declared.stated_facts.PremiseFacts.{PremiseFacts}
use Rattle.cert_context.specs.declared.stated_facts.PremiseFacts.TheVariants as by
use Rattle.check_file.specs.Children.{nodes_in}
use Rattle.check_file.specs.Refusing.{ArePassed}
use Rattle.cert_context.specs.Statements.{stated_at, facts_by, past_of}

-- if the facts of a node are stored ones, their position is one of the stored facts
abbrev pub IsPlaced : StatedFacts → PremiseFacts → Type 0
IsPlaced kept (by.StatedFacts n) = n < length kept.stated.items
IsPlaced kept (by.Own facts) = ⊤

-- the stored facts are those of accepted lemmas of a program: at position 0 the facts of its virtual entry, and the
-- facts of each lemma
pub record IsKeptOf (p : Program) (s : Setting) (lemmas : List Proof) (kept : StatedFacts) : Type 0 where
  pub some : 0 < length kept.stated.items
  pub start : stated_at kept 0 ≡ start_facts p
  pub placed : AllByRecursion (λ n. n < length kept.stated.items) kept.lemmas.items
  pub few : length kept.stated.items ≤ length kept.lemmas.items + 1
  pub count : length kept.lemmas.items ≡ length lemmas
  pub accepted : AcceptsLemmas s lemmas
  pub facts : past_of kept ≡ facts_of_lemmas s lemmas

-- the new stored facts have those of one more lemma; the facts stored before keep their positions
pub record IsKeptMore (old : StatedFacts) (used : PremiseFacts) (new : StatedFacts) : Type 0 where
  pub stated : (n : ℕ) → n < length old.stated.items → stated_at new n ≡ stated_at old n
  pub position : ℕ
  pub lemmas : new.lemmas.items ≡ old.lemmas.items ++ position ∷ []
  pub within : position < length new.stated.items
  pub facts : stated_at new position ≡ facts_by old used
  pub grows : length old.stated.items ≤ length new.stated.items
  pub few : length new.stated.items ≤ length old.stated.items + 1

-- a node whose premises are accepted is accepted, and states these facts
pub record IsNodeOf (s : Setting) (kept : StatedFacts) (proof : Proof) (used : PremiseFacts) : Type 0 where
  pub passed : AllPass (checks_of s (past_of kept) proof)
  pub facts : facts_by kept used ≡ facts_of s (past_of kept) proof
  pub placed : IsPlaced kept used

-- a lemma, or a part of one, is accepted, after this many nodes were counted: each of its nodes is accepted, its facts
-- are given, and its nodes are counted
pub record IsWhole (s : Setting) (kept : StatedFacts) (proof : Proof) (before : ℕ) (judged : Judged) : Type 0 where
  pub passed : ArePassed s (past_of kept) (nodes_of proof)
  pub facts : facts_by kept judged.stated ≡ facts_of s (past_of kept) proof
  pub placed : IsPlaced kept judged.stated
  pub count : judged.count ≡ before + length (nodes_of proof)

-- several parts of a lemma are accepted, after this many nodes were counted
pub record AreWhole (s : Setting) (kept : StatedFacts) (proofs : List Proof) (before : ℕ) (joined : Joined) : Type 0 where
  pub passed : ArePassed s (past_of kept) (nodes_in proofs)
  pub facts : map (facts_by kept) joined.uses.items ≡ map (facts_of s (past_of kept)) proofs
  pub count : joined.count ≡ before + length (nodes_in proofs)
