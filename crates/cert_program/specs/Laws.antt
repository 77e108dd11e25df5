-- The settings of valid programs are true of them, and what accepted lemmas prove of such programs.
use Rattle.std.specs.Prelude.{◌≡◌, ◌↔◌, ℕ, ◌≤◌, List, length, All, Some, slice_get}
use Rattle.guard_prep.specs.model.Bounds.{Bound}
use Rattle.guard_prep.specs.model.Programs.{Program, Rule, rule_at}
use Rattle.guard_prep.specs.model.Facts.{Holds}
use Rattle.guard_prep.specs.model.Polynomials.{Polynomial, degree_of}
use Rattle.guard_prep.specs.its_model.Valid.{IsValid}
use Rattle.guard_prep.specs.Prepared.{polys_of}
use Rattle.bound_table.specs.InForce.{rewritten}
use Rattle.bound_table.specs.RewriteResult.{Fits, TooLarge, rewritten_within}
use Rattle.cert_rules.specs.Nodes.{Proof}
use Rattle.cert_rules.specs.Limits.{IsSmallComposed}
use Rattle.cert_rules.specs.Checks.{large_nodes}
use Rattle.cert_rules.specs.Setting.{IsFaithful}
use Rattle.cert_rules.specs.Acceptance.{AcceptsLemmas, facts_of_lemmas}
use Rattle.cert_rules.specs.rule_forms.Ranking.{NoRank}
use Rattle.cert_rules.specs.Gaps.{ProofFile}
use Rattle.cert_rules.specs.Refusals.{AcceptsFile}
use Rattle.cert_rules.specs.Printable.{IsTidying, HasTidyFactNumbers, IsPrintableFact, WritesTidyBounds}
use Rattle.cert_program.specs.Setting.{setting_of}
use Rattle.cert_program.specs.RankedSets.{forms_at, ranked_set}

-- the setting of a valid program is true of it: each step is a point of its rule's rows, each step by a cost rule a
-- point of the cost rows, rewriting keeps values and bases, and a bound that is below another is never greater
pub record SettingsAreFaithful : Type 0 where
  pub each : (p : Program) → IsValid p → IsFaithful (setting_of p)

-- where all lemmas of a list are accepted for a valid program, every fact of every lemma holds on all of its runs,
-- whoever made the lemmas
pub record AcceptedFactsHold : Type 0 where
  pub each : (p : Program) → IsValid p → (proofs : List Proof) → AcceptsLemmas (setting_of p) proofs
      → All (All (Holds p)) (facts_of_lemmas (setting_of p) proofs)

-- a file is accepted for a program
abbrev pub AcceptsFileFor : Program → ProofFile → Type 0
AcceptsFileFor p f = AcceptsFile (setting_of p) (forms_at p) f

-- the forms of a rule in questions have the rows and new values over which nodes are checked
pub record FormsAreThoseOfSettings : Type 0 where
  pub rows : (p : Program) (t : ℕ) → (forms_at p t).rows ≡ (setting_of p).rows t
  pub new_values : (p : Program) (t : ℕ) → (forms_at p t).new_values ≡ (setting_of p).new_values t

-- the claims of a file on a program are true: every fact of every lemma holds on all runs, and no affine function with
-- coefficient 0 at a gap's shut places ranks the gap's strict rule over its set
pub record FileHolds (p : Program) (f : ProofFile) : Type 0 where
  pub facts : All (All (Holds p)) (facts_of_lemmas (setting_of p) f.lemmas)
  pub gaps : All (λ g. NoRank (ranked_set p g.set g.rule g.shut)) f.gaps

-- every file that is accepted for a valid program holds, whoever made it
pub record AcceptedFilesHold : Type 0 where
  pub each : (p : Program) → IsValid p → (f : ProofFile) → AcceptsFileFor p f → FileHolds p f

-- the setting of a valid program makes bounds that can be printed
pub record SettingsAreTidying : Type 0 where
  pub each : (p : Program) → IsValid p → IsTidying (setting_of p)

-- the facts of lemmas that are accepted for a valid program have bounds with tidy numbers over its start arguments
-- alone; and where each bound that the lemmas write is tidy, so is each bound of their facts
pub record AcceptedFactsArePrintable : Type 0 where
  pub numbers : (p : Program) → IsValid p → (proofs : List Proof) → AcceptsLemmas (setting_of p) proofs
      → All (All (HasTidyFactNumbers (length p.start_names))) (facts_of_lemmas (setting_of p) proofs)
  pub tidy : (p : Program) → IsValid p → (proofs : List Proof) → AcceptsLemmas (setting_of p) proofs
      → All WritesTidyBounds proofs
      → All (All (IsPrintableFact (length p.start_names))) (facts_of_lemmas (setting_of p) proofs)

-- the polynomial is the expanded update at a place of the rule, and has degree 2 or more
pub record IsNonlinearUpdate (r : Rule) (i : ℕ) (q : Polynomial) : Type 0 where
  pub update : slice_get (polys_of r) i ≡ Some q
  pub degree : 2 ≤ degree_of q

-- a rule has a polynomial at a place exactly if the expanded update there has degree 2 or more, and it is that
-- update
pub record PolynomialsAreNonlinear : Type 0 where
  pub each : (p : Program) (t : ℕ) (r : Rule) → rule_at p t ≡ Some r → (i : ℕ) (q : Polynomial)
      → ((setting_of p).poly t i ≡ Some q) ↔ IsNonlinearUpdate r i q

-- the rewriting of a bound within the limits agrees with acceptance: it is the rewritten bound exactly if the bound is
-- small, and else the number of nodes that the reason names
pub record SmallBoundsAreRewritten : Type 0 where
  pub fits : (b r : Bound) → (rewritten_within b ≡ Fits r) ↔ (IsSmallComposed rewritten b × (r ≡ rewritten b))
  pub large : (b : Bound) (n : ℕ)
      → (rewritten_within b ≡ TooLarge n) ↔ (¬ (IsSmallComposed rewritten b) × (n ≡ large_nodes rewritten b))
