-- The results on nodes that are checked over the bounds of their premises, by key.
use Rattle.std.proofs.Common.{◌≡◌, List, [], ◌∷◌, map, refl, ap, ◌∙◌, subst, Vec}
use Rattle.std.specs.Prelude.{Result, MatchResult}
use Rattle.std.specs.declared.alloc.Global.{Global}
use Rattle.model.specs.Facts as plain
use Rattle.model.specs.Facts.{Time, Size, Cost}
use Rattle.cert_types.specs.declared.fact.Fact.{Fact}
use Rattle.cert_types.specs.cert_rules.Acceptance.{facts_of, joined_facts}
use Rattle.cert_types.specs.cert_rules.AcceptsCosts.{node_cost}
use Rattle.cert_types.specs.cert_rules.AcceptsRank.{rank_time}
use Rattle.cert_types.specs.cert_rules.AcceptsSizes.{cycle_facts, cycle_size, spread_size}
use Rattle.cert_types.specs.cert_rules.Checks.{cost_checks, cycle_checks, rank_checks, spread_checks}
use Rattle.cert_types.specs.cert_rules.Known.{Table, table_of}
use Rattle.cert_types.specs.cert_rules.Nodes.{Proof, Proofs, Rank, Spread, Cycle, CostBound, RankNode, Member, CostNode}
use Rattle.cert_types.specs.cert_rules.Reasons.{Check}
use Rattle.cert_types.specs.cert_rules.Setting.{Setting}
use Rattle.cert_context.specs.declared.stated_facts.StatedFacts.{StatedFacts}
use Rattle.cert_context.specs.declared.stated_facts.PremiseFacts.{PremiseFacts}
use Rattle.cert_context.specs.declared.refusal.NodeFault.{NodeFault}
use Rattle.cert_context.specs.NodeAnswers.{Refuses, States}
use Rattle.cert_context.specs.Statements.{facts_by, joined_by, owned_by, past_of}
use Rattle.check_file.specs.Children.{children_of, list_of}
use Rattle.check_file.proofs.PlainNodes.{Answered, node-answer}
use Rattle.check_file.proofs.UsedFacts.{joined-uses}

-- the facts that a node states over a table, or the first check that fails
abbrev pub GivenOver : (Table → List Check) → (Table → List plain.Fact) → Table → Result (Vec Fact Global) NodeFault → Type 0
GivenOver checks facts table r =
    MatchResult r (λ fs. States (checks table) (facts table) fs) (λ f. Refuses (checks table) f)

module _ (s : Setting) (kept : StatedFacts) (q : Proof) (r : Result (Vec Fact Global) NodeFault) (out : Result PremiseFacts NodeFault)
    (own : out ≡ owned_by r) (uses : List PremiseFacts)
    (known : map (facts_by kept) uses ≡ map (facts_of s (past_of kept)) (children_of q)) where
  -- checking a node over the table of its premises' joined facts is checking it over the facts of its premises
  over-uses : (checks : Table → List Check) (facts : Table → List plain.Fact) (x : Proof) (us : Proofs) → q ≡ x
      → children_of x ≡ list_of us → GivenOver checks facts (table_of (joined_by kept uses)) r
      → GivenOver checks facts (table_of (joined_facts s (past_of kept) us)) r
  over-uses checks facts x us e c h =
      subst (λ (fs : List plain.Fact). GivenOver checks facts (table_of fs) r)
      (joined-uses s (past_of kept) kept uses us
      (known ∙ (ap (λ (y : Proof). map (facts_of s (past_of kept)) (children_of y)) e ∙ ap (map (facts_of s (past_of kept))) c))) h

  -- the result on a ranking node
  pub rank-node : (n : RankNode) (us : Proofs) → q ≡ Rank n us
      → GivenOver (λ t. rank_checks s t n) (λ t. Time n.rule (s.rewrite (rank_time s n t)) ∷ []) (table_of (joined_by kept uses)) r
      → Answered s kept q out
  rank-node n us e h =
      node-answer s kept q r out own (Rank n us) e
      (over-uses (λ t. rank_checks s t n) (λ t. Time n.rule (s.rewrite (rank_time s n t)) ∷ []) (Rank n us) us e refl h)

  -- the result on a node on the size of a place that doesn't loop
  pub spread-node : (m : Member) (us : Proofs) → q ≡ Spread m us
      → GivenOver (λ t. spread_checks s t m) (λ t. Size m.result_variable.rule m.result_variable.place (s.rewrite (spread_size s t m)) ∷ [])
      (table_of (joined_by kept uses)) r
      → Answered s kept q out
  spread-node m us e h =
      node-answer s kept q r out own (Spread m us) e
      (over-uses (λ t. spread_checks s t m) (λ t. Size m.result_variable.rule m.result_variable.place (s.rewrite (spread_size s t m)) ∷ [])
      (Spread m us) us e refl h)

  -- the result on a node on the sizes of the members of a loop
  pub cycle-node : (ms : List Member) (us : Proofs) → q ≡ Cycle ms us
      → GivenOver (λ t. cycle_checks s t ms) (λ t. cycle_facts (s.rewrite (cycle_size s t ms)) ms)
      (table_of (joined_by kept uses)) r
      → Answered s kept q out
  cycle-node ms us e h =
      node-answer s kept q r out own (Cycle ms us) e
      (over-uses (λ t. cycle_checks s t ms) (λ t. cycle_facts (s.rewrite (cycle_size s t ms)) ms) (Cycle ms us) us e refl h)

  -- the result on a node on the cost of a rule
  pub charge-node : (n : CostNode) (us : Proofs) → q ≡ CostBound n us
      → GivenOver (λ t. cost_checks s t n) (λ t. Cost n.rule (node_cost s t n) ∷ []) (table_of (joined_by kept uses)) r
      → Answered s kept q out
  charge-node n us e h =
      node-answer s kept q r out own (CostBound n us) e
      (over-uses (λ t. cost_checks s t n) (λ t. Cost n.rule (node_cost s t n) ∷ []) (CostBound n us) us e refl h)
