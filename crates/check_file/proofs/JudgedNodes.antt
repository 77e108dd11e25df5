-- From the result on a node to that on the lemma that it ends, and from several parts to one more.
use Rattle.std.proofs.Common.{◌≡◌, ℕ, ◌+◌, ◌<◌, List, [], ◌∷◌, ◌++◌, length, map, take, drop, get_or, sym, ap}
use Rattle.std.proofs.Common.{◌∙◌, subst, arith, Vec}
use Rattle.std.specs.Prelude.{Result, Ok, Err, MatchResult}
use Rattle.std.specs.declared.alloc.Global.{Global}
use Rattle.std.proofs.lemmas.List.{map-append, length-append}
use Rattle.model.specs.Facts as plain
use Rattle.cert_types.specs.AnswerViews.{reason_of}
use Rattle.cert_types.specs.Views.{proof_of}
use Rattle.cert_types.specs.declared.fact.Fact.{Fact}
use Rattle.cert_types.specs.declared.proof.Proof as code
use Rattle.cert_types.specs.cert_rules.Nodes.{Proof}
use Rattle.cert_types.specs.cert_rules.Numbering.{nodes_of}
use Rattle.cert_types.specs.cert_rules.Acceptance.{facts_of, AcceptsNode}
use Rattle.cert_types.specs.cert_rules.Setting.{Setting}
use Rattle.cert_types.specs.cert_rules.Reasons.{AllPass}
use Rattle.cert_types.specs.cert_rules.Checks.{checks_of, IsFirstReason}
use Rattle.cert_types.specs.cert_rules.Refusals.{FailsFirst}
use Rattle.cert_types.proofs.cert_rules.CheckLists.{passed_has_none, each-append}
use Rattle.cert_types.proofs.cert_rules.FirstFailures.{first-after, first-before, first-here}
use Rattle.cert_types.proofs.cert_rules.Deciding.{first-reasons-in-line}
use Rattle.check_file.specs.declared.judging.Judged.{Judged}
use Rattle.check_file.specs.declared.judging.Joined.{Joined}
use Rattle.cert_context.specs.declared.stated_facts.StatedFacts.{StatedFacts}
use Rattle.cert_context.specs.declared.stated_facts.PremiseFacts.{PremiseFacts}
use Rattle.cert_context.specs.declared.refusal.NodeFault.{NodeFault}
use Rattle.cert_context.specs.declared.refusal.NodeFault.TheVariants as node
use Rattle.check_file.specs.declared.refusal.TreeFault.{TreeFault}
use Rattle.check_file.specs.declared.refusal.TreeFault.TheVariants as tree
use Rattle.check_file.specs.Children.{children_of, nodes_in}
use Rattle.check_file.specs.Faults.{at_number}
use Rattle.check_file.specs.Judging.{IsNodeOf, IsWhole, AreWhole}
use Rattle.cert_context.specs.NodeAnswers.{States}
use Rattle.cert_context.specs.NodeAnswers.{Refuses}
use Rattle.check_file.specs.Refusing.{ArePassed, RefusesAmong}
use Rattle.cert_context.specs.Statements.{facts_by, past_of, owned_by}
use Rattle.cert_context.proofs.Cuts.{cut-at}
use Rattle.check_file.proofs.ChildNodes.{nodes-children, count-children, nodes-append, nodes-push}

-- a node whose checks pass is accepted
pub passed-node : (s : Setting) (past : List (List plain.Fact)) (p : Proof) → AllPass (checks_of s past p)
    → AcceptsNode s past p
passed-node s past p h =
    (first-reasons-in-line.none s past p).1 (record { none = passed_has_none (checks_of s past p) h })

module _ (s : Setting) (kept : StatedFacts) where
  -- the facts of a node as its own are those that it states
  pub stated : (p : Proof) (r : Result (Vec Fact Global) NodeFault)
      → MatchResult r (λ fs. States (checks_of s (past_of kept) p) (facts_of s (past_of kept) p) fs)
      (λ f. Refuses (checks_of s (past_of kept) p) f)
      → MatchResult (owned_by r) (λ u. IsNodeOf s kept p u) (λ f. Refuses (checks_of s (past_of kept) p) f)
  stated p (Ok fs) h = record { passed = h.passed; facts = h.result_is; placed = tt }
  stated p (Err f) h = h

  module _ (p : Proof) (before : ℕ) (joined : Joined) (h : AreWhole s kept (children_of p) before joined) where
    -- if the premises of a lemma and its last node are accepted, it is accepted
    pub whole : (used : PremiseFacts) (count : ℕ) → IsNodeOf s kept p used → count ≡ joined.count + 1
        → IsWhole s kept p before (record { stated = used; count = count })
    whole used count k e = record {
      passed = subst (ArePassed s (past_of kept)) (sym (nodes-children p))
          (each-append (AcceptsNode s (past_of kept)) (nodes_in (children_of p)) (p ∷ []) h.passed
          (passed-node s (past_of kept) p k.passed, tt));
      facts = k.facts;
      placed = k.placed;
      count = omega (arith, e, h.count, count-children p);
    }

    -- if the last node of a lemma isn't accepted, the lemma is refused there
    pub refused-here : (fault : NodeFault) → Refuses (checks_of s (past_of kept) p) fault
        → RefusesAmong s (past_of kept) (nodes_of p) before (at_number fault (joined.count + 1))
    refused-here (node.Refused r) k = (
      length (nodes_in (children_of p)) + 1,
      omega (arith, h.count),
      subst (λ (ns : List Proof).
          FailsFirst (AcceptsNode s (past_of kept)) (IsFirstReason s (past_of kept)) ns
          (length (nodes_in (children_of p)) + 1) (reason_of r)) (sym (nodes-children p))
          (first-after (AcceptsNode s (past_of kept)) (IsFirstReason s (past_of kept)) (nodes_in (children_of p)) (p ∷ [])
          1 (reason_of r) h.passed
          (first-here (AcceptsNode s (past_of kept)) (IsFirstReason s (past_of kept)) p [] (reason_of r) k)),
    )
    refused-here node.Memory k = tt

  -- if a premise of a lemma is refused, the lemma is refused there
  pub refused-child : (p : Proof) (before : ℕ) (fault : TreeFault)
      → RefusesAmong s (past_of kept) (nodes_in (children_of p)) before fault
      → RefusesAmong s (past_of kept) (nodes_of p) before fault
  refused-child p before (tree.Refused n r) h = (
    h.0,
    h.1,
    subst (λ (ns : List Proof).
        FailsFirst (AcceptsNode s (past_of kept)) (IsFirstReason s (past_of kept)) ns h.0 (reason_of r))
        (sym (nodes-children p))
        (first-before (AcceptsNode s (past_of kept)) (IsFirstReason s (past_of kept)) (nodes_in (children_of p)) (p ∷ [])
        h.0 (reason_of r) h.2),
  )
  refused-child p before tree.Memory h = tt

  -- accepted parts with one more accepted part are accepted
  pub one-more : (done : List Proof) (q : Proof) (before count : ℕ) (uses more : Vec PremiseFacts Global) (judged : Judged)
      → AreWhole s kept done before (record { uses = uses; count = count }) → IsWhole s kept q count judged
      → more.items ≡ uses.items ++ judged.stated ∷ []
      → AreWhole s kept (done ++ q ∷ []) before (record { uses = more; count = judged.count })
  one-more done q before count uses more judged h k e = record {
    passed = subst (ArePassed s (past_of kept)) (sym (nodes-push done q))
        (each-append (AcceptsNode s (past_of kept)) (nodes_in done) (nodes_of q) h.passed k.passed);
    facts = ap (map (facts_by kept)) e
        ∙ (map-append (facts_by kept) uses.items (judged.stated ∷ [])
        ∙ (ap (λ (fs : List (List plain.Fact)). fs ++ facts_by kept judged.stated ∷ []) h.facts
        ∙ (ap (λ (f : List plain.Fact). map (facts_of s (past_of kept)) done ++ f ∷ []) k.facts
        ∙ sym (map-append (facts_of s (past_of kept)) done (q ∷ [])))));
    count = omega (arith, h.count, k.count, ap length (nodes-push done q), length-append (nodes_in done) (nodes_of q));
  }

  -- if the next part is refused, all parts are refused there
  pub refused-next : (done : List Proof) (q : Proof) (rest all : List Proof) (before count : ℕ) (uses : Vec PremiseFacts Global)
      (fault : TreeFault) → all ≡ done ++ q ∷ rest
      → AreWhole s kept done before (record { uses = uses; count = count })
      → RefusesAmong s (past_of kept) (nodes_of q) count fault → RefusesAmong s (past_of kept) (nodes_in all) before fault
  refused-next done q rest all before count uses (tree.Refused n r) e h k = (
    length (nodes_in done) + k.0,
    omega (arith, k.1, h.count),
    subst (λ (ns : List Proof).
        FailsFirst (AcceptsNode s (past_of kept)) (IsFirstReason s (past_of kept)) ns (length (nodes_in done) + k.0)
        (reason_of r)) (sym (ap nodes_in e ∙ nodes-append done (q ∷ rest)))
        (first-after (AcceptsNode s (past_of kept)) (IsFirstReason s (past_of kept)) (nodes_in done)
        (nodes_of q ++ nodes_in rest) k.0 (reason_of r) h.passed
        (first-before (AcceptsNode s (past_of kept)) (IsFirstReason s (past_of kept)) (nodes_of q) (nodes_in rest) k.0
        (reason_of r) k.2)),
  )
  refused-next done q rest all before count uses tree.Memory e h k = tt

module _ (ps : List code.Proof) (i : ℕ) (x : code.Proof) (l : i < length ps) (e : x ≡ get_or ps i x) where
  -- the nodes of all parts are those of the parts before, of the next one and of the rest
  pub cut-count : length (nodes_in (map proof_of ps))
      ≡ length (nodes_in (map proof_of (take i ps)))
      + (length (nodes_of (proof_of x)) + length (nodes_in (map proof_of (drop (i + 1) ps))))
  cut-count =
      ap length (ap nodes_in (cut-at proof_of ps i x l e)
      ∙ nodes-append (map proof_of (take i ps)) (proof_of x ∷ map proof_of (drop (i + 1) ps)))
      ∙ (length-append (nodes_in (map proof_of (take i ps)))
      (nodes_of (proof_of x) ++ nodes_in (map proof_of (drop (i + 1) ps)))
      ∙ ap (λ (n : ℕ). length (nodes_in (map proof_of (take i ps))) + n)
      (length-append (nodes_of (proof_of x)) (nodes_in (map proof_of (drop (i + 1) ps)))))
