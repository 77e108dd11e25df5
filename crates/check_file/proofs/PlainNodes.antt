-- The result on a plain node, given the results on its premises.
use Rattle.std.proofs.Common.{◌≡◌, ℕ, zero, suc, ◌<◌, List, [], ◌∷◌, length, map, get_or, refl, sym, ap}
use Rattle.std.proofs.Common.{◌∙◌, subst, arith, Vec}
use Rattle.std.specs.Prelude.{Result, MatchResult}
use Rattle.std.specs.declared.alloc.Global.{Global}
use Rattle.model.specs.Bounds.{Bound, Constant}
use Rattle.model.specs.Facts as plain
use Rattle.model.specs.Facts.{Time}
use Rattle.cert_types.specs.declared.fact.Fact.{Fact}
use Rattle.cert_types.specs.cert_rules.AcceptsPlain.{may_run, never_facts, weakened}
use Rattle.cert_types.specs.cert_rules.Acceptance.{facts_of, facts_of_lemma}
use Rattle.cert_types.specs.cert_rules.Checks.{checks_of, unreached_checks, never_checks, weaken_checks}
use Rattle.cert_types.specs.cert_rules.Nodes.{Proof, Unreached, Never, Weaken, Proofs}
use Rattle.cert_types.specs.cert_rules.Setting.{Setting}
use Rattle.cert_context.specs.declared.stated_facts.StatedFacts.{StatedFacts}
use Rattle.cert_context.specs.declared.stated_facts.PremiseFacts.{PremiseFacts}
use Rattle.cert_context.specs.declared.refusal.NodeFault.{NodeFault}
use Rattle.check_file.specs.Children.{children_of}
use Rattle.check_file.specs.Judging.{IsNodeOf}
use Rattle.cert_context.specs.NodeAnswers.{States}
use Rattle.cert_context.specs.NodeAnswers.{Refuses}
use Rattle.cert_context.specs.Statements.{facts_by, first_by, joined_by, owned_by, past_of}
use Rattle.check_file.proofs.UsedFacts.{joined-uses, first-child}
use Rattle.check_file.proofs.JudgedNodes.{stated}

-- the result on a node is right
abbrev pub Answered : Setting → StatedFacts → Proof → Result PremiseFacts NodeFault → Type 0
Answered s kept q out =
    MatchResult out (λ u. IsNodeOf s kept q u) (λ f. Refuses (checks_of s (past_of kept) q) f)

-- the result on a node's own facts is right
abbrev pub StatedBy : Setting → StatedFacts → Proof → Result (Vec Fact Global) NodeFault → Type 0
StatedBy s kept q r =
    MatchResult r (λ fs. States (checks_of s (past_of kept) q) (facts_of s (past_of kept) q) fs)
    (λ f. Refuses (checks_of s (past_of kept) q) f)

module _ (s : Setting) (kept : StatedFacts) (q : Proof) (r : Result (Vec Fact Global) NodeFault) (out : Result PremiseFacts NodeFault)
    (own : out ≡ owned_by r) where
  -- the result on a node that states facts of its own
  pub node-answer : (x : Proof) → q ≡ x → StatedBy s kept x r → Answered s kept q out
  node-answer x e h =
      subst (Answered s kept q) (sym own) (subst (λ (y : Proof). Answered s kept y (owned_by r)) (sym e) (stated s kept x r h))

  module _ (uses : List PremiseFacts)
      (known : map (facts_by kept) uses ≡ map (facts_of s (past_of kept)) (children_of q)) where
    -- the result on a node on a rule that isn't reached
    pub unreached-node : (t : ℕ) (us : Proofs) → q ≡ Unreached t us
        → MatchResult r (λ fs. States (unreached_checks s (may_run (joined_by kept uses)) t) (Time t (Constant 0) ∷ []) fs)
        (λ f. Refuses (unreached_checks s (may_run (joined_by kept uses)) t) f)
        → Answered s kept q out
    unreached-node t us e h =
        node-answer (Unreached t us) e
        (subst (λ (facts : List plain.Fact).
        MatchResult r (λ fs. States (unreached_checks s (may_run facts) t) (Time t (Constant 0) ∷ []) fs)
        (λ f. Refuses (unreached_checks s (may_run facts) t) f))
        (joined-uses s (past_of kept) kept uses us
        (known ∙ ap (λ (y : Proof). map (facts_of s (past_of kept)) (children_of y)) e)) h)

    -- the facts of the only premise
    only-child : (child : Proof) → children_of q ≡ child ∷ [] → first_by kept uses ≡ facts_of s (past_of kept) child
    only-child child e =
        first-child kept uses (facts_of s (past_of kept) child)
        (known ∙ ap (map (facts_of s (past_of kept))) e)

    -- the result on a node on a rule that never runs
    pub never-node : (child : Proof) (fs : List plain.Fact) → q ≡ Never child → fs ≡ first_by kept uses
        → MatchResult r (λ st. States (never_checks fs) (never_facts s.program fs) st) (λ f. Refuses (never_checks fs) f)
        → Answered s kept q out
    never-node child fs e same h =
        node-answer (Never child) e
        (subst (λ (facts : List plain.Fact).
        MatchResult r (λ st. States (never_checks facts) (never_facts s.program facts) st)
        (λ f. Refuses (never_checks facts) f)) (same ∙ only-child child (ap children_of e)) h)

    -- the result on a node with a weaker bound
    pub weaken-node : (child : Proof) (b : Bound) (fs : List plain.Fact) → q ≡ Weaken child b → fs ≡ first_by kept uses
        → MatchResult r (λ st. States (weaken_checks s fs b) (weakened fs b) st) (λ f. Refuses (weaken_checks s fs b) f)
        → Answered s kept q out
    weaken-node child b fs e same h =
        node-answer (Weaken child b) e
        (subst (λ (facts : List plain.Fact).
        MatchResult r (λ st. States (weaken_checks s facts b) (weakened facts b) st)
        (λ f. Refuses (weaken_checks s facts b) f)) (same ∙ only-child child (ap children_of e)) h)

-- the facts of an earlier lemma are those at its position
pub earlier : (fss : List (List plain.Fact)) (n : ℕ) (d : List plain.Fact) → n < length fss
    → facts_of_lemma fss (suc n) ≡ get_or fss n d
earlier [] n d l = absurd (omega (arith, l))
earlier (fs ∷ fss) zero d l = refl
earlier (fs ∷ fss) (suc n) d l = earlier fss n d (omega (arith, l))
