-- A ranking function found with the known bounds is a node that is accepted over these bounds.
use Rattle.std.proofs.Common.{◌≡◌, inl, inr, ℕ, zero, suc, true, List, Option, Some, None, refl, sym, ◌∙◌, ap, subst}
use Rattle.std.proofs.Common.{slice_get}
use Rattle.rule_questions.specs.model.Programs.{Program, Rule}
use Rattle.rule_questions.specs.model.Paths.{IsInSet, target_of, target_in}
use Rattle.rule_questions.proofs.model.Entries.{listed-from}
use Rattle.rule_questions.proofs.model.Membership.{no_is_not_yes}
use Rattle.rule_questions.specs.cert_rules.Nodes.{RankNode}
use Rattle.rule_questions.specs.cert_rules.Known.{IsKnown}
use Rattle.rule_questions.specs.cert_rules.Setting.{Setting}
use Rattle.rule_questions.specs.cert_rules.Limits.{IsSmallComposed}
use Rattle.rule_questions.specs.cert_rules.AcceptsPlain.{IsRule}
use Rattle.rule_questions.specs.cert_rules.AcceptsRank.{AcceptsRank, rank_time}
use Rattle.rule_questions.specs.cert_rules.Gaps.{SymbolPlace}
use Rattle.bound_fixpoint.specs.Keys.{Bounds, lacks, is_untimed, over}
use Rattle.bound_fixpoint.specs.Sets.{IsSetOfRule, AreShutOf}
use Rattle.bound_fixpoint.specs.Right.{IsRanking, IsQuestion}
use Rattle.bound_fixpoint.proofs.EntryBounds.{entry_timed, entry_sized}

-- a number with a target symbol, other than 0, is the number of a rule
pub leading_rule : (p : Program) (u a : ℕ) → target_of p u ≡ Some a → (u ≡ 0 → ⊥) → IsRule p u
leading_rule p zero a leads other = absurd (other refl)
leading_rule p (suc k) a leads other = go (slice_get p.rules k) refl
  where
    go : (o : Option Rule) → slice_get p.rules k ≡ o → IsRule p (suc k)
    go (Some r) e = record { rule = r; numbered = e }
    go None e = absurd (none (ap target_in (sym e) ∙ leads))
      where
        none : None ≡ Some a → ⊥
        none x = cc

module _ (s : Setting) (b : Bounds) (begun : IsKnown (b 0 0)) where
  -- an untimed rule isn't the virtual entry
  not_the_entry : (u : ℕ) → is_untimed b u ≡ true → u ≡ 0 → ⊥
  not_the_entry u untimed e =
      let zero_untimed : is_untimed b 0 ≡ true = subst (λ (n : ℕ). is_untimed b n ≡ true) e untimed in
      no_is_not_yes (is_untimed b 0) (ap lacks begun.1) zero_untimed

  -- the set of a rule is a valid set for a rank question
  pub is_question : (t : ℕ) (set : List ℕ) → IsRule s.program t → IsSetOfRule s.program b t set
      → IsQuestion s.program set t
  is_question t set rule is = record {
    ascending = is.ascending;
    rules = λ u m. member u ((is.members u).0 m);
    inside = (is.members t).1 (inl refl);
  }
    where
      member : (u : ℕ) → IsInSet s.program (is_untimed b) t u → IsRule s.program u
      member u (inl e) = subst (λ (n : ℕ). IsRule s.program n) (sym e) rule
      member u (inr h) = leading_rule s.program u h.from h.leads (not_the_entry u h.untimed)

  -- a node that ranks the rule over its set is accepted if its bound is within the limit on nodes
  pub accepted_rank : (t : ℕ) (set : List ℕ) (shut : List SymbolPlace) (node : RankNode) → IsRanking s set t shut node
      → IsSetOfRule s.program b t set → AreShutOf s.program b set shut → IsSmallComposed s.rewrite
      (rank_time s node (over b))
      → AcceptsRank s (over b) node
  accepted_rank t set shut node r is are small =
      let is_there : IsSetOfRule s.program b t node.set = subst (λ (xs : List ℕ). IsSetOfRule s.program b t xs)
      (sym r.same_set) is in
      let are_there : AreShutOf s.program b node.set shut = subst (λ (xs : List ℕ). AreShutOf s.program b xs shut)
      (sym r.same_set) are in
      record {
        shape = r.shape;
        moves = r.moves;
        floor = r.floor;
        times = λ e h. entry_timed s.program b t node.set is_there e (listed-from s.program node.set e h);
        sizes = λ e h j reads. entry_sized s.program b node.set shut are_there node.forms r.shape.forms r.reads e
            (listed-from s.program node.set e h) j reads;
        small = small;
      }
