use Rattle.std.proofs.Common.{◌≡◌, ℕ, List, Bool, true, false, inl, inr, refl, sym, subst, slice_index_or}
use Rattle.its_model.specs.Views.{rule_of}
use Rattle.cert_context.specs.CheckContexts.{program}
use Rattle.cert_context.specs.Statements.{joined_by}
use Rattle.check_file.specs.Zeros.{AreZeros}
use Rattle.cert_context.proofs.Rows.{rule-numbered}
use Rattle.check_file.proofs.ZeroRules.{seen-reached, unseen-unreached}
use Rattle.check_file.proofs.unreached.unreached_facts.Goals as goal

pub returns-then-is_set : goal.returns-then-is_set
returns-then-is_set c =
    let g = c.args.context.now in
    let facts = joined_by c.args.kept.now c.args.uses.now in
    let r = c.index.result.now in
    let is = c.is_rule.ensures.0 c.if-not-is_rule.false in
    inr (
      is,
      inl (
        seen-reached (program g) facts c.deref.result.now
            (subst (λ (xs : List ℕ). AreZeros facts xs) (sym c.deref.ensures.value) c.in_ok-cut.ensures)
            c.in_ok-seen.seen.items (c.in_ok-seen.ensures.reached (program g) c.requires.graph) c.args.rule (rule_of r)
            (rule-numbered g.program.now c.args.rule r is c.index.ensures)
            (subst (λ (xs : List Bool). slice_index_or xs r.source false ≡ true) c.deref-2.ensures.value (sym c.if-is_set.ensures)),
        refl,
      ),
    )

pub returns : goal.returns
returns c =
    let g = c.args.context.now in
    let facts = joined_by c.args.kept.now c.args.uses.now in
    let r = c.index.result.now in
    let is = c.is_rule.ensures.0 c.if-not-is_rule.false in
    record {
      passed = (
        is,
        (
          unseen-unreached (program g) facts c.deref.result.now
              (subst (λ (xs : List ℕ). AreZeros facts xs) (sym c.deref.ensures.value) c.in_ok-cut.ensures)
              c.in_ok-seen.seen.items (c.in_ok-seen.ensures.reached (program g) c.requires.graph) c.args.rule (rule_of r)
              (rule-numbered g.program.now c.args.rule r is c.index.ensures)
              (subst (λ (xs : List Bool). slice_index_or xs r.source false ≡ false) c.deref-2.ensures.value
              (sym c.if-is_set.ensures)),
          tt,
        ),
      );
      result_is = c.in_ok-zero_time.ensures;
    }
