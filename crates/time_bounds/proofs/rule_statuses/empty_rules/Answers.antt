use Rattle.std.proofs.Common.{ℕ, ◌+◌, true, false, List, [], ◌∷◌, ◌++◌, filter, Vec, sym, ◌∙◌, ap}
use Rattle.std.specs.List.{range_with_len}
use Rattle.std.specs.declared.alloc.Global.{Global}
use Rattle.std.proofs.lemmas.List.{append-nil}
use Rattle.rank_search.specs.rule_questions.RuleAnswers.{answer_for}
use Rattle.time_bounds.specs.RuleStatuses.{is_said_empty}
use Rattle.time_bounds.proofs.RuleStatusLists.{kept-more, answer-read}
use Rattle.time_bounds.proofs.rule_statuses.empty_rules.Goals as goal
use Rattle.time_bounds.proofs.rule_statuses.empty_rules.Goals.{then-is_empty+in_ok-push, else-is_empty}

pub loop-position-preserved : goal.loop-position-preserved
loop-position-preserved c =
    let i = c.loop-position.position in
    let read = answer-read c.args.empties.now i c.index-empties-position.result c.loop-position-test.true c.index-empties-position.is in
    elim c.if-is_empty.branch [
      | then-is_empty+in_ok-push w ↦
          ap (λ (v : Vec ℕ Global). v.items) w.found-is
          ∙ (w.in_ok-push.ensures.items
          ∙ (ap (λ (xs : List ℕ). xs ++ (i + 1) ∷ []) c.loop-position.invariant
          ∙ sym (kept-more (λ t. is_said_empty (answer_for c.args.empties.now t)) i true
          (read ∙ (sym c.is_empty.ensures ∙ w.if-is_empty.true)))))
      | else-is_empty w ↦
          ap (λ (v : Vec ℕ Global). v.items) w.found-is
          ∙ (c.loop-position.invariant
          ∙ (sym (append-nil (filter (λ t. is_said_empty (answer_for c.args.empties.now t)) (range_with_len 1 i)))
          ∙ sym (kept-more (λ t. is_said_empty (answer_for c.args.empties.now t)) i false
          (read ∙ (sym c.is_empty.ensures ∙ w.if-is_empty.false)))))
    ]
