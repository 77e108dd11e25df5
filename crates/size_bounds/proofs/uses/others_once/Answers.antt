use Rattle.std.proofs.Common.{ℕ, ◌==◌, ◌∙◌, ap, sym, List, not, filter, take, get_or}
use Rattle.std.proofs.lemmas.List.{take_more}
use Rattle.bound_fixpoint.specs.Needs.{once}
use Rattle.size_bounds.specs.Lemmas.{with_other}
use Rattle.size_bounds.proofs.UseLists.{others-append}
use Rattle.size_bounds.proofs.uses.others_once.Goals as goal

pub loop-lemma-preserved : goal.loop-lemma-preserved
loop-lemma-preserved c = (
  c.in_ok-push_other.ensures.found
      ∙ (ap (with_other (get_or c.args.lemmas.now c.loop-lemma.lemma-index 0)) c.loop-lemma.invariant.0
      ∙ (others-append (take c.loop-lemma.lemma-index c.args.lemmas.now) (get_or c.args.lemmas.now c.loop-lemma.lemma-index 0)
      ∙ ap (λ (xs : List ℕ). once (filter (λ n. not (n == 0)) xs))
      (sym (take_more c.args.lemmas.now c.loop-lemma.lemma-index 0 c.loop-lemma-test.true)))),
  c.in_ok-push_other.ensures.seen,
)
