use Rattle.std.proofs.Common.{◌≡◌, ℕ, ◌+◌, List, [], ◌∷◌, ◌++◌, length, map, Option, sym, ◌∙◌, ap, arith}
use Rattle.std.proofs.lemmas.List.{length-map, map-append}
use Rattle.bound_fixpoint.specs.Derivations as plain
use Rattle.bound_derivations.specs.Views.{derivations_of}
use Rattle.time_bounds.specs.declared.asking.AnsweredRankQuestion.{AnsweredRankQuestion}
use Rattle.time_bounds.specs.TriedRules.{kept_in, derivation_in, derivations_in}
use Rattle.time_bounds.proofs.TriedDerivations.{derivations_more}
use Rattle.time_bounds.proofs.new_derivations.part_all.Goals as goal

pub loop-tried-init : goal.loop-tried-init
loop-tried-init c = record { kept = c.new-asked.ensures.items; derivations = ap derivations_of c.new-derivations.ensures.items }

pub loop-tried-preserved : goal.loop-tried-preserved
loop-tried-preserved c =
    let number : c.len.result + 1 ≡ 1 + length c.loop-tried.yielded =
    omega (
      arith,
      c.len.ensures,
      c.loop-tried.asked.ok.0,
      ap (λ (os : List (Option AnsweredRankQuestion)). length os) c.loop-tried.invariant.kept,
      length-map c.loop-tried.yielded kept_in,
    ) in
    record {
      kept =
          c.in_ok-push.ensures.items
          ∙ (ap (λ (os : List (Option AnsweredRankQuestion)). os ++ c.in_ok-question.question ∷ []) c.loop-tried.invariant.kept
          ∙ (ap (λ (o : Option AnsweredRankQuestion). map kept_in c.loop-tried.yielded ++ o ∷ []) c.in_ok-question.ensures.kept
          ∙ sym (map-append kept_in c.loop-tried.yielded (c.in-Some.tried ∷ []))));
      derivations =
          c.in_ok-question.ensures.derivations
          ∙ (ap (λ (fs : List plain.Derivation). fs ++ derivation_in (c.len.result + 1) c.in-Some.tried) c.loop-tried.invariant.derivations
          ∙ (ap (λ (n : ℕ). derivations_in 1 c.loop-tried.yielded ++ derivation_in n c.in-Some.tried) number
          ∙ derivations_more 1 c.loop-tried.yielded c.in-Some.tried));
    }
