-- The problem that is built from a builder and costs.
use Rattle.std.proofs.Common.{◌≡◌, ℕ, zero, suc, ◌+◌, ◌*◌, ◌<◌, ◌^◌, ap, arith, refl, sym, ◌∙◌, subst, List, ◌++◌}
use Rattle.std.proofs.Common.{length, map, replicate}
use Rattle.std.specs.Prelude.{pos}
use Rattle.std.specs.List.{All}
use Rattle.simplex_core.specs.linear_forms.Questions.{Group, IsShaped, IsGroupShaped, double, on_both, on_plus}
use Rattle.simplex_core.proofs.linear_forms.SolutionLaws.{length-map}
use Rattle.simplex_core.specs.declared.problem.Problem.{Problem}
use Rattle.lp_builder.specs.declared.builder.Builder.{Builder}
use Rattle.lp_builder.specs.declared.description.Cost.{Cost}
use Rattle.lp_builder.specs.Builders.{AtRowStart, Holds, IsBuilt}
use Rattle.lp_builder.specs.Descriptions.{question_of}
use Rattle.lp_builder.specs.Problems.{HoldsQuestion}
use Rattle.lp_builder.proofs.Problems.{held-proper, held-agrees}

-- doubling is multiplication by 2
pub double-is : (n : ℕ) → double n ≡ 2 * n
double-is zero = refl
double-is (suc n) = let ih = double-is n in omega (arith, ih)

module _ (b : Builder) (costs : List Cost) (p : Problem) (ready : AtRowStart b) (long : length costs ≡ b.parameters) (rows : p.rows ≡ b.writer.row)
    (columns : p.cols ≡ 2 * b.parameters + b.columns) (entries : p.entries.items ≡ b.writer.entries.items) (right : p.right.items ≡ b.right.items)
    (first : p.first.items ≡ on_both (map (λ (c : Cost). c.size) costs) ++ replicate b.columns (pos 0))
    (second : p.second.items ≡ on_plus (map (λ (c : Cost). c.height) costs) ++ replicate b.columns (pos 0)) where
  -- the question of held groups has its shape
  shaped : (gs : List Group) → Holds b gs → IsShaped (question_of costs gs)
  shaped gs h = record {
    groups_are = subst (λ (n : ℕ). All (IsGroupShaped n) gs) (sym long) h.shaped;
    sizes_are = length-map (λ (c : Cost). c.size) costs;
    heights_are = length-map (λ (c : Cost). c.height) costs;
  }

  -- the problem holds this question
  holds : (gs : List Group) → Holds b gs → HoldsQuestion (question_of costs gs) p
  holds gs h = record {
    rows = rows ∙ h.row;
    columns = columns ∙ (ap (λ (n : ℕ). n + b.columns) (sym (double-is b.parameters) ∙ ap double (sym long)) ∙ ap (λ (n : ℕ). double (length costs) + n) h.columns);
    entries = entries ∙ h.entries;
    right = right ∙ h.right;
    first = first ∙ ap (λ (n : ℕ). on_both (map (λ (c : Cost). c.size) costs) ++ replicate n (pos 0)) h.columns;
    second = second ∙ ap (λ (n : ℕ). on_plus (map (λ (c : Cost). c.height) costs) ++ replicate n (pos 0)) h.columns;
  }

  -- the problem satisfies the builder's contract
  pub built : IsBuilt b costs p
  built = record {
    proper = λ gs h. held-proper (question_of costs gs) p (shaped gs h) (holds gs h) (subst (λ (n : ℕ). n < 2 ^ 31) (sym rows) ready.few_rows) (subst (λ (n : ℕ). n < 2 ^ 31) (sym columns) ready.few_columns);
    agrees = λ gs h. held-agrees (question_of costs gs) p (shaped gs h) (holds gs h);
  }
