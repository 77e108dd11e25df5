use Rattle.std.proofs.Common.{◌≡◌, ℕ, ◌<◌, Some, List, subst, arith, refl}
use Rattle.std.specs.Prelude.{◌≢◌, ℤ, pos, ◌≤ℤ◌, length, slice_get, slice_index_or}
use Rattle.simplex_core.specs.declared.problem.Entry.{Entry}
use Rattle.simplex_core.specs.Problem.{program_of}
use Rattle.sample_questions.proofs.proper.is_proper.Goals as goal

pub returns : goal.returns
unfolding program_of
returns c yes_second =
    let q = c.args.problem.now in
    let first_length = c.if-not-has_lengths.ensures.first refl in
    let second_length = c.if-not-has_lengths.ensures.second refl in record {
      rows = omega arith;
      columns = omega arith;
      inside = subst (λ (xs : List Entry). (k : ℕ) (e : Entry) → slice_get xs k ≡ Some e → (e.row < q.rows) × (e.col < q.cols)) c.as_slice.ensures.value (c.if-not-are_inside.ensures refl);
      once = subst (λ (xs : List Entry). (k l : ℕ) (d e : Entry) → k < l → slice_get xs k ≡ Some d → slice_get xs l ≡ Some e → d.row ≡ e.row → d.col ≢ e.col) c.as_slice-2.ensures.value (c.if-not-are_apart.ensures refl);
      right = c.if-not-has_lengths.ensures.right refl;
      first = first_length;
      second = second_length;
      costs = record {
        first = λ j within. subst (λ (xs : List ℤ). (k : ℕ) → k < length xs → pos 0 ≤ℤ slice_index_or xs k (pos 0)) c.as_slice-3.ensures.value (c.if-not-are_nonnegative.ensures refl) j (omega (arith, within, first_length));
        second = λ j within. subst (λ (xs : List ℤ). (k : ℕ) → k < length xs → pos 0 ≤ℤ slice_index_or xs k (pos 0)) c.as_slice-4.ensures.value (c.are_nonnegative-2.ensures yes_second) j (omega (arith, within, second_length));
      };
    }
