-- A problem that holds a question is proper, and its program agrees with the question's.
use Rattle.std.proofs.Common.{◌≡◌, ℕ, zero, suc, ◌+◌, ◌<◌, ◌≤◌, ◌^◌, ap, arith, refl, sym, ◌∙◌, subst, List, [], ◌∷◌}
use Rattle.std.proofs.Common.{◌++◌, length, map, replicate, length-append}
use Rattle.std.specs.Prelude.{ℤ, pos, ◌≤ℤ◌, slice_get}
use Rattle.std.specs.List.{All}
use Rattle.std.proofs.lemmas.List.{length-replicate}
use Rattle.simplex_core.specs.linear_forms.Forms.{at}
use Rattle.simplex_core.specs.linear_forms.ProgramLaws.{Agree}
use Rattle.simplex_core.specs.linear_forms.Questions.{Question, IsShaped, Equation, no_equation, equations}
use Rattle.simplex_core.specs.linear_forms.Questions.{group_columns, double}
use Rattle.simplex_core.specs.linear_forms.Questions.{on_both, on_plus, program_of_question}
use Rattle.simplex_core.proofs.linear_forms.SolutionLaws.{length-map, lines-fit}
use Rattle.simplex_core.proofs.linear_forms.ColumnLaws.{get_or-map}
use Rattle.simplex_core.proofs.linear_forms.WeightLaws.{sizes-nonneg, heights-nonneg}
use Rattle.simplex_core.specs.declared.problem.Problem.{Problem}
use Rattle.simplex_core.specs.declared.problem.Entry.{Entry}
use Rattle.simplex_core.specs.Problem.{program_of, IsProper, entry_value}
use Rattle.lp_builder.specs.Entries.{entries_of}
use Rattle.lp_builder.specs.Problems.{HoldsQuestion}
use Rattle.lp_builder.proofs.Entries.{lines-value, lines-inside, lines-distinct, each-at, distinct-at}

-- zeros after numbers don't change an element
at-before_zeros : (xs : List ℤ) (n j : ℕ) → at (xs ++ replicate n (pos 0)) j ≡ at xs j
at-before_zeros [] zero j = refl
at-before_zeros [] (suc n) zero = refl
at-before_zeros [] (suc n) (suc j) = at-before_zeros [] n j
at-before_zeros (x ∷ xs) n zero = refl
at-before_zeros (x ∷ xs) n (suc j) = at-before_zeros xs n j

-- two columns for each size
length-both : (cs : List ℕ) → length (on_both cs) ≡ double (length cs)
length-both [] = refl
length-both (c ∷ cs) = ap (λ (n : ℕ). suc (suc n)) (length-both cs)

-- two columns for each height
length-plus : (cs : List ℕ) → length (on_plus cs) ≡ double (length cs)
length-plus [] = refl
length-plus (c ∷ cs) = ap (λ (n : ℕ). suc (suc n)) (length-plus cs)

-- the lines fit into the columns
lines-width : (q : Question) → IsShaped q → All (λ l. length l ≤ double q.parameters + group_columns q.groups) (map (λ e. e.numbers) (equations 0 q.groups))
lines-width q shape k d l =
    subst (λ (xs : List ℤ). length xs ≤ double q.parameters + group_columns q.groups) (sym (get_or-map (λ (e : Equation). e.numbers) (equations 0 q.groups) k d no_equation m))
    (plain _ _ _ (lines-fit q.parameters 0 q.groups shape.groups_are k no_equation m))
  where
    m : k < length (equations 0 q.groups)
    m = omega (arith, l, length-map (λ (e : Equation). e.numbers) (equations 0 q.groups))

    plain : (a b c : ℕ) → a ≤ b + (0 + c) → a ≤ b + c
    plain a b c l = omega arith

-- a problem that holds a question is proper
pub held-proper : (q : Question) (p : Problem) → IsShaped q → HoldsQuestion q p → p.rows < 2 ^ 31 → p.cols < 2 ^ 31 → IsProper p
unfolding program_of
held-proper q p shape h few_rows few_columns = record {
  rows = few_rows;
  columns = few_columns;
  inside = λ k e i. within e (each-at (λ f. (0 ≤ f.row) × (f.row < 0 + length lines) × (f.col < width)) (entries_of 0 lines) k e (lines-inside 0 width lines (lines-width q shape))
      (sym (ap (λ (es : List Entry). slice_get es k) h.entries) ∙ i));
  once = λ k l d e m i j. distinct-at (entries_of 0 lines) k l d e (lines-distinct 0 width lines (lines-width q shape)) m
      (sym (ap (λ (es : List Entry). slice_get es k) h.entries) ∙ i) (sym (ap (λ (es : List Entry). slice_get es l) h.entries) ∙ j);
  right = ap (λ (xs : List ℤ). length xs) h.right ∙ (length-map (λ (e : Equation). e.right) (equations 0 q.groups) ∙ sym h.rows);
  first = ap (λ (xs : List ℤ). length xs) h.first ∙ (costs (on_both q.sizes) (length-both q.sizes ∙ ap double shape.sizes_are) ∙ sym h.columns);
  second = ap (λ (xs : List ℤ). length xs) h.second ∙ (costs (on_plus q.heights) (length-plus q.heights ∙ ap double shape.heights_are) ∙ sym h.columns);
  costs = record {
    first = λ j l. subst (λ (z : ℤ). pos 0 ≤ℤ z) (sym (ap (λ (xs : List ℤ). at xs j) h.first ∙ at-before_zeros (on_both q.sizes) (group_columns q.groups) j)) (sizes-nonneg q.sizes j);
    second = λ j l. subst (λ (z : ℤ). pos 0 ≤ℤ z) (sym (ap (λ (xs : List ℤ). at xs j) h.second ∙ at-before_zeros (on_plus q.heights) (group_columns q.groups) j)) (heights-nonneg q.heights j);
  };
}
  where
    lines : List (List ℤ)
    lines = map (λ (e : Equation). e.numbers) (equations 0 q.groups)

    width : ℕ
    width = double q.parameters + group_columns q.groups

    within : (e : Entry) → (0 ≤ e.row) × (e.row < 0 + length lines) × (e.col < width) → (e.row < p.rows) × (e.col < p.cols)
    within e i = (
      let a = i.1 in let b = h.rows in let m = length-map (λ (e : Equation). e.numbers) (equations 0 q.groups) in omega arith,
      subst (λ (n : ℕ). e.col < n) (sym h.columns) i.2,
    )

    costs : (xs : List ℤ) → length xs ≡ double q.parameters → length (xs ++ replicate (group_columns q.groups) (pos 0)) ≡ double q.parameters + group_columns q.groups
    costs xs e =
        length-append xs (replicate (group_columns q.groups) (pos 0))
        ∙ (ap (λ (n : ℕ). n + length (replicate (group_columns q.groups) (pos 0))) e ∙ ap (λ (n : ℕ). double q.parameters + n) (length-replicate (group_columns q.groups) (pos 0)))

-- its program agrees with the question's
pub held-agrees : (q : Question) (p : Problem) → IsShaped q → HoldsQuestion q p → Agree (program_of p) (program_of_question q)
unfolding program_of program_of_question
held-agrees q p shape h = record {
  rows = h.rows;
  columns = h.columns;
  entry = λ i j l m.
      ap (λ (es : List Entry). entry_value es i j) h.entries
      ∙ (ap (λ (k : ℕ). entry_value (entries_of 0 lines) k j) (none i)
      ∙ (lines-value 0 i j lines ∙ ap (λ (xs : List ℤ). at xs j) (get_or-map (λ (e : Equation). e.numbers) (equations 0 q.groups) i [] no_equation (inside i l))));
  right = λ i l. ap (λ (xs : List ℤ). at xs i) h.right ∙ get_or-map (λ (e : Equation). e.right) (equations 0 q.groups) i (pos 0) no_equation (inside i l);
  first = λ j l. ap (λ (xs : List ℤ). at xs j) h.first ∙ at-before_zeros (on_both q.sizes) (group_columns q.groups) j;
  second = λ j l. ap (λ (xs : List ℤ). at xs j) h.second ∙ at-before_zeros (on_plus q.heights) (group_columns q.groups) j;
}
  where
    lines : List (List ℤ)
    lines = map (λ (e : Equation). e.numbers) (equations 0 q.groups)

    none : (i : ℕ) → i ≡ 0 + i
    none i = omega arith

    inside : (i : ℕ) → i < p.rows → i < length (equations 0 q.groups)
    inside i l = subst (λ (n : ℕ). i < n) h.rows l
