-- Which fault of a gap is the first, from what was found of its shape, its points and its balances.
use Rattle.std.proofs.Common.{◌≡◌, inl, inr, ℕ, List, map, refl, sym, subst}
use Rattle.std.specs.List.{AllByRecursion}
use Rattle.farkas_cert.specs.linear_forms.Forms.{Form}
use Rattle.farkas_cert.specs.model.Programs.{Program}
use Rattle.farkas_cert.specs.declared.scaled.Scaled.{Scaled}
use Rattle.guard_prep.specs.declared.rule_rows.RuleRows.{RuleRows}
use Rattle.cert_types.specs.cert_program.RankedSets.{forms_at}
use Rattle.cert_types.specs.cert_rules.GapChecks.{MoveOff, FloorOff, NotKept, Unbalanced, LosesNothing}
use Rattle.cert_types.specs.cert_rules.GapChecks.{GapHolds, HasGapShape, MeetsAt, IsPointOf, point_of, gap_checks}
use Rattle.cert_types.specs.cert_rules.GapChecks.{check_move, check_kept, check_balance, balanced}
use Rattle.cert_types.specs.cert_rules.Gaps.{ScaledPoint}
use Rattle.cert_types.specs.cert_rules.Reasons.{IsFirstAmong}
use Rattle.cert_types.proofs.cert_rules.CheckLists.{passes_each}
use Rattle.cert_types.proofs.cert_rules.GapsInLine.{passed-holds}
use Rattle.cert_types.specs.declared.gap.Gap.{Gap}
use Rattle.cert_types.specs.AnswerViews.{scaled_of, gap_of}
use Rattle.cert_types.specs.Composing.{AreRowsOf}
use Rattle.gap_checks.specs.GapTests.{forms_by, IsFirstFailing, IsBalanced, coefficient_at}
use Rattle.gap_checks.proofs.GapFaults.{failing-agree, all-agree, first-of-each, behind-each, forms-alike}

module _ (p : Program) (prepared_rules : List RuleRows) (rows : AreRowsOf prepared_rules p) (g : Gap) where
  -- the prepared rows of a rule are its rows in the program, so a point that meets the ones meets the others
  to-program : (t : ℕ) (z : ScaledPoint) → MeetsAt (forms_by prepared_rules t).rows z → MeetsAt (forms_at p t).rows z
  to-program t z h = subst (λ (fs : List Form). MeetsAt fs z) (sym (forms-alike p prepared_rules rows t).rows) h

  from-program : (t : ℕ) (z : ScaledPoint) → MeetsAt (forms_at p t).rows z → MeetsAt (forms_by prepared_rules t).rows z
  from-program t z h = subst (λ (fs : List Form). MeetsAt fs z) (forms-alike p prepared_rules rows t).rows h

  point-program : (t : ℕ) (z : ScaledPoint) → IsPointOf (forms_by prepared_rules t).rows z → IsPointOf (forms_at p t).rows z
  point-program t z h = subst (λ (fs : List Form). IsPointOf fs z) (sym (forms-alike p prepared_rules rows t).rows) h

  point-prepared : (t : ℕ) (z : ScaledPoint) → IsPointOf (forms_at p t).rows z → IsPointOf (forms_by prepared_rules t).rows z
  point-prepared t z h = subst (λ (fs : List Form). IsPointOf fs z) (forms-alike p prepared_rules rows t).rows h

  -- the checks of a rule's move and of its kept point, over the prepared rows and over the rows of the program
  abbrev Moves : List ℕ → List Scaled → ℕ → Type 0
  Moves set zs t = MeetsAt (forms_by prepared_rules t).rows (point_of set (map scaled_of zs) t)

  abbrev Keeps : List ℕ → List Scaled → ℕ → Type 0
  Keeps set zs t = IsPointOf (forms_by prepared_rules t).rows (point_of set (map scaled_of zs) t)

  abbrev MovesRight : ℕ → Type 0
  MovesRight t = MeetsAt (forms_at p t).rows (point_of g.set.items (map scaled_of g.moves.items) t)

  abbrev KeepsRight : ℕ → Type 0
  KeepsRight t = IsPointOf (forms_at p t).rows (point_of g.set.items (map scaled_of g.kept.items) t)

  module _ (shape : HasGapShape p (forms_at p) (gap_of g)) where
    -- the first rule whose move doesn't meet its rows is the first fault
    pub first-move : (xs : List ℕ) (zs : List Scaled) (u : ℕ) → xs ≡ g.set.items → zs ≡ g.moves.items
        → IsFirstFailing (λ t. MeetsAt (forms_by prepared_rules t).rows (point_of xs (map scaled_of zs) t)) xs u
        → IsFirstAmong (gap_checks p (forms_at p) (gap_of g)) (MoveOff u)
    first-move xs zs u e f h = inr (
      shape,
      first-of-each (check_move (forms_at p) (gap_of g)) _ g.set.items u
          (failing-agree (Moves g.set.items g.moves.items) MovesRight
          (λ t. to-program t (point_of g.set.items (map scaled_of g.moves.items) t))
          (λ t. from-program t (point_of g.set.items (map scaled_of g.moves.items) t)) g.set.items u
          (subst (λ (ys : List Scaled). IsFirstFailing (Moves g.set.items ys) g.set.items u) f
          (subst (λ (ts : List ℕ). IsFirstFailing (Moves ts zs) ts u) e h))),
    )

    -- what follows if all moves meet their rows
    module _ (xs : List ℕ) (zs : List Scaled) (xs-are : xs ≡ g.set.items) (zs-are : zs ≡ g.moves.items)
        (moves : AllByRecursion (λ t. MeetsAt (forms_by prepared_rules t).rows (point_of xs (map scaled_of zs) t)) xs) where
      moves-right : AllByRecursion MovesRight g.set.items
      moves-right =
          all-agree (Moves g.set.items g.moves.items) MovesRight
          (λ t. to-program t (point_of g.set.items (map scaled_of g.moves.items) t)) g.set.items
          (subst (λ (ys : List Scaled). AllByRecursion (Moves g.set.items ys) g.set.items) zs-are
          (subst (λ (ts : List ℕ). AllByRecursion (Moves ts zs) ts) xs-are moves))

      -- if all moves meet their rows, a floor that doesn't is the first fault
      pub first-floor : ¬ (MeetsAt (forms_by prepared_rules g.rule).rows (scaled_of g.floor))
          → IsFirstAmong (gap_checks p (forms_at p) (gap_of g)) FloorOff
      first-floor n = inr (
        shape,
        behind-each (check_move (forms_at p) (gap_of g)) _ g.set.items FloorOff moves-right
            (inl ((λ h. n (from-program g.rule (scaled_of g.floor) h)), refl)),
      )

      module _ (floor : MeetsAt (forms_by prepared_rules g.rule).rows (scaled_of g.floor)) where
        -- if the moves and the floor meet their rows, the first kept point that isn't one of its rows is the first
        -- fault
        pub first-kept : (ys : List ℕ) (ks : List Scaled) (u : ℕ) → ys ≡ g.set.items → ks ≡ g.kept.items
            → IsFirstFailing (λ t. IsPointOf (forms_by prepared_rules t).rows (point_of ys (map scaled_of ks) t)) ys u
            → IsFirstAmong (gap_checks p (forms_at p) (gap_of g)) (NotKept u)
        first-kept ys ks u e f h = inr (
          shape,
          behind-each (check_move (forms_at p) (gap_of g)) _ g.set.items (NotKept u) moves-right (inr (
            to-program g.rule (scaled_of g.floor) floor,
            first-of-each (check_kept (forms_at p) (gap_of g)) _ g.set.items u
                (failing-agree (Keeps g.set.items g.kept.items) KeepsRight
                (λ t. point-program t (point_of g.set.items (map scaled_of g.kept.items) t))
                (λ t. point-prepared t (point_of g.set.items (map scaled_of g.kept.items) t)) g.set.items u
                (subst (λ (zs : List Scaled). IsFirstFailing (Keeps g.set.items zs) g.set.items u) f
                (subst (λ (ts : List ℕ). IsFirstFailing (Keeps ts ks) ts u) e h))),
          )),
        )

        -- what follows if, in addition, all kept points are points of their rows
        module _ (ys : List ℕ) (ks : List Scaled) (ys-are : ys ≡ g.set.items) (ks-are : ks ≡ g.kept.items)
            (kept : AllByRecursion (λ t. IsPointOf (forms_by prepared_rules t).rows (point_of ys (map scaled_of ks) t)) ys) where
          kept-right : AllByRecursion KeepsRight g.set.items
          kept-right =
              all-agree (Keeps g.set.items g.kept.items) KeepsRight
              (λ t. point-program t (point_of g.set.items (map scaled_of g.kept.items) t)) g.set.items
              (subst (λ (vs : List Scaled). AllByRecursion (Keeps g.set.items vs) g.set.items) ks-are
              (subst (λ (ts : List ℕ). AllByRecursion (Keeps ts ks) ts) ys-are kept))

          -- if all points are right, the first unbalanced place is the first fault
          pub first-balance : (symbol place : ℕ)
              → IsFirstFailing (IsBalanced p (gap_of g)) (balanced p (gap_of g)) (coefficient_at symbol place)
              → IsFirstAmong (gap_checks p (forms_at p) (gap_of g)) (Unbalanced symbol place)
          first-balance symbol place h = inr (
            shape,
            behind-each (check_move (forms_at p) (gap_of g)) _ g.set.items (Unbalanced symbol place) moves-right (inr (
              to-program g.rule (scaled_of g.floor) floor,
              behind-each (check_kept (forms_at p) (gap_of g)) _ g.set.items (Unbalanced symbol place) kept-right
                  (first-of-each (check_balance (forms_at p) (gap_of g)) _ (balanced p (gap_of g))
                  (coefficient_at symbol place) h),
            )),
          )

          module _ (balances : AllByRecursion (IsBalanced p (gap_of g)) (balanced p (gap_of g))) where
            -- if, in addition, all places are balanced, two denominators that are both 0 are the first fault
            pub first-loss : (point_of g.set.items (map scaled_of g.moves.items) g.rule).den ≡ 0 → g.floor.den ≡ 0
                → IsFirstAmong (gap_checks p (forms_at p) (gap_of g)) LosesNothing
            first-loss d e = inr (
              shape,
              behind-each (check_move (forms_at p) (gap_of g)) _ g.set.items LosesNothing moves-right (inr (
                to-program g.rule (scaled_of g.floor) floor,
                behind-each (check_kept (forms_at p) (gap_of g)) _ g.set.items LosesNothing kept-right
                    (behind-each (check_balance (forms_at p) (gap_of g)) _ (balanced p (gap_of g)) LosesNothing balances
                    (inl ((λ n. n (d, e)), refl))),
              )),
            )

            -- a gap with none of these faults holds
            pub gap-holds : ¬ (((point_of g.set.items (map scaled_of g.moves.items) g.rule).den ≡ 0) × (g.floor.den ≡ 0))
                → GapHolds p (forms_at p) (gap_of g)
            gap-holds loses = passed-holds p (forms_at p) (gap_of g) (
              shape,
              passes_each (check_move (forms_at p) (gap_of g)) _ g.set.items moves-right (
                to-program g.rule (scaled_of g.floor) floor,
                passes_each (check_kept (forms_at p) (gap_of g)) _ g.set.items kept-right
                    (passes_each (check_balance (forms_at p) (gap_of g)) _ (balanced p (gap_of g)) balances (loses, tt)),
              ),
            )
