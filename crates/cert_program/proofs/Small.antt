-- The rewriting of a composed bound within the limits agrees with acceptance.
use Rattle.std.proofs.Common.{◌≡◌, ◌↔◌, ℕ, Bool, true, false, if◌then◌else◌, refl, sym, ap, ◌∙◌}
use Rattle.std.proofs.lemmas.Bool.{true≢false}
use Rattle.guard_prep.specs.model.Bounds.{Bound}
use Rattle.bound_table.specs.bound_expr.Measure.{is_large, capped_node_count}
use Rattle.bound_table.specs.InForce.{rewritten}
use Rattle.bound_table.specs.RewriteResult.{Answer, Fits, TooLarge, rewritten_within}
use Rattle.cert_rules.specs.Limits.{IsSmallComposed}
use Rattle.cert_program.specs.Laws.{SmallBoundsAreRewritten}

-- equal answers have equal bounds
fits-same : (b c : Bound) → Fits b ≡ Fits c → c ≡ b
fits-same b c e = sym (back e)
  where
    back : Fits b ≡ Fits c → b ≡ c
    back f = cc

large-same : (m n : ℕ) → TooLarge m ≡ TooLarge n → n ≡ m
large-same m n e = sym (back e)
  where
    back : TooLarge m ≡ TooLarge n → m ≡ n
    back f = cc

not-both : (b : Bound) (n : ℕ) → Fits b ≡ TooLarge n → ⊥
not-both b n e = cc

-- the answer, by whether the bound is large, and whether its rewriting is
abbrev size_answer : Bool → Bool → Bound → Answer
size_answer before after b =
    if before then TooLarge (capped_node_count b) else if after then TooLarge (capped_node_count (rewritten b)) else Fits (rewritten b)

-- true isn't false
refuted : (v : Bool) → v ≡ true → v ≡ false → ⊥
refuted v e f = true≢false (sym e ∙ f)

module _ (b : Bound) where
  fits : (v w : Bool) → is_large b ≡ v → is_large (rewritten b) ≡ w → (r : Bound)
      → (size_answer v w b ≡ Fits r) ↔ (IsSmallComposed rewritten b × (r ≡ rewritten b))
  fits true w e f r = (
    (λ h. absurd (not-both r (capped_node_count b) (sym h))),
    (λ h. absurd (refuted (is_large b) e h.0.before)),
  )
  fits false true e f r = (
    (λ h. absurd (not-both r (capped_node_count (rewritten b)) (sym h))),
    (λ h. absurd (refuted (is_large (rewritten b)) f h.0.after)),
  )
  fits false false e f r = (
    (λ h. (record { before = e; after = f }, fits-same (rewritten b) r h)),
    (λ h. ap Fits (sym h.1)),
  )

  large : (v w : Bool) → is_large b ≡ v → is_large (rewritten b) ≡ w → (n : ℕ)
      → (size_answer v w b ≡ TooLarge n)
      ↔ (¬ (IsSmallComposed rewritten b) × (n ≡ (if v then capped_node_count b else capped_node_count (rewritten b))))
  large true w e f n = (
    (λ h. ((λ small. refuted (is_large b) e small.before), large-same (capped_node_count b) n h)),
    (λ h. ap TooLarge (sym h.1)),
  )
  large false true e f n = (
    (λ h. ((λ small. refuted (is_large (rewritten b)) f small.after), large-same (capped_node_count (rewritten b)) n h)),
    (λ h. ap TooLarge (sym h.1)),
  )
  large false false e f n = (
    (λ h. absurd (not-both (rewritten b) n h)),
    (λ h. absurd (h.0 (record { before = e; after = f }))),
  )

-- rewriting within the limits gives the rewritten bound where it is small, and else how large it is
pub small-bounds : SmallBoundsAreRewritten
unfolding rewritten_within
small-bounds = record {
  fits = λ b r. fits b (is_large b) (is_large (rewritten b)) refl refl r;
  large = λ b n. large b (is_large b) (is_large (rewritten b)) refl refl n;
}
