-- Each round gives the number of sets of one more thing; if this is over the limit, so is the number of all sets.
use Rattle.std.proofs.Common.{rules, ◌≡◌, ◌+◌, ℕ, ◌*◌, ◌/◌, ap, arith, sym, ◌∙◌}
use Rattle.bland_end.specs.Counting.{choose}
use Rattle.bland_end.proofs.Binomials.{diagonal-up, next-quotient, limit-none}
use Rattle.bland_end.proofs.counting.count_sets.Goals as goal

-- the recurrence with the numbers as they are stored
read : (m i sets a b d : ℕ) → sets ≡ choose (m + i) i → a ≡ m → b ≡ i + 1 → d ≡ i + 1 → sets * (a + b) / d ≡ choose (m + (i + 1)) (i + 1)
read m i sets a b d h ea eb ed =
    ap (λ k. sets * (k + b) / d) ea
    ∙ (ap (λ k. sets * (m + k) / d) eb ∙ (ap (λ k. sets * (m + (i + 1)) / k) ed ∙ next-quotient m i sets h))

pub returns-then-sets-from : goal.returns-then-sets-from
returns-then-sets-from c =
    let a : c.from.result ≡ c.args.others = search rules in
    let b : c.from-in-loop-taken.result ≡ c.loop-taken.taken + 1 = search rules in
    let d : c.from-in-loop-taken-2.result ≡ c.loop-taken.taken + 1 = search rules in
    let e : c.from-in-loop-taken-3.result ≡ 4294967295 = search rules in
    let sets = read c.args.others c.loop-taken.taken c.loop-taken.sets _ _ _ c.loop-taken.invariant.0 a b d in
    let over = c.if-sets-from.true in
    let more = diagonal-up c.args.others (c.loop-taken.taken + 1) c.args.chosen (omega (arith, c.loop-taken-test.true)) in
    sym (limit-none (choose (c.args.others + c.args.chosen) c.args.chosen) (omega (arith, sets, over, more, e)))

pub loop-taken-preserved : goal.loop-taken-preserved
loop-taken-preserved c =
    let a : c.from.result ≡ c.args.others = search rules in
    let b : c.from-in-loop-taken.result ≡ c.loop-taken.taken + 1 = search rules in
    let d : c.from-in-loop-taken-2.result ≡ c.loop-taken.taken + 1 = search rules in
    let e : c.from-in-loop-taken-3.result ≡ 4294967295 = search rules in
    let few = c.if-sets-from.false in (
      read c.args.others c.loop-taken.taken c.loop-taken.sets _ _ _ c.loop-taken.invariant.0 a b d,
      omega (arith, few, e),
      omega (arith, c.loop-taken-test.true),
    )
