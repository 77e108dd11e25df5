-- Passes: one more part, and passes that change nothing.
use Rattle.std.proofs.Common.{Bool, true, false, cond, ◌≡◌, ℕ, zero, suc, ◌-◌, ◌<◌, List, refl, ap, sym, ◌∙◌, arith}
use Rattle.bound_expr.specs.model.Bounds.{Bound, Parts, NoParts, Part}
use Rattle.bound_expr.specs.Views.{with_part}
use Rattle.bound_expr.proofs.Lists.{parts_of-push, parts_of-take_more}
use Rattle.bound_table.specs.declared.kinds.Case.{Case}
use Rattle.std.specs.Ordering.{is_eq}
use Rattle.bound_table.specs.Comparison.{compared}
use Rattle.bound_table.proofs.TotalOrder.{is_eq-same}
use Rattle.bound_table.specs.Rewriting.{one_pass_each, one_pass, passes_until_same, simplified}

-- passing through parts with one more at the end passes through that part too
pub one_pass_each-with_part : (cs : List Case) (ps : Parts) (p : Bound)
    → one_pass_each cs (with_part ps p) ≡ with_part (one_pass_each cs ps) (one_pass cs p)
unfolding one_pass_each
one_pass_each-with_part cs NoParts p = refl
one_pass_each-with_part cs (Part q qs) p = ap (Part (one_pass cs q)) (one_pass_each-with_part cs qs p)

-- passing through no parts gives no parts
pub one_pass_each-none : (cs : List Case) → one_pass_each cs NoParts ≡ NoParts
unfolding one_pass_each
one_pass_each-none cs = refl

-- rewrites the steps of a loop over the parts
pub ruleset one_pass_each_steps = (one_pass_each-with_part, one_pass_each-none, parts_of-push, parts_of-take_more)

-- n passes, whether they change something or not
unfoldable pub passes : ℕ → List Case → Bound → Bound
passes zero cs b = b
passes (suc n) cs b = passes n cs (one_pass cs b)

-- passes that change nothing may be left out
pub passes-same : (n : ℕ) (cs : List Case) (b : Bound) → one_pass cs b ≡ b → passes n cs b ≡ b
unfolding passes
passes-same zero cs b same = refl
passes-same (suc n) cs b same = ap (passes n cs) same ∙ passes-same n cs b same

-- ending after a pass that changes nothing gives the result of all the passes
passes_until_same-is : (n : ℕ) (cs : List Case) (b : Bound) → passes_until_same n cs b ≡ passes n cs b
unfolding passes_until_same passes
passes_until_same-is zero cs b = refl
passes_until_same-is (suc n) cs b =
    go (is_eq (compared (one_pass cs b) b)) refl (passes_until_same-is n cs (one_pass cs b))
  where
    go : (same : Bool) → is_eq (compared (one_pass cs b) b) ≡ same
        → passes_until_same n cs (one_pass cs b) ≡ passes n cs (one_pass cs b)
        → cond same b (passes_until_same n cs (one_pass cs b)) ≡ passes n cs (one_pass cs b)
    go true is rest =
        let nothing : one_pass cs b ≡ b = is_eq-same (one_pass cs b) b is in
        sym (ap (passes n cs) nothing ∙ passes-same n cs b nothing)
    go false is rest = rest

-- the rewriting has the result of sixteen passes
pub simplified-is : (cs : List Case) (b : Bound) → simplified cs b ≡ passes 16 cs b
unfolding simplified
simplified-is cs b = passes_until_same-is 16 cs b

-- after one more pass, one pass less is to come
pub passes-step : (n : ℕ) (cs : List Case) (b : Bound) → 0 < n → passes n cs b ≡ passes (n - 1) cs (one_pass cs b)
unfolding passes
passes-step zero cs b h = absurd (omega arith)
passes-step (suc n) cs b h = let less : n ≡ suc n - 1 = omega arith in ap (λ (k : ℕ). passes k cs (one_pass cs b)) less

-- a pass that changes nothing ends the rewriting
pub simplified-same : (n : ℕ) (cs : List Case) (b now next : Bound) → 0 < n → passes n cs now ≡ passes 16 cs b
    → next ≡ one_pass cs now
    → next ≡ now → next ≡ simplified cs b
simplified-same n cs b now next h still is same =
    let again : one_pass cs now ≡ now = sym is ∙ same in
    same ∙ sym (passes-same n cs now again) ∙ still ∙ sym (simplified-is cs b)

-- when no pass is left, the current bound is the result of the rewriting
pub simplified-done : (n : ℕ) (cs : List Case) (b now : Bound) → n ≡ 0 → passes n cs now ≡ passes 16 cs b
    → now ≡ simplified cs b
unfolding passes
simplified-done zero cs b now h still = still ∙ sym (simplified-is cs b)
simplified-done (suc n) cs b now h still = absurd (omega arith)
