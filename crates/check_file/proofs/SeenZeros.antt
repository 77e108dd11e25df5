-- The facts stored at a position are looked at once: after that, a list has each rule whose time is 0 by one of them.
use Rattle.std.proofs.Common.{◌≡◌, ℕ, ◌||◌, eqb, Bool, true, false, cond, List, [], refl, sym, ap, ◌∙◌, subst}
use Rattle.std.specs.List.{list_any}
use Rattle.std.specs.BTreeMap.{is_at}
use Rattle.std.specs.BTreeSet.{BTreeSet, contains}
use Rattle.std.specs.Cmp.{unsigned_tied}
use Rattle.std.specs.Ordering.{nat_cmp}
use Rattle.model.specs.Facts.{Fact}
use Rattle.model.proofs.Membership.{same_number-sound}
use Rattle.cert_context.specs.Statements.{stated_at}
use Rattle.cert_context.specs.declared.stated_facts.StatedFacts.{StatedFacts}
use Rattle.cert_types.specs.cert_rules.Known.{has_zero_time}
use Rattle.check_file.specs.Zeros.{AddsZeros, HasZerosAt}

or-true : (b : Bool) → (b || true) ≡ true
or-true true = refl
or-true false = refl

-- looking at stored facts again adds no rule
pub added-again : (kept : StatedFacts) (seen : BTreeSet ℕ) (cut : List ℕ) (n : ℕ) → HasZerosAt kept seen cut
    → contains nat_cmp seen n ≡ true → AddsZeros cut (stated_at kept n) cut
added-again kept seen cut n h e =
    record { each = λ t. go (list_any (eqb t) cut) (has_zero_time (stated_at kept n) t) (h.each n t e) }
  where
    go : (v w : Bool) → (w ≡ true → v ≡ true) → v ≡ (v || w)
    go true w k = refl
    go false true k = k refl
    go false false k = refl

-- a list to which rules are added keeps those that it had
pub zeros-stay : (kept : StatedFacts) (seen : BTreeSet ℕ) (old new : List ℕ) (fs : List Fact) → HasZerosAt kept seen old
    → AddsZeros old fs new → HasZerosAt kept seen new
zeros-stay kept seen old new fs h k = record {
  each = λ n t e z. k.each t ∙ ap (λ (v : Bool). v || has_zero_time fs t) (h.each n t e z);
}

-- after the facts at one more position were looked at, the list has the rules for that position, too
pub zeros-more : (kept : StatedFacts) (old-seen new-seen : BTreeSet ℕ) (old new : List ℕ) (n : ℕ) → HasZerosAt kept old-seen old
    → AddsZeros old (stated_at kept n) new
    → ((q : ℕ) → contains nat_cmp new-seen q ≡ cond (is_at (nat_cmp n) q) true (contains nat_cmp old-seen q))
    → HasZerosAt kept new-seen new
zeros-more kept old-seen new-seen old new n h k u = record {
  each = λ m t e z. go m t (is_at (nat_cmp n) m) refl (sym (u m) ∙ e) z;
}
  where
    go : (m t : ℕ) (v : Bool) → is_at (nat_cmp n) m ≡ v → cond v true (contains nat_cmp old-seen m) ≡ true
        → has_zero_time (stated_at kept m) t ≡ true → list_any (eqb t) new ≡ true
    go m t true s e z =
        k.each t
        ∙ (ap (λ (v : Bool). list_any (eqb t) old || v)
        (subst (λ (i : ℕ). has_zero_time (stated_at kept i) t ≡ true) (sym (same_number-sound n m (sym (unsigned_tied n m) ∙ s))) z)
        ∙ or-true (list_any (eqb t) old))
    go m t false s e z =
        (zeros-stay kept old-seen old new (stated_at kept n) h k).each m t e z
