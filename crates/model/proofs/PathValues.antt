-- Proofs of the worked values of paths, sets and entries.
use Rattle.std.proofs.Common.{◌≡◌, ℕ, zero, suc, ◌≤◌, ◌⊎◌, inl, inr, Bool, true, false, Some, None, refl, sym, ◌∙◌, ap}
use Rattle.std.proofs.Common.{arith, [], ◌∷◌, Contains}
use Rattle.model.specs.Programs.{Rule, rule_at}
use Rattle.model.specs.Paths.{Here, Onward, HasEdge, HasPath, any_rule, IsInSet, comes_before}
use Rattle.model.specs.Entries.{IsEntry}
use Rattle.model.specs.Worked.{bare_rule}
use Rattle.model.specs.PathValues.{PathsAreWorkedOut, nested, not_second, last_two}
use Rattle.model.proofs.Cases.{some_same}

-- an edge of the program is by one of its four rules
edge_of : (f : ℕ → Bool) (a b : ℕ) → HasEdge nested f a b
    → ((f 1 ≡ true) × (a ≡ 0) × (b ≡ 1)) ⊎ (((f 2 ≡ true) × (a ≡ 1) × (b ≡ 2)) ⊎ (((f 3 ≡ true) × (a ≡ 2) × (b ≡ 2)) ⊎ ((f 4 ≡ true) × (a ≡ 2) × (b ≡ 1))))
edge_of f a b h = go h.number h.rule h.numbered h.allowed h.source h.target
  where
    go : (t : ℕ) (r : Rule) → rule_at nested t ≡ Some r → f t ≡ true → r.source ≡ a → r.target ≡ b
        → ((f 1 ≡ true) × (a ≡ 0) × (b ≡ 1)) ⊎ (((f 2 ≡ true) × (a ≡ 1) × (b ≡ 2)) ⊎ (((f 3 ≡ true) × (a ≡ 2) × (b ≡ 2)) ⊎ ((f 4 ≡ true) × (a ≡ 2) × (b ≡ 1))))
    go zero r e ok s t = absurd (none_some e)
      where
        none_some : None ≡ Some r → ⊥
        none_some x = cc
    go (suc zero) r e ok s t = let same : bare_rule 0 1 ≡ r = cc in inl (ok, sym s ∙ sym (ap (λ (q : Rule). q.source) same), sym t ∙ sym (ap (λ (q : Rule). q.target) same))
    go (suc (suc zero)) r e ok s t = let same : bare_rule 1 2 ≡ r = cc in inr (inl (ok, sym s ∙ sym (ap (λ (q : Rule). q.source) same), sym t ∙ sym (ap (λ (q : Rule). q.target) same)))
    go (suc (suc (suc zero))) r e ok s t = let same : bare_rule 2 2 ≡ r = cc in inr (inr (inl (ok, sym s ∙ sym (ap (λ (q : Rule). q.source) same), sym t ∙ sym (ap (λ (q : Rule). q.target) same))))
    go (suc (suc (suc (suc zero)))) r e ok s t = let same : bare_rule 2 1 ≡ r = cc in inr (inr (inr (ok, sym s ∙ sym (ap (λ (q : Rule). q.source) same), sym t ∙ sym (ap (λ (q : Rule). q.target) same))))
    go (suc (suc (suc (suc (suc t'))))) r e ok s t = absurd (none_some e)
      where
        none_some : None ≡ Some r → ⊥
        none_some x = cc

-- without rule 2 no path from 0 or 1 leads to 2
stays_low : (f : ℕ → Bool) → f 2 ≡ false → (a b : ℕ) → HasPath nested f a b → a ≤ 1 → b ≤ 1
stays_low f cut a b (Here e) low = omega (arith, e)
stays_low f cut a b (Onward {b = x} p edge) low = go (stays_low f cut a x p low) (edge_of f x b edge)
  where
    go : x ≤ 1 → ((f 1 ≡ true) × (x ≡ 0) × (b ≡ 1)) ⊎ (((f 2 ≡ true) × (x ≡ 1) × (b ≡ 2)) ⊎ (((f 3 ≡ true) × (x ≡ 2) × (b ≡ 2)) ⊎ ((f 4 ≡ true) × (x ≡ 2) × (b ≡ 1)))) → b ≤ 1
    go before (inl (ok, s, t)) = omega (arith, t)
    go before (inr (inl (ok, s, t))) = absurd (different (sym cut ∙ ok))
      where
        different : false ≡ true → ⊥
        different y = cc
    go before (inr (inr (inl (ok, s, t)))) = absurd (omega (arith, s, before))
    go before (inr (inr (inr (ok, s, t)))) = omega (arith, t)

-- no edge leads to 0
no_edge_back : (a b : ℕ) → HasPath nested any_rule a b → 1 ≤ a → 1 ≤ b
no_edge_back a b (Here e) low = omega (arith, e)
no_edge_back a b (Onward {b = x} p edge) low = go (edge_of any_rule x b edge)
  where
    go : ((true ≡ true) × (x ≡ 0) × (b ≡ 1)) ⊎ (((true ≡ true) × (x ≡ 1) × (b ≡ 2)) ⊎ (((true ≡ true) × (x ≡ 2) × (b ≡ 2)) ⊎ ((true ≡ true) × (x ≡ 2) × (b ≡ 1)))) → 1 ≤ b
    go (inl (ok, s, t)) = omega (arith, t)
    go (inr (inl (ok, s, t))) = omega (arith, t)
    go (inr (inr (inl (ok, s, t)))) = omega (arith, t)
    go (inr (inr (inr (ok, s, t)))) = omega (arith, t)

-- rule 4 leads to 1, from which rules 3 and 4 don't lead to 2
not_in_set : IsInSet nested last_two 3 4 → ⊥
not_in_set (inl e) = omega (arith, e)
not_in_set (inr h) =
    let from = some_same 1 h.from h.leads in
    let to = some_same 2 h.to h.leaves in
    omega (arith, from, to, stays_low last_two refl h.from h.to h.path (omega (arith, from)))

-- rule 2 isn't untimed, so it isn't in the set of rule 3
timed : IsInSet nested last_two 3 2 → ⊥
timed (inl e) = omega (arith, e)
timed (inr h) = different h.untimed
  where
    different : false ≡ true → ⊥
    different x = cc

-- a number that a list of one number contains is that number
in_one : (a x : ℕ) → Contains (a ∷ []) x → x ≡ a
in_one a x (zero, low, e) = sym e
in_one a x (suc k, low, e) = absurd (omega (arith, low))

-- rule 1 isn't an entry of the set of rule 3 alone: it doesn't lead to the source of rule 3
not_entry : IsEntry nested (3 ∷ []) 1 → ⊥
not_entry h = different (ap (λ (t : ℕ). comes_before nested 1 t) (sym (in_one 3 h.member h.inside)) ∙ h.before)
  where
    different : comes_before nested 1 3 ≡ true → ⊥
    different x = cc

-- the worked values of paths, sets and entries hold
pub paths_are_worked : PathsAreWorkedOut
paths_are_worked = record {
  entry_target = refl;
  entry_source = refl;
  third_target = refl;
  no_fifth = refl;
  before_first = refl;
  before_second = refl;
  before_third = refl;
  reached = Onward (Onward (Here refl) (record { number = 1; rule = bare_rule 0 1; numbered = refl; allowed = refl; source = refl; target = refl })) (record { number = 2; rule = bare_rule 1 2; numbered = refl; allowed = refl; source = refl; target = refl });
  cut_off = λ p. omega (arith, stays_low not_second refl 0 2 p (omega arith));
  no_way_back = λ p. omega (arith, no_edge_back 1 0 p (omega arith));
  in_set = inr (record { untimed = refl; from = 1; leads = refl; to = 2; leaves = refl; path = Onward (Here refl) (record { number = 2; rule = bare_rule 1 2; numbered = refl; allowed = refl; source = refl; target = refl }) });
  own_set = inl refl;
  not_in_set = not_in_set;
  timed = timed;
  entry = record {
    outside = λ c. omega (arith, in_one 3 2 c);
    member = 3;
    inside = (zero, omega arith, refl);
    before = refl;
  };
  not_entry = not_entry;
  member_no_entry = λ h. h.outside (zero, omega arith, refl);
  listed_entries = refl;
  virtual_entry = refl;
  all_rules = refl;
  no_set = refl;
}
