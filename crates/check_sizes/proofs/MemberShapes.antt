-- Members of the rules of a program: their result variables, and lists of them.
use Rattle.std.proofs.Common.{◌≡◌, ℕ, zero, suc, ◌+◌, ◌-◌, ◌<◌, ◌≤◌, List, [], ◌∷◌, length, map, get_or, Some, None, sym, ap, ◌∙◌, subst}
use Rattle.std.proofs.Common.{arith, ◌⊎◌, inl, inr, nat_eq, false}
use Rattle.std.proofs.lemmas.Bool.{cases_lt as order}
use Rattle.std.proofs.lemmas.List.{get_or_default}
use Rattle.model.specs.Paths.{target_in, target_of}
use Rattle.model.specs.Programs.{Program, Rule, rule_at, arity_of}
use Rattle.model.proofs.Cases.{some_same as some-same}
use Rattle.cert_types.specs.Views.{member_of, result_variable_of}
use Rattle.cert_types.specs.declared.side_bound.Member.{Member}
use Rattle.cert_types.specs.cert_rules.AcceptsPlain.{IsRule}
use Rattle.cert_types.specs.cert_rules.AcceptsSizes.{AreAscending, ComesBefore, IsResultVariable}
use Rattle.cert_types.specs.cert_rules.Nodes.{ResultVariable}

module _ (p : Program) (result_variable : ResultVariable) where
  -- a result variable is a place of the target of its rule
  pub result_variable-is : (r : Rule) → rule_at p result_variable.rule ≡ Some r → 1 ≤ result_variable.place → result_variable.place ≤ arity_of p r.target → IsResultVariable p result_variable
  result_variable-is r e l m = record { rule = r; numbered = e; least = l; most = m }

  -- no other number is a place of the target of its rule
  pub result_variable-most : (r : Rule) → rule_at p result_variable.rule ≡ Some r → IsResultVariable p result_variable → result_variable.place ≤ arity_of p r.target
  result_variable-most r e h =
      subst (λ (q : Rule). result_variable.place ≤ arity_of p q.target) (some-same h.rule r (sym h.numbered ∙ e)) h.most

  -- the rule of a result variable is a rule of the program
  pub result_variable-rule : IsResultVariable p result_variable → IsRule p result_variable.rule
  result_variable-rule h = record { rule = h.rule; numbered = h.numbered }

-- members ascend if each comes before the next
pub ascend-from : (ms : List Member)
    → ((k : ℕ) (d : Member) → suc k < length ms → ComesBefore (result_variable_of (get_or ms k d).result_variable) (result_variable_of (get_or ms (suc k) d).result_variable))
    → AreAscending (map member_of ms)
ascend-from [] h = tt
ascend-from (m ∷ []) h = tt
ascend-from (m ∷ n ∷ rest) h =
    (h 0 m (omega arith), ascend-from (n ∷ rest) (λ k d l. h (suc k) d (omega (arith, l))))

-- of ascending members each comes before the next
pub ascend-at : (ms : List Member) (k : ℕ) (d : Member) → AreAscending (map member_of ms) → suc k < length ms
    → ComesBefore (result_variable_of (get_or ms k d).result_variable) (result_variable_of (get_or ms (suc k) d).result_variable)
ascend-at [] k d a l = absurd (omega (arith, l))
ascend-at (m ∷ []) k d a l = absurd (omega (arith, l))
ascend-at (m ∷ n ∷ rest) zero d a l = a.0
ascend-at (m ∷ n ∷ rest) (suc k) d a l = ascend-at (n ∷ rest) k d a.1 (omega (arith, l))

-- of ascending members each comes before the one at the next position
pub next-at : (ms : List Member) (i : ℕ) (a b : Member) → AreAscending (map member_of ms) → 1 ≤ i → i < length ms
    → a ≡ get_or ms (i - 1) a → b ≡ get_or ms i b → ComesBefore (result_variable_of a.result_variable) (result_variable_of b.result_variable)
next-at ms zero a b h l m e f = absurd (omega (arith, l))
next-at ms (suc k) a b h l m e f =
    subst (λ (x : Member). ComesBefore (result_variable_of x.result_variable) (result_variable_of b.result_variable))
    (sym (e ∙ ap (λ (n : ℕ). get_or ms n a) (let z : suc k - 1 ≡ k = omega arith in z)))
    (subst (λ (y : Member). ComesBefore (result_variable_of (get_or ms k a).result_variable) (result_variable_of y.result_variable))
    (get_or_default ms (suc k) a b m ∙ sym f) (ascend-at ms k a h m))

-- if the members so far ascend, and the last comes before the next, they ascend with the next
pub ascend-more : (ms : List Member) (i : ℕ) (a b : Member) → 1 ≤ i → i < length ms → a ≡ get_or ms (i - 1) a
    → b ≡ get_or ms i b
    → ((k : ℕ) (d : Member) → suc k < i → ComesBefore (result_variable_of (get_or ms k d).result_variable) (result_variable_of (get_or ms (suc k) d).result_variable))
    → ComesBefore (result_variable_of a.result_variable) (result_variable_of b.result_variable) → (k : ℕ) (d : Member) → suc k < i + 1
    → ComesBefore (result_variable_of (get_or ms k d).result_variable) (result_variable_of (get_or ms (suc k) d).result_variable)
ascend-more ms i a b l m e f h c k d n = go (order (suc k) i)
  where
    go : (suc k < i) ⊎ (i ≤ suc k) → ComesBefore (result_variable_of (get_or ms k d).result_variable) (result_variable_of (get_or ms (suc k) d).result_variable)
    go (inl o) = h k d o
    go (inr o) =
        let here : suc k ≡ i = omega (arith, n, o) in
        let before : i - 1 ≡ k = omega (arith, n, o) in
        let low : k < length ms = omega (arith, n, m) in
        subst (λ (y : Member). ComesBefore (result_variable_of (get_or ms k d).result_variable) (result_variable_of y.result_variable))
        (f ∙ (ap (λ (j : ℕ). get_or ms j b) (sym here) ∙ get_or_default ms (suc k) b d (omega (arith, here, m))))
        (subst (λ (x : Member). ComesBefore (result_variable_of x.result_variable) (result_variable_of b.result_variable))
        (e ∙ (ap (λ (j : ℕ). get_or ms j a) before ∙ get_or_default ms k a d low)) c)

-- the target of a rule is where it leads to
pub target-is : (p : Program) (t : ℕ) (r : Rule) → rule_at p t ≡ Some r → target_of p t ≡ Some r.target
target-is p zero r e = absurd (none e)
  where
    none : None ≡ Some r → ⊥
    none k = cc
target-is p (suc t) r e = ap target_in e

module _ (p : Program) (result_variable : ResultVariable) (is : IsRule p result_variable.rule) where
  -- a result variable of a rule with this target is a place of it, and no other number is
  pub result_variable-at : (target : ℕ) → Some target ≡ target_of p result_variable.rule → (1 ≤ result_variable.place) × (result_variable.place ≤ arity_of p target)
      → IsResultVariable p result_variable
  result_variable-at target e h =
      result_variable-is p result_variable is.rule is.numbered h.0
      (subst (λ (a : ℕ). result_variable.place ≤ arity_of p a)
      (some-same target is.rule.target (e ∙ target-is p result_variable.rule is.rule is.numbered)) h.1)

  pub result_variable-of-target : (target : ℕ) → Some target ≡ target_of p result_variable.rule → IsResultVariable p result_variable
      → (1 ≤ result_variable.place) × (result_variable.place ≤ arity_of p target)
  result_variable-of-target target e h = (
    h.least,
    subst (λ (a : ℕ). result_variable.place ≤ arity_of p a)
        (some-same h.rule.target target (sym (e ∙ target-is p result_variable.rule h.rule h.numbered))) h.most,
  )

  -- a rule of the program has a target
  pub no-target : None ≡ target_of p result_variable.rule → ⊥
  no-target e = differ (e ∙ target-is p result_variable.rule is.rule is.numbered)
    where
      differ : None ≡ Some is.rule.target → ⊥
      differ k = cc

-- a list of members that isn't empty has at least one
pub some-there : (ms : List Member) → nat_eq (length ms) 0 ≡ false → 1 ≤ length (map member_of ms)
some-there [] e = absurd (let no : ⊥ = cc in no)
some-there (m ∷ ms) e = omega arith
