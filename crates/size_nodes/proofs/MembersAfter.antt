-- The members that are places after one rule are consecutive.
use Rattle.std.proofs.Common.{◌≡◌, ℕ, zero, suc, ◌+◌, ◌<◌, ◌≤◌, ◌==◌, ◌&&◌, ◌||◌, not, Bool, true, false, List, [], ◌∷◌}
use Rattle.std.proofs.Common.{length, map, filter, take, drop, get_or, inl, inr, refl, sym, ap, subst, ◌∙◌, arith}
use Rattle.std.specs.List.{AllAdjacentBelow, AllWithin, list_any}
use Rattle.std.specs.List.Sorted.{IsNonDecreasingBy}
use Rattle.std.proofs.lemmas.Bool.Decides.{nat_tests}
use Rattle.std.proofs.lemmas.List.Sorted.{IsNonDecreasingBy-from_all_adjacent}
use Rattle.cert_types.specs.cert_rules.Nodes as nodes
use Rattle.cert_types.specs.cert_rules.AcceptsSizes.{AreAscending, ComesBefore}
use Rattle.cert_types.specs.cert_rules.ComposedSizes.{is_member}
use Rattle.size_nodes.specs.Needs.{result_variables_outside}
use Rattle.cert_types.specs.cert_rules.Checks.{result_variables_after}
use Rattle.cert_types.specs.declared.side_bound.Member.{Member}
use Rattle.cert_types.specs.Views.{member_of}

-- a member that comes before another has no greater rule
pub no-greater : (a b : nodes.ResultVariable) → ComesBefore a b → a.rule ≤ b.rule
no-greater a b (inl l) = omega (arith, l)
no-greater a b (inr h) = omega (arith, h.0)

-- the rules of members that ascend don't fall
rules-adjacent : (ms : List Member) → AreAscending (map member_of ms)
    → AllAdjacentBelow (λ (x y : Member). x.result_variable.rule ≤ y.result_variable.rule) ms (length ms)
rules-adjacent [] h k d l = absurd (omega (arith, l))
rules-adjacent (m ∷ []) h k d l = absurd (omega (arith, l))
rules-adjacent (m ∷ n ∷ ms) h zero d l = no-greater (member_of m).result_variable (member_of n).result_variable h.0
rules-adjacent (m ∷ n ∷ ms) h (suc k) d l =
    subst (λ (i : ℕ). (get_or (n ∷ ms) k d).result_variable.rule ≤ (get_or (m ∷ n ∷ ms) i d).result_variable.rule)
    (let e : suc (k + 1) ≡ suc k + 1 = omega arith in e)
    (rules-adjacent (n ∷ ms) h.1 k d (omega (arith, l)))

-- among ascending members none has a lesser rule than one before it
pub rules-ascend : (ms : List Member) → AreAscending (map member_of ms) → IsNonDecreasingBy (λ m. m.result_variable.rule) ms
rules-ascend ms h = IsNonDecreasingBy-from_all_adjacent (λ m. m.result_variable.rule) ms (rules-adjacent ms h)

-- if the elements before a position fail a test, those from there on decide whether one passes
any-drop : (test : nodes.Member → Bool) (xs : List Member) (i : ℕ)
    → AllWithin (λ (m : Member). test (member_of m) ≡ false) xs 0 i
    → list_any test (map member_of (drop i xs)) ≡ list_any test (map member_of xs)
any-drop test [] zero h = refl
any-drop test [] (suc i) h = refl
any-drop test (x ∷ xs) zero h = refl
any-drop test (x ∷ xs) (suc i) h =
    any-drop test xs i (λ k d l m. h (suc k) d (omega arith) (omega (arith, m)))
    ∙ ap (λ (v : Bool). v || list_any test (map member_of xs)) (sym (h zero x (omega arith) (omega arith)))

-- if all elements fail a test, none passes
any-none : (test : nodes.Member → Bool) (xs : List Member) → AllWithin (λ (m : Member). test (member_of m) ≡ false) xs 0 (length xs)
    → false ≡ list_any test (map member_of xs)
any-none test [] h = refl
any-none test (x ∷ xs) h =
    any-none test xs (λ k d l m. h (suc k) d (omega arith) (omega (arith, m)))
    ∙ ap (λ (v : Bool). v || list_any test (map member_of xs)) (sym (h zero x (omega arith) (omega arith)))

-- if the elements from a position on fail a test, those before it decide whether one passes
any-take : (test : nodes.Member → Bool) (xs : List Member) (i : ℕ)
    → AllWithin (λ (m : Member). test (member_of m) ≡ false) xs i (length xs)
    → list_any test (map member_of (take i xs)) ≡ list_any test (map member_of xs)
any-take test [] zero h = refl
any-take test [] (suc i) h = refl
any-take test (x ∷ xs) zero h = any-none test (x ∷ xs) h
any-take test (x ∷ xs) (suc i) h =
    ap (λ (v : Bool). test (member_of x) || v)
    (any-take test xs i (λ k d l m. h (suc k) d (omega (arith, l)) (omega (arith, m))))

-- a place after another rule isn't the one after this one
other-rule : (a b : ℕ) (v : Bool) → ¬ (a ≡ b) → ((a == b) && v) ≡ false
other-rule a b v n = go (a == b) refl
  where
    go : (w : Bool) → (a == b) ≡ w → (w && v) ≡ false
    go true e = absurd (n (grind (arith, nat_tests)))
    go false e = refl

-- if no member is after a rule, no place after that rule is a member
pub none-after : (ms : List Member) (rule j : ℕ) → AllWithin (λ (m : Member). ¬ (m.result_variable.rule ≡ rule)) ms 0 (length ms)
    → is_member (map member_of ms) rule j ≡ false
none-after ms rule j h = sym (any-none (λ m. (m.result_variable.rule == rule) && (m.result_variable.place == suc j)) ms (λ k d l n.
    other-rule (get_or ms k d).result_variable.rule rule ((get_or ms k d).result_variable.place == suc j) (h k d l n)))

-- leaving out members after lesser rules doesn't change which places after this rule are members
pub behind-lesser : (ms : List Member) (rule i : ℕ) → AllWithin (λ (m : Member). m.result_variable.rule < rule) ms 0 i
    → is_member (map member_of (drop i ms)) rule ≡ is_member (map member_of ms) rule
behind-lesser ms rule i h = λ t j. any-drop (λ m. (m.result_variable.rule == rule) && (m.result_variable.place == suc j)) ms i (λ k d l n.
    other-rule (get_or ms k d).result_variable.rule rule ((get_or ms k d).result_variable.place == suc j) (λ e. omega (arith, e, h k d l n))) t

-- members after greater rules don't decide which places after a rule are members
pub before-greater : (ms : List Member) (rule i : ℕ) → AllWithin (λ (m : Member). rule + 1 ≤ m.result_variable.rule) ms i (length ms)
    → is_member (map member_of (take i ms)) rule ≡ is_member (map member_of ms) rule
before-greater ms rule i h = λ t j. any-take (λ m. (m.result_variable.rule == rule) && (m.result_variable.place == suc j)) ms i (λ k d l n.
    other-rule (get_or ms k d).result_variable.rule rule ((get_or ms k d).result_variable.place == suc j) (λ e. omega (arith, e, h k d l n))) t

-- the result variables outside members are those outside the members after the rule
pub outside-same : (xs ms : List nodes.Member) (rule : ℕ) (js : List ℕ) → is_member xs rule ≡ is_member ms rule
    → result_variables_outside xs rule js ≡ result_variables_outside ms rule js
outside-same xs ms rule js e = ap (λ (inside : ℕ → Bool). result_variables_after rule (filter (λ j. not (inside j)) js)) e
