-- Ranking functions as lists of forms with ascending symbols: the position of the form at a symbol.
use Rattle.std.proofs.Common.{◌≡◌, ℕ, zero, suc, ◌+◌, ◌<◌, ◌≤◌, ◌==◌, Bool, true, false, cond, List, [], ◌∷◌, length, map, filter}
use Rattle.std.proofs.Common.{get_or, Some, refl, sym, ap, ◌∙◌, subst, arith}
use Rattle.std.specs.Prelude.{pos}
use Rattle.std.specs.List.{AllAdjacentBelow, AllByRecursion, AllWithin, range_with_len}
use Rattle.std.specs.List.Sorted.{IsNonDecreasingBy}
use Rattle.std.proofs.lemmas.List.Sorted.{IsNonDecreasingBy-from_all_adjacent}
use Rattle.model.proofs.Membership.{same_number-sound}
use Rattle.poly_terms.specs.linear_forms.Forms.{Form}
use Rattle.poly_terms.specs.linear_forms.RuleQuestions.{constant_form}
use Rattle.cert_types.specs.Views.{form_of, rank_of}
use Rattle.cert_types.specs.declared.rank.Form as code
use Rattle.cert_types.specs.declared.rank.RankNode as code_node
use Rattle.cert_types.specs.cert_rules.AcceptsRank.{HasRankShape}
use Rattle.cert_types.specs.cert_rules.Composed.{rank_form}
use Rattle.cert_types.specs.cert_rules.Graph.{touches}
use Rattle.cert_types.specs.cert_rules.Numbers.{IsAscending}
use Rattle.cert_types.specs.cert_rules.Setting.{Setting}
use Rattle.check_ranks.specs.RankShapes.{symbol_in}
use Rattle.check_ranks.proofs.RankShapes.{shape-symbols}

-- numbers of a range that pass a test are at least the first
from-first : (test : ℕ → Bool) (n a : ℕ) → AllByRecursion (λ m. a ≤ m) (filter test (range_with_len a n))
from-first test zero a = tt
from-first test (suc n) a = go (test a) refl (weaken _ (from-first test n (a + 1)))
  where
    weaken : (ms : List ℕ) → AllByRecursion (λ m. a + 1 ≤ m) ms → AllByRecursion (λ m. a ≤ m) ms
    weaken [] h = tt
    weaken (m ∷ ms) h = (omega (arith, h.0), weaken ms h.1)

    go : (v : Bool) → test a ≡ v → AllByRecursion (λ m. a ≤ m) (filter test (range_with_len (a + 1) n))
        → AllByRecursion (λ m. a ≤ m) (filter test (range_with_len a (suc n)))
    go true e later = rw e (omega arith, later)
    go false e later = rw e later

-- a number less than the numbers of an ascending list, put before it, gives an ascending list
ascending-cons : (x : ℕ) (xs : List ℕ) → AllByRecursion (λ m. x + 1 ≤ m) xs → IsAscending xs → IsAscending (x ∷ xs)
ascending-cons x [] h k = tt
ascending-cons x (y ∷ xs) h k = (omega (arith, h.0), k)

filtered-ascends : (test : ℕ → Bool) (n a : ℕ) → IsAscending (filter test (range_with_len a n))
filtered-ascends test zero a = tt
filtered-ascends test (suc n) a = go (test a) refl (filtered-ascends test n (a + 1))
  where
    go : (v : Bool) → test a ≡ v → IsAscending (filter test (range_with_len (a + 1) n))
        → IsAscending (filter test (range_with_len a (suc n)))
    go true e h = rw e (ascending-cons a (filter test (range_with_len (a + 1) n)) (from-first test n (a + 1)) h)
    go false e h = rw e h

-- the symbols of the forms of a ranking node with the right shape ascend
pub shape-ascends : (s : Setting) (n : code_node.RankNode) → HasRankShape s (rank_of n)
    → IsAscending (map symbol_in n.forms.items)
shape-ascends s n h =
    subst IsAscending (sym (shape-symbols s n h))
    (filtered-ascends (touches s.program n.set.items) (length s.program.symbols) 0)

-- the rest of an ascending list ascends
tail-ascends : (x : ℕ) (xs : List ℕ) → IsAscending (x ∷ xs) → IsAscending xs
tail-ascends x [] h = tt
tail-ascends x (y ∷ xs) h = h.1

-- of forms with ascending symbols each has a symbol of at most the next one's
symbols-adjacent : (fs : List code.Form) → IsAscending (map symbol_in fs)
    → AllAdjacentBelow (λ (f g : code.Form). f.symbol ≤ g.symbol) fs (length fs)
symbols-adjacent [] h k d l = absurd (omega (arith, l))
symbols-adjacent (f ∷ []) h k d l = absurd (omega (arith, l))
symbols-adjacent (f ∷ g ∷ fs) h zero d l = omega (arith, h.0)
symbols-adjacent (f ∷ g ∷ fs) h (suc k) d l =
    subst (λ (i : ℕ). (get_or (g ∷ fs) k d).symbol ≤ (get_or (f ∷ g ∷ fs) i d).symbol)
    (let e : suc (k + 1) ≡ suc k + 1 = omega arith in e)
    (symbols-adjacent (g ∷ fs) h.1 k d (omega (arith, l)))

pub symbols-rise : (fs : List code.Form) → IsAscending (map symbol_in fs) → IsNonDecreasingBy (λ f. f.symbol) fs
symbols-rise fs h = IsNonDecreasingBy-from_all_adjacent (λ f. f.symbol) fs (symbols-adjacent fs h)

-- if the first form is at another symbol, the form at a symbol is that among the rest
passed : (f : code.Form) (a : ℕ) (rest : Form) → ¬ (f.symbol ≡ a) → cond (f.symbol == a) (form_of f).form rest ≡ rest
passed f a rest n = go (f.symbol == a) refl
  where
    go : (v : Bool) → (f.symbol == a) ≡ v → cond v (form_of f).form rest ≡ rest
    go true e = absurd (n (same_number-sound f.symbol a e))
    go false e = refl

-- among forms with greater symbols there is no form at this one
rank-above : (fs : List code.Form) (a b : ℕ) → IsAscending (b ∷ map symbol_in fs) → a ≤ b
    → rank_form (map form_of fs) (Some a) ≡ constant_form (pos 0)
rank-above [] a b h l = refl
rank-above (f ∷ fs) a b h l =
    passed f a (rank_form (map form_of fs) (Some a)) (λ e. omega (arith, e, l, h.0))
    ∙ rank-above fs a f.symbol h.1 (omega (arith, l, h.0))

-- if there is a form at a symbol, it follows the forms of lesser symbols
pub rank-here : (fs : List code.Form) (i : ℕ) (f : code.Form) (a : ℕ) → IsAscending (map symbol_in fs)
    → AllWithin (λ (g : code.Form). g.symbol < a) fs 0 i → i < length fs → f ≡ get_or fs i f → a ≤ f.symbol
    → cond (f.symbol == a) (form_of f).form (constant_form (pos 0)) ≡ rank_form (map form_of fs) (Some a)
rank-here [] i f a h below l e m = absurd (omega (arith, l))
rank-here (g ∷ fs) zero f a h below l e m =
    ap (λ (x : code.Form). cond (x.symbol == a) (form_of x).form (constant_form (pos 0))) e
    ∙ ap (λ (rest : Form). cond (g.symbol == a) (form_of g).form rest)
    (sym (rank-above fs a g.symbol h (subst (λ (x : code.Form). a ≤ x.symbol) e m)))
rank-here (g ∷ fs) (suc i) f a h below l e m =
    rank-here fs i f a (tail-ascends g.symbol (map symbol_in fs) h)
    (λ k d o n. below (suc k) d (omega arith) (omega (arith, n))) (omega (arith, l)) e m
    ∙ sym (passed g a (rank_form (map form_of fs) (Some a))
    (λ k. let first : g.symbol < a = below zero g (omega arith) (omega arith) in omega (arith, k, first)))

-- if all forms have lesser symbols, there is no form at this one
pub rank-past : (fs : List code.Form) (i a : ℕ) → AllWithin (λ (g : code.Form). g.symbol < a) fs 0 i → length fs ≤ i
    → constant_form (pos 0) ≡ rank_form (map form_of fs) (Some a)
rank-past [] i a below l = refl
rank-past (g ∷ fs) zero a below l = absurd (omega (arith, l))
rank-past (g ∷ fs) (suc i) a below l =
    rank-past fs i a (λ k d o n. below (suc k) d (omega arith) (omega (arith, n))) (omega (arith, l))
    ∙ sym (passed g a (rank_form (map form_of fs) (Some a))
    (λ k. let first : g.symbol < a = below zero g (omega arith) (omega arith) in omega (arith, k, first)))
