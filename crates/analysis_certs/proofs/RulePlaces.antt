-- Symbols of rules, and lists of numbers.
use Rattle.std.proofs.Common.{◌≡◌, ℕ, zero, suc, ◌+◌, ◌<◌, ◌≤◌, ◌==◌, ◌||◌, Bool, true, false, List, [], ◌∷◌, length, filter}
use Rattle.std.proofs.Common.{Option, Some, None, refl, sym, ap, ◌∙◌, subst, arith, All}
use Rattle.std.specs.List.{range_with_len}
use Rattle.std.specs.Prelude.{slice_get}
use Rattle.std.proofs.lemmas.Bool.{or_left, or_right}
use Rattle.std.proofs.lemmas.List.Elements.{All-nil, All-cons, All-head, All-tail}
use Rattle.its_model.specs.Valid.{IsValid}
use Rattle.its_model.proofs.ValidLaws.{rule-valid}
use Rattle.model.specs.Entries.{is_in}
use Rattle.model.specs.Paths.{source_of, source_in, target_of, target_in, same_symbol}
use Rattle.model.specs.Programs.{Program, Rule, rule_at}
use Rattle.model.proofs.Cases.{some_none, some_same}
use Rattle.model.proofs.Membership.{no_is_not_yes, same_number, is_in-filter, is_in-numbers, list_any-from}
use Rattle.cert_types.specs.cert_rules.AcceptsPlain.{IsRule}
use Rattle.cert_types.specs.cert_rules.Graph.{touches, symbols_of}

-- a property of each number in a list is one of all
pub all-in : (P : ℕ → Type 0) (xs : List ℕ) → ((t : ℕ) → is_in t xs ≡ true → P t) → All P xs
all-in P [] h = All-nil P
all-in P (x ∷ xs) h =
    All-cons P x xs (h x (or_left (x == x) (is_in x xs) (same_number x)))
    (all-in P xs (λ t m. h t (or_right (t == x) (is_in t xs) m)))

-- a list with a number in it isn't empty
pub some-in : (t : ℕ) (xs : List ℕ) → is_in t xs ≡ true → 1 ≤ length xs
some-in t [] m = absurd (no_is_not_yes false refl m)
some-in t (x ∷ xs) m = omega arith

-- the numbers of a range are below its end
range-below : (a n m : ℕ) → a + n ≤ m → All (λ k. k < m) (range_with_len a n)
range-below a zero m h = All-nil (λ k. k < m)
range-below a (suc n) m h =
    All-cons (λ k. k < m) a (range_with_len (a + 1) n) (omega (arith, h))
    (range-below (a + 1) n m (omega (arith, h)))

-- a property of all numbers is one of those that pass a test
filter-all : (P : ℕ → Type 0) (test : ℕ → Bool) (xs : List ℕ) → All P xs → All P (filter test xs)
filter-all P test [] h = All-nil P
filter-all P test (x ∷ xs) h = go (test x) refl (filter-all P test xs (All-tail P x xs h))
  where
    go : (v : Bool) → test x ≡ v → All P (filter test xs) → All P (filter test (x ∷ xs))
    go true e rest = rw e (All-cons P x (filter test xs) (All-head P x xs h) rest)
    go false e rest = rw e rest

-- the symbols of a set are symbols of the program
pub symbols-below : (p : Program) (set : List ℕ) → All (λ a. a < length p.symbols) (symbols_of p set)
symbols-below p set =
    filter-all (λ a. a < length p.symbols) (touches p set) (range_with_len 0 (length p.symbols))
    (range-below 0 (length p.symbols) (length p.symbols) (omega arith))

-- a set with a rule has a symbol
pub some-symbol : (p : Program) → IsValid p → (set : List ℕ) (t : ℕ) → is_in t set ≡ true → IsRule p t
    → 1 ≤ length (symbols_of p set)
some-symbol p valid set t m rule =
    some-in rule.rule.source (symbols_of p set)
    (is_in-filter (touches p set) (range_with_len 0 (length p.symbols)) rule.rule.source
    (is_in-numbers (length p.symbols) rule.rule.source (rule-valid p t rule.rule valid rule.numbered).source) touched)
  where
    source : source_of p t ≡ Some rule.rule.source
    source = ap source_in rule.numbered

    touched : touches p set rule.rule.source ≡ true
    touched =
        list_any-from (λ u. same_symbol (Some rule.rule.source) (source_of p u) || same_symbol (Some rule.rule.source) (target_of p u))
        set t m
        (or_left (same_symbol (Some rule.rule.source) (source_of p t)) (same_symbol (Some rule.rule.source) (target_of p t))
        (ap (same_symbol (Some rule.rule.source)) source ∙ same_number rule.rule.source))

-- the target of a rule of a valid program, or of the virtual entry, is a symbol of the program
pub target-below : (p : Program) → IsValid p → (e a : ℕ) → target_of p e ≡ Some a → a < length p.symbols
target-below p valid zero a e = subst (λ (n : ℕ). n < length p.symbols) (some_same p.start a e) valid.start
target-below p valid (suc t) a e = go (slice_get p.rules t) refl
  where
    go : (o : Option Rule) → slice_get p.rules t ≡ o → a < length p.symbols
    go None f = absurd (some_none a (sym e ∙ ap target_in f))
    go (Some r) f =
        subst (λ (n : ℕ). n < length p.symbols) (some_same r.target a (sym (ap target_in f) ∙ e)) (rule-valid p (suc t) r valid f).target
