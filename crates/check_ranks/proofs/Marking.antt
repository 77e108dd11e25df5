-- Marking symbols by their numbers: what has been marked, and what is left.
use Rattle.std.proofs.Common.{◌≡◌, ℕ, ◌+◌, ◌<◌, ◌||◌, Bool, true, false, cond}
use Rattle.std.proofs.Common.{List, [], ◌∷◌, ◌++◌, length, map, filter, get_or, take, Option, Some, None}
use Rattle.std.proofs.Common.{refl, sym, ap, ◌∙◌, arith}
use Rattle.std.specs.List.{range_with_len}
use Rattle.std.proofs.Math.Bool.{or_assoc}
use Rattle.std.proofs.lemmas.List.{length-map}
use Rattle.std.proofs.lemmas.List.Folds.{list_any_more}
use Rattle.poly_terms.specs.model.Programs as plain
use Rattle.poly_terms.specs.model.Paths.{source_of, target_of, same_symbol}
use Rattle.its_model.specs.declared.program.Program.{Program}
use Rattle.its_model.specs.Views.{program_of, symbol_of}
use Rattle.cert_types.specs.cert_rules.Graph.{touches, symbols_of}
use Rattle.std.proofs.lemmas.List.Elements.{filter-append}
use Rattle.std.proofs.lemmas.List.{append-nil}
use Rattle.check_ranks.specs.Marks.{mark, AreMarks}
use Rattle.cert_types.proofs.Numbers.{numbers-more}

-- laws for the numbers of a range that pass a test, with one more number
module _ (test : ℕ → Bool) (a : ℕ) where
  filter-more : (n : ℕ) → filter test (range_with_len a (n + 1))
      ≡ filter test (range_with_len a n) ++ cond (test (a + n)) ((a + n) ∷ []) []
  filter-more n = ap (filter test) (numbers-more a n) ∙ filter-append test (range_with_len a n) ((a + n) ∷ [])

  -- the next number that passes the test is appended to those so far
  pub filter-pushed : (n m : ℕ) → m ≡ a + n → test m ≡ true
      → filter test (range_with_len a (n + 1)) ≡ filter test (range_with_len a n) ++ m ∷ []
  filter-pushed n m e h =
      filter-more n
      ∙ (ap (λ (v : Bool). filter test (range_with_len a n) ++ cond v ((a + n) ∷ []) []) (ap test (sym e) ∙ h)
      ∙ ap (λ (k : ℕ). filter test (range_with_len a n) ++ k ∷ []) (sym e))

  -- a next number that doesn't pass the test leaves those so far as they are
  pub filter-passed : (n m : ℕ) → m ≡ a + n → test m ≡ false
      → filter test (range_with_len a (n + 1)) ≡ filter test (range_with_len a n)
  filter-passed n m e h =
      filter-more n
      ∙ (ap (λ (v : Bool). filter test (range_with_len a n) ++ cond v ((a + n) ∷ []) []) (ap test (sym e) ∙ h)
      ∙ append-nil (filter test (range_with_len a n)))

-- a number that is marked passes the test
pub mark-some : (b : Bool) (n m : ℕ) → Some m ≡ mark b n → (b ≡ true) × (m ≡ n)
mark-some true n m e = (refl, cc)
mark-some false n m e = absurd (differ e)
  where
    differ : Some m ≡ None → ⊥
    differ h = cc

-- a number that isn't marked doesn't pass the test
pub mark-none : (b : Bool) (n : ℕ) → None ≡ mark b n → b ≡ false
mark-none false n e = refl
mark-none true n e = absurd (differ e)
  where
    differ : None ≡ Some n → ⊥
    differ h = cc

-- laws for the marked numbers below n, and the number n
module _ (test : ℕ → Bool) (n : ℕ) (old : List ℕ) (kept : old ≡ filter test (range_with_len 0 n)) where
  -- where the next number is marked, it is one more of the symbols
  pub marked-pushed : (m : ℕ) (new : List ℕ) → Some m ≡ mark (test n) n → new ≡ old ++ m ∷ []
      → new ≡ filter test (range_with_len 0 (n + 1))
  marked-pushed m new e f =
      let h = mark-some (test n) n m e in
      f ∙ (ap (λ (xs : List ℕ). xs ++ m ∷ []) kept
      ∙ (ap (λ (k : ℕ). filter test (range_with_len 0 n) ++ k ∷ []) h.1
      ∙ sym (filter-pushed test 0 n n (let z : n ≡ 0 + n = omega arith in z) h.0)))

  -- where the next number has no mark, the symbols stay as they are
  pub marked-passed : None ≡ mark (test n) n → old ≡ filter test (range_with_len 0 (n + 1))
  marked-passed e =
      kept ∙ sym (filter-passed test 0 n n (let z : n ≡ 0 + n = omega arith in z) (mark-none (test n) n e))

-- the marked numbers below the number of symbols are the symbols of the set
pub symbols-whole : (p : Program) (set found : List ℕ) (n : ℕ) → n ≡ length p.symbols.items
    → found ≡ filter (touches (program_of p) set) (range_with_len 0 n) → found ≡ symbols_of (program_of p) set
symbols-whole p set found n e h =
    h ∙ ap (λ (m : ℕ). filter (touches (program_of p) set) (range_with_len 0 m))
    (let k : n ≡ length (map symbol_of p.symbols.items) = omega (arith, e, length-map p.symbols.items symbol_of) in k)

-- marks by one test are marks by another test that gives the same results
pub marks-by : (f g : ℕ → Bool) (marks : List (Option ℕ)) → ((n : ℕ) → f n ≡ g n) → AreMarks f marks → AreMarks g marks
marks-by f g marks same kept n l = kept n l ∙ ap (λ (b : Bool). mark b n) (same n)

-- the symbols that the rules before the next one and the next one touch
pub touches-more : (p : plain.Program) (rules : List ℕ) (i : ℕ) → i < length rules → (n : ℕ)
    → ((touches p (take i rules) n || same_symbol (Some n) (source_of p (get_or rules i 0)))
    || same_symbol (Some n) (target_of p (get_or rules i 0))) ≡ touches p (take (i + 1) rules) n
touches-more p rules i l n =
    or_assoc (touches p (take i rules) n) (same_symbol (Some n) (source_of p (get_or rules i 0)))
    (same_symbol (Some n) (target_of p (get_or rules i 0)))
    ∙ sym (list_any_more (λ t. same_symbol (Some n) (source_of p t) || same_symbol (Some n) (target_of p t)) rules i 0 l)
