-- Listing symbols by their marks: those so far, and the remaining ones.
use Rattle.std.proofs.Common.{◌≡◌, ℕ, ◌+◌, ◌<◌, ◌||◌, Bool, true, false}
use Rattle.std.proofs.Common.{List, [], ◌∷◌, ◌++◌, length, map, filter, get_or, take, Option, Some, None}
use Rattle.std.proofs.Common.{is_some, refl, sym, ap, ◌∙◌, arith}
use Rattle.std.specs.List.{range_with_len}
use Rattle.std.proofs.Math.Bool.{or_assoc}
use Rattle.std.proofs.lemmas.List.{length-map}
use Rattle.std.proofs.lemmas.List.Folds.{list_any_more}
use Rattle.poly_terms.specs.model.Programs as plain
use Rattle.poly_terms.specs.model.Paths.{source_of, target_of, same_symbol}
use Rattle.its_model.specs.declared.program.Program.{Program}
use Rattle.its_model.specs.Views.{program_of, symbol_of}
use Rattle.cert_types.specs.cert_rules.Graph.{touches, symbols_of}
use Rattle.rule_questions.proofs.Filters.{filter-pushed, filter-passed}
use Rattle.rank_search.specs.Marks.{mark, AreMarks}
use Rattle.cert_types.proofs.Numbers.{numbers-more}

-- a number with a mark passes the test
pub mark-some : (b : Bool) (n m : ℕ) → Some m ≡ mark b n → (b ≡ true) × (m ≡ n)
mark-some true n m e = (refl, cc)
mark-some false n m e = absurd (differ e)
  where
    differ : Some m ≡ None → ⊥
    differ h = cc

-- a number without a mark doesn't pass the test
pub mark-none : (b : Bool) (n : ℕ) → None ≡ mark b n → b ≡ false
mark-none false n e = refl
mark-none true n e = absurd (differ e)
  where
    differ : None ≡ Some n → ⊥
    differ h = cc

-- the symbols so far and the next number, which is one of them or not
module _ (test : ℕ → Bool) (n : ℕ) (old : List ℕ) (kept : old ≡ filter test (range_with_len 0 n)) where
  -- where the next number is marked, it is one more of the symbols
  pub marked-pushed : (m : ℕ) (new : List ℕ) → Some m ≡ mark (test n) n → new ≡ old ++ m ∷ []
      → new ≡ filter test (range_with_len 0 (n + 1))
  marked-pushed m new e f =
      let h = mark-some (test n) n m e in
      f ∙ (ap (λ (xs : List ℕ). xs ++ m ∷ []) kept
      ∙ (ap (λ (k : ℕ). filter test (range_with_len 0 n) ++ k ∷ []) h.1
      ∙ sym (filter-pushed test 0 n n (let z : n ≡ 0 + n = omega arith in z) h.0)))

  -- if the next number has no mark, the symbols are unchanged
  pub marked-passed : None ≡ mark (test n) n → old ≡ filter test (range_with_len 0 (n + 1))
  marked-passed e =
      kept ∙ sym (filter-passed test 0 n n (let z : n ≡ 0 + n = omega arith in z) (mark-none (test n) n e))

-- after all numbers, the symbols are complete
pub symbols-complete : (p : Program) (set found : List ℕ) (n : ℕ) → n ≡ length p.symbols.items
    → found ≡ filter (touches (program_of p) set) (range_with_len 0 n) → found ≡ symbols_of (program_of p) set
symbols-complete p set found n e h =
    h ∙ ap (λ (m : ℕ). filter (touches (program_of p) set) (range_with_len 0 m))
    (let k : n ≡ length (map symbol_of p.symbols.items) = omega (arith, e, length-map p.symbols.items symbol_of) in k)

-- a mark is there exactly if the test passes
pub mark-there : (b : Bool) (n : ℕ) → is_some (mark b n) ≡ b
mark-there true n = refl
mark-there false n = refl

-- marks by one test are marks by each test with the same values
pub marks-of-equal-tests : (f g : ℕ → Bool) (marks : List (Option ℕ)) → ((n : ℕ) → f n ≡ g n) → AreMarks f marks
    → AreMarks g marks
marks-of-equal-tests f g marks same kept n l = kept n l ∙ ap (λ (b : Bool). mark b n) (same n)

-- the symbols of the rules so far and of one more
pub touches-more : (p : plain.Program) (rules : List ℕ) (i : ℕ) → i < length rules → (n : ℕ)
    → ((touches p (take i rules) n || same_symbol (Some n) (source_of p (get_or rules i 0)))
    || same_symbol (Some n) (target_of p (get_or rules i 0))) ≡ touches p (take (i + 1) rules) n
touches-more p rules i l n =
    or_assoc (touches p (take i rules) n) (same_symbol (Some n) (source_of p (get_or rules i 0)))
    (same_symbol (Some n) (target_of p (get_or rules i 0)))
    ∙ sym (list_any_more (λ t. same_symbol (Some n) (source_of p t) || same_symbol (Some n) (target_of p t)) rules i 0
    l)

-- the values of all numbers so far, and of one more
pub values-pushed : {A : Type 0} (f : ℕ → A) (n : ℕ) (old new : List A) (x : A) → old ≡ map f (range_with_len 0 n)
    → new ≡ old ++ x ∷ [] → x ≡ f n → new ≡ map f (range_with_len 0 (n + 1))
values-pushed {A} f n old new x kept e h =
    e ∙ (ap (λ (xs : List A). xs ++ x ∷ []) kept
    ∙ (ap (λ (y : A). map f (range_with_len 0 n) ++ y ∷ []) (h ∙ ap f (let z : n ≡ 0 + n = omega arith in z))
    ∙ sym (ap (map f) (numbers-more 0 n) ∙ map-behind (range_with_len 0 n))))
  where
    map-behind : (xs : List ℕ) → map f (xs ++ (0 + n) ∷ []) ≡ map f xs ++ f (0 + n) ∷ []
    map-behind [] = refl
    map-behind (y ∷ xs) = ap (λ (ys : List A). f y ∷ ys) (map-behind xs)
