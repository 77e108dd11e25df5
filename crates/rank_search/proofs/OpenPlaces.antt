-- Listing the coefficients of symbols: those so far, and the remaining ones.
use Rattle.std.proofs.Common.{◌≡◌, ℕ, ◌+◌, ◌<◌, ◌≤◌, not, Bool, true, false, List, [], ◌∷◌, ◌++◌, length, map, filter}
use Rattle.std.proofs.Common.{get_or, drop, refl, sym, ap, ◌∙◌, arith, append_assoc}
use Rattle.std.specs.List.{range_with_len}
use Rattle.std.proofs.lemmas.List.{map-append, drop_more, drop_all}
use Rattle.simplex_core.specs.linear_forms.RuleQuestions.{Coefficient, coefficients}
use Rattle.poly_terms.specs.model.Programs.{Program, arity_of}
use Rattle.cert_types.specs.cert_rules.Gaps.{SymbolPlace, is_shut}
use Rattle.rank_search.specs.declared.coefficients.Coefficient.{Coefficient as Sought}
use Rattle.rank_search.specs.Coefficients.{coefficient_of, open_block, open_set}
use Rattle.rule_questions.specs.ProgramQuestions.{ranked_set}
use Rattle.rule_questions.proofs.Filters.{filter-pushed, filter-passed}

-- the coefficient of a place of a symbol
abbrev pub at_symbol : ℕ → ℕ → Coefficient
at_symbol s i = record { symbol = s; place = i }

-- the coefficients of a symbol's places up to a number
abbrev pub block_upto : (ℕ → ℕ → Bool) → ℕ → ℕ → List Coefficient
block_upto shut s n = map (at_symbol s) (filter (λ i. not (shut s i)) (range_with_len 1 n))

module _ (shut : ℕ → ℕ → Bool) (s : ℕ) (first : List Coefficient) where
  -- a place that isn't shut adds its coefficient
  pub place-pushed : (n : ℕ) (old new : List Sought) (c : Sought) → map coefficient_of old ≡ first
      ++ block_upto shut s n
      → new ≡ old ++ c ∷ [] → c.symbol ≡ s → c.place ≡ n + 1 → shut s (n + 1) ≡ false
      → map coefficient_of new ≡ first ++ block_upto shut s (n + 1)
  place-pushed n old new c kept e f g h =
      ap (map coefficient_of) e
      ∙ (map-append coefficient_of old (c ∷ [])
      ∙ (ap (λ (xs : List Coefficient). xs ++ coefficient_of c ∷ []) kept
      ∙ (append_assoc first (block_upto shut s n) (coefficient_of c ∷ [])
      ∙ ap (λ (xs : List Coefficient). first ++ xs)
      (ap (λ (t : ℕ). block_upto shut s n ++ at_symbol t c.place ∷ []) f
      ∙ (ap (λ (i : ℕ). block_upto shut s n ++ at_symbol s i ∷ []) g
      ∙ sym (ap (map (at_symbol s))
      (filter-pushed (λ i. not (shut s i)) 1 n (n + 1) (let z : n + 1 ≡ 1 + n = omega arith in z) (ap not h))
      ∙ map-append (at_symbol s) (filter (λ i. not (shut s i)) (range_with_len 1 n)) ((n + 1) ∷ [])))))))

  -- a shut place adds no coefficient to those of the symbol so far
  pub place-passed : (n : ℕ) (old : List Sought) → map coefficient_of old ≡ first ++ block_upto shut s n
      → shut s (n + 1) ≡ true → map coefficient_of old ≡ first ++ block_upto shut s (n + 1)
  place-passed n old kept h =
      kept ∙ ap (λ (is : List ℕ). first ++ map (at_symbol s) is)
      (sym (filter-passed (λ i. not (shut s i)) 1 n (n + 1) (let z : n + 1 ≡ 1 + n = omega arith in z) (ap not h)))

  -- the constant's coefficient is the last one of a symbol
  pub constant-pushed : (n : ℕ) (old new : List Sought) (c : Sought) → map coefficient_of old ≡ first
      ++ block_upto shut s n
      → new ≡ old ++ c ∷ [] → c.symbol ≡ s → c.place ≡ 0 → map coefficient_of new ≡ first ++ open_block shut s n
  constant-pushed n old new c kept e f g =
      ap (map coefficient_of) e
      ∙ (map-append coefficient_of old (c ∷ [])
      ∙ (ap (λ (xs : List Coefficient). xs ++ coefficient_of c ∷ []) kept
      ∙ (append_assoc first (block_upto shut s n) (coefficient_of c ∷ [])
      ∙ ap (λ (xs : List Coefficient). first ++ xs)
      (ap (λ (t : ℕ). block_upto shut s n ++ at_symbol t c.place ∷ []) f
      ∙ (ap (λ (i : ℕ). block_upto shut s n ++ at_symbol s i ∷ []) g
      ∙ sym (map-append (at_symbol s) (filter (λ i. not (shut s i)) (range_with_len 1 n)) (0 ∷ [])))))))

-- at first no symbol is done
pub none-done : {A : Type 0} (xs : List A) → xs ≡ xs ++ []
none-done [] = refl
none-done {A} (x ∷ xs) = ap (λ (ys : List A). x ∷ ys) (none-done xs)

-- after one more symbol, its coefficients and those of the remaining symbols are all
pub symbol-done : (p : Program) (shut : List SymbolPlace) (symbols : List ℕ) (i s : ℕ) (old new all : List Coefficient)
    → i < length symbols → s ≡ get_or symbols i s → old ++ coefficients (open_set p shut) (drop i symbols) ≡ all
    → new ≡ old ++ open_block (is_shut shut) s (arity_of p s) → new ++ coefficients (open_set p shut)
    (drop (i + 1) symbols) ≡ all
symbol-done p shut symbols i s old new all l is kept e =
    ap (λ (xs : List Coefficient). xs ++ coefficients (open_set p shut) (drop (i + 1) symbols)) e
    ∙ (append_assoc old (open_block (is_shut shut) s (arity_of p s))
    (coefficients (open_set p shut) (drop (i + 1) symbols))
    ∙ (sym (ap (λ (ss : List ℕ). old ++ coefficients (open_set p shut) ss)
    (drop_more symbols i s l ∙ ap (λ (t : ℕ). t ∷ drop (i + 1) symbols) (sym is))) ∙ kept))

-- if no symbol is left, the coefficients so far are all
pub symbols-done : (p : Program) (shut : List SymbolPlace) (symbols : List ℕ) (i : ℕ) (old all : List Coefficient)
    → length symbols ≤ i → old ++ coefficients (open_set p shut) (drop i symbols) ≡ all → old ≡ all
symbols-done p shut symbols i old all l kept =
    none-done old ∙ (sym (ap (λ (ss : List ℕ). old ++ coefficients (open_set p shut) ss) (drop_all i symbols l)) ∙ kept)

-- the coefficients of a set are those of the set without rules
pub same-coefficients : (p : Program) (set : List ℕ) (strict : ℕ) (shut : List SymbolPlace) (symbols : List ℕ)
    → coefficients (open_set p shut) symbols ≡ coefficients (ranked_set p set strict shut) symbols
same-coefficients p set strict shut [] = refl
same-coefficients p set strict shut (s ∷ symbols) =
    ap (λ (xs : List Coefficient). open_block (is_shut shut) s (arity_of p s) ++ xs)
    (same-coefficients p set strict shut symbols)
