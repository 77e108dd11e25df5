-- The texts of monomials one after the other.
use Rattle.std.proofs.Common.{◌≡◌, ◌+◌, ◌++◌, ◌∙◌, ℕ, zero, suc, Bool, true, false, List, [], ◌∷◌, refl, ap, sym, arith}
use Rattle.std.proofs.Common.{append_assoc, codes, add-one}
use Rattle.std.proofs.lemmas.List.{append-nil}
use Rattle.std.specs.List.{flat_map, range_with_len}
use Rattle.std.proofs.lemmas.Grind.{flat_map-append}
use Rattle.poly_terms.specs.model.Polynomials.{Polynomial}
use Rattle.poly_terms.specs.model.Programs.{Name}
use Rattle.signed_text.specs.Polynomials.{monomial_text, monomials_text, polynomial_text}
use Rattle.signed_text.specs.Passes.{signed_monomial, signed_monomials, is_first_after, with_rank, in_ranks}

-- false isn't true
not_true : false ≡ true → ⊥
not_true e = cc

-- after the first monomial none is the first
never_first : (ms : Polynomial) → is_first_after false ms ≡ false
never_first [] = refl
never_first (m ∷ ms) = refl

-- the text of monomials and others after them
signed_monomials-append : (names : List Name) (first : Bool) (ms ns : Polynomial)
    → signed_monomials names first (ms ++ ns) ≡ signed_monomials names first ms ++ signed_monomials names
    (is_first_after first ms) ns
signed_monomials-append names first [] ns = refl
signed_monomials-append names first (m ∷ ms) ns =
    ap (λ (ys : List ℕ). signed_monomial names first m ++ ys)
    (signed_monomials-append names false ms ns
    ∙ ap (λ (v : Bool). signed_monomials names false ms ++ signed_monomials names v ns) (never_first ms))
    ∙ sym (append_assoc (signed_monomial names first m) (signed_monomials names false ms)
    (signed_monomials names false ns))

-- whether the next monomial is the first, after some and others after them
first-append : (first : Bool) (ms ns : Polynomial)
    → is_first_after first (ms ++ ns) ≡ is_first_after (is_first_after first ms) ns
first-append first [] ns = refl
first-append first (m ∷ ms) ns = sym (never_first ns)

-- the numbers from a on, and the next one
range-more : (a n : ℕ) → range_with_len a (suc n) ≡ range_with_len a n ++ (a + n) ∷ []
range-more a zero = ap (λ (v : ℕ). v ∷ []) (omega arith)
range-more a (suc n) =
    let same : (a + 1) + n ≡ a + suc n = omega arith in
    ap (λ (ys : List ℕ). a ∷ ys)
    (range-more (a + 1) n ∙ ap (λ (v : ℕ). range_with_len (a + 1) n ++ v ∷ []) same)

-- the monomials of one more rank
ranks-more : (ms : Polynomial) (n : ℕ) → in_ranks (suc n) ms ≡ in_ranks n ms ++ with_rank n ms
ranks-more ms n =
    let last : 0 + n ≡ n = omega arith in
    ap (flat_map (λ (rank : ℕ). with_rank rank ms))
    (range-more 0 n ∙ ap (λ (k : ℕ). range_with_len 0 n ++ k ∷ []) last)
    ∙ (flat_map-append (λ (rank : ℕ). with_rank rank ms) (range_with_len 0 n) (n ∷ [])
    ∙ ap (λ (ns : Polynomial). in_ranks n ms ++ ns) (append-nil (with_rank n ms)))

ranks-next : (ms : Polynomial) (n : ℕ) → in_ranks (n + 1) ms ≡ in_ranks n ms ++ with_rank n ms
ranks-next ms n = ap (λ (k : ℕ). in_ranks k ms) (add-one n) ∙ ranks-more ms n

-- what was written in the passes so far, with that of one more pass, and whether the next monomial is the first
pub pass-text : (names : List Name) (ms : Polynomial) (n : ℕ) (first : Bool) (old mid new : List ℕ)
    → mid ≡ old ++ signed_monomials names true (in_ranks n ms) → first ≡ is_first_after true (in_ranks n ms)
    → new ≡ mid ++ signed_monomials names first (with_rank n ms)
    → new ≡ old ++ signed_monomials names true (in_ranks (n + 1) ms)
pass-text names ms n first old mid new before flag pass =
    pass
    ∙ (ap (λ (ys : List ℕ). ys ++ signed_monomials names first (with_rank n ms)) before
    ∙ (ap (λ (v : Bool). (old ++ signed_monomials names true (in_ranks n ms)) ++ signed_monomials names v
    (with_rank n ms)) flag
    ∙ (append_assoc old (signed_monomials names true (in_ranks n ms))
    (signed_monomials names (is_first_after true (in_ranks n ms)) (with_rank n ms))
    ∙ (ap (λ (ys : List ℕ). old ++ ys) (sym (signed_monomials-append names true (in_ranks n ms) (with_rank n ms)))
    ∙ ap (λ (ns : Polynomial). old ++ signed_monomials names true ns) (sym (ranks-next ms n))))))

pub pass-first : (ms : Polynomial) (n : ℕ) (first is_next_first : Bool) → first ≡ is_first_after true (in_ranks n ms)
    → is_next_first ≡ is_first_after first (with_rank n ms) → is_next_first ≡ is_first_after true (in_ranks (n + 1) ms)
pass-first ms n first is_next_first flag pass =
    pass
    ∙ (ap (λ (v : Bool). is_first_after v (with_rank n ms)) flag
    ∙ (sym (first-append true (in_ranks n ms) (with_rank n ms))
    ∙ ap (λ (ns : Polynomial). is_first_after true ns) (sym (ranks-next ms n))))

-- monomials after the first one
signed_monomials-others : (names : List Name) (ms : Polynomial)
    → signed_monomials names false ms ≡ flat_map (monomial_text names (codes " + ") (codes " - ")) ms
signed_monomials-others names [] = refl
signed_monomials-others names (m ∷ ms) =
    ap (λ (ys : List ℕ). signed_monomial names false m ++ ys) (signed_monomials-others names ms)

-- all monomials, where there is one
some-signed_monomials : (names : List Name) (ms : Polynomial) → false ≡ is_first_after true ms
    → signed_monomials names true ms ≡ monomials_text names ms
some-signed_monomials names [] e = absurd (not_true e)
some-signed_monomials names (m ∷ ms) e =
    ap (λ (ys : List ℕ). signed_monomial names true m ++ ys) (signed_monomials-others names ms)

-- after five passes a polynomial of which a monomial was written is written
pub all-signed_monomials : (names : List Name) (ms : Polynomial) (n : ℕ) (first : Bool) (old text : List ℕ) → n ≡ 5
    → text ≡ old ++ signed_monomials names true (in_ranks n ms) → first ≡ is_first_after true (in_ranks n ms)
    → first ≡ false
    → text ≡ old ++ polynomial_text names ms
all-signed_monomials names ms n first old text five done flag no_first =
    let some : false ≡ is_first_after true (in_ranks 5 ms) =
    sym no_first ∙ (flag ∙ ap (λ (k : ℕ). is_first_after true (in_ranks k ms)) five) in
    done
    ∙ (ap (λ (k : ℕ). old ++ signed_monomials names true (in_ranks k ms)) five
    ∙ ap (λ (ys : List ℕ). old ++ ys) (some-signed_monomials names (in_ranks 5 ms) some))
