-- The bounds of monomials, and the rules that can come before another one, found one after the other.
use Rattle.std.proofs.Common.{◌≡◌, ℕ, ◌+◌, ◌-◌, ◌<◌, ◌≤◌, Bool, true, false, List, [], ◌∷◌, ◌++◌, map, drop}
use Rattle.std.proofs.Common.{get_or, length}
use Rattle.std.proofs.Common.{Option, Some, None, refl, ap, sym, ◌∙◌, append_assoc}
use Rattle.std.specs.Prelude.{if◌then◌else◌, ◌&&◌, filter, option_map}
use Rattle.std.specs.List.{range_with_len}
use Rattle.std.proofs.iter.Rest.{range_with_len_first, range_with_len_none}
use Rattle.std.proofs.lemmas.List.{drop_more, drop_all}
use Rattle.poly_terms.specs.declared.poly.Monomial.{Monomial}
use Rattle.poly_terms.specs.Views.{monomial_of, monomials_of}
use Rattle.signed_bounds.specs.Bounds.{Signed, SignedParts}
use Rattle.signed_bounds.specs.Views.{parts_of}
use Rattle.signed_bounds.specs.Safe.{expands_to_squares}
use Rattle.potential_nodes.specs.potentials.model.Programs.{Program}
use Rattle.potential_nodes.specs.Facts.{SignedFact}
use Rattle.potential_nodes.specs.PlainPeaks.{SizedNode, monomial_size, polynomial_size, joined_part, form_size}
use Rattle.potential_nodes.specs.PlainPeaks.{is_within_parts, size_check}
use Rattle.potential_ground.specs.RowTerms.{ground_of}
use Rattle.check_potentials.specs.Refusals.{all_hold}
use Rattle.check_potentials.specs.Stages.{is_form_within, size_bounded}
use Rattle.check_potentials.specs.Parts.{in_front}
use Rattle.check_potentials.proofs.PartLaws.{in_front_one, in_front_none}

-- the bounds of the monomials from a place on
sizes-more : (size : ℕ → Option Signed) (ms : List Monomial) (i : ℕ) (m : Monomial) (o : Option Signed) → i < length ms
    → m ≡ get_or ms i m → o ≡ monomial_size size (monomial_of m) (monomial_of m).vars
    → polynomial_size size (monomials_of (drop i ms)) ≡ joined_part o
    (polynomial_size size (monomials_of (drop (i + 1) ms)))
sizes-more size ms i m o low e h =
    ap (λ (xs : List Monomial). polynomial_size size (monomials_of xs)) (drop_more ms i m low)
    ∙ ap (λ (x : Monomial). polynomial_size size (monomial_of x ∷ monomials_of (drop (i + 1) ms))) (sym e)
    ∙ ap (λ (p : Option Signed). joined_part p (polynomial_size size (monomials_of (drop (i + 1) ms)))) (sym h)

-- a bound found goes in front of the others
joined-front : (bs : List Signed) (b : Signed) (o : Option SignedParts)
    → option_map (in_front bs) (joined_part (Some b) o) ≡ option_map (in_front (bs ++ b ∷ [])) o
joined-front bs b None = refl
joined-front bs b (Some parts) = ap Some (sym (in_front_one bs b parts))

pub size-passed : (size : ℕ → Option Signed) (ms : List Monomial) (i : ℕ) (m : Monomial) (bs : List Signed) (b : Signed)
    (all : Option SignedParts) → i < length ms → m ≡ get_or ms i m
    → Some b ≡ monomial_size size (monomial_of m) (monomial_of m).vars
    → option_map (in_front bs) (polynomial_size size (monomials_of (drop i ms))) ≡ all
    → option_map (in_front (bs ++ b ∷ [])) (polynomial_size size (monomials_of (drop (i + 1) ms))) ≡ all
size-passed size ms i m bs b all low e h kept =
    sym (joined-front bs b (polynomial_size size (monomials_of (drop (i + 1) ms))))
    ∙ (sym (ap (option_map (in_front bs)) (sizes-more size ms i m (Some b) low e h)) ∙ kept)

-- one without a bound leaves none for all
pub size-missing : (size : ℕ → Option Signed) (ms : List Monomial) (i : ℕ) (m : Monomial) (bs : List Signed)
    (all : Option SignedParts) → i < length ms → m ≡ get_or ms i m
    → None ≡ monomial_size size (monomial_of m) (monomial_of m).vars
    → option_map (in_front bs) (polynomial_size size (monomials_of (drop i ms))) ≡ all → None ≡ all
size-missing size ms i m bs all low e h kept =
    sym (ap (option_map (in_front bs)) (sizes-more size ms i m None low e h)) ∙ kept

pub size-done : (size : ℕ → Option Signed) (ms : List Monomial) (i : ℕ) (bs : List Signed) (all : Option SignedParts)
    → length ms ≤ i → option_map (in_front bs) (polynomial_size size (monomials_of (drop i ms))) ≡ all
    → Some (parts_of bs) ≡ all
size-done size ms i bs all low kept =
    ap Some (sym (in_front_none bs))
    ∙ (sym (ap (λ (xs : List Monomial). option_map (in_front bs) (polynomial_size size (monomials_of xs)))
    (drop_all i ms low))
    ∙ kept)

-- the numbers of a range that pass a test, from one on
pub range-passed : (test : ℕ → Bool) (found all : List ℕ) (i n : ℕ) → i < n
    → found ++ filter test (range_with_len i (n - i)) ≡ all
    → (found ++ (if test i then i ∷ [] else [])) ++ filter test (range_with_len (i + 1) (n - (i + 1))) ≡ all
range-passed test found all i n low kept =
    append_assoc found (if test i then i ∷ [] else []) (filter test (range_with_len (i + 1) (n - (i + 1))))
    ∙ (ap (λ (xs : List ℕ). found ++ xs) (sym (one test i (range_with_len (i + 1) (n - (i + 1)))))
    ∙ (sym (ap (λ (xs : List ℕ). found ++ filter test xs) (range_with_len_first i n low)) ∙ kept))
  where
    one : (test : ℕ → Bool) (i : ℕ) (xs : List ℕ)
        → filter test (i ∷ xs) ≡ (if test i then i ∷ [] else []) ++ filter test xs
    one test i xs = go (test i) refl
      where
        go : (v : Bool) → test i ≡ v → filter test (i ∷ xs) ≡ (if test i then i ∷ [] else []) ++ filter test xs
        go true e = rw e refl
        go false e = rw e refl

pub range-done : (test : ℕ → Bool) (found all : List ℕ) (i n : ℕ) → n ≤ i
    → found ++ filter test (range_with_len i (n - i)) ≡ all → found ≡ all
range-done test found all i n low kept =
    sym (append-nil found)
    ∙ (sym (ap (λ (xs : List ℕ). found ++ filter test xs) (range_with_len_none i n low)) ∙ kept)
  where
    append-nil : (xs : List ℕ) → xs ++ [] ≡ xs
    append-nil [] = refl
    append-nil (x ∷ xs) = ap (λ (ys : List ℕ). x ∷ ys) (append-nil xs)

-- the checks of bounds after rules hold where the bound is high enough after each
within-parts : (p : Program) (o : Option SignedParts) (b : Signed)
    → is_within_parts (ground_of p expands_to_squares) o b ≡ is_form_within o b
within-parts p None b = refl
within-parts p (Some parts) b = refl

pub sizes-checked : (p : Program) (facts : List SignedFact) (n : SizedNode) (b : Signed) (es : List ℕ)
    → all_hold (map (size_check (ground_of p expands_to_squares) facts n b) es)
    ≡ all_hold (map (size_bounded facts n b) es)
sizes-checked p facts n b [] = refl
sizes-checked p facts n b (e ∷ es) =
    ap (λ (v : Bool). v && all_hold (map (size_check (ground_of p expands_to_squares) facts n b) es))
    (within-parts p (form_size facts n e) b)
    ∙ ap (λ (v : Bool). is_form_within (form_size facts n e) b && v) (sizes-checked p facts n b es)
