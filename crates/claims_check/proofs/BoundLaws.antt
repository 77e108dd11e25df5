-- What facts with a number bound a charge by, and a form; and the bounds of charges one after the other.
use Rattle.std.proofs.Common.{◌≡◌, ◌≢◌, ◌+◌, ◌≤◌, ◌++◌, ◌∙◌, ℕ, zero, suc, Bool, true, false, List, [], ◌∷◌}
use Rattle.std.proofs.Common.{length, map}
use Rattle.std.proofs.Common.{drop, Option, Some, None, cond, refl, sym, ap}
use Rattle.std.proofs.lemmas.List.{drop_all}
use Rattle.std.specs.Prelude.{option_map}
use Rattle.model.specs.Polynomials.{Polynomial}
use Rattle.signed_bounds.specs.Bounds.{Signed, Constant, SignedParts, NoParts, Part}
use Rattle.signed_bounds.specs.Views.{parts_of}
use Rattle.potential_nodes.specs.potentials.Sums as sums
use Rattle.potential_nodes.specs.Facts.{SignedFact, sum_bound, peak_bound, is_never}
use Rattle.potential_nodes.specs.Lookup.{numbered}
use Rattle.potential_nodes.specs.PlainPeaks.{size_in, first_of_two, joined_part}
use Rattle.potential_types.specs.declared.facts.Charge.{Charge}
use Rattle.potential_types.specs.Views.{charge_of}
use Rattle.program_claims.specs.Sums.{charge_bound, charge_bounds}
use Rattle.program_claims.specs.Heads.{head_bound}
use Rattle.claims_check.specs.Parts.{in_front}
use Rattle.claims_check.specs.Tables.{zero_bound_if}

-- the number 0 cites no fact
pub charge-uncited : (facts : List SignedFact) (c : sums.Charge) (n : ℕ) → n ≡ 0
    → charge_bound facts c n ≡ zero_bound_if (is_never facts c.rule)
charge-uncited facts c n e = rw e (go (is_never facts c.rule)) where
  go : (v : Bool) → cond v (Some (Constant 0)) None ≡ zero_bound_if v
  go true = refl
  go false = refl

pub charge-cited : (facts : List SignedFact) (c : sums.Charge) (n : ℕ) → n ≢ 0
    → charge_bound facts c n ≡ sum_bound facts (c ∷ []) n
charge-cited facts c zero h = absurd (h refl)
charge-cited facts c (suc n) h = refl

pub head-uncited : (facts : List SignedFact) (form : Polynomial) (place t n : ℕ) → n ≡ 0
    → head_bound facts form place t n ≡ zero_bound_if (is_never facts t)
head-uncited facts form place t n e = rw e (go (is_never facts t)) where
  go : (v : Bool) → cond v (Some (Constant 0)) None ≡ zero_bound_if v
  go true = refl
  go false = refl

pub head-cited : (facts : List SignedFact) (form : Polynomial) (place t n : ℕ) → n ≢ 0
    → head_bound facts form place t n ≡ first_of_two (peak_bound facts t form n) (size_in t place (numbered facts n))
head-cited facts form place t zero h = absurd (h refl)
head-cited facts form place t (suc n) h = refl

-- no bounds where the lists are of different lengths
joined-none : (o : Option Signed) → joined_part o None ≡ None
joined-none None = refl
joined-none (Some b) = refl

pub bounds-differ : (facts : List SignedFact) (cs : List Charge) (ns : List ℕ) → length cs ≢ length ns
    → charge_bounds facts (map charge_of cs) ns ≡ None
bounds-differ facts [] [] h = absurd (h refl)
bounds-differ facts [] (n ∷ ns) h = refl
bounds-differ facts (c ∷ cs) [] h = refl
bounds-differ facts (c ∷ cs) (n ∷ ns) h =
    ap (joined_part (charge_bound facts (charge_of c) n)) (bounds-differ facts cs ns (λ e. h (ap suc e)))
    ∙ joined-none (charge_bound facts (charge_of c) n)

-- parts in front of others, with one more
in-front-more : (bs : List Signed) (b : Signed) (parts : SignedParts)
    → in_front (bs ++ b ∷ []) parts ≡ in_front bs (Part b parts)
in-front-more [] b parts = refl
in-front-more (c ∷ bs) b parts = ap (Part c) (in-front-more bs b parts)

pub in-front-none : (bs : List Signed) → in_front bs NoParts ≡ parts_of bs
in-front-none [] = refl
in-front-none (b ∷ bs) = ap (Part b) (in-front-none bs)

front-joined : (bs : List Signed) (b : Signed) (o : Option SignedParts)
    → option_map (in_front (bs ++ b ∷ [])) o ≡ option_map (in_front bs) (joined_part (Some b) o)
front-joined bs b None = refl
front-joined bs b (Some parts) = ap Some (in-front-more bs b parts)

module _ (facts : List SignedFact) (cs : List Charge) (ns : List ℕ) where
  -- the bounds from a position on
  bounds-pair : (i : ℕ) (c : Charge) (n : ℕ) → drop i cs ≡ c ∷ drop (i + 1) cs → drop i ns ≡ n ∷ drop (i + 1) ns
      → charge_bounds facts (map charge_of (drop i cs)) (drop i ns)
      ≡ joined_part (charge_bound facts (charge_of c) n) (charge_bounds facts (map charge_of (drop (i + 1) cs)) (drop
      (i + 1) ns))
  bounds-pair i c n e f =
      ap (λ (us : List Charge). charge_bounds facts (map charge_of us) (drop i ns)) e
      ∙ ap (λ (us : List ℕ). charge_bounds facts (map charge_of (c ∷ drop (i + 1) cs)) us) f

  pub bounds-step : (i : ℕ) (c : Charge) (n : ℕ) (bs : List Signed) (b : Signed) (all : Option SignedParts)
      → drop i cs ≡ c ∷ drop (i + 1) cs → drop i ns ≡ n ∷ drop (i + 1) ns → charge_bound facts (charge_of c) n ≡ Some b
      → option_map (in_front bs) (charge_bounds facts (map charge_of (drop i cs)) (drop i ns)) ≡ all
      → option_map (in_front (bs ++ b ∷ [])) (charge_bounds facts (map charge_of (drop (i + 1) cs)) (drop
      (i + 1) ns)) ≡ all
  bounds-step i c n bs b all e f h k =
      front-joined bs b (charge_bounds facts (map charge_of (drop (i + 1) cs)) (drop (i + 1) ns))
      ∙ (ap (λ (o : Option Signed). option_map (in_front bs) (joined_part o (charge_bounds facts (map charge_of (drop
      (i + 1) cs)) (drop (i + 1) ns)))) (sym h)
      ∙ (ap (option_map (in_front bs)) (sym (bounds-pair i c n e f)) ∙ k))

  pub bounds-fail : (i : ℕ) (c : Charge) (n : ℕ) (bs : List Signed) (all : Option SignedParts)
      → drop i cs ≡ c ∷ drop (i + 1) cs → drop i ns ≡ n ∷ drop (i + 1) ns → charge_bound facts (charge_of c) n ≡ None
      → option_map (in_front bs) (charge_bounds facts (map charge_of (drop i cs)) (drop i ns)) ≡ all → None ≡ all
  bounds-fail i c n bs all e f h k =
      ap (λ (o : Option Signed). option_map (in_front bs) (joined_part o (charge_bounds facts (map charge_of (drop
      (i + 1) cs)) (drop (i + 1) ns)))) (sym h)
      ∙ (ap (option_map (in_front bs)) (sym (bounds-pair i c n e f)) ∙ k)

  pub bounds-done : (i : ℕ) (bs : List Signed) (all : Option SignedParts) → length cs ≤ i → length ns ≤ i
      → option_map (in_front bs) (charge_bounds facts (map charge_of (drop i cs)) (drop i ns)) ≡ all
      → Some (parts_of bs) ≡ all
  bounds-done i bs all low low' k =
      ap Some (sym (in-front-none bs))
      ∙ (ap (λ (us : List ℕ). option_map (in_front bs) (charge_bounds facts [] us)) (sym (drop_all i ns low'))
      ∙ (ap (λ (us : List Charge). option_map (in_front bs) (charge_bounds facts (map charge_of us) (drop i ns)))
      (sym (drop_all i cs low)) ∙ k))
