-- The places that a side bound reads, place by place.
use Rattle.std.proofs.Common.{◌≡◌, ℕ, ◌+◌, Bool, true, false, cond, List, [], ◌∷◌, ◌++◌, filter, Option, refl, sym, ap}
use Rattle.std.proofs.Common.{◌∙◌, arith}
use Rattle.std.specs.List.{range_with_len}
use Rattle.std.proofs.lemmas.List.{append-nil}
use Rattle.std.proofs.lemmas.List.Elements.{filter-append}
use Rattle.poly_terms.specs.model.Polynomials.{Polynomial}
use Rattle.cert_program.specs.cert_rules.Nodes.{SideBound}
use Rattle.cert_program.specs.cert_rules.ComposedSizes.{reads}
use Rattle.cert_types.specs.Reading.{places_read}
use Rattle.cert_types.proofs.Numbers.{numbers-more}

module _ (poly : Option Polynomial) (side_bound : SideBound) where
  -- the places among the first t + 1 that a side bound reads are those among the first t, and place t if it reads that
  read-more : (t : ℕ) → places_read poly side_bound (t + 1) ≡ places_read poly side_bound t ++ cond (reads poly side_bound t) (t ∷ []) []
  read-more t =
      ap (filter (λ j. reads poly side_bound j)) (numbers-more 0 t)
      ∙ (filter-append (λ j. reads poly side_bound j) (range_with_len 0 t) ((0 + t) ∷ [])
      ∙ (ap (λ (m : ℕ). places_read poly side_bound t ++ filter (λ j. reads poly side_bound j) (m ∷ [])) (let e : 0 + t ≡ t = omega arith in e)
      ∙ ap (λ (ms : List ℕ). places_read poly side_bound t ++ ms) (one (reads poly side_bound t) refl)))
    where
      one : (v : Bool) → reads poly side_bound t ≡ v
          → filter (λ j. reads poly side_bound j) (t ∷ []) ≡ cond (reads poly side_bound t) (t ∷ []) []
      one true e = rw e refl
      one false e = rw e refl

  -- a place that the side bound reads is pushed after those read so far
  pub place_pushed : (t : ℕ) (old new : List ℕ) → old ≡ places_read poly side_bound t → new ≡ old ++ t ∷ []
      → true ≡ reads poly side_bound t → new ≡ places_read poly side_bound (t + 1)
  place_pushed t old new eo en h =
      en ∙ (ap (λ (xs : List ℕ). xs ++ t ∷ []) eo
      ∙ sym (read-more t ∙ ap (λ (v : Bool). places_read poly side_bound t ++ cond v (t ∷ []) []) (sym h)))

  -- a place that the side bound doesn't read leaves those read so far as they are
  pub place_passed : (t : ℕ) (old : List ℕ) → old ≡ places_read poly side_bound t → false ≡ reads poly side_bound t
      → old ≡ places_read poly side_bound (t + 1)
  place_passed t old eo h =
      eo ∙ (sym (append-nil (places_read poly side_bound t))
      ∙ sym (read-more t ∙ ap (λ (v : Bool). places_read poly side_bound t ++ cond v (t ∷ []) []) (sym h)))
