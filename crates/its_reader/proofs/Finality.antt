-- When the fault so far is final after a token, and which other faults could still be shown.
use Rattle.std.specs.Prelude.{◌≡◌, ℕ, ◌-◌, ◌≤◌, ◌<◌, ◌⊎◌, nat_lt, Bool, true, false, List, [], ◌∷◌, ◌++◌, Option, Some}
use Rattle.std.specs.Prelude.{None, refl}
use Rattle.std.proofs.Common.{sym, ap, subst, arith, inl, inr}
use Rattle.std.proofs.lemmas.Bool.Decides.{nat_tests}
use Rattle.text_core.specs.Tokens.{Token}
use Rattle.text_core.specs.Readers.{Fault}
use Rattle.text_core.specs.Faults.{Among, NotAfter}
use Rattle.text_core.specs.Reading.{first_among}
use Rattle.text_core.proofs.Orders.{IsFirstAmong, first_among_is}
use Rattle.its_text.specs.expr_text.Pieces as inner
use Rattle.its_text.specs.expr_text.StateNames.{goes_on_with}
use Rattle.its_text.specs.Pieces.{Piece, In}
use Rattle.its_text.specs.Kinds.{Kind, kind_number, NumberTooLarge}
use Rattle.its_text.specs.Written.{Target, Marked, Bare}
use Rattle.its_text.specs.GrammarStates.{GrammarState, SourceClosed, TargetClosed, Targeted, pieces_read}
use Rattle.its_text.specs.Grammar.{programs}
use Rattle.its_text.specs.StateFaults.{FaultList, OpenExpression, open_expression, token_faults, is_large, next_faults}
use Rattle.its_text.specs.StateFaults.{has_other_arity, bare_differs}

below_or : (a b : ℕ) → (a < b) ⊎ (b ≤ a)
below_or a b = go (nat_lt a b) refl
  where
    go : (v : Bool) → nat_lt a b ≡ v → (a < b) ⊎ (b ≤ a)
    go true e = inl (grind (arith, nat_tests))
    go false e = inr (grind (arith, nat_tests))

-- a fault is final after a token: it is before the token's last byte, or at that byte with a number up to k
abbrev pub IsFinal : ℕ → Token Piece → Fault Kind → Type 0
IsFinal k t x = (x.at < t.upto - 1) ⊎ ((x.at ≤ t.upto - 1) × (kind_number x.kind ≤ k))

abbrev pub IsFinalIn : ℕ → Token Piece → Option (Fault Kind) → Type 0
IsFinalIn k t None = ⊥
IsFinalIn k t (Some x) = IsFinal k t x

-- a fault found at a token's first byte, with a number up to k, makes the first fault final
pub found_final : (k : ℕ) (t : Token Piece) (best : Option (Fault Kind)) (xs : FaultList) (y : Fault Kind) → Among y xs
    → y.at ≡ t.at → t.at < t.upto → kind_number y.kind ≤ k → IsFinalIn k t (first_among programs best xs)
found_final k t best xs y a at some n = go (first_among programs best xs) (first_among_is programs xs best)
  where
    split : (x : Fault Kind) → NotAfter programs x y → IsFinal k t x
    split x h = choose (below_or x.at (t.upto - 1))
      where
        choose : (x.at < t.upto - 1) ⊎ (t.upto - 1 ≤ x.at) → IsFinal k t x
        choose (inl p) = inl p
        choose (inr p) =
            let q = h.position in
            let same : x.at ≡ y.at = omega (arith, at, some, p, q) in
            let m = h.kind same in
            inr (omega (arith, at, some, same), omega (arith, m, n))

    go : (o : Option (Fault Kind)) → IsFirstAmong programs best xs o → IsFinalIn k t o
    go None h = h.1 y a
    go (Some x) h = split x (h.1 y (inr a))

-- a fault among some is among them followed by others
pub among_left : (y : Fault Kind) (xs ys : FaultList) → Among y xs → Among y (xs ++ ys)
among_left y [] ys a = absurd a
among_left y (x ∷ xs) ys (inl e) = inl e
among_left y (x ∷ xs) ys (inr a) = inr (among_left y xs ys a)

-- a fault among some is among others followed by them
pub among_right : (y : Fault Kind) (xs ys : FaultList) → Among y ys → Among y (xs ++ ys)
among_right y [] ys a = a
among_right y (x ∷ xs) ys a = inr (among_right y xs ys a)

-- the fault of a literal that is too large is shown
pub large_shown : (at : ℕ) (f : GrammarState) (p : inner.Piece) (behind : Option Piece) (g : OpenExpression)
    → open_expression f (Some (In p)) behind ≡ Some g → goes_on_with g.grammar_state p ≡ true → is_large p ≡ true
    → Among (record { kind = NumberTooLarge; at = at }) (next_faults at f (Some (In p)) behind)
large_shown at f p behind g e h l =
    among_right _ _ (token_faults at (open_expression f (Some (In p)) behind) (Some (In p)) behind)
    (subst (λ o. Among (record { kind = NumberTooLarge; at = at }) (token_faults at o (Some (In p)) behind)) (sym e)
    (rw (h, l) (inl refl)))

-- after digits no term ends, so no arity differs
pub digits_differ : (g : GrammarState) (ds : List ℕ) (ps : List Piece) → pieces_read g ≡ In (inner.Digits ds) ∷ ps
    → has_other_arity g ≡ false
digits_differ (SourceClosed r t) ds ps e = cc
digits_differ (TargetClosed l t) ds ps e = cc
digits_differ (Targeted h) ds ps e = go h.target refl
  where
    go : (t : Target) → h.target ≡ t → bare_differs h.led h.target ≡ false
    go (Marked r) k = rw k refl
    go (Bare r) k = let written : pieces_read (Targeted h)
        ≡ pieces_read (Targeted (record { led = h.led; target = Bare r })) =
        ap (λ (t : Target). pieces_read (Targeted (record { led = h.led; target = t }))) k in cc
digits_differ _ ds ps e = refl
