-- A walk from the beginning ends in the state that its pieces reach.
use Rattle.std.proofs.Common.{◌≡◌, List, [], ◌∷◌, ◌++◌, map, Option, Some, None, refl, ap, sym, ◌∙◌}
use Rattle.text_core.specs.Tokens.{Token, pieces}
use Rattle.text_core.specs.Readers.{Reader, onto, next, walk, reached}

-- after a rejected piece no piece is accepted
pub walk-none : {P F : Type 0} (step : F → P → Option F) (ps : List P) → walk step None ps ≡ None
walk-none step [] = refl
walk-none step (p ∷ ps) = refl

-- a walk over a list is a step and a walk over the others
pub walk-next : {P F : Type 0} (step : F → P → Option F) (o : Option F) (p : P) (ps : List P) → walk step o (p ∷ ps) ≡ walk step (next step o p) ps
walk-next step None p ps = sym (walk-none step ps)
walk-next step (Some f) p ps = refl

-- a walk over an appended list is a walk over each part
pub walk-append : {P F : Type 0} (step : F → P → Option F) (o : Option F) (ps qs : List P) → walk step o (ps ++ qs) ≡ walk step (walk step o ps) qs
walk-append step o [] qs = refl
walk-append step None (p ∷ ps) qs = sym (walk-none step qs)
walk-append step (Some f) (p ∷ ps) qs = walk-append step (step f p) ps qs

-- the pieces of tokens that follow others in a text
pub pieces-onto : {P : Type 0} (done rest : List (Token P)) → pieces (onto done rest) ≡ onto (pieces done) (pieces rest)
pieces-onto [] rest = refl
pieces-onto (t ∷ done) rest = pieces-onto done (t ∷ rest)

-- reversing onto an appended rest gives an appended list
pub onto-append : {X : Type 0} (done rest more : List X) → onto done (rest ++ more) ≡ onto done rest ++ more
onto-append [] rest more = refl
onto-append (x ∷ done) rest more = onto-append done (x ∷ rest) more

module _ {P T F K : Type 0} (r : Reader P T F K) where
  -- a walk from the beginning goes through each state that its pieces reach
  pub walk-onto : (done rest : List P) → walk r.step (Some r.beginning) (onto done rest) ≡ walk r.step (reached r done) rest
  walk-onto [] rest = refl
  walk-onto (p ∷ done) rest = walk-onto done (p ∷ rest) ∙ walk-next r.step (reached r done) p rest

-- an outer reader that follows the steps of an inner one: pieces that lead the inner reader from one state to another
-- lead the outer one correspondingly, whatever follows
module _ {P Q F G : Type 0} (inner : F → P → Option F) (outer : G → Q → Option G) (inside : F → G) (as_outer : P → Q)
    (stays : (f g : F) (p : P) → inner f p ≡ Some g → outer (inside f) (as_outer p) ≡ Some (inside g)) where
  -- pieces that lead the inner reader from one state to another lead the outer one correspondingly, whatever follows
  pub inner-walk : (ps : List P) (rest : List Q) (f g : F) → walk inner (Some f) ps ≡ Some g → walk outer (Some (inside f)) (map as_outer ps ++ rest) ≡ walk outer (Some (inside g)) rest
  inner-walk [] rest f g e = let same : f ≡ g = cc in ap (λ (h : F). walk outer (Some (inside h)) rest) same
  inner-walk (p ∷ ps) rest f g e = go (inner f p) refl e (λ h k. inner-walk ps rest h g k)
    where
      go : (o : Option F) → inner f p ≡ o → walk inner o ps ≡ Some g → ((h : F) → walk inner (Some h) ps ≡ Some g → walk outer (Some (inside h)) (map as_outer ps ++ rest) ≡ walk outer (Some (inside g)) rest)
          → walk outer (outer (inside f) (as_outer p)) (map as_outer ps ++ rest) ≡ walk outer (Some (inside g)) rest
      go None s k ih = let n = walk-none inner ps in cc
      go (Some h) s k ih = ap (λ (o : Option G). walk outer o (map as_outer ps ++ rest)) (stays f h p s) ∙ ih h k
