-- Loops over the parts of a bound, and over the monomials of a polynomial, that measure them.
use Rattle.std.proofs.Common.{◌≡◌, ℕ, ◌+◌, ◌<◌, min, max, List, [], ◌∷◌, ◌++◌, take, get_or, length}
use Rattle.std.proofs.Common.{refl, ap, sym, ◌∙◌, arith}
use Rattle.std.proofs.lemmas.List.{take_more, map-append}
use Rattle.poly_terms.specs.model.Polynomials as plain_poly
use Rattle.poly_terms.specs.declared.poly.Monomial.{Monomial}
use Rattle.poly_terms.specs.Views.{monomial_of, monomials_of}
use Rattle.signed_bounds.specs.Bounds as plain
use Rattle.signed_bounds.specs.Bounds.{SignedParts, NoParts}
use Rattle.signed_bounds.specs.declared.signed.Signed.{Signed}
use Rattle.signed_bounds.specs.Views.{signed_of, signeds_of, parts_of, with_part}
use Rattle.signed_bounds.specs.Measure.{node_count, node_count_of_all, polynomial_nodes, depth_of, maximum_depth}

-- the parts of a list with one more bound at the end are the parts of the list with that one at the end
pub parts_of-snoc : (bs : List plain.Signed) (b : plain.Signed) → parts_of (bs ++ b ∷ []) ≡ with_part (parts_of bs) b
parts_of-snoc [] b = refl
parts_of-snoc (c ∷ cs) b = ap (plain.Part c) (parts_of-snoc cs b)

-- pushing a bound appends one part
pub parts_of-push : (xs : List Signed) (x : Signed)
    → parts_of (signeds_of (xs ++ x ∷ [])) ≡ with_part (parts_of (signeds_of xs)) (signed_of x)
parts_of-push xs x = ap parts_of (map-append signed_of xs (x ∷ [])) ∙ parts_of-snoc (signeds_of xs) (signed_of x)

-- the parts before the next position are those before this one, and the one at it
pub parts_of-take_more : (xs : List Signed) (i : ℕ) (x : Signed) → i < length xs → x ≡ get_or xs i x
    → parts_of (signeds_of (take (i + 1) xs)) ≡ with_part (parts_of (signeds_of (take i xs))) (signed_of x)
parts_of-take_more xs i x h e =
    ap (λ (ys : List Signed). parts_of (signeds_of ys)) (take_more xs i x h)
    ∙ parts_of-push (take i xs) (get_or xs i x)
    ∙ ap (λ (y : Signed). with_part (parts_of (signeds_of (take i xs))) (signed_of y)) (sym e)

-- one more part adds its nodes
node_count-with_part : (bs : SignedParts) (b : plain.Signed)
    → node_count_of_all (with_part bs b) ≡ node_count_of_all bs + node_count b
node_count-with_part NoParts b = omega arith
node_count-with_part (plain.Part c cs) b = omega (arith, node_count-with_part cs b)

-- the levels of parts are those of the deepest
depth-with_part : (bs : SignedParts) (b : plain.Signed)
    → maximum_depth (with_part bs b) ≡ max (maximum_depth bs) (depth_of b)
depth-with_part NoParts b = omega arith
depth-with_part (plain.Part c cs) b = omega (arith, depth-with_part cs b)

-- the parts before a position
abbrev pub before : List Signed → ℕ → SignedParts
before xs i = parts_of (signeds_of (take i xs))

-- one more part adds its nodes, up to a limit
pub node_count-step : (xs : List Signed) (i : ℕ) (x : Signed) (nodes here after limit : ℕ) → i < length xs
    → x ≡ get_or xs i x
    → nodes ≡ min (node_count_of_all (before xs i)) limit → here ≡ min (node_count (signed_of x)) limit
    → after ≡ min (nodes + here) limit
    → after ≡ min (node_count_of_all (before xs (i + 1))) limit
node_count-step xs i x nodes here after limit h e is_before is_here is_after =
    omega (arith, ap node_count_of_all (parts_of-take_more xs i x h e), node_count-with_part (before xs i) (signed_of x))

-- one more part may raise the number of levels, up to a limit
pub depth-step : (xs : List Signed) (i : ℕ) (x : Signed) (most here after limit : ℕ) → i < length xs → x ≡ get_or xs i x
    → most ≡ min (maximum_depth (before xs i)) limit → here ≡ min (depth_of (signed_of x)) limit
    → after ≡ max most here
    → after ≡ min (maximum_depth (before xs (i + 1))) limit
depth-step xs i x most here after limit h e is_before is_here is_after =
    omega (arith, ap maximum_depth (parts_of-take_more xs i x h e), depth-with_part (before xs i) (signed_of x))

-- the nodes of a polynomial with one more monomial are those of the polynomial and of that monomial
polynomial_nodes-append : (ps : plain_poly.Polynomial) (m : plain_poly.Monomial)
    → polynomial_nodes (ps ++ m ∷ []) ≡ polynomial_nodes ps + (1 + length m.vars)
polynomial_nodes-append [] m = omega arith
polynomial_nodes-append (p ∷ ps) m = omega (arith, polynomial_nodes-append ps m)

-- one more monomial adds its nodes, up to a limit
pub polynomial_nodes-step : (xs : List Monomial) (i : ℕ) (x : Monomial) (nodes here after limit : ℕ) → i < length xs
    → x ≡ get_or xs i x
    → nodes ≡ min (polynomial_nodes (monomials_of (take i xs))) limit → here ≡ min (1 + length x.vars.items) limit
    → after ≡ min (nodes + here) limit
    → after ≡ min (polynomial_nodes (monomials_of (take (i + 1) xs))) limit
polynomial_nodes-step xs i x nodes here after limit h e is_before is_here is_after =
    omega (
      arith,
      ap polynomial_nodes
          (ap monomials_of (take_more xs i x h)
          ∙ map-append monomial_of (take i xs) (get_or xs i x ∷ [])
          ∙ ap (λ (y : Monomial). monomials_of (take i xs) ++ monomial_of y ∷ []) (sym e)),
      polynomial_nodes-append (monomials_of (take i xs)) (monomial_of x),
    )
