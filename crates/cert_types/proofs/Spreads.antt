-- The sizes of variables, and the parts of monomials, pushed one after another.
use Rattle.std.proofs.Common.{◌≡◌, ℕ, suc, ◌+◌, ◌<◌, ◌≤◌, List, [], ◌∷◌, ◌++◌, length, map, get_or, drop, Option, sym}
use Rattle.std.proofs.Common.{ap, ◌∙◌, arith}
use Rattle.std.proofs.lemmas.List.{drop_more, drop_all}
use Rattle.poly_terms.specs.model.Bounds as plain
use Rattle.poly_terms.specs.model.Bounds.{Parts, NoParts, Part}
use Rattle.bound_expr.specs.declared.bound.Bound.{Bound}
use Rattle.bound_expr.specs.Views.{bound_of, bounds_of, parts_of}
use Rattle.poly_terms.specs.declared.poly.Monomial.{Monomial}
use Rattle.poly_terms.specs.Views.{monomial_of}
use Rattle.cert_program.specs.cert_rules.Known.{known}
use Rattle.cert_program.specs.cert_rules.Composed.{sizes_after}
use Rattle.cert_program.specs.cert_rules.ComposedSizes.{monomial_bound, monomial_parts}
use Rattle.cert_types.specs.Sizes.{joined}
use Rattle.cert_types.proofs.Parts.{parts_of-more, joined_assoc, joined-nothing}

-- the size of a variable is that of its place, which counts from 1
pub size_at : (size : ℕ → ℕ → Option plain.Bound) (rule v : ℕ) (o : Option plain.Bound) (b : plain.Bound) → b ≡ known o
    → o ≡ size rule (v + 1) → b ≡ sizes_after size rule v
size_at size rule v o b e h =
    e ∙ (ap known h ∙ ap (λ (n : ℕ). known (size rule n)) (let k : v + 1 ≡ suc v = omega arith in k))

module _ (sizes : ℕ → plain.Bound) (ms : List Monomial) (i : ℕ) where
  -- after one more monomial, the parts pushed and those left make the whole
  pub monomial_pushed : (m : Monomial) (done more : List Bound) (b : Bound) (whole : Parts) → i < length ms → m ≡ get_or ms i m
      → joined (parts_of (bounds_of done)) (monomial_parts (map monomial_of (drop i ms)) sizes) ≡ whole
      → more ≡ done ++ b ∷ [] → bound_of b ≡ monomial_bound sizes (monomial_of m)
      → joined (parts_of (bounds_of more)) (monomial_parts (map monomial_of (drop (i + 1) ms)) sizes) ≡ whole
  monomial_pushed m done more b whole low e kept em eb =
      let rest = monomial_parts (map monomial_of (drop (i + 1) ms)) sizes in
      ap (λ (ys : List Bound). joined (parts_of (bounds_of ys)) rest) em
      ∙ (ap (λ (ps : Parts). joined ps rest) (parts_of-more done b)
      ∙ (joined_assoc (parts_of (bounds_of done)) (Part (bound_of b) NoParts) rest
      ∙ (ap (λ (c : plain.Bound). joined (parts_of (bounds_of done)) (Part c rest)) (eb ∙ ap (λ (n : Monomial). monomial_bound sizes (monomial_of n)) e)
      ∙ (ap (λ (ys : List Monomial). joined (parts_of (bounds_of done)) (monomial_parts (map monomial_of ys) sizes)) (sym (drop_more ms i m low)) ∙ kept))))

  -- if no monomial is left, the parts pushed are the whole
  pub monomials_whole : (done : List Bound) (whole : Parts) → length ms ≤ i
      → joined (parts_of (bounds_of done)) (monomial_parts (map monomial_of (drop i ms)) sizes) ≡ whole
      → parts_of (bounds_of done) ≡ whole
  monomials_whole done whole low kept =
      sym (joined-nothing (parts_of (bounds_of done)))
      ∙ (ap (λ (ys : List Monomial). joined (parts_of (bounds_of done)) (monomial_parts (map monomial_of ys) sizes)) (sym (drop_all i ms low)) ∙ kept)
