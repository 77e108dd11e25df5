-- Bounds that may be written, part by part.
use Rattle.std.proofs.Common.{◌≡◌, ◌↔◌, ℕ, zero, suc, ◌+◌, ◌<◌, List, [], ◌∷◌, length, get_or, take, subst, sym, arith}
use Rattle.model.specs.Bounds as plain
use Rattle.model.specs.Bounds.{Parts, NoParts, Part}
use Rattle.bound_expr.specs.Views.{bound_of, bounds_of, parts_of, with_part}
use Rattle.bound_expr.specs.declared.bound.Bound.{Bound}
use Rattle.bound_expr.proofs.Lists.{parts_of-take_more}
use Rattle.check_file.specs.Writables.{IsWritable, AreWritable}

-- writable parts with one more writable part are writable
with-more : (n : ℕ) (bs : Parts) (b : plain.Bound) → AreWritable n bs → IsWritable n b → AreWritable n (with_part bs b)
with-more n NoParts b h k = record { inputs = (k.inputs, tt); numbers = (k.numbers, tt) }
with-more n (Part c cs) b h k =
    let m = with-more n cs b (record { inputs = h.inputs.1; numbers = h.numbers.1 }) k in
    record { inputs = (h.inputs.0, m.inputs); numbers = (h.numbers.0, m.numbers) }

-- the parts up to the next one are writable if those before and the next one are
pub writable-more : (n : ℕ) (xs : List Bound) (i : ℕ) (x : Bound) → i < length xs → x ≡ get_or xs i x
    → AreWritable n (parts_of (bounds_of (take i xs))) → IsWritable n (bound_of x)
    → AreWritable n (parts_of (bounds_of (take (i + 1) xs)))
writable-more n xs i x l e h k =
    subst (AreWritable n) (sym (parts_of-take_more xs i x l e)) (with-more n (parts_of (bounds_of (take i xs))) (bound_of x) h k)

-- each part of writable parts is writable
pub part-writable : (n : ℕ) (xs : List Bound) (i : ℕ) (x : Bound) → i < length xs → x ≡ get_or xs i x
    → AreWritable n (parts_of (bounds_of xs)) → IsWritable n (bound_of x)
part-writable n [] i x l e h = absurd (omega (arith, l))
part-writable n (y ∷ xs) zero x l e h =
    subst (λ (z : Bound). IsWritable n (bound_of z)) (sym e) (record { inputs = h.inputs.0; numbers = h.numbers.0 })
part-writable n (y ∷ xs) (suc i) x l e h =
    part-writable n xs i x (omega (arith, l)) e (record { inputs = h.inputs.1; numbers = h.numbers.1 })

-- a sum, a product or a maximum may be written exactly if its parts may
pub sum-writable : (n : ℕ) (b : plain.Bound) (bs : Parts) → b ≡ plain.SumOf bs → AreWritable n bs ↔ IsWritable n b
sum-writable n b bs e = (
  (λ h. subst (IsWritable n) (sym e) (record { inputs = (tt, h.inputs); numbers = (tt, h.numbers) })),
  (λ h. let k = subst (IsWritable n) e h in record { inputs = k.inputs.1; numbers = k.numbers.1 }),
)

pub product-writable : (n : ℕ) (b : plain.Bound) (bs : Parts) → b ≡ plain.ProductOf bs → AreWritable n bs ↔ IsWritable n b
product-writable n b bs e = (
  (λ h. subst (IsWritable n) (sym e) (record { inputs = (tt, h.inputs); numbers = (tt, h.numbers) })),
  (λ h. let k = subst (IsWritable n) e h in record { inputs = k.inputs.1; numbers = k.numbers.1 }),
)

pub maximum-writable : (n : ℕ) (b : plain.Bound) (bs : Parts) → b ≡ plain.MaximumOf bs → AreWritable n bs ↔ IsWritable n b
maximum-writable n b bs e = (
  (λ h. subst (IsWritable n) (sym e) (record { inputs = (tt, h.inputs); numbers = (tt, h.numbers) })),
  (λ h. let k = subst (IsWritable n) e h in record { inputs = k.inputs.1; numbers = k.numbers.1 }),
)
