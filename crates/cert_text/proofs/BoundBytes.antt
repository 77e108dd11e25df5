-- The bytes of the first pieces of a bound.
use Rattle.std.proofs.Common.{◌≡◌, ℕ, zero, suc, ◌+◌, ◌-◌, ◌<◌, List, [], ◌∷◌, ◌++◌, length, take, refl, ap, ◌∙◌, arith}
use Rattle.std.proofs.Common.{length-append}
use Rattle.cert_lexer.specs.declared.inner.Inner.{Inner}
use Rattle.cert_text.specs.NumberFaults.{bytes_of}

-- the bytes of the first n pieces are those of the first piece and of n - 1 after it
pub bytes_more : (n : ℕ) (xs ys : List Inner) (x : Inner) → xs ≡ x ∷ ys → 0 < n
    → bytes_of (take n xs) ≡ x.len + bytes_of (take (n - 1) ys)
bytes_more zero xs ys x e l = absurd (omega (arith, l))
bytes_more (suc n) xs ys x e l =
    ap (λ (zs : List Inner). bytes_of (take (suc n) zs)) e
    ∙ ap (λ (k : ℕ). x.len + bytes_of (take k ys)) (let s : n ≡ suc n - 1 = omega arith in s)

-- no pieces have no bytes
pub bytes_none : (n : ℕ) (xs : List Inner) → length xs ≡ 0 → bytes_of (take n xs) ≡ 0
bytes_none zero xs e = refl
bytes_none (suc n) [] e = refl
bytes_none (suc n) (x ∷ xs) e = absurd (omega (arith, e))

-- the first pieces of two lists joined, as many as the first list has, are that list
prefix_taken : (xs ys : List Inner) → take (length xs) (xs ++ ys) ≡ xs
prefix_taken [] ys = refl
prefix_taken (x ∷ xs) ys = ap (λ (zs : List Inner). x ∷ zs) (prefix_taken xs ys)

-- the pieces of a list but its last
pub before_taken : (all before : List Inner) (last : Inner) → all ≡ before ++ last ∷ [] → take (length all - 1) all ≡ before
before_taken all before last e =
    let a = ap length e in let b = length-append before (last ∷ []) in
    let n : length all - 1 ≡ length before = omega (arith, a, b) in
    ap (λ (k : ℕ). take k all) n ∙ ap (take (length before)) e ∙ prefix_taken before (last ∷ [])
