-- Counts of an outcome's entries are those of its report.
use Rattle.std.proofs.Common.{◌≡◌, ℕ, ◌+◌, Bool, cond, List, [], ◌∷◌, length, map, refl, sym, ◌∙◌, ap}
use Rattle.std.specs.Prelude.{sum_by, count_by}
use Rattle.std.proofs.lemmas.List.{length-map}
use Rattle.std.proofs.lemmas.List.Sums.{sum_by-cons}
use Rattle.outcome.specs.declared.entry.SizeEntry.{SizeEntry}
use Rattle.outcome.specs.declared.entry.SizeEntry.TheVariants as sizes
use Rattle.outcome.specs.Views.{size_of}
use Rattle.koat_cli.specs.Figures.{is_sized}
use Rattle.koat_cli.specs.Steps.{is_known_size}

-- the sum over a list is that over its plain data, if each element counts the same
sum_seen : {X Y : Type 0} (f : X → ℕ) (g : Y → ℕ) (view : X → Y) → ((x : X) → f x ≡ g (view x)) → (xs : List X)
    → sum_by f xs ≡ sum_by g (map view xs)
sum_seen f g view same [] = refl
sum_seen f g view same (x ∷ xs) =
    sum_by-cons f x xs
    ∙ (ap (λ (n : ℕ). n + sum_by f xs) (same x)
    ∙ (ap (λ (n : ℕ). g (view x) + n) (sum_seen f g view same xs) ∙ sym (sum_by-cons g (view x) (map view xs))))

-- 1 if a test succeeds, and 0 if it doesn't
abbrev pub one_where : Bool → ℕ
one_where b = cond b 1 0

-- a count over entries is the count over their plain data
count_seen : {X Y : Type 0} (p : X → Bool) (q : Y → Bool) (view : X → Y) → ((x : X) → p x ≡ q (view x)) → (xs : List X)
    → count_by p xs ≡ count_by q (map view xs)
count_seen p q view same xs = sum_seen (λ x. one_where (p x)) (λ y. one_where (q y)) view (λ x. ap one_where (same x)) xs

-- an entry is known exactly where its size is one
known_is_sized : (e : SizeEntry) → is_known_size e ≡ is_sized (size_of e)
known_is_sized (sizes.Known s) = refl
known_is_sized (sizes.UnboundedSide l) = refl
known_is_sized (sizes.OutOfLimits t) = refl
known_is_sized (sizes.Missing s) = refl
known_is_sized (sizes.Nonlinear s) = refl
known_is_sized (sizes.Untimed rule) = refl
known_is_sized (sizes.Large nodes) = refl

-- the number of entries that are sizes is that of the report
pub sizes_counted : {R : Type 0} (items : R → List SizeEntry) (rows : List R)
    → sum_by (λ row. count_by is_known_size (items row)) rows
    ≡ sum_by (λ row. count_by is_sized row) (map (λ row. map size_of (items row)) rows)
sizes_counted items rows =
    sum_seen (λ row. count_by is_known_size (items row)) (λ row. count_by is_sized row) (λ row. map size_of (items row))
    (λ row. count_seen is_known_size is_sized size_of known_is_sized (items row)) rows

-- the number of places is that of the report
pub places_counted : {R : Type 0} (items : R → List SizeEntry) (rows : List R)
    → sum_by (λ row. length (items row)) rows ≡ sum_by (λ row. length row) (map (λ row. map size_of (items row)) rows)
places_counted items rows =
    sum_seen (λ row. length (items row)) (λ row. length row) (λ row. map size_of (items row))
    (λ row. sym (length-map (items row) size_of)) rows
