-- Entries and costs, written one by one.
use Rattle.std.proofs.Common.{◌≡◌, ℕ, zero, suc, ◌+◌, ◌<◌, ◌≤◌, ap, arith, refl, sym, ◌∙◌, subst, List, [], ◌∷◌, ◌++◌}
use Rattle.std.proofs.Common.{length, map, take, get_or}
use Rattle.std.specs.Prelude.{ℤ, pos, unsigned_abs}
use Rattle.std.specs.List.{All}
use Rattle.std.proofs.lemmas.List.{append-nil, map-append, take_more, length-take-le}
use Rattle.simplex_core.proofs.linear_forms.SolutionLaws.{length-map}
use Rattle.simplex_core.specs.declared.problem.Entry.{Entry}
use Rattle.lp_builder.specs.declared.writer.EntryWriter.{EntryWriter}
use Rattle.lp_builder.specs.Entries.{sparse, entries_of, Writes, GoesOn}
use Rattle.lp_builder.proofs.WriterLaws.{writes-more}
use Rattle.lp_builder.proofs.Groups.{entries-append}
use Rattle.lp_text.specs.declared.written.WrittenRow.{WrittenRow}
use Rattle.lp_text.specs.Lps.{number_limit, size_limit}
use Rattle.lp_text.specs.Spelled.{AreCosts, AreNumbers, AreRowsOf}
use Rattle.lp_text.specs.Views.{row_of}

-- the entries after one more line
pub entries-more : {X : Type 0} (f : X → List ℤ) (xs : List X) (i : ℕ) (d : X) → i < length xs
    → entries_of 0 (map f (take (i + 1) xs)) ≡ entries_of 0 (map f (take i xs)) ++ sparse i 0 (f (get_or xs i d))
entries-more {X} f xs i d l =
    ap (λ (ys : List X). entries_of 0 (map f ys)) (take_more xs i d l)
    ∙ (ap (λ (ls : List (List ℤ)). entries_of 0 ls) (map-append f (take i xs) (get_or xs i d ∷ []))
    ∙ (entries-append 0 (map f (take i xs)) (f (get_or xs i d) ∷ [])
    ∙ (ap (λ (k : ℕ). entries_of 0 (map f (take i xs)) ++ entries_of k (f (get_or xs i d) ∷ [])) count
    ∙ ap (λ (es : List Entry). entries_of 0 (map f (take i xs)) ++ es) (append-nil (sparse i 0 (f (get_or xs i d)))))))
  where
    count : 0 + length (map f (take i xs)) ≡ i
    count = let a = length-map f (take i xs) in let b = length-take-le i xs (omega (arith, l)) in omega (arith, a, b)

-- a cost in a list within the limit is within it
pub cost-in_range : (cs : List ℕ) (i d : ℕ) → AreCosts cs → i < length cs → get_or cs i d ≤ number_limit
cost-in_range [] i d h l = absurd (omega (arith, l))
cost-in_range (c ∷ cs) zero d h l = h.0
cost-in_range (c ∷ cs) (suc i) d h l = cost-in_range cs i d h.1 (omega (arith, l))

-- the numbers of a row after one more is written
pub numbers-more : (a b c : EntryWriter) (xs : List ℤ) (i : ℕ) (v d : ℤ) → Writes a b (take i xs) → Writes b c (v ∷ [])
    → v ≡ get_or xs i d → i < length xs → Writes a c (take (i + 1) xs)
numbers-more a b c xs i v d w u e l =
    subst (λ (zs : List ℤ). Writes a c zs)
    (ap (λ (z : ℤ). take i xs ++ (z ∷ [])) e ∙ sym (take_more xs i d l))
    (writes-more a b c (take i xs) (v ∷ []) w u)

-- the entries after one more row is written
pub rows-more : {X : Type 0} (f : X → List ℤ) (xs : List X) (i : ℕ) (d : X) (ns : List ℤ) (a b c : EntryWriter)
    → a.entries.items ≡ entries_of 0 (map f (take i xs)) → a.row ≡ i → a.col ≡ 0 → Writes a b ns → GoesOn b c
    → ns ≡ f (get_or xs i d) → i < length xs → c.entries.items ≡ entries_of 0 (map f (take (i + 1) xs))
rows-more {X} f xs i d ns a b c h row col w g e l =
    g.entries
    ∙ (w.entries
    ∙ (ap (λ (es : List Entry). es ++ sparse a.row a.col ns) h
    ∙ (ap (λ (k : ℕ). entries_of 0 (map f (take i xs)) ++ sparse k a.col ns) row
    ∙ (ap (λ (k : ℕ). entries_of 0 (map f (take i xs)) ++ sparse i k ns) col
    ∙ (ap (λ (zs : List ℤ). entries_of 0 (map f (take i xs)) ++ sparse i 0 zs) e ∙ sym (entries-more f xs i d l))))))

-- the costs after one more is written
pub costs-more : (vs ws : List ℤ) (cs : List ℕ) (i d : ℕ) (v : ℤ) → vs ≡ map pos (take i cs) → ws ≡ vs ++ v ∷ []
    → v ≡ pos (get_or cs i d) → i < length cs → ws ≡ map pos (take (i + 1) cs)
costs-more vs ws cs i d v h g e l =
    g
    ∙ (ap (λ (us : List ℤ). us ++ v ∷ []) h
    ∙ (ap (λ (z : ℤ). map pos (take i cs) ++ z ∷ []) e
    ∙ (sym (map-append pos (take i cs) (get_or cs i d ∷ [])) ∙ ap (λ (ks : List ℕ). map pos ks) (sym (take_more cs i d l)))))

-- a number in a list within the limit is within it
pub number-in_range : (zs : List ℤ) (i : ℕ) (d : ℤ) → AreNumbers zs → i < length zs
    → unsigned_abs (get_or zs i d) ≤ number_limit
number-in_range [] i d h l = absurd (omega (arith, l))
number-in_range (z ∷ zs) zero d h l = h.0
number-in_range (z ∷ zs) (suc i) d h l = number-in_range zs i d h.1 (omega (arith, l))

-- each row has at most 64 numbers, each within the limit
pub rows-within : (n : ℕ) (rs : List WrittenRow) → AreRowsOf n (map row_of rs) → n ≤ size_limit
    → All (λ r. (length r.numbers.items ≤ size_limit) × AreNumbers r.numbers.items) rs
rows-within n [] h few k d l = absurd (omega (arith, l))
rows-within n (r ∷ rs) h few zero d l = ((let e = h.0.count in omega (arith, e, few)), h.0.numbers)
rows-within n (r ∷ rs) h few (suc k) d l = rows-within n rs h.1 few k d (omega (arith, l))
