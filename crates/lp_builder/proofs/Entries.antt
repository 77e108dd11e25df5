-- The entries of lines: each cell has the line's number, no cell has two entries, and all lie inside the lines.
use Rattle.std.proofs.Common.{◌≡◌, ◌≢◌, ℕ, zero, suc, ◌+◌, ◌<◌, ◌≤◌, ap, arith, refl, sym, ◌∙◌, subst, ◌⊎◌, inl, inr}
use Rattle.std.proofs.Common.{Bool, true, false, List, [], ◌∷◌, ◌++◌, length, get_or, replicate, Some}
use Rattle.std.specs.Prelude.{ℤ, pos, negsuc, if◌then◌else◌, slice_get, nat_eq, ◌&&◌}
use Rattle.std.specs.List.{All}
use Rattle.std.proofs.lemmas.Bool.Decides.{eqb_tells}
use Rattle.std.proofs.lemmas.List.Elements.{All-head, All-tail}
use Rattle.simplex_core.specs.int_laws.NormalForm.{is_zero}
use Rattle.simplex_core.specs.linear_forms.Forms.{at}
use Rattle.simplex_core.specs.declared.problem.Entry.{Entry}
use Rattle.simplex_core.specs.Problem.{entry_value}
use Rattle.lp_builder.specs.Entries.{sparse, entries_of}

-- a number is 0 or isn't
zero_or_not : (x : ℤ) → ((is_zero x ≡ true) × (x ≡ pos 0)) ⊎ (is_zero x ≡ false)
zero_or_not (pos zero) = inl (refl, refl)
zero_or_not (pos (suc n)) = inr refl
zero_or_not (negsuc n) = inr refl

-- a list that begins with this entry
abbrev first_of_list : ℕ → ℕ → ℤ → List Entry → List Entry
first_of_list r c x es = record { row = r; col = c; value = x } ∷ es

-- if the first number is 0, the sparse entries are those of the others
sparse-zero : (r c : ℕ) (x : ℤ) (xs : List ℤ) → is_zero x ≡ true → sparse r c (x ∷ xs) ≡ sparse r (suc c) xs
sparse-zero r c x xs e = ap (λ (b : Bool). if b then sparse r (suc c) xs else first_of_list r c x (sparse r (suc c) xs)) e

-- if the first number isn't 0, the sparse entries begin with its own
sparse-there : (r c : ℕ) (x : ℤ) (xs : List ℤ) → is_zero x ≡ false → sparse r c (x ∷ xs) ≡ first_of_list r c x (sparse r (suc c) xs)
sparse-there r c x xs e = ap (λ (b : Bool). if b then sparse r (suc c) xs else first_of_list r c x (sparse r (suc c) xs)) e

-- the sparse entries of appended numbers
pub sparse-append : (r c : ℕ) (xs ys : List ℤ) → sparse r c (xs ++ ys) ≡ sparse r c xs ++ sparse r (c + length xs) ys
sparse-append r c [] ys = ap (λ (k : ℕ). sparse r k ys) (omega arith)
sparse-append r c (x ∷ xs) ys = go (zero_or_not x) (sparse-append r (suc c) xs ys)
  where
    shift : suc c + length xs ≡ c + suc (length xs)
    shift = omega arith

    behind : sparse r (suc c + length xs) ys ≡ sparse r (c + suc (length xs)) ys
    behind = ap (λ (k : ℕ). sparse r k ys) shift

    go : ((is_zero x ≡ true) × (x ≡ pos 0)) ⊎ (is_zero x ≡ false) → sparse r (suc c) (xs ++ ys) ≡ sparse r (suc c) xs ++ sparse r (suc c + length xs) ys
        → sparse r c (x ∷ (xs ++ ys)) ≡ sparse r c (x ∷ xs) ++ sparse r (c + suc (length xs)) ys
    go (inl e) ih =
        sparse-zero r c x (xs ++ ys) e.0 ∙ (ih ∙ (ap (λ es. sparse r (suc c) xs ++ es) behind ∙ sym (ap (λ es. es ++ sparse r (c + suc (length xs)) ys) (sparse-zero r c x xs e.0))))
    go (inr e) ih =
        sparse-there r c x (xs ++ ys) e
        ∙ (ap (λ es. first_of_list r c x es) (ih ∙ ap (λ es. sparse r (suc c) xs ++ es) behind)
        ∙ sym (ap (λ es. es ++ sparse r (c + suc (length xs)) ys) (sparse-there r c x xs e)))

-- zeros have no entries
pub sparse-zeros : (r c n : ℕ) → sparse r c (replicate n (pos 0)) ≡ []
sparse-zeros r c zero = refl
sparse-zeros r c (suc n) = sparse-zeros r (suc c) n

-- the number of an entry's own cell is the entry's
entry-here : (r c : ℕ) (x : ℤ) (es : List Entry) → entry_value (first_of_list r c x es) r c ≡ x
entry-here r c x es = go (eqb_tells r r) (eqb_tells c c)
  where
    go : ((nat_eq r r ≡ true) × (r ≡ r)) ⊎ ((nat_eq r r ≡ false) × (r ≢ r)) → ((nat_eq c c ≡ true) × (c ≡ c)) ⊎ ((nat_eq c c ≡ false) × (c ≢ c))
        → entry_value (first_of_list r c x es) r c ≡ x
    go (inr a) b = absurd (a.1 refl)
    go (inl a) (inr b) = absurd (b.1 refl)
    go (inl a) (inl b) = ap (λ (v : Bool). if v && nat_eq c c then x else entry_value es r c) a.0 ∙ ap (λ (v : Bool). if v then x else entry_value es r c) b.0

-- the number of another cell doesn't depend on the entry
entry-other : (r c i j : ℕ) (x : ℤ) (es : List Entry) → (r ≢ i) ⊎ (c ≢ j) → entry_value (first_of_list r c x es) i j ≡ entry_value es i j
entry-other r c i j x es d = go (eqb_tells r i) (eqb_tells c j) d
  where
    no_and : (a : Bool) → (a && false) ≡ false
    no_and true = refl
    no_and false = refl

    go : ((nat_eq r i ≡ true) × (r ≡ i)) ⊎ ((nat_eq r i ≡ false) × (r ≢ i)) → ((nat_eq c j ≡ true) × (c ≡ j)) ⊎ ((nat_eq c j ≡ false) × (c ≢ j)) → (r ≢ i) ⊎ (c ≢ j)
        → entry_value (first_of_list r c x es) i j ≡ entry_value es i j
    go (inr a) b d = ap (λ (v : Bool). if v && nat_eq c j then x else entry_value es i j) a.0
    go (inl a) (inr b) d = ap (λ (v : Bool). if nat_eq r i && v then x else entry_value es i j) b.0 ∙ ap (λ (v : Bool). if v then x else entry_value es i j) (no_and (nat_eq r i))
    go (inl a) (inl b) (inl d) = absurd (d a.1)
    go (inl a) (inl b) (inr d) = absurd (d b.1)

-- the numbers of a row change no cell of another row
row-other : (r c i j : ℕ) (xs : List ℤ) (es : List Entry) → r ≢ i → entry_value (sparse r c xs ++ es) i j ≡ entry_value es i j
row-other r c i j [] es d = refl
row-other r c i j (x ∷ xs) es d = go (zero_or_not x) (row-other r (suc c) i j xs es d)
  where
    go : ((is_zero x ≡ true) × (x ≡ pos 0)) ⊎ (is_zero x ≡ false) → entry_value (sparse r (suc c) xs ++ es) i j ≡ entry_value es i j
        → entry_value (sparse r c (x ∷ xs) ++ es) i j ≡ entry_value es i j
    go (inl e) ih = ap (λ fs. entry_value (fs ++ es) i j) (sparse-zero r c x xs e.0) ∙ ih
    go (inr e) ih = ap (λ fs. entry_value (fs ++ es) i j) (sparse-there r c x xs e) ∙ (entry-other r c i j x (sparse r (suc c) xs ++ es) (inl d) ∙ ih)

-- the numbers of a row change no cell in a column before them
row-before : (r c j : ℕ) (xs : List ℤ) (es : List Entry) → j < c → entry_value (sparse r c xs ++ es) r j ≡ entry_value es r j
row-before r c j [] es l = refl
row-before r c j (x ∷ xs) es l = go (zero_or_not x) (row-before r (suc c) j xs es (omega arith))
  where
    apart : c ≢ j
    apart e = omega arith

    go : ((is_zero x ≡ true) × (x ≡ pos 0)) ⊎ (is_zero x ≡ false) → entry_value (sparse r (suc c) xs ++ es) r j ≡ entry_value es r j
        → entry_value (sparse r c (x ∷ xs) ++ es) r j ≡ entry_value es r j
    go (inl e) ih = ap (λ fs. entry_value (fs ++ es) r j) (sparse-zero r c x xs e.0) ∙ ih
    go (inr e) ih = ap (λ fs. entry_value (fs ++ es) r j) (sparse-there r c x xs e) ∙ (entry-other r c r j x (sparse r (suc c) xs ++ es) (inr apart) ∙ ih)

-- the cells of a row have the row's numbers
row-value : (r c k : ℕ) (xs : List ℤ) (es : List Entry) → ((j : ℕ) → entry_value es r j ≡ pos 0) → entry_value (sparse r c xs ++ es) r (c + k) ≡ at xs k
row-value r c k [] es none = none (c + k)
row-value r c zero (x ∷ xs) es none = go (zero_or_not x)
  where
    plain : c + zero ≡ c
    plain = omega arith

    go : ((is_zero x ≡ true) × (x ≡ pos 0)) ⊎ (is_zero x ≡ false) → entry_value (sparse r c (x ∷ xs) ++ es) r (c + zero) ≡ x
    go (inl e) =
        ap (λ fs. entry_value (fs ++ es) r (c + zero)) (sparse-zero r c x xs e.0)
        ∙ (row-before r (suc c) (c + zero) xs es (omega arith) ∙ (none (c + zero) ∙ sym e.1))
    go (inr e) =
        ap (λ (j : ℕ). entry_value (sparse r c (x ∷ xs) ++ es) r j) plain
        ∙ (ap (λ fs. entry_value (fs ++ es) r c) (sparse-there r c x xs e) ∙ entry-here r c x (sparse r (suc c) xs ++ es))
row-value r c (suc k) (x ∷ xs) es none = go (zero_or_not x) (row-value r (suc c) k xs es none)
  where
    shift : c + suc k ≡ suc c + k
    shift = omega arith

    apart : c ≢ c + suc k
    apart e = omega arith

    go : ((is_zero x ≡ true) × (x ≡ pos 0)) ⊎ (is_zero x ≡ false) → entry_value (sparse r (suc c) xs ++ es) r (suc c + k) ≡ at xs k
        → entry_value (sparse r c (x ∷ xs) ++ es) r (c + suc k) ≡ at xs k
    go (inl e) ih =
        ap (λ fs. entry_value (fs ++ es) r (c + suc k)) (sparse-zero r c x xs e.0) ∙ (ap (λ (j : ℕ). entry_value (sparse r (suc c) xs ++ es) r j) shift ∙ ih)
    go (inr e) ih =
        ap (λ fs. entry_value (fs ++ es) r (c + suc k)) (sparse-there r c x xs e)
        ∙ (entry-other r c r (c + suc k) x (sparse r (suc c) xs ++ es) (inr apart) ∙ (ap (λ (j : ℕ). entry_value (sparse r (suc c) xs ++ es) r j) shift ∙ ih))

-- lines from a row on change no cell of an earlier row
rows-before : (r i j : ℕ) (ls : List (List ℤ)) → i < r → entry_value (entries_of r ls) i j ≡ pos 0
rows-before r i j [] l = refl
rows-before r i j (x ∷ ls) l = row-other r 0 i j x (entries_of (suc r) ls) (λ e. omega arith) ∙ rows-before (suc r) i j ls (omega arith)

-- each cell has its line's number
pub lines-value : (r i j : ℕ) (ls : List (List ℤ)) → entry_value (entries_of r ls) (r + i) j ≡ at (get_or ls i []) j
lines-value r i j [] = refl
lines-value r zero j (l ∷ ls) =
    ap (λ (k : ℕ). entry_value (sparse r 0 l ++ entries_of (suc r) ls) k j) plain
    ∙ (ap (λ (k : ℕ). entry_value (sparse r 0 l ++ entries_of (suc r) ls) r k) column
    ∙ row-value r 0 j l (entries_of (suc r) ls) (λ k. rows-before (suc r) r k ls (omega arith)))
  where
    plain : r + zero ≡ r
    plain = omega arith

    column : j ≡ 0 + j
    column = omega arith
lines-value r (suc i) j (l ∷ ls) =
    row-other r 0 (r + suc i) j l (entries_of (suc r) ls) (λ e. omega arith)
    ∙ (ap (λ (k : ℕ). entry_value (entries_of (suc r) ls) k j) shift ∙ lines-value (suc r) i j ls)
  where
    shift : r + suc i ≡ suc r + i
    shift = omega arith

-- a property holds of each entry
abbrev pub Each : (Entry → Type 0) → List Entry → Type 0
Each P [] = Unit {0}
Each P (e ∷ es) = P e × Each P es

-- a property of each entry holds of the one at a position
pub each-at : (P : Entry → Type 0) (es : List Entry) (k : ℕ) (e : Entry) → Each P es → slice_get es k ≡ Some e → P e
each-at P [] k e h i = absurd cc
each-at P (f ∷ es) zero e h i = let same : f ≡ e = cc in subst P same h.0
each-at P (f ∷ es) (suc k) e h i = each-at P es k e h.1 i

-- a property that implies another one
each-weaker : (P Q : Entry → Type 0) (es : List Entry) → ((e : Entry) → P e → Q e) → Each P es → Each Q es
each-weaker P Q [] f h = tt
each-weaker P Q (e ∷ es) f h = (f e h.0, each-weaker P Q es f h.1)

-- a property of each of the numbers of a row, and of each later entry
each-sparse : (P : Entry → Type 0) (r c : ℕ) (xs : List ℤ) (es : List Entry)
    → ((k : ℕ) (x : ℤ) → k < length xs → P (record { row = r; col = c + k; value = x })) → Each P es → Each P (sparse r c xs ++ es)
each-sparse P r c [] es h rest = rest
each-sparse P r c (x ∷ xs) es h rest =
    go (zero_or_not x)
    (each-sparse P r (suc c) xs es (λ k y l. subst (λ (j : ℕ). P (record { row = r; col = j; value = y })) (shift k) (h (suc k) y (omega arith))) rest)
  where
    shift : (k : ℕ) → c + suc k ≡ suc c + k
    shift k = omega arith

    plain : c + 0 ≡ c
    plain = omega arith

    go : ((is_zero x ≡ true) × (x ≡ pos 0)) ⊎ (is_zero x ≡ false) → Each P (sparse r (suc c) xs ++ es) → Each P (sparse r c (x ∷ xs) ++ es)
    go (inl e) ih = subst (λ fs. Each P (fs ++ es)) (sym (sparse-zero r c x xs e.0)) ih
    go (inr e) ih = subst (λ fs. Each P (fs ++ es)) (sym (sparse-there r c x xs e))
        (subst (λ (j : ℕ). P (record { row = r; col = j; value = x })) plain (h 0 x (omega arith)), ih)

-- the entries lie in the rows from r on and in the columns below a width
pub Inside : ℕ → ℕ → ℕ → Entry → Type 0
Inside r m w e = (r ≤ e.row) × (e.row < r + m) × (e.col < w)

-- the entries of lines lie inside the lines
pub lines-inside : (r w : ℕ) (ls : List (List ℤ)) → All (λ l. length l ≤ w) ls → Each (λ e. (r ≤ e.row) × (e.row < r + length ls) × (e.col < w)) (entries_of r ls)
lines-inside r w [] h = tt
lines-inside r w (l ∷ ls) h =
    each-sparse (λ e. (r ≤ e.row) × (e.row < r + suc (length ls)) × (e.col < w)) r 0 l (entries_of (suc r) ls)
    (λ k x m. (omega arith, omega arith, let n = All-head (λ (z : List ℤ). length z ≤ w) l ls h in omega arith))
    (each-weaker (λ e. (suc r ≤ e.row) × (e.row < suc r + length ls) × (e.col < w)) (λ e. (r ≤ e.row) × (e.row < r + suc (length ls)) × (e.col < w)) (entries_of (suc r) ls)
    (λ e i. (let a = i.0 in omega arith, let a = i.1 in omega arith, i.2))
    (lines-inside (suc r) w ls (All-tail (λ (z : List ℤ). length z ≤ w) l ls h)))

-- no later entry is in an entry's cell
abbrev pub Distinct : List Entry → Type 0
Distinct [] = Unit {0}
Distinct (e ∷ es) = Each (λ f. e.row ≡ f.row → e.col ≢ f.col) es × Distinct es

-- two entries of a list without repeated cells are in different cells
pub distinct-at : (es : List Entry) (k l : ℕ) (d e : Entry) → Distinct es → k < l → slice_get es k ≡ Some d → slice_get es l ≡ Some e → d.row ≡ e.row → d.col ≢ e.col
distinct-at [] k l d e h m i j = absurd cc
distinct-at (f ∷ es) zero zero d e h m i j = absurd (omega arith)
distinct-at (f ∷ es) zero (suc l) d e h m i j =
    let same : f ≡ d = cc in
    subst (λ (x : Entry). x.row ≡ e.row → x.col ≢ e.col) same (each-at (λ g. f.row ≡ g.row → f.col ≢ g.col) es l e h.0 j)
distinct-at (f ∷ es) (suc k) zero d e h m i j = absurd (omega arith)
distinct-at (f ∷ es) (suc k) (suc l) d e h m i j = distinct-at es k l d e h.1 (omega arith) i j

-- the numbers of a row are in different cells, none of which a later row has
distinct-sparse : (r c : ℕ) (xs : List ℤ) (es : List Entry) → Each (λ e. suc r ≤ e.row) es → Distinct es → Distinct (sparse r c xs ++ es)
distinct-sparse r c [] es later h = h
distinct-sparse r c (x ∷ xs) es later h = go (zero_or_not x) (distinct-sparse r (suc c) xs es later h)
  where
    apart : Each (λ f. r ≡ f.row → c ≢ f.col) (sparse r (suc c) xs ++ es)
    apart = each-sparse (λ f. r ≡ f.row → c ≢ f.col) r (suc c) xs es (λ k y l e g. omega arith) (each-weaker (λ e. suc r ≤ e.row) (λ f. r ≡ f.row → c ≢ f.col) es (λ e l g. absurd (omega arith)) later)

    go : ((is_zero x ≡ true) × (x ≡ pos 0)) ⊎ (is_zero x ≡ false) → Distinct (sparse r (suc c) xs ++ es) → Distinct (sparse r c (x ∷ xs) ++ es)
    go (inl e) ih = subst (λ fs. Distinct (fs ++ es)) (sym (sparse-zero r c x xs e.0)) ih
    go (inr e) ih = subst (λ fs. Distinct (fs ++ es)) (sym (sparse-there r c x xs e)) (apart, ih)

-- no cell of lines has two entries
pub lines-distinct : (r w : ℕ) (ls : List (List ℤ)) → All (λ l. length l ≤ w) ls → Distinct (entries_of r ls)
lines-distinct r w [] h = tt
lines-distinct r w (l ∷ ls) h =
    distinct-sparse r 0 l (entries_of (suc r) ls)
    (each-weaker (λ e. (suc r ≤ e.row) × (e.row < suc r + length ls) × (e.col < w)) (λ e. suc r ≤ e.row) (entries_of (suc r) ls) (λ e i. i.0)
    (lines-inside (suc r) w ls (All-tail (λ (z : List ℤ). length z ≤ w) l ls h)))
    (lines-distinct (suc r) w ls (All-tail (λ (z : List ℤ). length z ≤ w) l ls h))
