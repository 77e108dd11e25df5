-- Entries that are written one by one.
use Rattle.std.proofs.Common.{◌≡◌, ℕ, zero, suc, ◌+◌, ◌<◌, ◌≤◌, List, [], ◌∷◌, ◌++◌, length, map, take, get_or, Vec}
use Rattle.std.proofs.Common.{Option, Some, None, option_map, refl, sym, ◌∙◌, ap, subst, arith}
use Rattle.std.specs.declared.alloc.Global.{Global}
use Rattle.std.specs.List.{All}
use Rattle.std.proofs.lemmas.List.{map-append, take_more}
use Rattle.std.proofs.lemmas.List.Elements.{All-head, All-tail, All-cons, All-nil}
use Rattle.outcome.specs.Reports.{NoSize, Size, Unsized}
use Rattle.outcome.specs.declared.entry.Stored.{Stored}
use Rattle.outcome.specs.Views.{size_of}
use Rattle.outcome.specs.declared.entry.SizeEntry.{SizeEntry}
use Rattle.cert_types.specs.cert_rules.Nodes.{ResultVariable}
use Rattle.time_bounds.specs.declared.candidates.Candidate.{Candidate}
use Rattle.time_bounds.specs.declared.sizing.ComponentAttempt.{ComponentAttempt}
use Rattle.time_bounds.specs.Candidates.{result_variables_in}
use Rattle.time_bounds.specs.Attempts.{why_of}
use Rattle.bound_derivations.specs.ByKey.{put_place}
use Rattle.time_bounds.specs.SizeSaid.{seen_row, seen_rows, put_some, put_result_variables, put_why, put_whys, said_stored}
use Rattle.time_bounds.specs.SizeSaid.{AreThere}
use Rattle.time_bounds.proofs.PlacedLaws.{place_map}

-- writing a value at one place more
pub result_variables_more : {A : Type 0} (rows : List (List (Option A))) (result_variables : List ResultVariable) (m : ResultVariable) (a : A)
    → put_result_variables rows (result_variables ++ m ∷ []) a ≡ put_place (put_result_variables rows result_variables a) m.rule m.place a
result_variables_more rows [] m a = refl
result_variables_more rows (s ∷ result_variables) m a = result_variables_more (put_place rows s.rule s.place a) result_variables m a

-- writing the reasons of one candidate more
pub whys_more : (rows : List (List (Option Size))) (cs : List Candidate) (xs : List ComponentAttempt) (c : Candidate) (x : ComponentAttempt) → length cs ≡ length xs
    → put_whys rows (cs ++ c ∷ []) (xs ++ x ∷ []) ≡ put_why (put_whys rows cs xs) (result_variables_in c) (why_of c x)
whys_more rows [] [] c x e = refl
whys_more rows [] (y ∷ xs) c x e = absurd (omega (arith, e))
whys_more rows (d ∷ cs) [] c x e = absurd (omega (arith, e))
whys_more rows (d ∷ cs) (y ∷ xs) c x e =
    whys_more (put_why rows (result_variables_in d) (why_of d y)) cs xs c x (let h : length cs ≡ length xs = omega (arith, e) in h)

-- the reason is written at one place more
pub why_more : (rows : List (List (Option Size))) (result_variables : List ResultVariable) (m : ResultVariable) (o : Option NoSize)
    → put_why rows (result_variables ++ m ∷ []) o ≡ put_some (put_why rows result_variables o) m (option_map Unsized o)
why_more rows result_variables m None = refl
why_more rows result_variables m (Some why) = result_variables_more rows result_variables m (Unsized why)

-- if there are no places, no reason is written
pub why_nowhere : (rows : List (List (Option Size))) (o : Option NoSize) → put_why rows [] o ≡ rows
why_nowhere rows None = refl
why_nowhere rows (Some why) = refl

-- writing an entry is writing its plain data
pub seen_place : (rows : List (List (Option SizeEntry))) (t i : ℕ) (e : SizeEntry) → seen_rows (put_place rows t i e) ≡ put_place (seen_rows rows) t i (size_of e)
seen_place rows t i e = place_map size_of rows t i e

-- the first n elements of a list with at most n are all
pub take_past : {A : Type 0} (n : ℕ) (xs : List A) → length xs ≤ n → take n xs ≡ xs
take_past zero [] l = refl
take_past zero (x ∷ xs) l = absurd (omega (arith, l))
take_past (suc n) [] l = refl
take_past (suc n) (x ∷ xs) l = ap (λ (ys : List _). x ∷ ys) (take_past n xs (omega (arith, l)))

-- a mapped list with one element more
pub seen_more : {A B C : Type 0} (f : A → C) (g : B → C) (xs : List A) (ys : List B) (i : ℕ) (x : A) (y : B) → map f xs ≡ map g (take i ys) → f x ≡ g y
    → i < length ys → y ≡ get_or ys i y → map f (xs ++ x ∷ []) ≡ map g (take (i + 1) ys)
seen_more f g xs ys i x y h e l r =
    map-append f xs (x ∷ [])
    ∙ (ap (λ (cs : List _). cs ++ f x ∷ []) h
    ∙ (ap (λ (c : _). map g (take i ys) ++ c ∷ []) e
    ∙ (sym (map-append g (take i ys) (y ∷ []))
    ∙ ap (map g) (ap (λ (b : _). take i ys ++ b ∷ []) r ∙ sym (take_more ys i y l)))))

-- mapped rows with one row more
pub row_more : (rows : List (Vec (Option SizeEntry) Global)) (sizes : List (Vec (Option Stored) Global)) (i : ℕ) (r : Vec (Option SizeEntry) Global)
    (s : Vec (Option Stored) Global)
    → seen_rows (map (λ row. row.items) rows) ≡ map (λ row. map said_stored row) (map (λ row. row.items) (take i sizes))
    → seen_row r.items ≡ map said_stored s.items → i < length sizes → s ≡ get_or sizes i s
    → seen_rows (map (λ row. row.items) (rows ++ r ∷ [])) ≡ map (λ row. map said_stored row) (map (λ row. row.items) (take (i + 1) sizes))
row_more rows sizes i r s h e l k =
    ap seen_rows (map-append (λ row. row.items) rows (r ∷ []))
    ∙ (map-append seen_row (map (λ row. row.items) rows) (r.items ∷ [])
    ∙ (ap (λ (cs : List (List (Option Size))). cs ++ seen_row r.items ∷ []) h
    ∙ (ap (λ (c : List (Option Size)). map (λ row. map said_stored row) (map (λ row. row.items) (take i sizes)) ++ c ∷ []) e
    ∙ (sym (map-append (λ row. map said_stored row) (map (λ row. row.items) (take i sizes)) (s.items ∷ []))
    ∙ ap (map (λ row. map said_stored row))
    (sym (map-append (λ row. row.items) (take i sizes) (s ∷ []))
    ∙ ap (map (λ row. row.items)) (ap (λ (b : Vec (Option Stored) Global). take i sizes ++ b ∷ []) k ∙ sym (take_more sizes i s l)))))))

-- rows of entries with one row more
pub said_more : (rows : List (Vec SizeEntry Global)) (entries : List (Vec (Option SizeEntry) Global)) (r : Vec SizeEntry Global)
    (e : Vec (Option SizeEntry) Global) → map (λ row. map (λ x. Some x) row.items) rows ≡ map (λ row. row.items) entries
    → map (λ x. Some x) r.items ≡ e.items
    → map (λ row. map (λ x. Some x) row.items) (rows ++ r ∷ []) ≡ map (λ row. row.items) (entries ++ e ∷ [])
said_more rows entries r e h k =
    map-append (λ row. map (λ x. Some x) row.items) rows (r ∷ [])
    ∙ (ap (λ (cs : List (List (Option SizeEntry))). cs ++ map (λ x. Some x) r.items ∷ []) h
    ∙ (ap (λ (c : List (Option SizeEntry)). map (λ row. row.items) entries ++ c ∷ []) k
    ∙ sym (map-append (λ row. row.items) entries (e ∷ []))))

-- a row with one entry more
pub entry_more : (said : List SizeEntry) (entries : List (Option SizeEntry)) (e : SizeEntry) (o : Option SizeEntry)
    → map (λ x. Some x) said ≡ entries → o ≡ Some e → map (λ x. Some x) (said ++ e ∷ []) ≡ entries ++ o ∷ []
entry_more said entries e o h k =
    map-append (λ x. Some x) said (e ∷ [])
    ∙ (ap (λ (cs : List (Option SizeEntry)). cs ++ Some e ∷ []) h ∙ ap (λ (x : Option SizeEntry). entries ++ x ∷ []) (sym k))

-- the entries of sizes are those of plain data
pub said_seen : (rows : List (Vec SizeEntry Global)) → map (λ row. map (λ e. Some (size_of e)) row.items) rows
    ≡ seen_rows (map (λ row. map (λ x. Some x) row.items) rows)
said_seen [] = refl
said_seen (r ∷ rows) =
    ap (λ (c : List (Option Size)). c ∷ map (λ row. map (λ e. Some (size_of e)) row.items) rows) (one r.items)
    ∙ ap (λ (cs : List (List (Option Size))). seen_row (map (λ x. Some x) r.items) ∷ cs) (said_seen rows)
  where
    one : (row : List SizeEntry) → map (λ e. Some (size_of e)) row ≡ seen_row (map (λ x. Some x) row)
    one [] = refl
    one (e ∷ row) = ap (λ (c : List (Option Size)). Some (size_of e) ∷ c) (one row)

-- an entry of a row that has all its entries is present
pub there_at : (row : List (Option SizeEntry)) (i : ℕ) (o : Option SizeEntry) → AreThere (seen_row row) → i < length row → o ≡ get_or row i o
    → AreThere (o ∷ [])
there_at [] i o h l e = absurd (omega (arith, l))
there_at (None ∷ row) i o h l e = absurd h
there_at (Some x ∷ row) zero o h l e = subst (λ (y : Option SizeEntry). AreThere (y ∷ [])) (sym e) tt
there_at (Some x ∷ row) (suc i) o h l e = there_at row i o h (omega (arith, l)) e

-- rows that have all their entries, as plain data
pub there_rows : (rows : List (Vec (Option SizeEntry) Global)) → All AreThere (seen_rows (map (λ row. row.items) rows))
    → All (λ (row : Vec (Option SizeEntry) Global). AreThere (seen_row row.items)) rows
there_rows [] h = All-nil (λ (row : Vec (Option SizeEntry) Global). AreThere (seen_row row.items))
there_rows (r ∷ rows) h =
    All-cons (λ (row : Vec (Option SizeEntry) Global). AreThere (seen_row row.items)) r rows
    (All-head AreThere (seen_row r.items) (seen_rows (map (λ row. row.items) rows)) h)
    (there_rows rows (All-tail AreThere (seen_row r.items) (seen_rows (map (λ row. row.items) rows)) h))
