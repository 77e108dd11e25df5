-- The numbers of a line, part by part.
use Rattle.std.proofs.Common.{◌≡◌, ℕ, zero, suc, ◌+◌, ◌-◌, ◌*◌, ◌<◌, ◌≤◌, ◌^◌, ap, arith, refl, sym, ◌∙◌, subst, ◌⊎◌}
use Rattle.std.proofs.Common.{inl, inr, Bool, true, false, List, [], ◌∷◌, ◌++◌, length, map, drop, take, get_or}
use Rattle.std.proofs.Common.{replicate, append_assoc, Some}
use Rattle.std.specs.Prelude.{ℤ, pos, neg_ℤ, unsigned_abs, nat_lt, if◌then◌else◌, slice_get}
use Rattle.std.specs.List.{All}
use Rattle.std.proofs.lemmas.List.{map-append, length-append, length-replicate, drop_more, drop_all, take_more}
use Rattle.std.proofs.lemmas.List.{take_all}
use Rattle.std.proofs.lemmas.List.Elements.{All-append, All-replicate, All-cons, All-head, All-tail}
use Rattle.simplex_core.specs.linear_forms.Forms.{Form, at}
use Rattle.simplex_core.specs.linear_forms.Combinations.{zero_form}
use Rattle.simplex_core.specs.linear_forms.Questions.{number, signed}
use Rattle.poly_terms.specs.declared.poly.Row.{Row}
use Rattle.poly_terms.specs.Views.{form_of}
use Rattle.lp_builder.specs.declared.description.Goal.{Goal}
use Rattle.lp_builder.specs.declared.writer.EntryWriter.{EntryWriter}
use Rattle.lp_builder.specs.Descriptions.{goal_forms, IsWritable}
use Rattle.lp_builder.specs.Entries.{Writes}
use Rattle.lp_builder.proofs.WriterLaws.{writes-more}

-- the number of a form in a line is a coefficient or the constant
number-cases : (n u : ℕ) (f : Form) → (number n u f ≡ at f.coefs u) ⊎ (number n u f ≡ f.constant)
number-cases n u f = go (nat_lt u n) refl
  where
    go : (b : Bool) → nat_lt u n ≡ b → (number n u f ≡ at f.coefs u) ⊎ (number n u f ≡ f.constant)
    go true e = inl (ap (λ (c : Bool). if c then at f.coefs u else f.constant) e)
    go false e = inr (ap (λ (c : Bool). if c then at f.coefs u else f.constant) e)

-- the number of the form 0 is 0
pub number-zero : (n u : ℕ) → number n u zero_form ≡ pos 0
number-zero n u = go (number-cases n u zero_form)
  where
    go : (number n u zero_form ≡ pos 0) ⊎ (number n u zero_form ≡ pos 0) → number n u zero_form ≡ pos 0
    go (inl e) = e
    go (inr e) = e

-- a coefficient, listed or not, can be negated
coefficient-narrow : (xs : List ℤ) (u : ℕ) → All (λ a. unsigned_abs a < 2 ^ 127) xs → unsigned_abs (at xs u) < 2 ^ 127
coefficient-narrow [] u h = omega arith
coefficient-narrow (x ∷ xs) zero h = All-head (λ a. unsigned_abs a < 2 ^ 127) x xs h
coefficient-narrow (x ∷ xs) (suc u) h = coefficient-narrow xs u (All-tail (λ a. unsigned_abs a < 2 ^ 127) x xs h)

-- the number of a writable form can be negated
pub number-narrow : (n u : ℕ) (f : Form) → IsWritable n f → unsigned_abs (number n u f) < 2 ^ 127
number-narrow n u f w = go (number-cases n u f)
  where
    go : (number n u f ≡ at f.coefs u) ⊎ (number n u f ≡ f.constant) → unsigned_abs (number n u f) < 2 ^ 127
    go (inl e) = subst (λ (z : ℤ). unsigned_abs z < 2 ^ 127) (sym e) (coefficient-narrow f.coefs u w.coefs)
    go (inr e) = subst (λ (z : ℤ). unsigned_abs z < 2 ^ 127) (sym e) w.constant

-- the pairs of appended lists
pub signed-append : (xs ys : List ℤ) → signed (xs ++ ys) ≡ signed xs ++ signed ys
signed-append [] ys = refl
signed-append (x ∷ xs) ys = ap (λ (zs : List ℤ). x ∷ neg_ℤ x ∷ zs) (signed-append xs ys)

-- the pairs of forms 0 are zeros
pub signed-zeros : (n u m : ℕ) → signed (map (number n u) (replicate m zero_form)) ≡ replicate (2 * m) (pos 0)
signed-zeros n u zero = refl
signed-zeros n u (suc m) =
    ap (λ (z : ℤ). z ∷ neg_ℤ z ∷ signed (map (number n u) (replicate m zero_form))) (number-zero n u)
    ∙ (ap (λ (zs : List ℤ). pos 0 ∷ pos 0 ∷ zs) (signed-zeros n u m) ∙ sym (ap (λ (k : ℕ). replicate k (pos 0)) twice))
  where
    twice : 2 * suc m ≡ suc (suc (2 * m))
    twice = omega arith

-- the pairs of the goals from parameter k on, up to the first listed one
pub pairs-next : (n u k p : ℕ) (g : Goal) (gs : List Goal)
    → signed (map (number n u) (goal_forms k p (g ∷ gs)))
    ≡ (replicate (2 * (g.parameter - k)) (pos 0) ++ (number n u (form_of g.form) ∷ neg_ℤ (number n u (form_of g.form)) ∷ [])) ++ signed (map (number n u) (goal_forms (g.parameter + 1) p gs))
pairs-next n u k p g gs =
    ap signed (map-append (number n u) (replicate (g.parameter - k) zero_form) (form_of g.form ∷ goal_forms (g.parameter + 1) p gs))
    ∙ (signed-append (map (number n u) (replicate (g.parameter - k) zero_form)) (number n u (form_of g.form) ∷ map (number n u) (goal_forms (g.parameter + 1) p gs))
    ∙ (ap (λ (zs : List ℤ). zs ++ (number n u (form_of g.form) ∷ neg_ℤ (number n u (form_of g.form)) ∷ signed (map (number n u) (goal_forms (g.parameter + 1) p gs)))) (signed-zeros n u (g.parameter - k))
    ∙ sym (append_assoc (replicate (2 * (g.parameter - k)) (pos 0)) (number n u (form_of g.form) ∷ neg_ℤ (number n u (form_of g.form)) ∷ []) (signed (map (number n u) (goal_forms (g.parameter + 1) p gs))))))

-- the forms of goals, listed or 0, have no coefficient past the unknowns
pub goal_forms-fit : (n k p : ℕ) (gs : List Goal) → All (λ g. IsWritable n (form_of g.form)) gs → All (λ f. length f.coefs ≤ n) (goal_forms k p gs)
goal_forms-fit n k p [] h = All-replicate (λ (f : Form). length f.coefs ≤ n) (p - k) zero_form (omega arith)
goal_forms-fit n k p (g ∷ gs) h =
    All-append (λ (f : Form). length f.coefs ≤ n) (replicate (g.parameter - k) zero_form) (form_of g.form ∷ goal_forms (g.parameter + 1) p gs)
    (All-replicate (λ (f : Form). length f.coefs ≤ n) (g.parameter - k) zero_form (omega arith))
    (All-cons (λ (f : Form). length f.coefs ≤ n) (form_of g.form) (goal_forms (g.parameter + 1) p gs) (All-head (λ (d : Goal). IsWritable n (form_of d.form)) g gs h).fits
    (goal_forms-fit n (g.parameter + 1) p gs (All-tail (λ (d : Goal). IsWritable n (form_of d.form)) g gs h)))

-- after one more row is written
pub rows-step : (a b d : EntryWriter) (f : Form → ℤ) (rows : List Row) (i : ℕ) (r : Row) (v : ℤ) → Writes a b (map f (map form_of (take i rows))) → Writes b d (v ∷ []) → v ≡ f (form_of r)
    → i < length rows → r ≡ get_or rows i r → Writes a d (map f (map form_of (take (i + 1) rows)))
rows-step a b d f rows i r v w x e l is =
    subst (λ (zs : List ℤ). Writes a d zs) same (writes-more a b d (map f (map form_of (take i rows))) (v ∷ []) w x)
  where
    same : map f (map form_of (take i rows)) ++ (v ∷ []) ≡ map f (map form_of (take (i + 1) rows))
    same = ap (λ (z : ℤ). map f (map form_of (take i rows)) ++ (z ∷ [])) e
        ∙ (sym (map-append f (map form_of (take i rows)) (form_of r ∷ []))
        ∙ (ap (λ (fs : List Form). map f fs) (sym (map-append form_of (take i rows) (r ∷ [])))
        ∙ ap (λ (rs : List Row). map f (map form_of rs)) (ap (λ (x : Row). take i rows ++ (x ∷ [])) is ∙ sym (take_more rows i r l))))

-- after all rows are written
pub rows-end : (a b : EntryWriter) (f : Form → ℤ) (rows : List Row) (i : ℕ) → length rows ≤ i → Writes a b (map f (map form_of (take i rows))) → Writes a b (map f (map form_of rows))
rows-end a b f rows i l w = subst (λ (rs : List Row). Writes a b (map f (map form_of rs))) (take_all i rows l) w

-- after one more goal is written: zeros before it, and its pair
pub goals-step : (a b m d : EntryWriter) (n u p next i : ℕ) (goals : List Goal) (g : Goal) (v : ℤ) (done all : List ℤ) → Writes a b done
    → all ≡ done ++ signed (map (number n u) (goal_forms next p (drop i goals))) → Writes b m (replicate (2 * (g.parameter - next)) (pos 0)) → Writes m d (v ∷ neg_ℤ v ∷ [])
    → v ≡ number n u (form_of g.form) → i < length goals → g ≡ get_or goals i g
    → (more : List ℤ) × Writes a d more × (all ≡ more ++ signed (map (number n u) (goal_forms (g.parameter + 1) p (drop (i + 1) goals))))
goals-step a b m d n u p next i goals g v done all w e zeros pair is l item = (
  done ++ (replicate (2 * (g.parameter - next)) (pos 0) ++ (v ∷ neg_ℤ v ∷ [])),
  writes-more a b d done (replicate (2 * (g.parameter - next)) (pos 0) ++ (v ∷ neg_ℤ v ∷ [])) w
      (writes-more b m d (replicate (2 * (g.parameter - next)) (pos 0)) (v ∷ neg_ℤ v ∷ []) zeros pair),
  e
      ∙ (ap (λ (gs : List Goal). done ++ signed (map (number n u) (goal_forms next p gs))) left
      ∙ (ap (λ (zs : List ℤ). done ++ zs) (pairs-next n u next p g (drop (i + 1) goals))
      ∙ (ap (λ (z : ℤ). done ++ ((replicate (2 * (g.parameter - next)) (pos 0) ++ (z ∷ neg_ℤ z ∷ [])) ++ signed (map (number n u) (goal_forms (g.parameter + 1) p (drop (i + 1) goals))))) (sym is)
      ∙ sym (append_assoc done (replicate (2 * (g.parameter - next)) (pos 0) ++ (v ∷ neg_ℤ v ∷ [])) (signed (map (number n u) (goal_forms (g.parameter + 1) p (drop (i + 1) goals)))))))),
)
  where
    left : drop i goals ≡ g ∷ drop (i + 1) goals
    left = drop_more goals i g l ∙ ap (λ (x : Goal). x ∷ drop (i + 1) goals) (sym item)

-- after all goals are written
pub goals-end : (a b d : EntryWriter) (n u p next i : ℕ) (goals : List Goal) (done all : List ℤ) → Writes a b done
    → all ≡ done ++ signed (map (number n u) (goal_forms next p (drop i goals))) → Writes b d (replicate (2 * (p - next)) (pos 0)) → length goals ≤ i → Writes a d all
goals-end a b d n u p next i goals done all w e zeros l =
    subst (λ (zs : List ℤ). Writes a d zs) (sym (e ∙ ap (λ (zs : List ℤ). done ++ zs) rest)) (writes-more a b d done (replicate (2 * (p - next)) (pos 0)) w zeros)
  where
    rest : signed (map (number n u) (goal_forms next p (drop i goals))) ≡ replicate (2 * (p - next)) (pos 0)
    rest = ap (λ (gs : List Goal). signed (map (number n u) (goal_forms next p gs))) (drop_all i goals l) ∙ signed-zeros n u (p - next)

-- an element that is read is the one at its position
pub slice_get_read : (goals : List Goal) (i : ℕ) (g : Goal) → i < length goals → g ≡ get_or goals i g → slice_get goals i ≡ Some g
slice_get_read [] i g l e = absurd (omega arith)
slice_get_read (h ∷ goals) zero g l e = ap Some (sym e)
slice_get_read (h ∷ goals) (suc i) g l e = slice_get_read goals i g (omega arith) e

-- three parts of a line, one after the other
pub line-pieces : (a b d e : EntryWriter) (xs ys : List ℤ) {zs : List ℤ} → Writes a b xs → Writes b d ys → Writes d e zs → Writes a e (xs ++ (ys ++ zs))
line-pieces a b d e xs ys {zs} u v w = writes-more a b e xs (ys ++ zs) u (writes-more b d e ys zs v w)

-- the parts of a line followed by the slack
pub slack-behind : (a e f : EntryWriter) (xs ys zs : List ℤ) (v s : ℤ) → Writes a e (xs ++ (ys ++ zs)) → v ≡ s → Writes e f (v ∷ []) → Writes a f (xs ++ (ys ++ (zs ++ (s ∷ []))))
slack-behind a e f xs ys zs v s w is x =
    subst (λ (l : List ℤ). Writes a f l) same (writes-more a e f (xs ++ (ys ++ zs)) (v ∷ []) w x)
  where
    same : (xs ++ (ys ++ zs)) ++ (v ∷ []) ≡ xs ++ (ys ++ (zs ++ (s ∷ [])))
    same = ap (λ (z : ℤ). (xs ++ (ys ++ zs)) ++ (z ∷ [])) is
        ∙ (append_assoc xs (ys ++ zs) (s ∷ []) ∙ ap (λ (l : List ℤ). xs ++ l) (append_assoc ys zs (s ∷ [])))

-- there is a goal form for each parameter from k on
pub goals-length : (k p : ℕ) (gs : List Goal) → k ≤ p → ((i : ℕ) (g : Goal) → slice_get gs i ≡ Some g → (k ≤ g.parameter) × (g.parameter < p))
    → ((i j : ℕ) (g h : Goal) → i < j → slice_get gs i ≡ Some g → slice_get gs j ≡ Some h → g.parameter < h.parameter) → length (goal_forms k p gs) ≡ p - k
goals-length k p [] l inside ascending = length-replicate (p - k) zero_form
goals-length k p (g ∷ gs) l inside ascending =
    let here = inside 0 g refl in
    let ih : length (goal_forms (g.parameter + 1) p gs) ≡ p - (g.parameter + 1)
    = goals-length (g.parameter + 1) p gs (omega (arith, here.1))
    (λ i h e. (let m = ascending 0 (suc i) g h (omega arith) refl e in omega (arith, m), (inside (suc i) h e).1))
    (λ i j h m n d e. ascending (suc i) (suc j) h m (omega (arith, n)) d e) in
    length-append (replicate (g.parameter - k) zero_form) (form_of g.form ∷ goal_forms (g.parameter + 1) p gs)
    ∙ omega (arith, ih, here.0, here.1, length-replicate (g.parameter - k) zero_form)
