-- Tables of bounds by subjects.
use denote.Ref.{Bor}
use Rattle.std.proofs.Common.{◌≡◌, ◌⊎◌, inl, inr, ℕ, ◌+◌, ◌<◌, ◌≤◌, length, get_or, drop, Bool, true, false, ◌&&◌, List, [], ◌∷◌}
use Rattle.std.proofs.Common.{Option, Some, None, option_map, refl, sym, subst, ap, ◌∙◌, map}
use Rattle.std.specs.Prelude.{nat_eq, if◌then◌else◌}
use Rattle.std.specs.Map.{lookup}
use Rattle.std.proofs.lemmas.Bool.{eqb-true, and_parts, eq-eqb, ne_eqb, cases_eq}
use Rattle.std.proofs.lemmas.List.{drop_more, drop_all}
use Rattle.indexmap.specs.IndexMap.{insert_entry}
use Rattle.signed_bounds.specs.Bounds.{Signed}
use Rattle.signed_bounds.specs.declared.signed.Signed as code
use Rattle.signed_bounds.specs.Views.{signed_of}
use Rattle.program_claims.specs.Claims as claims
use Rattle.claims_check.specs.declared.statement.Statement.{Statement}
use Rattle.claims_check.specs.Views.{stated_of}
use Rattle.best_report.specs.declared.subject.Subject.{Subject}
use Rattle.best_report.specs.declared.subject.Subject.TheVariants.{Time, Cost, Total, Above, Below}
use Rattle.best_report.specs.contracts.subject.SubjectPartialEq.TheImpl as it
use Rattle.best_report.specs.Subjects.{stated_by}
use Rattle.best_report.specs.Statements.{bound_on, first_of, first_on, statements_in}

-- whether two subjects are the same
abbrev pub are_same : Subject → Subject → Bool
are_same s k = it.ghosts.eq s k

-- subjects that are the same are equal
pub equal : (s k : Subject) → are_same s k ≡ true → s ≡ k
equal (Time t) (Time u) e = ap Time (eqb-true t u e)
equal (Time t) (Cost u) e = cc
equal (Time t) Total e = cc
equal (Time t) (Above u k) e = cc
equal (Time t) (Below u k) e = cc
equal (Cost t) (Time u) e = cc
equal (Cost t) (Cost u) e = ap Cost (eqb-true t u e)
equal (Cost t) Total e = cc
equal (Cost t) (Above u k) e = cc
equal (Cost t) (Below u k) e = cc
equal Total (Time u) e = cc
equal Total (Cost u) e = cc
equal Total Total e = refl
equal Total (Above u k) e = cc
equal Total (Below u k) e = cc
equal (Above t i) (Time u) e = cc
equal (Above t i) (Cost u) e = cc
equal (Above t i) Total e = cc
equal (Above t i) (Above u k) e =
    let (same_rule, same_place) = and_parts (nat_eq t u) (nat_eq i k) e in
    ap (λ (n : ℕ). Above n i) (eqb-true t u same_rule) ∙ ap (Above u) (eqb-true i k same_place)
equal (Above t i) (Below u k) e = cc
equal (Below t i) (Time u) e = cc
equal (Below t i) (Cost u) e = cc
equal (Below t i) Total e = cc
equal (Below t i) (Above u k) e = cc
equal (Below t i) (Below u k) e =
    let (same_rule, same_place) = and_parts (nat_eq t u) (nat_eq i k) e in
    ap (λ (n : ℕ). Below n i) (eqb-true t u same_rule) ∙ ap (Below u) (eqb-true i k same_place)

-- two numbers are equal in either order
flipped : (t u : ℕ) → nat_eq t u ≡ nat_eq u t
flipped t u = go (cases_eq t u)
  where
    go : (t ≡ u) ⊎ (t ≡ u → ⊥) → nat_eq t u ≡ nat_eq u t
    go (inl e) = eq-eqb t u e ∙ sym (eq-eqb u t (sym e))
    go (inr n) = ne_eqb t u n ∙ sym (ne_eqb u t (λ e. n (sym e)))

-- the bound, if the value is true
abbrev pub when : Bool → Signed → Option Signed
when v b = if v then Some b else None

-- a statement on one subject gives its bound on another one if they are the same
pub on-subject : (k s : Subject) (b : Signed) → bound_on (stated_by k b) s ≡ when (are_same s k) b
on-subject (Time t) (Time u) b = ap (λ (v : Bool). when v b) (flipped t u)
on-subject (Time t) (Cost u) b = refl
on-subject (Time t) Total b = refl
on-subject (Time t) (Above u k) b = refl
on-subject (Time t) (Below u k) b = refl
on-subject (Cost t) (Time u) b = refl
on-subject (Cost t) (Cost u) b = ap (λ (v : Bool). when v b) (flipped t u)
on-subject (Cost t) Total b = refl
on-subject (Cost t) (Above u k) b = refl
on-subject (Cost t) (Below u k) b = refl
on-subject Total (Time u) b = refl
on-subject Total (Cost u) b = refl
on-subject Total Total b = refl
on-subject Total (Above u k) b = refl
on-subject Total (Below u k) b = refl
on-subject (Above t i) (Time u) b = refl
on-subject (Above t i) (Cost u) b = refl
on-subject (Above t i) Total b = refl
on-subject (Above t i) (Above u k) b =
    ap (λ (v : Bool). when (v && nat_eq i k) b) (flipped t u)
    ∙ ap (λ (v : Bool). when (nat_eq u t && v) b) (flipped i k)
on-subject (Above t i) (Below u k) b = refl
on-subject (Below t i) (Time u) b = refl
on-subject (Below t i) (Cost u) b = refl
on-subject (Below t i) Total b = refl
on-subject (Below t i) (Above u k) b = refl
on-subject (Below t i) (Below u k) b =
    ap (λ (v : Bool). when (v && nat_eq i k) b) (flipped t u)
    ∙ ap (λ (v : Bool). when (nat_eq u t && v) b) (flipped i k)

-- the bound on a subject in a table is that of the statement on it
pub looked-up : (s : Subject) (es : List (Subject × Bor code.Signed))
    → option_map (λ b. signed_of b.now) (lookup (are_same s) es) ≡ first_on (statements_in es) s
looked-up s [] = refl
looked-up s (e ∷ es) = go (are_same s e.0) refl (looked-up s es)
  where
    go : (v : Bool) → are_same s e.0 ≡ v → option_map (λ b. signed_of b.now) (lookup (are_same s) es) ≡ first_on (statements_in es) s
        → option_map (λ b. signed_of b.now) (lookup (are_same s) (e ∷ es)) ≡ first_on (statements_in (e ∷ es)) s
    go true t rest = rw t (rw (on-subject e.0 s (signed_of e.1.now)) (rw t refl))
    go false t rest = rw t (rw (on-subject e.0 s (signed_of e.1.now)) (rw t rest))

-- the first of three
pub assoc : (a b c : Option Signed) → first_of (first_of a b) c ≡ first_of a (first_of b c)
assoc None b c = refl
assoc (Some x) b c = refl

pub none-last : (o : Option Signed) → first_of o None ≡ o
none-last None = refl
none-last (Some b) = refl

-- what is there isn't absent
some-absent : {X P : Type 0} (x : X) → Some x ≡ None → P
some-absent x e = cc

-- a table with a bound on a subject on which it had none
pub added : (es : List (Subject × Bor code.Signed)) (k : Subject) (b : Bor code.Signed) → lookup (are_same k) es ≡ None
    → (s : Subject) → first_on (statements_in (insert_entry it.ghosts.eq es k b)) s
    ≡ first_of (first_on (statements_in es) s) (bound_on (stated_by k (signed_of b.now)) s)
added [] k b absent s = none-last (bound_on (stated_by k (signed_of b.now)) s)
added (e ∷ es) k b absent s = go (are_same k e.0) refl (λ rest. added es k b rest s)
  where
    go : (v : Bool) → are_same k e.0 ≡ v
        → (lookup (are_same k) es ≡ None → first_on (statements_in (insert_entry it.ghosts.eq es k b)) s
        ≡ first_of (first_on (statements_in es) s) (bound_on (stated_by k (signed_of b.now)) s))
        → first_on (statements_in (insert_entry it.ghosts.eq (e ∷ es) k b)) s
        ≡ first_of (first_on (statements_in (e ∷ es)) s) (bound_on (stated_by k (signed_of b.now)) s)
    go true t more = some-absent e.1 (subst (λ (v : Bool). (if v then Some e.1 else lookup (are_same k) es) ≡ None) t absent)
    go false t more =
        let rest : lookup (are_same k) es ≡ None = subst (λ (v : Bool). (if v then Some e.1 else lookup (are_same k) es) ≡ None) t absent in
        rw t (ap (first_of (bound_on (stated_by e.0 (signed_of e.1.now)) s)) (more rest)
        ∙ sym (assoc (bound_on (stated_by e.0 (signed_of e.1.now)) s) (first_on (statements_in es) s) (bound_on (stated_by k (signed_of b.now)) s)))

-- a bound that comes first is that of both
pub present : (es : List (Subject × Bor code.Signed)) (k : Subject) (b : Signed) (c : Bor code.Signed) → lookup (are_same k) es ≡ Some c
    → (s : Subject) → first_on (statements_in es) s
    ≡ first_of (first_on (statements_in es) s) (bound_on (stated_by k b) s)
present es k b c there s = go (are_same s k) refl
  where
    go : (v : Bool) → are_same s k ≡ v → first_on (statements_in es) s
        ≡ first_of (first_on (statements_in es) s) (bound_on (stated_by k b) s)
    go true t =
        let is : first_on (statements_in es) s ≡ Some (signed_of c.now) =
        ap (first_on (statements_in es)) (equal s k t) ∙ (sym (looked-up k es) ∙ ap (option_map (λ b. signed_of b.now)) there) in
        rw is refl
    go false t = rw (on-subject k s b) (rw t (sym (none-last (first_on (statements_in es) s))))

-- the first bound of a list that begins with a table's statements, when the table takes up the next statement
pub taken-up : (before after : List claims.Stated) (xs : List Statement) (i : ℕ) (x : Statement) (s : Subject)
    (whole : Option Signed) → i < length xs → x ≡ get_or xs i x
    → first_on after s ≡ first_of (first_on before s) (bound_on (stated_of x) s)
    → first_of (first_on before s) (first_on (map stated_of (drop i xs)) s) ≡ whole
    → first_of (first_on after s) (first_on (map stated_of (drop (i + 1) xs)) s) ≡ whole
taken-up before after xs i x s whole low is more h =
    let left : drop i xs ≡ x ∷ drop (i + 1) xs =
    drop_more xs i x low ∙ ap (λ (v : Statement). v ∷ drop (i + 1) xs) (sym is) in
    ap (λ (o : Option Signed). first_of o (first_on (map stated_of (drop (i + 1) xs)) s)) more
    ∙ (assoc (first_on before s) (bound_on (stated_of x) s) (first_on (map stated_of (drop (i + 1) xs)) s)
    ∙ (ap (λ (ys : List Statement). first_of (first_on before s) (first_on (map stated_of ys) s)) (sym left) ∙ h))

-- with no statements left, the table has the first bound
pub all-taken : (table : List claims.Stated) (xs : List Statement) (i : ℕ) (s : Subject) (whole : Option Signed) → length xs ≤ i
    → first_of (first_on table s) (first_on (map stated_of (drop i xs)) s) ≡ whole → first_on table s ≡ whole
all-taken table xs i s whole behind h =
    sym (none-last (first_on table s))
    ∙ (ap (λ (ys : List Statement). first_of (first_on table s) (first_on (map stated_of ys) s)) (sym (drop_all i xs behind)) ∙ h)
