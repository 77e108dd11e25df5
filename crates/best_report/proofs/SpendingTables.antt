-- Tables of the bounds of lines, and bounds on what rules spend, one rule after the other.
use Rattle.std.proofs.Common.{◌≡◌, ◌∙◌, ℕ, suc, ◌+◌, ◌<◌, ◌≤◌, ◌++◌, List, [], ◌∷◌, map, length, get_or, drop, Option, Some}
use Rattle.std.proofs.Common.{None, option_map, refl, sym, ap, add-one, append_assoc}
use Rattle.std.proofs.lemmas.List.{drop_more, drop_all, append-nil}
use Rattle.its_model.specs.model.Terms.{Term}
use Rattle.its_model.specs.model.Programs as model
use Rattle.its_model.specs.declared.program.Rule.{Rule}
use Rattle.its_model.specs.Views.{rule_of}
use Rattle.signed_bounds.specs.Bounds.{Signed}
use Rattle.program_claims.specs.Claims as claims
use Rattle.best_report.specs.declared.line.Line as code
use Rattle.best_report.specs.declared.subject.Subject.{Subject}
use Rattle.best_report.specs.Statements.{first_of, first_on}
use Rattle.best_report.specs.Lines.{line_of}
use Rattle.best_report.specs.Spending.{line_bound, bound_at, spending_subject, before, spending_bounds}
use Rattle.best_report.proofs.StatementTables.{assoc, none-last}

-- a line without a bound adds none
pub nothing-more : (o : Option Signed) (k s : Subject) (b : Option Signed) → b ≡ None → o ≡ first_of o (line_bound k b s)
nothing-more o k s b e =
    sym (ap (λ (x : Option Signed). first_of o (line_bound k x s)) e ∙ none-last o)

-- the bound of a list of lines that begins with a table's, when the table takes up the next line
pub line-taken : (old new : List claims.Stated) (xs : List code.Line) (i : ℕ) (x : code.Line) (s : Subject) (whole : Option Signed)
    → i < length xs → x ≡ get_or xs i x
    → first_on new s ≡ first_of (first_on old s) (line_bound (line_of x).subject (line_of x).bound s)
    → first_of (first_on old s) (bound_at (map line_of (drop i xs)) s) ≡ whole
    → first_of (first_on new s) (bound_at (map line_of (drop (i + 1) xs)) s) ≡ whole
line-taken old new xs i x s whole low is more h =
    ap (λ (o : Option Signed). first_of o (bound_at (map line_of (drop (i + 1) xs)) s)) more
    ∙ (assoc (first_on old s) (line_bound (line_of x).subject (line_of x).bound s)
    (bound_at (map line_of (drop (i + 1) xs)) s)
    ∙ (ap (λ (ys : List code.Line). first_of (first_on old s) (bound_at (map line_of ys) s))
    (sym (drop_more xs i x low ∙ ap (λ (y : code.Line). y ∷ drop (i + 1) xs) (sym is)))
    ∙ h))

-- with no lines left, the table has the bounds of all
pub lines-taken : (table : List claims.Stated) (xs : List code.Line) (i : ℕ) (s : Subject) (whole : Option Signed) → length xs ≤ i
    → first_of (first_on table s) (bound_at (map line_of (drop i xs)) s) ≡ whole → first_on table s ≡ whole
lines-taken table xs i s whole behind h =
    sym (none-last (first_on table s))
    ∙ (ap (λ (ys : List code.Line). first_of (first_on table s) (bound_at (map line_of ys) s)) (sym (drop_all i xs behind)) ∙ h)

-- bounds on what rules spend are equal where bounds on these subjects are
pub bounds-same : (f g : Subject → Option Signed)
    → ((t : ℕ) (o : Option Term) → f (spending_subject t o) ≡ g (spending_subject t o)) → (t : ℕ) (rs : List model.Rule)
    → spending_bounds f t rs ≡ spending_bounds g t rs
bounds-same f g h t [] = refl
bounds-same f g h t (r ∷ rs) =
    ap (λ (o : Option Signed). before o (spending_bounds f (suc t) rs)) (h t r.cost)
    ∙ ap (before (g (spending_subject t r.cost))) (bounds-same f g h (suc t) rs)

-- bounds behind others, of which the last is one of those that were left
front-joined : (old : List Signed) (b : Signed) (o : Option (List Signed))
    → option_map (λ bs. (old ++ b ∷ []) ++ bs) o ≡ option_map (λ bs. old ++ bs) (before (Some b) o)
front-joined old b None = refl
front-joined old b (Some bs) = ap (λ (cs : List Signed). Some cs) (append_assoc old (b ∷ []) bs)

module _ (f : Subject → Option Signed) (rs : List Rule) (i : ℕ) (r : Rule) (low : i < length rs) (is : r ≡ get_or rs i r) where
  -- the bounds from a rule on
  bounds-from : spending_bounds f (i + 1) (map rule_of (drop i rs))
      ≡ before (f (spending_subject (i + 1) (rule_of r).cost)) (spending_bounds f (i + 1 + 1) (map rule_of (drop (i + 1) rs)))
  bounds-from =
      ap (λ (xs : List Rule). spending_bounds f (i + 1) (map rule_of xs))
      (drop_more rs i r low ∙ ap (λ (x : Rule). x ∷ drop (i + 1) rs) (sym is))
      ∙ ap (λ (n : ℕ). before (f (spending_subject (i + 1) (rule_of r).cost)) (spending_bounds f n (map rule_of (drop (i + 1) rs))))
      (sym (add-one (i + 1)))

  -- with the bound of that rule those so far are one more
  pub bounds-step : (old : List Signed) (b : Signed) (all : Option (List Signed))
      → f (spending_subject (i + 1) (rule_of r).cost) ≡ Some b
      → option_map (λ bs. old ++ bs) (spending_bounds f (i + 1) (map rule_of (drop i rs))) ≡ all
      → option_map (λ bs. (old ++ b ∷ []) ++ bs) (spending_bounds f (i + 1 + 1) (map rule_of (drop (i + 1) rs))) ≡ all
  bounds-step old b all e h =
      let rest = spending_bounds f (i + 1 + 1) (map rule_of (drop (i + 1) rs)) in
      front-joined old b rest
      ∙ (ap (λ (o : Option Signed). option_map (λ bs. old ++ bs) (before o rest)) (sym e)
      ∙ (ap (option_map (λ bs. old ++ bs)) (sym bounds-from) ∙ h))

  -- without it there are none
  pub bounds-fail : (old : List Signed) (all : Option (List Signed)) → f (spending_subject (i + 1) (rule_of r).cost) ≡ None
      → option_map (λ bs. old ++ bs) (spending_bounds f (i + 1) (map rule_of (drop i rs))) ≡ all → None ≡ all
  bounds-fail old all e h =
      let rest = spending_bounds f (i + 1 + 1) (map rule_of (drop (i + 1) rs)) in
      ap (λ (o : Option Signed). option_map (λ bs. old ++ bs) (before o rest)) (sym e)
      ∙ (ap (option_map (λ bs. old ++ bs)) (sym bounds-from) ∙ h)

-- with no rules left, those so far are all
pub bounds-done : (f : Subject → Option Signed) (rs : List Rule) (i : ℕ) (old : List Signed) (all : Option (List Signed))
    → length rs ≤ i → option_map (λ bs. old ++ bs) (spending_bounds f (i + 1) (map rule_of (drop i rs))) ≡ all
    → Some old ≡ all
bounds-done f rs i old all behind h =
    ap (λ (bs : List Signed). Some bs) (sym (append-nil old))
    ∙ (ap (λ (xs : List Rule). option_map (λ bs. old ++ bs) (spending_bounds f (i + 1) (map rule_of xs))) (sym (drop_all i rs behind))
    ∙ h)
