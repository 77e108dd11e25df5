-- The expressions of a translated rule can be spelled: those over the inputs know their variables, and the free variable
-- of a choice is the next one.
use Rattle.std.proofs.Common.{◌≡◌, ℕ, zero, suc, ◌+◌, ◌<◌, ◌≤◌, List, [], ◌∷◌, ◌++◌, length, map, refl, sym, ◌∙◌}
use Rattle.std.proofs.Common.{ap, subst, arith}
use Rattle.std.specs.Prelude.{set}
use Rattle.std.specs.List.{AllByRecursion, range_with_len}
use Rattle.std.proofs.lemmas.List.{length-map}
use Rattle.std.proofs.lemmas.List.FromFn.{length-range_with_len}
use Rattle.its_writer.specs.Spellable.{known_behind, IsSpellableTerm, known_behind_all, AreSpellable, terms_of_guard}
use Rattle.its_writer.proofs.TermsOrdered.{known_below, known_next}
use Rattle.while_model.specs.model.Terms.{Term, Literal, Variable, Negation, Addition, Subtraction, Multiplication}
use Rattle.while_model.specs.model.Terms.{Exponentiation}
use Rattle.while_model.specs.model.Programs.{Atom, Always, Compare}
use Rattle.while_model.specs.Statements.{Action, Assign, Choose, Skip}
use Rattle.while_model.specs.Translation.{free_count, variables, updates_of}
use Rattle.while_tree.specs.poly_terms.Checked.{ReadsBelow}
use Rattle.while_tree.specs.its_model.Valid.{IsValidAtom}
use Rattle.while_tree.specs.Readable.{FitsAction}
use Rattle.while_spelling.specs.Natural.{IsNaturalTerm, IsNaturalAtom, IsNaturalAction}

-- Expressions can be spelled where n variables are known before them, and m are behind them.
record Leads (n m : ℕ) (terms : List Term) : Type 0 where
  pub spellable : AreSpellable n terms
  pub known : known_behind_all n terms ≡ m

leads_append : (n m k : ℕ) (ts us : List Term) → Leads n m ts → Leads m k us → Leads n k (ts ++ us)
leads_append n m k [] us one two = subst (λ (i : ℕ). Leads i k us) (sym one.known) two
leads_append n m k (t ∷ ts) us one two =
    let later = leads_append (known_behind n t) m k ts us
    (record { spellable = one.spellable.1; known = one.known }) two in
    record { spellable = (one.spellable.0, later.spellable); known = later.known }

-- An expression over known variables without a literal below 0 can be spelled, and no other variable is known behind it.
record IsOver (n : ℕ) (t : Term) : Type 0 where
  pub reads : ReadsBelow n t
  pub natural : IsNaturalTerm t

over_pair : (n : ℕ) (d e : Term) → (known_behind n d ≡ n) × IsSpellableTerm n d
    → (known_behind n e ≡ n) × IsSpellableTerm n e
    → (known_behind (known_behind n d) e ≡ n) × (IsSpellableTerm n d × IsSpellableTerm (known_behind n d) e)
over_pair n d e (same, one) (also, two) = (
  ap (λ (i : ℕ). known_behind i e) same ∙ also,
  (one, subst (λ (i : ℕ). IsSpellableTerm i e) (sym same) two),
)

over_spellable : (n : ℕ) (t : Term) → ReadsBelow n t → IsNaturalTerm t → (known_behind n t ≡ n) × IsSpellableTerm n t
over_spellable n (Literal z) r h = (refl, h)
over_spellable n (Variable i) r h = (known_below n i r, omega (arith, r))
over_spellable n (Negation e) r h = over_spellable n e r h
over_spellable n (Addition d e) (r, s) (h, g) =
    over_pair n d e (over_spellable n d r h) (over_spellable n e s g)
over_spellable n (Subtraction d e) (r, s) (h, g) =
    over_pair n d e (over_spellable n d r h) (over_spellable n e s g)
over_spellable n (Multiplication d e) (r, s) (h, g) =
    over_pair n d e (over_spellable n d r h) (over_spellable n e s g)
over_spellable n (Exponentiation e k) r h = over_spellable n e r h

-- An expression over known variables, and then others.
over_then : (n m : ℕ) (t : Term) (ts : List Term) → IsOver n t → Leads n m ts → Leads n m (t ∷ ts)
over_then n m t ts over later =
    let both = over_spellable n t over.reads over.natural in
    record {
      spellable = (both.1, subst (λ (i : ℕ). AreSpellable i ts) (sym both.0) later.spellable);
      known = ap (λ (i : ℕ). known_behind_all i ts) both.0 ∙ later.known;
    }

over_all : (n : ℕ) (ts : List Term) → AllByRecursion (IsOver n) ts → Leads n n ts
over_all n [] h = record { spellable = tt; known = refl }
over_all n (t ∷ ts) (over, h) = over_then n n t ts over (over_all n ts h)

-- The variables from `first` on are over more variables than there are.
variables_over : (n first most : ℕ) → first + n ≤ most
    → AllByRecursion (IsOver most) (map (λ x. Variable x) (range_with_len first n))
variables_over zero first most h = tt
variables_over (suc n) first most h =
    (record { reads = omega (arith, h); natural = tt }, variables_over n (first + 1) most (omega (arith, h)))

-- The variables with one of them replaced by an expression over them.
over_set : (n : ℕ) (ts : List Term) (x : ℕ) (e : Term) → AllByRecursion (IsOver n) ts → IsOver n e
    → AllByRecursion (IsOver n) (set ts x e)
over_set n [] x e h over = tt
over_set n (t ∷ ts) zero e h over = (over, h.1)
over_set n (t ∷ ts) (suc x) e h over = (h.0, over_set n ts x e h.1 over)

-- The variables with one of them replaced by the next one, which is known behind it.
next_set : (n : ℕ) (ts : List Term) (x : ℕ) → AllByRecursion (IsOver n) ts → AllByRecursion (IsOver (suc n)) ts
    → x < length ts → Leads n (suc n) (set ts x (Variable n))
next_set n [] x h g low = absurd (omega (arith, low))
next_set n (t ∷ ts) zero h g low =
    let later = over_all (suc n) ts g.1 in
    record {
      spellable = (omega arith, subst (λ (i : ℕ). AreSpellable i ts) (sym (known_next n)) later.spellable);
      known = ap (λ (i : ℕ). known_behind_all i ts) (known_next n) ∙ later.known;
    }
next_set n (t ∷ ts) (suc x) h g low =
    over_then n (suc n) t (set ts x (Variable n)) h.0 (next_set n ts x h.1 g.1 (omega (arith, low)))

-- The updates of an action that fits, without a literal below 0.
updates_lead : (n : ℕ) (action : Action) → FitsAction n action → IsNaturalAction action
    → Leads n (n + free_count action) (updates_of n action)
updates_lead n (Assign x e) (low, valid) natural =
    let same : n ≡ n + 0 = omega arith in
    subst (λ (m : ℕ). Leads n m (set (variables n) x e)) same
    (over_all n (set (variables n) x e)
    (over_set n (variables n) x e (variables_over n 0 n (omega arith))
    (record { reads = valid.variables; natural = natural })))
updates_lead n (Choose x) low natural =
    let more : suc n ≡ n + 1 = omega arith in
    let count : length (variables n) ≡ n = length-map (range_with_len 0 n) (λ x. Variable x) ∙ length-range_with_len 0 n in
    subst (λ (m : ℕ). Leads n m (set (variables n) x (Variable n))) more
    (next_set n (variables n) x (variables_over n 0 n (omega arith)) (variables_over n 0 (suc n) (omega arith))
    (omega (arith, low, count)))
updates_lead n Skip fits natural =
    let same : n ≡ n + 0 = omega arith in
    subst (λ (m : ℕ). Leads n m (variables n)) same (over_all n (variables n) (variables_over n 0 n (omega arith)))

-- The expressions of a guard that is valid, without a literal below 0.
guard_leads : (n : ℕ) (guard : List Atom) → AllByRecursion (IsValidAtom n) guard → AllByRecursion IsNaturalAtom guard
    → Leads n n (terms_of_guard guard)
guard_leads n [] h g = record { spellable = tt; known = refl }
guard_leads n (Always ∷ guard) h g = guard_leads n guard h.1 g.1
guard_leads n (Compare d relation e ∷ guard) (valid, h) ((left, right), g) =
    over_then n n d (e ∷ terms_of_guard guard) (record { reads = valid.left; natural = left })
    (over_then n n e (terms_of_guard guard) (record { reads = valid.right; natural = right }) (guard_leads n guard h g))

-- The updates of a move, and then its guard.
pub terms_spellable : (n : ℕ) (action : Action) (guard : List Atom) → FitsAction n action → IsNaturalAction action
    → AllByRecursion (IsValidAtom (n + free_count action)) guard → AllByRecursion IsNaturalAtom guard
    → AreSpellable n (updates_of n action ++ terms_of_guard guard)
    × (known_behind_all n (updates_of n action ++ terms_of_guard guard) ≡ n + free_count action)
terms_spellable n action guard fits natural valid also =
    let m = n + free_count action in
    let both = leads_append n m m (updates_of n action) (terms_of_guard guard)
    (updates_lead n action fits natural) (guard_leads m guard valid also) in
    (both.spellable, both.known)
