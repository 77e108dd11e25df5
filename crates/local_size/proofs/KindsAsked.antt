-- Where the search for a side ends, and which kinds it has tried.
use Rattle.std.proofs.Common.{◌≡◌, ℕ, zero, suc, ◌+◌, ◌≤◌, ap, arith, refl, inl, inr, Bool, true, false, not, List}
use Rattle.std.proofs.Common.{[], ◌∷◌, ◌++◌, filter}
use Rattle.std.specs.Prelude.{ℤ, ◌==◌}
use Rattle.std.specs.List.{All, range_with_len}
use Rattle.std.proofs.lemmas.List.Elements.{All-nil, All-cons, All-head, All-tail, All-append, All-filter}
use Rattle.simplex_core.specs.linear_forms.Forms.{Form}
use Rattle.simplex_core.specs.linear_forms.RuleQuestions.{RuleForms}
use Rattle.cert_types.specs.rule_forms.Kinds.{Kind, Number, Argument, Affine, Plus, Minus, arguments, places_from}
use Rattle.cert_types.specs.rule_forms.Kinds.{kinds_for}
use Rattle.cert_types.specs.rule_forms.Questions.{IsKindOf}
use Rattle.cert_types.specs.cert_rules.Nodes.{SideBound}
use Rattle.local_size.specs.Sides.{SideBoundFound, NoneFound, HasResult, SearchHasResult}

-- a place of a left argument
abbrev IsLeft : ℕ → ℕ → Type 0
IsLeft left place = (1 ≤ place) × (place ≤ left)

-- the numbers of a range from 1 on, up to the left arguments, are places of left arguments
range-left : (left a n : ℕ) → 1 ≤ a → a + n ≤ suc left → All (IsLeft left) (range_with_len a n)
range-left left a zero l m = All-nil (IsLeft left)
range-left left a (suc n) l m =
    All-cons (IsLeft left) a (range_with_len (a + 1) n) (l, omega (arith, m))
    (range-left left (a + 1) n (omega (arith, l)) (omega (arith, m)))

-- the places of the arguments, in order, are places of left arguments
places-left : (left place : ℕ) → All (IsLeft left) (places_from left place)
places-left left place =
    let all = range-left left 1 left (omega arith) (omega arith) in
    All-append (IsLeft left) (filter (λ j. j == place) (range_with_len 1 left))
    (filter (λ j. not (j == place)) (range_with_len 1 left))
    (All-filter (λ j. j == place) (IsLeft left) (range_with_len 1 left) all)
    (All-filter (λ j. not (j == place)) (IsLeft left) (range_with_len 1 left) all)

-- arguments at these places are kinds of the rule
arguments-fit : (left : ℕ) (places : List ℕ) → All (IsLeft left) places → All (IsKindOf left) (arguments places)
arguments-fit left [] h = All-nil (IsKindOf left)
arguments-fit left (place ∷ places) h =
    let here = All-head (IsLeft left) place places h in
    All-cons (IsKindOf left) (Argument place Plus) (Argument place Minus ∷ arguments places) here
    (All-cons (IsKindOf left) (Argument place Minus) (arguments places) here
    (arguments-fit left places (All-tail (IsLeft left) place places h)))

-- all kinds that are tried are kinds of the rule
pub kinds-fit : (nonlinear : Bool) (left place : ℕ) → All (IsKindOf left) (kinds_for nonlinear left place)
kinds-fit true left place = All-cons (IsKindOf left) Affine [] tt (All-nil (IsKindOf left))
kinds-fit false left place =
    All-cons (IsKindOf left) Number (arguments (places_from left place) ++ Affine ∷ []) tt
    (All-append (IsKindOf left) (arguments (places_from left place)) (Affine ∷ [])
    (arguments-fit left (places_from left place) (places-left left place))
    (All-cons (IsKindOf left) Affine [] tt (All-nil (IsKindOf left))))

-- any affine form is the last kind
pub kinds-end : (nonlinear : Bool) (left place : ℕ)
    → (before : List Kind) × (kinds_for nonlinear left place ≡ before ++ Affine ∷ [])
kinds-end true left place = ([], refl)
kinds-end false left place = (Number ∷ arguments (places_from left place), refl)

module _ (r : RuleForms) (w : Form) (pivots : ℕ) where
  -- the question for a kind has the result that there is no form
  abbrev pub HasDual : Kind → Type 0
  HasDual kind = (ray : List ℤ) × HasResult r w pivots kind (NoneFound ray)

  -- a found side bound is the result of the question for its kind, and the earlier kinds have no form
  pub record Found (kinds : List Kind) (side_bound : SideBound) : Type 0 where
    pub kind : Kind
    pub before : List Kind
    pub behind : List Kind
    pub order : kinds ≡ before ++ kind ∷ behind
    pub none : All HasDual before
    pub comes : HasResult r w pivots kind (SideBoundFound side_bound)

  -- a side bound that is the result of a search was found in this way
  pub found : (kinds : List Kind) (side_bound : SideBound) → SearchHasResult r w pivots kinds (SideBoundFound side_bound) → Found kinds side_bound
  found [] side_bound h = absurd h
  found (kind ∷ []) side_bound h =
      record { kind = kind; before = []; behind = []; order = refl; none = All-nil HasDual; comes = h }
  found (kind ∷ next ∷ kinds) side_bound (inl h) =
      record { kind = kind; before = []; behind = next ∷ kinds; order = refl; none = All-nil HasDual; comes = h.1 }
  found (kind ∷ next ∷ kinds) side_bound (inr h) =
      let f = found (next ∷ kinds) side_bound h.1 in record {
        kind = f.kind;
        before = kind ∷ f.before;
        behind = f.behind;
        order = ap (λ (ks : List Kind). kind ∷ ks) f.order;
        none = All-cons HasDual kind f.before h.0 f.none;
        comes = f.comes;
      }

  -- a search without a form has tried the last kind
  pub last-asked : (kinds : List Kind) (kind : Kind) (ray : List ℤ)
      → SearchHasResult r w pivots (kinds ++ kind ∷ []) (NoneFound ray) → HasResult r w pivots kind (NoneFound ray)
  last-asked [] kind ray h = h
  last-asked (first ∷ []) kind ray (inl h) = absurd h.0
  last-asked (first ∷ []) kind ray (inr h) = h.1
  last-asked (first ∷ next ∷ kinds) kind ray (inl h) = absurd h.0
  last-asked (first ∷ next ∷ kinds) kind ray (inr h) = last-asked (next ∷ kinds) kind ray h.1
