-- When a gap holds, and the checks of a gap in the order in which they are made.
use Rattle.std.specs.Prelude.{◌≡◌, ℕ, ◌≤◌, ◌==◌, true, not, cond, List, [], ◌∷◌, ◌++◌, length, map, filter, All}
use Rattle.std.specs.Prelude.{ℤ, pos, ◌+ℤ◌, ◌-ℤ◌, nat_abs}
use Rattle.std.specs.List.{range_with_len}
use Rattle.run_counting.specs.model.Programs.{Program, arity_of}
use Rattle.run_counting.specs.model.Entries.{is_in}
use Rattle.rule_forms.specs.linear_forms.Forms.{Form, at, form_value}
use Rattle.rule_forms.specs.linear_forms.Limits.{point_limit}
use Rattle.rule_forms.specs.linear_forms.Points.{Meets, IsPoint}
use Rattle.rule_forms.specs.linear_forms.RuleQuestions.{RuleForms, Coefficient, at_source, at_target}
use Rattle.cert_rules.specs.AcceptsPlain.{IsRule}
use Rattle.cert_rules.specs.Gaps.{ScaledPoint, Gap, is_shut}
use Rattle.cert_rules.specs.Graph.{symbols_of}
use Rattle.cert_rules.specs.Numbers.{IsAscending}
use Rattle.cert_rules.specs.Reasons.{CheckOf, check, for_each}

-- Why a gap isn't accepted, in the order of the checks; in the proof text `shape`, `move`, `floor`, `kept`, `balance`
-- and `nothing`: a wrong set, wrong lengths or numbers over the limit; the move of a rule that isn't a point or a ray
-- of its rows; a floor that isn't; the kept point of a rule that isn't a point of its rows; a symbol's place without
-- balance, where place 0 is the constant; and no fall at all, since neither the strict rule's move nor the floor has a
-- denominator.
pub data GapFault : Type 0 where
  WrongShape : GapFault
  MoveOff : ℕ → GapFault
  FloorOff : GapFault
  NotKept : ℕ → GapFault
  Unbalanced : ℕ → ℕ → GapFault
  LosesNothing : GapFault

-- a scaled point of a gap has a part for each unknown of the rule, and numbers within the limit
pub record IsGapPoint (r : RuleForms) (z : ScaledPoint) : Type 0 where
  pub long : length z.parts ≡ r.unknowns
  pub parts_limit : All (λ x. nat_abs x ≤ point_limit) z.parts
  pub den_limit : z.den ≤ point_limit

-- the point of rule t: the one at the rule's position in the set
abbrev pub point_of : List ℕ → List ScaledPoint → ℕ → ScaledPoint
point_of [] zs t = record { parts = []; den = 0 }
point_of (u ∷ set) [] t = record { parts = []; den = 0 }
point_of (u ∷ set) (z ∷ zs) t = cond (u == t) z (point_of set zs t)

-- the shape of a gap, checked before anything else: the set is ascending, has only numbers of rules and contains the
-- strict rule; there is one move and one kept point for each rule of the set; and each point has a part for each
-- unknown of its rule, and numbers within the limit
pub record HasGapShape (p : Program) (rule : ℕ → RuleForms) (g : Gap) : Type 0 where
  pub ascending : IsAscending g.set
  pub rules : (t : ℕ) → is_in t g.set ≡ true → IsRule p t
  pub inside : is_in g.rule g.set ≡ true
  pub one_move : length g.moves ≡ length g.set
  pub one_kept : length g.kept ≡ length g.set
  pub moves : (t : ℕ) → is_in t g.set ≡ true → IsGapPoint (rule t) (point_of g.set g.moves t)
  pub kept : (t : ℕ) → is_in t g.set ≡ true → IsGapPoint (rule t) (point_of g.set g.kept t)
  pub floor : IsGapPoint (rule g.rule) g.floor

-- every row gives at least 0 at a scaled point, which is a ray where its denominator is 0
abbrev pub MeetsAt : List Form → ScaledPoint → Type 0
MeetsAt rows z = Meets rows (at z.parts) (pos z.den)

-- a scaled point is a point of the rows: every row gives at least 0 there, and its denominator is at least 1
abbrev pub IsPointOf : List Form → ScaledPoint → Type 0
IsPointOf rows z = IsPoint rows (at z.parts) (pos z.den)

-- the value of a form at a scaled point, times the denominator
abbrev pub value_at : Form → ScaledPoint → ℤ
value_at f z = form_value f (at z.parts) (pos z.den)

-- the net flow at a place of a symbol over the moves of the rules of a set: the values there before, less those after
abbrev pub net : (ℕ → RuleForms) → Coefficient → List ℕ → List ScaledPoint → ℤ
net rule c [] zs = pos 0
net rule c (t ∷ ts) [] = pos 0
net rule c (t ∷ ts) (z ∷ zs) =
    (value_at (at_source (rule t) c) z -ℤ value_at (at_target (rule t) c) z) +ℤ net rule c ts zs

-- the balance of a place of a symbol: what leaves it by the moves, less what arrives there, and the value of the floor
-- there if the strict rule leaves the symbol
abbrev pub balance : (ℕ → RuleForms) → Gap → Coefficient → ℤ
balance rule g c = net rule c g.set g.moves +ℤ value_at (at_source (rule g.rule) c) g.floor

-- the places of symbols that need a balance: for each symbol its constant (place 0) and then each place that isn't shut
abbrev pub balanced_at : Program → Gap → List ℕ → List Coefficient
balanced_at p g [] = []
balanced_at p g (s ∷ ss) =
    map (λ i. record { symbol = s; place = i })
    (0 ∷ filter (λ i. not (is_shut g.shut s i)) (range_with_len 1 (arity_of p s)))
    ++ balanced_at p g ss

-- the coefficients of the symbols that are sources or targets of rules of the set, in the order of symbols
abbrev pub balanced : Program → Gap → List Coefficient
balanced p g = balanced_at p g (symbols_of p g.set)

-- a gap holds: its shape is right; the move of each rule of the set is a point or a ray of the rule's rows, and so is
-- the floor of those of the strict rule; the kept point of each rule is a point of its rows; each balance is 0; and the
-- denominators of the strict rule's move and of the floor aren't both 0
pub record GapHolds (p : Program) (rule : ℕ → RuleForms) (g : Gap) : Type 0 where
  pub shape : HasGapShape p rule g
  pub moves : (t : ℕ) → is_in t g.set ≡ true → MeetsAt (rule t).rows (point_of g.set g.moves t)
  pub floor : MeetsAt (rule g.rule).rows g.floor
  pub kept : (t : ℕ) → is_in t g.set ≡ true → IsPointOf (rule t).rows (point_of g.set g.kept t)
  pub balances : All (λ c. balance rule g c ≡ pos 0) (balanced p g)
  pub loses : ¬ (((point_of g.set g.moves g.rule).den ≡ 0) × (g.floor.den ≡ 0))

-- the check that the move of a rule is a point or a ray of its rows
abbrev pub check_move : (ℕ → RuleForms) → Gap → ℕ → CheckOf GapFault
check_move rule g t = check (MoveOff t) (MeetsAt (rule t).rows (point_of g.set g.moves t))

-- the check that the kept point of a rule is a point of its rows
abbrev pub check_kept : (ℕ → RuleForms) → Gap → ℕ → CheckOf GapFault
check_kept rule g t = check (NotKept t) (IsPointOf (rule t).rows (point_of g.set g.kept t))

-- the check that a balance is 0
abbrev pub check_balance : (ℕ → RuleForms) → Gap → Coefficient → CheckOf GapFault
check_balance rule g c = check (Unbalanced c.symbol c.place) (balance rule g c ≡ pos 0)

-- the check that the strict rule's move or the floor has a denominator that isn't 0
abbrev pub check_loss : Gap → CheckOf GapFault
check_loss g = check LosesNothing (¬ (((point_of g.set g.moves g.rule).den ≡ 0) × (g.floor.den ≡ 0)))

-- the checks of a gap, in the order in which they are made
abbrev pub gap_checks : Program → (ℕ → RuleForms) → Gap → List (CheckOf GapFault)
gap_checks p rule g =
    check WrongShape (HasGapShape p rule g) ∷
    for_each (check_move rule g) g.set
    (check FloorOff (MeetsAt (rule g.rule).rows g.floor) ∷
    for_each (check_kept rule g) g.set
    (for_each (check_balance rule g) (balanced p g) (check_loss g ∷ [])))
