-- The moves of the two tables of a node of two phases, and its bound.
use Rattle.std.proofs.Common.{◌≡◌, ℕ, ◌+◌, ◌*◌, ◌<◌, List, [], ◌∷◌, ◌++◌, map, take, get_or, length, ap, ap₂, sym}
use Rattle.std.proofs.Common.{◌∙◌}
use Rattle.std.proofs.Common.{Some, None, Bool, true, false}
use Rattle.std.specs.Prelude.{Result, Ok, Err, IfOk, if◌then◌else◌, ◌&&◌}
use Rattle.std.proofs.lemmas.List.{take_more, map-append}
use Rattle.signed_bounds.specs.Bounds.{Signed, Constant, PositivePart, SumOf, ProductOf, Root, NoParts, Part}
use Rattle.potential_nodes.specs.potentials.model.Polynomials.{Polynomial}
use Rattle.potential_nodes.specs.Certificates.{Summand, shows}
use Rattle.potential_nodes.specs.Ground.{Ground}
use Rattle.potential_nodes.specs.Tables.{SymbolFunction, Move, PotentialTable, form_at, kept_goal, reset_goal}
use Rattle.potential_nodes.specs.Tables.{move_check}
use Rattle.potential_nodes.specs.Falls.{Payment}
use Rattle.potential_nodes.specs.PhaseNodes.{PhaseMove, PhasesNode, first_move, first_table, second_table, second_move}
use Rattle.potential_nodes.specs.PhaseNodes.{unit_payment, shows_move, phase_check}
use Rattle.potential_nodes.specs.PhaseNodes.{less_number, phases_root, phases_signed}
use Rattle.check_potentials.specs.Amounts.{amount_of}
use Rattle.check_potentials.specs.Phases.{gain_of_second}

-- what holds of an answer that isn't an error, and follows
pub if_ok_more : {T E : Type 0} (r : Result T E) (P Q : T → Type 0) → IfOk r P → ((x : T) → P x → Q x) → IfOk r Q
if_ok_more (Ok x) P Q h more = more x h
if_ok_more (Err e) P Q h more = tt

-- one more thing that is made of each of a list
pub push_made : {A B C D : Type 0} (out : A → D) (f : C → D) (view : B → C) (done new : List A) (xs : List B) (i : ℕ)
    (x : B) (y : A) → i < length xs → x ≡ get_or xs i x → out y ≡ f (view x) → new ≡ done ++ y ∷ []
    → map out done ≡ map f (map view (take i xs)) → map out new ≡ map f (map view (take (i + 1) xs))
push_made {A} {B} {C} {D} out f view done new xs i x y low e made pushed kept =
    ap (map out) pushed
    ∙ (map-append out done (y ∷ [])
    ∙ (ap₂ (λ (ds : List D) (d : D). ds ++ d ∷ []) kept made
    ∙ sym (ap (λ (zs : List B). map f (map view zs))
    (take_more xs i x low ∙ ap (λ (z : B). take i xs ++ z ∷ []) (sym e))
    ∙ (ap (map f) (map-append view (take i xs) (x ∷ []))
    ∙ map-append f (map view (take i xs)) (view x ∷ [])))))

-- a table of functions and moves
abbrev pub tabled : List SymbolFunction → ℕ → List Move → PotentialTable
tabled functions den moves = record { functions = functions; den = den; moves = moves }

-- a move that keeps a function, with a gain
abbrev pub made : ℕ → Polynomial → List Summand → Move
made rule gain certificate =
    record { rule = rule; keeps = true; gain = gain; cited = None; certificate = certificate }

-- a move of the second table
pub second_made : (g : Ground) (n : PhasesNode) (m : PhaseMove) (first : PotentialTable) (payments : List Payment)
    (gain : Polynomial) (certificate : List Summand) → gain ≡ gain_of_second g first payments m.rule
    → certificate ≡ m.second → first ≡ first_table n → payments ≡ map unit_payment n.counted
    → made m.rule gain certificate ≡ second_move g n m
second_made g n m first payments gain certificate is_gain is_certificate is_first are_payments =
    ap₂ (made m.rule)
    (is_gain
    ∙ ap₂ (λ (t : PotentialTable) (ys : List Payment). gain_of_second g t ys m.rule) is_first are_payments)
    is_certificate

-- the root, and the whole bound
pub root_made : (g : Ground) (n : PhasesNode) (second : PotentialTable) (form : Polynomial) (den : ℕ)
    → form ≡ form_at second (Some g.program.start) → second ≡ second_table g n → n.den ≡ den
    → Root (ProductOf (Part (Constant (2 * den)) (Part (PositivePart (less_number form den)) NoParts))) ≡ phases_root g
    n
root_made g n second form den is_form is_second is_den =
    ap (λ (q : Polynomial). of q den) (is_form ∙ ap (λ (t : PotentialTable). form_at t (Some g.program.start))
    is_second)
    ∙ sym (ap (of (form_at (second_table g n) (Some g.program.start))) is_den)
  where
    of : Polynomial → ℕ → Signed
    of q k = Root (ProductOf (Part (Constant (2 * k)) (Part (PositivePart (less_number q k)) NoParts)))

pub bound_made : (g : Ground) (n : PhasesNode) (first : PotentialTable) (form : Polynomial) (root : Signed) (den : ℕ)
    → form ≡ form_at first (Some g.program.start) → first ≡ first_table n → root ≡ phases_root g n → n.den ≡ den
    → SumOf (Part (Constant den) (Part (ProductOf (Part (Constant 2) (Part (PositivePart form) NoParts)))
    (Part root NoParts)))
    ≡ phases_signed g n
bound_made g n first form root den is_form is_first is_root is_den =
    ap (λ (q : Polynomial). of q root den)
    (is_form ∙ ap (λ (t : PotentialTable). form_at t (Some g.program.start)) is_first)
    ∙ (ap (λ (r : Signed). of (form_at (first_table n) (Some g.program.start)) r den) is_root
    ∙ sym (ap (of (form_at (first_table n) (Some g.program.start)) (phases_root g n)) is_den))
  where
    of : Polynomial → Signed → ℕ → Signed
    of q r k = SumOf (Part (Constant k) (Part (ProductOf (Part (Constant 2) (Part (PositivePart q) NoParts)))
        (Part r NoParts)))

-- a move is shown for the amount that is paid at its rule
shown_by : (g : Ground) (n : PhasesNode) (tab table : PotentialTable) (m step : Move) (amount : Polynomial)
    (payments : List Payment) → tab ≡ table → m ≡ step → amount ≡ amount_of payments step.rule
    → payments ≡ map unit_payment n.counted → (move_check g tab (λ t. amount) m).holds ≡ shows_move g n table step
shown_by g n tab table m step amount payments is_table is_step is_amount are_payments =
    ap₂ (λ (t : PotentialTable) (k : Move). (move_check g t (λ u. amount) k).holds) is_table is_step
    ∙ ap (λ (a : Polynomial). shows g.is_safe (g.rows step.rule) step.certificate
    (if step.keeps then kept_goal g table step a else reset_goal g table step))
    (is_amount ∙ ap (λ (ys : List Payment). amount_of ys step.rule) are_payments)

-- both functions of a move are shown, or the first isn't
pub phase_shown : (g : Ground) (n : PhasesNode) (m : PhaseMove) (first second : PotentialTable) (one two : Move)
    (amount : Polynomial) (payments : List Payment) (a b : Bool) → first ≡ first_table n → second ≡ second_table g n
    → one ≡ first_move m → two ≡ second_move g n m → amount ≡ amount_of payments m.rule
    → payments ≡ map unit_payment n.counted → a ≡ (move_check g first (λ t. amount) one).holds
    → b ≡ (move_check g second (λ t. amount) two).holds → (a && b) ≡ (phase_check g n m).holds
phase_shown g n m first second one two amount payments a b is_first is_second is_one is_two is_amount are_payments h k =
    ap₂ (λ (v w : Bool). v && w)
    (h ∙ shown_by g n first (first_table n) one (first_move m) amount payments is_first is_one is_amount are_payments)
    (k ∙ shown_by g n second (second_table g n) two (second_move g n m) amount payments is_second is_two is_amount
    are_payments)

pub phase_unshown : (g : Ground) (n : PhasesNode) (m : PhaseMove) (first : PotentialTable) (one : Move)
    (amount : Polynomial) (payments : List Payment) → first ≡ first_table n → one ≡ first_move m
    → amount ≡ amount_of payments m.rule → payments ≡ map unit_payment n.counted
    → false ≡ (move_check g first (λ t. amount) one).holds → false ≡ (phase_check g n m).holds
phase_unshown g n m first one amount payments is_first is_one is_amount are_payments h =
    ap (λ (v : Bool). v && shows_move g n (second_table g n) (second_move g n m))
    (h ∙ shown_by g n first (first_table n) one (first_move m) amount payments is_first is_one is_amount are_payments)
