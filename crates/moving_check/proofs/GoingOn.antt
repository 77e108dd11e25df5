-- The steps of a turn are tested one after the other.
use Rattle.std.proofs.Common.{◌≡◌, ℕ, zero, suc, ◌+◌, ◌≤◌, ◌<◌, List, [], ◌∷◌, ◌++◌, length, take, drop, get_or, reverse}
use Rattle.std.proofs.Common.{Option, Some, None, refl, sym, ◌∙◌, ap, subst, arith}
use Rattle.std.specs.Prelude.{IfSome}
use Rattle.std.proofs.lemmas.List.{take_all, take-append-drop, reverse-append}
use Rattle.its_model.specs.model.Programs.{Program, Rule, rule_at}
use Rattle.its_model.specs.model.Runs.{Step}
use Rattle.run_replay.proofs.ReplayStands.{first_more, first_length}
use Rattle.lasso_check.specs.Lassos.{Lasso, turn_back}
use Rattle.lasso_check.specs.CheckAnswers.{first_of_turn}
use Rattle.moving_check.specs.declared.error.MovingError.{MovingError}
use Rattle.moving_check.specs.declared.error.MovingError.TheVariants.{Memory}
use Rattle.moving_check.specs.Answers.{SaysOnly}
use Rattle.moving_check.specs.Findings.{Finding, StopsAt, Found, at_stop}
use Rattle.affine_turns.specs.declared.affine.Affine.{Affine}
use Rattle.affine_turns.specs.Turns.{Stop, StopAt, step_stop, step_affine, affine_after, or_stop, first_stop_along}

-- the first i + 1 steps of the turn are the first i steps and the next one
turn_more : (l : Lasso) (i : ℕ) (s : Step) → i < length l.turn → s ≡ get_or l.turn i s
    → first_of_turn l (i + 1) ≡ s ∷ first_of_turn l i
turn_more l i s low own = first_more (record { start = l.start; steps = l.turn }) i s low own

-- the first n steps of the turn are all of its steps, if it has at most n
pub turn_all : (l : Lasso) (n : ℕ) → length l.turn ≤ n → first_of_turn l n ≡ turn_back l
turn_all l n all = ap reverse (take_all n l.turn all)

-- if the steps so far and the next one pass the test, all of them do
pub next_goes_on : (p : Program) (env : List Affine) (l : Lasso) (i : ℕ) (s : Step) (now : List Affine) → i < length l.turn
    → s ≡ get_or l.turn i s → first_stop_along p env (first_of_turn l i) ≡ None
    → now ≡ affine_after p env (first_of_turn l i) → step_stop (rule_at p s.rule) now s.free ≡ None
    → first_stop_along p env (first_of_turn l (i + 1)) ≡ None
next_goes_on p env l i s now low own none same goes =
    ap (first_stop_along p env) (turn_more l i s low own)
    ∙ (ap (λ (o : Option StopAt). or_stop o (suc (length (first_of_turn l i)))
    (step_stop (rule_at p s.rule) (affine_after p env (first_of_turn l i)) s.free)) none
    ∙ ap (or_stop None (suc (length (first_of_turn l i))))
    (ap (λ (es : List Affine). step_stop (rule_at p s.rule) es s.free) (sym same) ∙ goes))

pub next_integers : (p : Program) (env : List Affine) (l : Lasso) (i : ℕ) (s : Step) (now behind : List Affine)
    → i < length l.turn → s ≡ get_or l.turn i s → now ≡ affine_after p env (first_of_turn l i)
    → behind ≡ step_affine (rule_at p s.rule) now s.free → behind ≡ affine_after p env (first_of_turn l (i + 1))
next_integers p env l i s now behind low own same e =
    e ∙ (ap (λ (es : List Affine). step_affine (rule_at p s.rule) es s.free) same
    ∙ ap (affine_after p env) (sym (turn_more l i s low own)))

-- a step that fails the test is the first one to fail, whatever steps follow
stops_on : (p : Program) (env : List Affine) (later earlier : List Step) (x : StopAt)
    → first_stop_along p env earlier ≡ Some x → first_stop_along p env (later ++ earlier) ≡ Some x
stops_on p env [] earlier x e = e
stops_on p env (s ∷ later) earlier x e =
    ap (λ (o : Option StopAt). or_stop o (suc (length (later ++ earlier)))
    (step_stop (rule_at p s.rule) (affine_after p env (later ++ earlier)) s.free)) (stops_on p env later earlier x e)

pub next_stops : (p : Program) (env : List Affine) (l : Lasso) (i : ℕ) (s : Step) (now : List Affine) (stop : Stop)
    → i < length l.turn → s ≡ get_or l.turn i s → first_stop_along p env (first_of_turn l i) ≡ None
    → now ≡ affine_after p env (first_of_turn l i) → step_stop (rule_at p s.rule) now s.free ≡ Some stop
    → first_stop_along p env (turn_back l) ≡ Some (record { number = i + 1; stop = stop })
next_stops p env l i s now stop low own none same stops =
    let all : turn_back l ≡ reverse (drop (i + 1) l.turn) ++ first_of_turn l (i + 1) =
    ap reverse (sym (take-append-drop (i + 1) l.turn)) ∙ reverse-append (take (i + 1) l.turn) (drop (i + 1) l.turn) in
    let long : length (first_of_turn l i) ≡ i =
    first_length (record { start = l.start; steps = l.turn }) i (omega (arith, low)) in
    let number : suc (length (first_of_turn l i)) ≡ i + 1 = omega (arith, long) in
    let here : first_stop_along p env (first_of_turn l (i + 1)) ≡ Some (record { number = i + 1; stop = stop }) =
    ap (first_stop_along p env) (turn_more l i s low own)
    ∙ (ap (λ (o : Option StopAt). or_stop o (suc (length (first_of_turn l i)))
    (step_stop (rule_at p s.rule) (affine_after p env (first_of_turn l i)) s.free)) none
    ∙ (ap (or_stop None (suc (length (first_of_turn l i))))
    (ap (λ (es : List Affine). step_stop (rule_at p s.rule) es s.free) (sym same) ∙ stops)
    ∙ ap (λ (n : ℕ). Some (record { number = n; stop = stop })) number)) in
    ap (first_stop_along p env) all
    ∙ stops_on p env (reverse (drop (i + 1) l.turn)) (first_of_turn l (i + 1)) (record { number = i + 1; stop = stop }) here

-- an error that reports why a step fails the test reports the finding, whatever else would be found
pub stop_said : (o : Option StopAt) (before step i : ℕ) (said one : Option Stop) (e : MovingError)
    → IfSome said (λ s. one ≡ Some s)
    → ((stop : Stop) → said ≡ Some stop → SaysOnly (Found (StopsAt (record { number = step; stop = stop }))) e)
    → (said ≡ None → e ≡ Memory)
    → ((stop : Stop) → one ≡ Some stop → o ≡ Some (record { number = i + 1; stop = stop })) → step ≡ before + (i + 1)
    → (f : Finding) → SaysOnly (Found (at_stop o before f)) e
stop_said o before step i None one e right says memory first same f =
    subst (SaysOnly (Found (at_stop o before f))) (sym (memory refl)) tt
stop_said o before step i (Some stop) one e right says memory first same f =
    subst (λ (p : Option StopAt). SaysOnly (Found (at_stop p before f)) e) (sym (first stop right))
    (subst (λ (n : ℕ). SaysOnly (Found (StopsAt (record { number = n; stop = stop }))) e) same (says stop refl))
