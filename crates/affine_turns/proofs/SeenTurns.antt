-- A turn whose steps all pass the test keeps leading on by the same differences.
use Rattle.std.proofs.Common.{◌≡◌, if◌then◌else◌, Bool, true, false, ℕ, zero, suc, ◌≤◌, List, [], ◌∷◌, ◌++◌, map, length, ℤ, pos}
use Rattle.std.proofs.Common.{◌+ℤ◌, ◌-ℤ◌, ◌*ℤ◌, Option, Some, None, refl, sym, ◌∙◌, ap, subst, arith}
use Rattle.std.specs.Prelude.{int_le, is_some, unwrap_or}
use Rattle.std.specs.Ordering.{int_eq}
use Rattle.std.proofs.lemmas.Int.{ints}
use Rattle.std.proofs.lemmas.List.{length-map}
use Rattle.std.proofs.lemmas.List.Elements.{All-head, All-tail}
use Rattle.std.proofs.lemmas.Bool.Decides.{Decides-int_eq, nat_tests}
use Rattle.poly_terms.proofs.int_laws.Identities.{identity}
use Rattle.poly_terms.proofs.int_laws.RingLaws.{zero-mul_ℤ, one-mul_ℤ}
use Rattle.its_model.proofs.poly_terms.model.Cases.{some_same, none_some, some_none}
use Rattle.its_model.specs.model.Terms.{Term, value}
use Rattle.its_model.specs.model.Programs.{Relation, AtLeast, MoreThan, AtMost, LessThan, EqualTo, Atom, Always, Compare}
use Rattle.its_model.specs.model.Programs.{AtomHolds, GuardHolds, Rule, Program, rule_at}
use Rattle.its_model.specs.model.Runs.{Config, Step, IsStep, IsRun, Leads}
use Rattle.lassos.specs.Lassos.{LeadsTo, HasSlope, Keeps, StaysTrue, GuardStaysTrue, HaveSlopes, StepMoves, PathMoves, moved}
use Rattle.lassos.specs.Lassos.{moved_config, GoesOnFor}
use Rattle.lassos.proofs.Turning.{path_of}
use Rattle.affine_turns.specs.declared.affine.Affine.{Affine}
use Rattle.affine_turns.specs.Affine.{after_turns, constant, affine_of, with_free, firsts, slopes, between}
use Rattle.affine_turns.specs.Turns.{keeps, sides_keep, atom_keeps, Stop, AtomStops, NonlinearPlace, guard_stop, updates_stop}
use Rattle.affine_turns.specs.Turns.{first_stop, rule_stop, new_affine, step_stop, step_affine, affine_after, StopAt}
use Rattle.affine_turns.specs.Turns.{or_stop, first_stop_along}
use Rattle.affine_turns.specs.Laws.{SeenTurnsGoOn}
use Rattle.affine_turns.proofs.AffineValues.{value-after, constant-after, after-0}

-- the values after n moves are the affine values in turn n; free values don't change
moved-after : (env : List Affine) (free : List ℤ) (n : ℕ)
    → moved (firsts env ++ free) (slopes env) n ≡ map (after_turns n) (with_free env free)
moved-after [] [] n = refl
moved-after [] (z ∷ free) n =
    ap (λ (zs : List ℤ). z ∷ zs) (unmoved free n)
    ∙ ap (λ (y : ℤ). y ∷ map (after_turns n) (map constant free)) (sym (constant-after n z))
  where
    unmoved : (free : List ℤ) (n : ℕ) → free ≡ map (after_turns n) (map constant free)
    unmoved [] n = refl
    unmoved (z ∷ free) n =
        ap (λ (zs : List ℤ). z ∷ zs) (unmoved free n)
        ∙ ap (λ (y : ℤ). y ∷ map (after_turns n) (map constant free)) (sym (constant-after n z))
moved-after (a ∷ env) free n = ap (λ (zs : List ℤ). after_turns n a ∷ zs) (moved-after env free n)

-- the affine values in the first turn are their first values
unmoved-firsts : (env : List Affine) (free : List ℤ) → map (after_turns 0) (with_free env free) ≡ firsts env ++ free
unmoved-firsts [] [] = refl
unmoved-firsts [] (z ∷ free) =
    ap (λ (y : ℤ). y ∷ map (after_turns 0) (map constant free)) (constant-after 0 z)
    ∙ ap (λ (zs : List ℤ). z ∷ zs) (unmoved-firsts [] free)
unmoved-firsts (a ∷ env) free =
    ap (λ (y : ℤ). y ∷ map (after_turns 0) (with_free env free)) (after-0 a)
    ∙ ap (λ (zs : List ℤ). a.first ∷ zs) (unmoved-firsts env free)

-- the first value of an affine expression is its value at the variables' first values
first-value : (t : Term) (env : List Affine) (free : List ℤ) (a : Affine) → affine_of t (with_free env free) ≡ Some a
    → value t (firsts env ++ free) ≡ a.first
first-value t env free a e =
    ap (value t) (sym (unmoved-firsts env free)) ∙ (value-after t (with_free env free) a 0 e ∙ after-0 a)

-- the slope of an affine expression is its slope as the variables move by theirs
slope-affine : (t : Term) (env : List Affine) (free : List ℤ) (a : Affine) → affine_of t (with_free env free) ≡ Some a
    → HasSlope t (firsts env ++ free) (slopes env) a.slope
slope-affine t env free a e = record {
  each = λ n.
      ap (value t) (moved-after env free n)
      ∙ (value-after t (with_free env free) a n e
      ∙ ap (λ (z : ℤ). z +ℤ pos n *ℤ a.slope) (sym (first-value t env free a e)));
}

-- the test of a relation decides that the relation is kept
keeps-Keeps : (r : Relation) (k l : ℤ) → keeps r k l ≡ true → Keeps r k l
keeps-Keeps AtLeast k l h = grind (arith, ints)
keeps-Keeps MoreThan k l h = grind (arith, ints)
keeps-Keeps AtMost k l h = grind (arith, ints)
keeps-Keeps LessThan k l h = grind (arith, ints)
keeps-Keeps EqualTo k l h = (Decides-int_eq k l).0 h

-- an atom that passes the test, and holds, keeps holding as the values move
atom-goes_on : (env : List Affine) (free : List ℤ) (atom : Atom) → atom_keeps (with_free env free) atom ≡ true
    → AtomHolds (firsts env ++ free) atom → StaysTrue (firsts env ++ free) (slopes env) atom
atom-goes_on env free Always e h = tt
atom-goes_on env free (Compare x r y) e h =
    go (affine_of x (with_free env free)) (affine_of y (with_free env free)) refl refl e
  where
    go : (a b : Option Affine) → affine_of x (with_free env free) ≡ a → affine_of y (with_free env free) ≡ b
        → sides_keep r a b ≡ true → StaysTrue (firsts env ++ free) (slopes env) (Compare x r y)
    go (Some a) (Some b) left right t = (
      h,
      a.slope,
      b.slope,
      slope-affine x env free a left,
      slope-affine y env free b right,
      keeps-Keeps r a.slope b.slope t,
    )
    go (Some a) None left right t = cc
    go None b left right t = cc

-- a guard that holds and of which every atom passes the test keeps holding as the values move
guard-goes_on : (env : List Affine) (free : List ℤ) (n : ℕ) (guard : List Atom)
    → guard_stop (with_free env free) n guard ≡ None → GuardHolds (firsts env ++ free) guard
    → GuardStaysTrue (firsts env ++ free) (slopes env) guard
guard-goes_on env free n [] e h = tt
guard-goes_on env free n (atom ∷ atoms) e h =
    go (atom_keeps (with_free env free) atom) refl e (guard-goes_on env free (suc n) atoms)
  where
    go : (b : Bool) → atom_keeps (with_free env free) atom ≡ b
        → (if b then guard_stop (with_free env free) (suc n) atoms else Some (AtomStops n)) ≡ None
        → (guard_stop (with_free env free) (suc n) atoms ≡ None → GuardHolds (firsts env ++ free) atoms
        → GuardStaysTrue (firsts env ++ free) (slopes env) atoms)
        → GuardStaysTrue (firsts env ++ free) (slopes env) (atom ∷ atoms)
    go true is none rest = (
      atom-goes_on env free atom is (All-head (AtomHolds (firsts env ++ free)) atom atoms h),
      rest none (All-tail (AtomHolds (firsts env ++ free)) atom atoms h),
    )
    go false is none rest = absurd (some_none (AtomStops n) none)

-- if all updates pass the test, their affine values have their slopes, and their values as first values
updates-slopes : (env : List Affine) (free : List ℤ) (n : ℕ) (us : List Term)
    → updates_stop (with_free env free) n us ≡ None
    → HaveSlopes us (firsts env ++ free) (slopes env)
    (slopes (map (λ u. unwrap_or (affine_of u (with_free env free)) (constant (pos 0))) us))
    × (map (λ u. value u (firsts env ++ free)) us
    ≡ firsts (map (λ u. unwrap_or (affine_of u (with_free env free)) (constant (pos 0))) us))
updates-slopes env free n [] e = (tt, refl)
updates-slopes env free n (u ∷ us) e =
    go (affine_of u (with_free env free)) refl e (updates-slopes env free (suc n) us)
  where
    rest : List Affine
    rest = map (λ u. unwrap_or (affine_of u (with_free env free)) (constant (pos 0))) us

    go : (o : Option Affine) → affine_of u (with_free env free) ≡ o
        → (if is_some o then updates_stop (with_free env free) (suc n) us else Some (NonlinearPlace n)) ≡ None
        → (updates_stop (with_free env free) (suc n) us ≡ None
        → HaveSlopes us (firsts env ++ free) (slopes env) (slopes rest)
        × (map (λ v. value v (firsts env ++ free)) us ≡ firsts rest))
        → (HasSlope u (firsts env ++ free) (slopes env) (unwrap_or o (constant (pos 0))).slope
        × HaveSlopes us (firsts env ++ free) (slopes env) (slopes rest))
        × (value u (firsts env ++ free) ∷ map (λ v. value v (firsts env ++ free)) us
        ≡ (unwrap_or o (constant (pos 0))).first ∷ firsts rest)
    go (Some a) is none later =
        let behind = later none in (
          (slope-affine u env free a is, behind.0),
          ap (λ (z : ℤ). z ∷ map (λ v. value v (firsts env ++ free)) us) (first-value u env free a is)
              ∙ ap (λ (zs : List ℤ). a.first ∷ zs) behind.1,
        )
    go None is none later = absurd (some_none (NonlinearPlace n) none)

-- if neither of two tests fails, the first failure of both is none
no-stops : (f g : Option Stop) → first_stop f g ≡ None → (f ≡ None) × (g ≡ None)
no-stops None g e = (refl, e)
no-stops (Some f) g e = cc

-- a rule that passes the test can be applied after any number of moves
rule-goes_on : (r : Rule) (env : List Affine) (free : List ℤ) (values : List ℤ) → values ≡ firsts env
    → rule_stop r (with_free env free) ≡ None → GuardHolds (values ++ free) r.guard
    → GuardStaysTrue (values ++ free) (slopes env) r.guard
    × (HaveSlopes r.updates (values ++ free) (slopes env) (slopes (new_affine r (with_free env free)))
    × (map (λ u. value u (values ++ free)) r.updates ≡ firsts (new_affine r (with_free env free))))
rule-goes_on r env free values same none holds =
    subst (λ (vs : List ℤ). GuardHolds (vs ++ free) r.guard → GuardStaysTrue (vs ++ free) (slopes env) r.guard
    × (HaveSlopes r.updates (vs ++ free) (slopes env) (slopes (new_affine r (with_free env free)))
    × (map (λ u. value u (vs ++ free)) r.updates ≡ firsts (new_affine r (with_free env free))))) (sym same) at_firsts holds
  where
    stops : (guard_stop (with_free env free) 1 r.guard ≡ None) × (updates_stop (with_free env free) 1 r.updates ≡ None)
    stops =
        no-stops (guard_stop (with_free env free) 1 r.guard) (updates_stop (with_free env free) 1 r.updates) none

    at_firsts : GuardHolds (firsts env ++ free) r.guard → GuardStaysTrue (firsts env ++ free) (slopes env) r.guard
        × (HaveSlopes r.updates (firsts env ++ free) (slopes env) (slopes (new_affine r (with_free env free)))
        × (map (λ u. value u (firsts env ++ free)) r.updates ≡ firsts (new_affine r (with_free env free))))
    at_firsts h =
        let updates = updates-slopes env free 1 r.updates stops.1 in
        (guard-goes_on env free 1 r.guard stops.0 h, (updates.0, updates.1))

-- a step that passes the test leads on after any number of moves, from moved values to moved values
step-moves : (p : Program) (env : List Affine) (b : Config) (s : Step) (c : Config) → b.values ≡ firsts env
    → IsStep p b s c → step_stop (rule_at p s.rule) env s.free ≡ None
    → StepMoves p b s c (slopes env) (slopes (step_affine (rule_at p s.rule) env s.free))
    × (c.values ≡ firsts (step_affine (rule_at p s.rule) env s.free))
step-moves p env b s c same step none =
    let r = step.rule in
    let goes_on =
    rule-goes_on r env s.free b.values same
    (ap (λ (o : Option Rule). step_stop o env s.free) (sym step.numbered) ∙ none) step.leads.guard in
    let behind : new_affine r (with_free env s.free) ≡ step_affine (rule_at p s.rule) env s.free =
    ap (λ (o : Option Rule). step_affine o env s.free) (sym step.numbered) in (
      record {
        rule = r;
        numbered = step.numbered;
        leads = step.leads;
        places = length-map env (λ a. a.slope) ∙ (sym (length-map env (λ a. a.first)) ∙ ap length (sym same));
        guard = goes_on.0;
        updates = subst (λ (es : List Affine). HaveSlopes r.updates (b.values ++ s.free) (slopes env) (slopes es)) behind goes_on.1.0;
      },
      step.leads.values ∙ (goes_on.1.1 ∙ ap firsts behind),
    )

-- if steps have no failure, neither the earlier steps nor the last one have one
no-stop_at : (f : Option StopAt) (n : ℕ) (g : Option Stop) → or_stop f n g ≡ None → (f ≡ None) × (g ≡ None)
no-stop_at None n None e = (refl, refl)
no-stop_at None n (Some stop) e = cc
no-stop_at (Some found) n g e = cc

-- steps that all pass the test lead on after any number of moves, from moved values to moved values
path-moves : (p : Program) (env : List Affine) (b : Config) (steps : List Step) (c : Config) → b.values ≡ firsts env
    → LeadsTo p b steps c → first_stop_along p env steps ≡ None
    → PathMoves p b (slopes env) steps c (slopes (affine_after p env steps))
    × (c.values ≡ firsts (affine_after p env steps))
path-moves p env b [] c same leads none = ((leads, refl), ap (λ (d : Config). d.values) leads ∙ same)
path-moves p env b (s ∷ earlier) c same (d, path, step) none =
    let stops =
    no-stop_at (first_stop_along p env earlier) (suc (length earlier))
    (step_stop (rule_at p s.rule) (affine_after p env earlier) s.free) none in
    let before = path-moves p env b earlier d same path stops.0 in
    let one = step-moves p (affine_after p env earlier) d s c before.1 step stops.1 in
    ((d, slopes (affine_after p env earlier), before.0, one.0), one.1)

-- the first values of the integers between two lists of values are the values before
between-firsts : (bs cs : List ℤ) → firsts (between bs cs) ≡ bs
between-firsts [] cs = refl
between-firsts (b ∷ bs) [] = ap (λ (zs : List ℤ). b ∷ zs) (between-firsts bs [])
between-firsts (b ∷ bs) (c ∷ cs) = ap (λ (zs : List ℤ). b ∷ zs) (between-firsts bs cs)

-- moved once they are the values after, if both lists have the same length
between-moved : (bs cs : List ℤ) → length bs ≡ length cs → cs ≡ moved bs (slopes (between bs cs)) 1
between-moved [] [] e = refl
between-moved [] (c ∷ cs) e = absurd (omega (arith, e))
between-moved (b ∷ bs) [] e = absurd (omega (arith, e))
between-moved (b ∷ bs) (c ∷ cs) e =
    ap (λ (z : ℤ). z ∷ cs) (number b c)
    ∙ ap (λ (zs : List ℤ). (b +ℤ pos 1 *ℤ (c -ℤ b)) ∷ zs) (between-moved bs cs (omega (arith, e)))
  where
    number : (b c : ℤ) → c ≡ b +ℤ pos 1 *ℤ (c -ℤ b)
    number b c = omega (arith, ints, one-mul_ℤ (pos 1) (c -ℤ b) refl)

-- both lists have the same length if the slopes after the turn are those before it
as-many : (bs cs : List ℤ) (env behind : List Affine) → bs ≡ firsts env → cs ≡ firsts behind → slopes behind ≡ slopes env
    → length bs ≡ length cs
as-many bs cs env behind before after again =
    let one = ap length before in
    let two = ap length after in
    let three = ap length again in
    omega (
      arith,
      one,
      two,
      three,
      length-map env (λ a. a.first),
      length-map behind (λ a. a.first),
      length-map env (λ a. a.slope),
      length-map behind (λ a. a.slope),
    )

-- Configurations with the same symbol and values are the same.
same-config : (b c : Config) → b.at ≡ c.at → b.values ≡ c.values → b ≡ c
same-config b c e f = λ i. record { at = e i; values = f i }

-- a turn moves on if all of its steps pass the test, it leads to the same symbol, and the values after it change as
-- those before it
pub seen_turns_go_on : SeenTurnsGoOn
seen_turns_go_on = record { each = go }
  where
    go : (p : Program) (start : List ℤ) (stem turn : List Step) (b c : Config) → IsRun p start stem b
        → IsRun p start (turn ++ stem) c → 1 ≤ length turn → b.at ≡ c.at
        → first_stop_along p (between b.values c.values) turn ≡ None
        → slopes (affine_after p (between b.values c.values) turn) ≡ slopes (between b.values c.values)
        → GoesOnFor p start stem turn b (slopes (between b.values c.values))
    go p start stem turn b c begins whole some at none again =
        let env = between b.values c.values in
        let firsts_before : b.values ≡ firsts env = sym (between-firsts b.values c.values) in
        let path = path-moves p env b turn c firsts_before (path_of p start stem b turn c begins whole) none in
        let places = as-many b.values c.values env (affine_after p env turn) firsts_before path.1 again in
        let there : c ≡ moved_config b (slopes env) 1 =
        same-config c (moved_config b (slopes env) 1) (sym at) (between-moved b.values c.values places) in
        record {
          begins = begins;
          turn_moves = subst (λ (d : Config). PathMoves p b (slopes env) turn d (slopes env)) there
              (subst (λ (ds : List ℤ). PathMoves p b (slopes env) turn c ds) again path.0);
          nonempty = some;
        }
