-- Routes are runs of the translated program with the same number of steps and the same values.
use Rattle.std.proofs.Common.{◌≡◌, ◌⊎◌, inl, inr, ℕ, zero, suc, List, [], ◌∷◌, length, ℤ, Option, Some, None}
use Rattle.std.proofs.Common.{refl, sym, ◌∙◌, ap, subst, arith, slice_get}
use Rattle.std.specs.Option.{option_map}
use Rattle.std.proofs.lemmas.Option.{slice_get-map}
use Rattle.model.specs.Programs.{Name, Symbol, Rule, rule_at, arity_of, arity_in}
use Rattle.model.specs.Runs.{Config, Step, Leads, IsStep, IsRun}
use Rattle.model.proofs.Cases.{none_some, some_same}
use Rattle.while_model.specs.Statements.{Statements, Nothing, Simple, While, If, size, IsNonempty}
use Rattle.while_model.specs.Executions.{Acts}
use Rattle.while_model.specs.Moves.{Move, program_moves}
use Rattle.while_model.specs.Translation.{points_of, number_in, symbol_of, rule_of, free_count, program_of}
use Rattle.while_model.proofs.Members.{IsIn, position_of, is_in-at}
use Rattle.while_model.proofs.Sources.{IsMoveOf, listed, listed-only}
use Rattle.while_model.proofs.Routes.{Passes, IsRoute}
use Rattle.while_model.proofs.Numbers.{from_among, number_in-unique, point_at}
use Rattle.while_model.proofs.Rules.{acts_free, free_acts, acts_length, guard_or_free, guard_with_free}
use Rattle.while_model.proofs.Rules.{guard_without_free}

-- The points of a program's moves.
abbrev pub points : Statements → List ℕ
points program = points_of (program_moves program)

-- A program with a statement has a move from point 0.
pub starts : (program : Statements) → IsNonempty program → (m : Move) × IsMoveOf m 0 (size program) program × (m.from ≡ 0)
starts Nothing some = absurd some
starts (Simple action rest) some = (_, inl refl, refl)
starts (While test block rest) some = (_, inl (inl refl), refl)
starts (If test block other rest) some = (_, inl (inl refl), refl)

-- Point 0 is among the points, and so is each point that a move leaves.
pub leaves_among : (program : Statements) (m : Move) → IsMoveOf m 0 (size program) program → IsIn m.from (points program)
leaves_among program m h = from_among [] (program_moves program) m (listed m program 0 (size program) h)

start_among : (program : Statements) → IsNonempty program → IsIn 0 (points program)
start_among program some =
    let s = starts program some in subst (λ (k : ℕ). IsIn k (points program)) s.2 (leaves_among program s.0 s.1)

-- The start symbol has a place for each input.
start_places : (inputs : List Name) (program : Statements) → IsNonempty program
    → arity_of (program_of inputs program) (number_in (points program) 0) ≡ length inputs
start_places inputs program some = ap (λ (o : Option Symbol). arity_in o) (
    slice_get-map (symbol_of inputs) (points program) (number_in (points program) 0)
    ∙ ap (λ (o : Option ℕ). option_map (symbol_of inputs) o) (point_at (points program) 0 (start_among program some)))

-- A configuration at a point.
abbrev at_point : Statements → ℕ → List ℤ → Config
at_point program k values = record { at = number_in (points program) k; values = values }

-- A move is a step of its rule.
move_steps : (inputs : List Name) (program : Statements) (m : Move) (env end : List ℤ) → length env ≡ length inputs
    → IsMoveOf m 0 (size program) program → Passes m env end
    → (s : Step) × IsStep (program_of inputs program) (at_point program m.from env) s (at_point program m.to end)
move_steps inputs program m env end is h (guard, acts) =
    let there = position_of m (program_moves program) (listed m program 0 (size program) h) in
    let chosen = acts_free m.action env end (length inputs) is acts in (
      record { rule = suc there.0; free = chosen.0 },
      record {
        rule = rule_of inputs (points program) m;
        numbered = slice_get-map (rule_of inputs (points program)) (program_moves program) there.0
            ∙ ap (λ (o : Option Move). option_map (rule_of inputs (points program)) o) there.1;
        leads = record {
          source = refl;
          left = is;
          free_ones = chosen.1;
          guard = guard_with_free m.guard env chosen.0 (without chosen.0 chosen.1 (guard_or_free m program 0 (size program) h)) guard;
          target = refl;
          values = chosen.2;
        };
      },
    )
  where
    without : (free : List ℤ) → length free ≡ free_count m.action → (m.guard ≡ []) ⊎ (free_count m.action ≡ 0)
        → (m.guard ≡ []) ⊎ (length free ≡ 0)
    without free count (inl e) = inl e
    without free count (inr e) = inr (count ∙ e)

-- Each route is a run with the same number of steps, to the symbol of its last point.
pub route_is_run : (inputs : List Name) (program : Statements) → IsNonempty program → (start : List ℤ)
    → length start ≡ length inputs → (n k : ℕ) (end : List ℤ) → IsRoute program start n k end
    → (steps : List Step) × IsRun (program_of inputs program) start steps (at_point program k end) × (length steps ≡ n)
    × (length end ≡ length inputs)
route_is_run inputs program some start is zero k end (at, same) = (
  [],
  record {
    places = is ∙ sym (start_places inputs program some);
    at = ap (λ (j : ℕ). number_in (points program) j) at;
    values = same;
  },
  refl,
  ap (λ (l : List ℤ). length l) same ∙ is,
)
route_is_run inputs program some start is (suc n) k end (m, env, route, h, passes, to) =
    go (route_is_run inputs program some start is n m.from env route)
  where
    go : (steps : List Step) × IsRun (program_of inputs program) start steps (at_point program m.from env)
        × (length steps ≡ n) × (length env ≡ length inputs)
        → (steps : List Step) × IsRun (program_of inputs program) start steps (at_point program k end)
        × (length steps ≡ suc n) × (length end ≡ length inputs)
    go (steps, run, count, places) =
        let step = move_steps inputs program m env end places h passes in (
          step.0 ∷ steps,
          (
            at_point program m.from env,
            run,
            subst (λ (j : ℕ). IsStep (program_of inputs program) (at_point program m.from env) step.0 (at_point program j end))
                (sym to) step.1,
          ),
          omega (arith, count),
          acts_length m.action env end passes.1 ∙ places,
        )

-- What is shown of a run: it has a route to the point of its last configuration.
pub record Shown (inputs : List Name) (program : Statements) (start : List ℤ) (n : ℕ) (c : Config) : Type 0 where
  pub point : ℕ
  pub route : IsRoute program start n point c.values
  pub at : c.at ≡ number_in (points program) point
  pub places : length c.values ≡ length inputs

-- Each rule of the translation is the rule of a move.
pub rule_is_of : (inputs : List Name) (program : Statements) (t : ℕ) (rule : Rule) → rule_at (program_of inputs program) t ≡ Some rule
    → (m : Move) × IsMoveOf m 0 (size program) program × (rule_of inputs (points program) m ≡ rule)
rule_is_of inputs program zero rule e = absurd (none_some rule e)
rule_is_of inputs program (suc i) rule e =
    go (slice_get (program_moves program) i) refl
    (sym (slice_get-map (rule_of inputs (points program)) (program_moves program) i) ∙ e)
  where
    go : (o : Option Move) → slice_get (program_moves program) i ≡ o
        → option_map (rule_of inputs (points program)) (slice_get (program_moves program) i) ≡ Some rule
        → (m : Move) × IsMoveOf m 0 (size program) program × (rule_of inputs (points program) m ≡ rule)
    go None is h = absurd (none_some rule (rw is at h))
    go (Some m) is h = (
      m,
      listed-only m program 0 (size program) (is_in-at m (program_moves program) i is),
      some_same (rule_of inputs (points program) m) rule (rw is at h),
    )

-- A step from a point is a move from it.
step_shows : (inputs : List Name) (program : Statements) (start : List ℤ) (n : ℕ) (b c : Config) (s : Step)
    → Shown inputs program start n b → IsStep (program_of inputs program) b s c → Shown inputs program start (suc n) c
step_shows inputs program start n b c s shown step =
    go (rule_is_of inputs program s.rule step.rule step.numbered)
  where
    go : (m : Move) × IsMoveOf m 0 (size program) program × (rule_of inputs (points program) m ≡ step.rule)
        → Shown inputs program start (suc n) c
    go (m, h, e) = by_leads (subst (λ (r : Rule). Leads r b s.free c) (sym e) step.leads)
      where
        by_leads : Leads (rule_of inputs (points program) m) b s.free c → Shown inputs program start (suc n) c
        by_leads leads =
            let same : shown.point ≡ m.from =
            number_in-unique (points program) shown.point m.from (leaves_among program m h)
            (sym shown.at ∙ leads.source) in
            let acts : Acts m.action b.values c.values =
            free_acts m.action b.values c.values s.free (length inputs) shown.places leads.free_ones leads.values in
            record {
              point = m.to;
              route = (
                m,
                b.values,
                subst (λ (j : ℕ). IsRoute program start n j b.values) same shown.route,
                h,
                (
                  guard_without_free m.guard b.values s.free (without (guard_or_free m program 0 (size program) h)) leads.guard,
                  acts,
                ),
                refl,
              );
              at = leads.target;
              places = acts_length m.action b.values c.values acts ∙ shown.places;
            }
          where
            without : (m.guard ≡ []) ⊎ (free_count m.action ≡ 0) → (m.guard ≡ []) ⊎ (length s.free ≡ 0)
            without (inl e) = inl e
            without (inr e) = inr (leads.free_ones ∙ e)

-- Each run is a route with the same number of moves.
pub run_is_route : (inputs : List Name) (program : Statements) → IsNonempty program → (start : List ℤ) (steps : List Step)
    (c : Config) → IsRun (program_of inputs program) start steps c
    → Shown inputs program start (length steps) c × (length start ≡ length inputs)
run_is_route inputs program some start [] c begins =
    let is : length start ≡ length inputs = begins.places ∙ start_places inputs program some in (
      record {
        point = 0;
        route = (refl, begins.values);
        at = begins.at;
        places = ap (λ (l : List ℤ). length l) begins.values ∙ is;
      },
      is,
    )
run_is_route inputs program some start (s ∷ earlier) c (b, run, step) =
    go (run_is_route inputs program some start earlier b run)
  where
    go : Shown inputs program start (length earlier) b × (length start ≡ length inputs)
        → Shown inputs program start (length (s ∷ earlier)) c × (length start ≡ length inputs)
    go (shown, is) = (
      subst (λ (n : ℕ). Shown inputs program start n c) (omega arith)
          (step_shows inputs program start (length earlier) b c s shown step),
      is,
    )
