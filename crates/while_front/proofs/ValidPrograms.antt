-- The translation of a program within the limits is valid.
use Rattle.std.proofs.Common.{◌≡◌, ℕ, zero, suc, ◌+◌, ◌*◌, ◌<◌, ◌≤◌, ◌^◌, ◌||◌, Bool, true, false, List, [], ◌∷◌, ◌++◌}
use Rattle.std.proofs.Common.{inl, inr, length, map, Option, refl, sym, ◌∙◌, ap, subst, arith, length-append, eq-eqb}
use Rattle.std.specs.Prelude.{nat_eq, set, Result, Ok, Err, IfOk}
use Rattle.std.specs.Option.{option_map}
use Rattle.std.specs.List.{AllByRecursion, list_any, range_with_len}
use Rattle.std.proofs.lemmas.List.{length-map, length-set, append-nil}
use Rattle.std.proofs.lemmas.List.FromFn.{length-range_with_len}
use Rattle.std.proofs.lemmas.Option.{slice_get-map}
use Rattle.while_model.specs.model.Terms.{Term, Variable}
use Rattle.while_model.specs.model.Programs.{Name, Symbol, Rule, Program, arity_of, arity_in}
use Rattle.while_model.specs.Statements.{Action, Assign, Choose, Skip, Statements, size}
use Rattle.while_model.specs.Moves.{Move, program_moves}
use Rattle.while_model.specs.Translation.{points_of, number_in, free_count, free_names, free_name, variables, updates_of}
use Rattle.while_model.specs.Translation.{symbol_of, rule_of, program_of}
use Rattle.while_model.proofs.Members.{IsIn}
use Rattle.while_model.proofs.Numbers.{from_among, point_at}
use Rattle.while_model.proofs.Sources.{listed, listed-only, in_range}
use Rattle.while_model.proofs.Runs.{starts}
use Rattle.while_model.proofs.FreeNames.{free_names_are_apart}
use Rattle.its_model.specs.text_core.Names.{IsName, AreDistinct}
use Rattle.its_model.specs.Valid.{IsValidTerm, IsValidSymbol, IsValidRule, IsValid}
use Rattle.while_tree.specs.Readable.{FitsAction, IsReadable}
use Rattle.while_front.specs.Readable.{HasRoom, ReadableProgramsAreValid}
use Rattle.while_front.proofs.FittingMoves.{FitsMove, fits_moves, to_bound, length_moves, size_le_rules}
use Rattle.while_front.proofs.PointLists.{apart_points, all_append, all_points, to_among, number_below, length_points}
use Rattle.while_front.proofs.PointNames.{point_is_name, symbols_distinct, free_is_name, distinct_append}

-- The variables from `first` on are expressions over `most` variables.
variables_valid : (n first most : ℕ) → first + n ≤ most
    → AllByRecursion (IsValidTerm most) (map (λ x. Variable x) (range_with_len first n))
variables_valid zero first most h = tt
variables_valid (suc n) first most h = (
  record { variables = omega (arith, h); expands = refl },
  variables_valid n (first + 1) most (omega (arith, h)),
)

-- A predicate that holds of all elements holds of them after one is replaced by an element of which it holds.
all_set : {X : Type 0} (P : X → Type 0) (xs : List X) (i : ℕ) (y : X) → AllByRecursion P xs → P y
    → AllByRecursion P (set xs i y)
all_set P [] i y h p = tt
all_set P (x ∷ xs) zero y h p = (p, h.1)
all_set P (x ∷ xs) (suc i) y h p = (h.0, all_set P xs i y h.1 p)

-- The list of the first n variables has n elements.
variables_length : (n : ℕ) → length (variables n) ≡ n
variables_length n = length-map (range_with_len 0 n) (λ x. Variable x) ∙ length-range_with_len 0 n

updates_length : (n : ℕ) (action : Action) → length (updates_of n action) ≡ n
updates_length n (Assign x e) = length-set (variables n) x e ∙ variables_length n
updates_length n (Choose x) = length-set (variables n) x (Variable n) ∙ variables_length n
updates_length n Skip = variables_length n

-- The updates of an action that fits are valid.
updates_valid : (n : ℕ) (action : Action) → FitsAction n action
    → AllByRecursion (IsValidTerm (n + free_count action)) (updates_of n action)
updates_valid n (Assign x e) (low, valid) =
    let same : n ≡ n + 0 = omega arith in
    all_set (IsValidTerm (n + 0)) (variables n) x e (variables_valid n 0 (n + 0) (omega arith))
    (subst (λ (k : ℕ). IsValidTerm k e) same valid)
updates_valid n (Choose x) low =
    all_set (IsValidTerm (n + 1)) (variables n) x (Variable n) (variables_valid n 0 (n + 1) (omega arith))
    (record { variables = omega arith; expands = refl })
updates_valid n Skip fits = variables_valid n 0 (n + 0) (omega arith)

-- Each free variable has a name, and there is at most one.
free_names_length : (inputs : List Name) (action : Action) → length (free_names inputs action) ≡ free_count action
free_names_length inputs (Assign x e) = refl
free_names_length inputs (Choose x) = refl
free_names_length inputs Skip = refl

free_count_le : (action : Action) → free_count action ≤ 1
free_count_le (Assign x e) = omega arith
free_count_le (Choose x) = omega arith
free_count_le Skip = omega arith

-- The variables of a rule have names, which are distinct.
names_valid : (inputs : List Name) (action : Action) → AllByRecursion IsName inputs
    → AllByRecursion IsName (inputs ++ free_names inputs action)
names_valid inputs (Assign x e) h = rw append-nil h
names_valid inputs (Choose x) h = all_append IsName inputs (free_name inputs) h (free_is_name inputs)
names_valid inputs Skip h = rw append-nil h

names_distinct : (inputs : List Name) (action : Action) → AreDistinct inputs
    → AreDistinct (inputs ++ free_names inputs action)
names_distinct inputs (Assign x e) h = rw append-nil h
names_distinct inputs (Choose x) h = distinct_append inputs (free_name inputs) h (free_names_are_apart.each inputs)
names_distinct inputs Skip h = rw append-nil h

-- A predicate that holds of the image of each move holds of all images.
all_image : {X : Type 0} (P : X → Type 0) (f : Move → X) (ms : List Move) → ((m : Move) → IsIn m ms → P (f m))
    → AllByRecursion P (map f ms)
all_image P f [] each = tt
all_image P f (m ∷ ms) each = (each m (inl refl), all_image P f ms (λ n i. each n (inr i)))

-- A disjunction whose first part holds holds.
first_passes : (a b : Bool) → a ≡ true → (a || b) ≡ true
first_passes a b e = rw e refl

second_passes : (a b : Bool) → b ≡ true → (a || b) ≡ true
second_passes true b e = refl
second_passes false b e = e

-- The rule of a move that leaves point 0 leaves the start symbol.
start_left : (inputs : List Name) (points : List ℕ) (ms : List Move) (m : Move) → IsIn m ms → m.from ≡ 0
    → list_any (λ r. nat_eq (number_in points 0) r.source) (map (rule_of inputs points) ms) ≡ true
start_left inputs points [] m i e = absurd i
start_left inputs points (n ∷ ms) m (inl same) e =
    first_passes (nat_eq (number_in points 0) (number_in points n.from))
    (list_any (λ r. nat_eq (number_in points 0) r.source) (map (rule_of inputs points) ms))
    (eq-eqb (number_in points 0) (number_in points n.from) (ap (λ (k : ℕ). number_in points k) (sym from)))
  where
    from : n.from ≡ 0
    from = ap (λ (x : Move). x.from) (sym same) ∙ e
start_left inputs points (n ∷ ms) m (inr i) e =
    second_passes (nat_eq (number_in points 0) (number_in points n.from))
    (list_any (λ r. nat_eq (number_in points 0) r.source) (map (rule_of inputs points) ms))
    (start_left inputs points ms m i e)

-- The symbols of points below 2^64 are valid.
symbols_valid : (inputs : List Name) (xs : List ℕ) → length inputs ≤ 32 → AllByRecursion (λ k. k < 2 ^ 64) xs
    → AllByRecursion IsValidSymbol (map (symbol_of inputs) xs)
symbols_valid inputs [] few smalls = tt
symbols_valid inputs (x ∷ xs) few (small, smalls) =
    (record { name = point_is_name x small; arity = few }, symbols_valid inputs xs few smalls)

module _ (inputs : List Name) (program : Statements) (readable : IsReadable inputs program) where
  -- The points of the program.
  abbrev points : List ℕ
  points = points_of (program_moves program)

  -- Both ends of each move are below 2^64.
  ends_small : (m : Move) → IsIn m (program_moves program) → (m.from < 2 ^ 64) × (m.to < 2 ^ 64)
  ends_small m i =
      let move = listed-only m program 0 (size program) i in
      let range = in_range m program 0 (size program) move in
      let bound = to_bound m program 0 (size program) (size program) (omega arith) (omega arith) move in
      let few = size_le_rules program in
      let most = readable.few_rules in (omega (arith, range.1, few, most), omega (arith, bound, few, most))

  -- The points are below 2^64.
  points_small : AllByRecursion (λ k. k < 2 ^ 64) points
  points_small = all_points (λ k. k < 2 ^ 64) [] (program_moves program) tt ends_small

  -- Point 0, the start, is among the points.
  start_among : IsIn 0 points
  start_among =
      let s = starts program readable.nonempty in
      subst (λ (k : ℕ). IsIn k points) s.2
      (from_among [] (program_moves program) s.0 (listed s.0 program 0 (size program) s.1))

  -- The symbol of a point has a place for each input.
  places_at : (k : ℕ) → IsIn k points → arity_of (program_of inputs program) (number_in points k) ≡ length inputs
  places_at k i = ap (λ (o : Option Symbol). arity_in o) (
      slice_get-map (symbol_of inputs) points (number_in points k)
      ∙ ap (λ (o : Option ℕ). option_map (symbol_of inputs) o) (point_at points k i))

  -- The number of a point is that of a symbol.
  symbol_below : (k : ℕ) → IsIn k points → number_in points k < length (map (symbol_of inputs) points)
  symbol_below k i = let low = number_below points k i in omega (arith, low, length-map points (symbol_of inputs))

  -- The rule of each move is valid.
  move_valid : (m : Move) → IsIn m (program_moves program)
      → IsValidRule (program_of inputs program) (rule_of inputs points m)
  move_valid m i =
      let fits = fits_moves (length inputs) m program 0 (size program) readable.fits
      (listed-only m program 0 (size program) i) in
      let few = readable.few_inputs in
      let one = free_count_le m.action in
      let atoms = fits.few in
      record {
        source = symbol_below m.from (from_among [] (program_moves program) m i);
        target = symbol_below m.to (to_among [] (program_moves program) m i);
        left = sym (places_at m.from (from_among [] (program_moves program) m i));
        places = updates_length (length inputs) m.action ∙ sym (places_at m.to (to_among [] (program_moves program) m i));
        named = length-append inputs (free_names inputs m.action)
            ∙ ap (λ (k : ℕ). length inputs + k) (free_names_length inputs m.action);
        names = names_valid inputs m.action readable.names;
        distinct = names_distinct inputs m.action readable.distinct;
        few_variables = omega (arith, few, one);
        few_atoms = omega (arith, atoms);
        updates = updates_valid (length inputs) m.action fits.action;
        guard = fits.guard;
        cost = tt;
      }

  pub translation_valid : IsValid (program_of inputs program)
  translation_valid =
      let s = starts program readable.nonempty in
      let few = readable.few_rules in
      let count = length-map (program_moves program) (rule_of inputs points) in
      let moves = length_moves program 0 (size program) in
      record {
        symbols = symbols_valid inputs points readable.few_inputs points_small;
        distinct = symbols_distinct inputs points points_small (apart_points [] (program_moves program) tt);
        few_rules = omega (arith, few, count, moves);
        rules = all_image (IsValidRule (program_of inputs program)) (rule_of inputs points) (program_moves program)
            move_valid;
        start = symbol_below 0 start_among;
        start_is_source = start_left inputs points (program_moves program) s.0
            (listed s.0 program 0 (size program) s.1) s.2;
        start_places = sym (places_at 0 start_among);
        start_names = readable.names;
        start_distinct = readable.distinct;
      }

  -- The translation has room: its inputs and points can be numbered.
  pub has_room : HasRoom inputs (program_moves program)
  has_room =
      let few = readable.few_rules in
      let count = length_points [] (program_moves program) in
      let moves = length_moves program 0 (size program) in
      record { few_inputs = readable.few_inputs; few_points = omega (arith, few, count, moves) }

-- The translation of every program within the limits is valid.
pub readable_are_valid : ReadableProgramsAreValid
readable_are_valid = record { each = λ inputs program readable. translation_valid inputs program readable }

-- The statements of a program within the limits can be numbered.
pub readable_size : (inputs : List Name) (program : Statements) → IsReadable inputs program → size program < 2 ^ 32
readable_size inputs program readable =
    let few = size_le_rules program in let most = readable.few_rules in omega (arith, few, most)

-- The translation of a program within the limits has room.
pub room_for : (inputs : List Name) (program : Statements) (ms : List Move) → IsReadable inputs program
    → ms ≡ program_moves program → HasRoom inputs ms
room_for inputs program ms readable e =
    subst (λ (x : List Move). HasRoom inputs x) (sym e) (has_room inputs program readable)

-- A program equal to the translation is valid.
pub valid_as : (inputs : List Name) (program : Statements) (p : Program) → IsReadable inputs program
    → p ≡ program_of inputs program → IsValid p
valid_as inputs program p readable e =
    subst (λ (x : Program). IsValid x) (sym e) (translation_valid inputs program readable)

-- A result that, if it is a program, is the translation of a program within the limits is valid.
pub valid_if : {M E : Type 0} (view : M → Program) (inputs : List Name) (program : Statements) → IsReadable inputs program
    → (result : Result M E) → IfOk result (λ p. view p ≡ program_of inputs program) → IfOk result (λ p. IsValid (view p))
valid_if view inputs program readable (Ok p) e = valid_as inputs program (view p) readable e
valid_if view inputs program readable (Err error) e = tt
