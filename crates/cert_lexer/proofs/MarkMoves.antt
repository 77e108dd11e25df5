-- Functions of marks that apply to each mark and level alone, as appending others or raising all, act on the levels of
-- a tree.
use Rattle.std.proofs.Common.{◌≡◌, ℕ, suc, Bool, true, false, cond, nat_lt, List, [], ◌∷◌, ◌++◌, length}
use Rattle.std.proofs.Common.{Some, None, refl, ap, sym, ◌∙◌}
use Rattle.its_model.specs.model.Bounds.{Bound, Constant, Input, SumOf, ProductOf, MaximumOf, PowerOf, Parts, NoParts}
use Rattle.its_model.specs.model.Bounds.{Part}
use Rattle.bound_text.specs.Shapes.{is_sum, is_leaf}
use Rattle.bound_text.specs.Pieces.{Piece}
use Rattle.bound_text.specs.Writing.{Before, Nothing, Run, Other, goes_on, run_with, plus_between, comma_between}
use Rattle.bound_text.specs.ParserStates.{Bracket, Arguments, Exponent, Factor, Outer, Whole, Inside, levels_above, sum_node}
use Rattle.bound_text.specs.ParserStates.{product_node_round}
use Rattle.bound_text.specs.Inside.{Marks, unmarked, ended_marks, times_marks, factor_marks, exponent_marks, bound_marks}
use Rattle.bound_text.specs.Inside.{joined_marks, more_marks, factors_marks, each_marks, star_marks, bracket_marks}
use Rattle.bound_text.specs.Inside.{outer_marks, level_behind}
use Rattle.bound_text.proofs.MarkLaws.{other_factor}
use Rattle.cert_lexer.specs.Levels.{raised, raised_from}

-- the function changes marks one by one, and levels alike
pub record Moves (up : ℕ → ℕ) (over : Marks → Marks) : Type 0 where
  pub none : (rest : Marks) → over (None ∷ rest) ≡ None ∷ over rest
  pub some : (level : ℕ) (rest : Marks) → over (Some level ∷ rest) ≡ Some (up level) ∷ over rest
  pub next : (level : ℕ) → up (suc level) ≡ suc (up level)

-- the marks of factors that begin with a variable, by the test whether it continues a run
input_factor : (level : ℕ) (w : Before) (j : ℕ) (bs : Parts) (rest : Marks) (v : Bool) → goes_on w j ≡ v
    → factors_marks level w (Part (Input j) bs) rest
    ≡ cond v (factors_marks level (run_with w j) bs rest)
    (ended_marks level w (times_marks w (factors_marks level (Run j 1) bs rest)))
input_factor level w j bs rest v e =
    ap (λ (u : Bool). cond u (factors_marks level (run_with w j) bs rest)
    (ended_marks level w (times_marks w (factors_marks level (Run j 1) bs rest)))) e

-- the changed marks of a separator, with which no part begins
moved_separator : (up : ℕ → ℕ) (over : Marks → Marks) → Moves up over → (separator : List Piece) (rest : Marks)
    → unmarked separator (over rest) ≡ over (unmarked separator rest)
moved_separator up over m [] rest = refl
moved_separator up over m (p ∷ ps) rest =
    ap (λ (ms : Marks). None ∷ ms) (moved_separator up over m ps rest) ∙ sym (m.none (unmarked ps rest))

-- the changed marks of a run are those of a run at the changed level
moved_run : (up : ℕ → ℕ) (over : Marks → Marks) → Moves up over → (level : ℕ) (before : Before) (rest : Marks)
    → ended_marks (up level) before (over rest) ≡ over (ended_marks level before rest)
moved_run up over m level Nothing rest = refl
moved_run up over m level (Run i n) rest = go (nat_lt 1 n)
  where
    go : (v : Bool)
        → Some (up level) ∷ cond v (None ∷ None ∷ over rest) (over rest)
        ≡ over (Some level ∷ cond v (None ∷ None ∷ rest) rest)
    go true =
        ap (λ (ms : Marks). Some (up level) ∷ ms)
        (ap (λ (ms : Marks). None ∷ ms) (sym (m.none rest)) ∙ sym (m.none (None ∷ rest)))
        ∙ sym (m.some level (None ∷ None ∷ rest))
    go false = sym (m.some level rest)
moved_run up over m level Other rest = refl

-- the changed marks of a `*`
moved_times : (up : ℕ → ℕ) (over : Marks → Marks) → Moves up over → (before : Before) (rest : Marks)
    → times_marks before (over rest) ≡ over (times_marks before rest)
moved_times up over m Nothing rest = refl
moved_times up over m (Run i n) rest = sym (m.none rest)
moved_times up over m Other rest = sym (m.none rest)

-- the marks of a `*` after factors
moved_star : (up : ℕ → ℕ) (over : Marks → Marks) → Moves up over → (fs : Parts) (rest : Marks)
    → star_marks fs (over rest) ≡ over (star_marks fs rest)
moved_star up over m NoParts rest = refl
moved_star up over m (Part b bs) rest = sym (m.none rest)

-- the changed marks of a factor, in brackets or not, are those at the changed level
moved_factor : (up : ℕ → ℕ) (over : Marks → Marks) → Moves up over → (v : Bool) (level : ℕ)
    (high low : Marks → Marks) → ((rest : Marks) → high (over rest) ≡ over (low rest)) → (rest : Marks)
    → factor_marks v (up level) high (over rest) ≡ over (factor_marks v level low rest)
moved_factor up over m true level high low h rest =
    ap (λ (ms : Marks). Some (up level) ∷ ms) (ap high (sym (m.none rest)) ∙ h (None ∷ rest))
    ∙ sym (m.some level (low (None ∷ rest)))
moved_factor up over m false level high low h rest = h rest

-- the changed marks of an exponent, in brackets or not, are those at the changed level
moved_exponent : (up : ℕ → ℕ) (over : Marks → Marks) → Moves up over → (v : Bool)
    (high low : Marks → Marks) → ((rest : Marks) → high (over rest) ≡ over (low rest)) → (rest : Marks)
    → exponent_marks v high (over rest) ≡ over (exponent_marks v low rest)
moved_exponent up over m true high low h rest = h rest
moved_exponent up over m false high low h rest =
    ap (λ (ms : Marks). None ∷ ms) (ap high (sym (m.none rest)) ∙ h (None ∷ rest)) ∙ sym (m.none (low (None ∷ rest)))

mutual
  -- the changed marks of a bound are those at the changed level
  pub moved_bound : (up : ℕ → ℕ) (over : Marks → Marks) → Moves up over → (level : ℕ) (b : Bound) (rest : Marks)
      → bound_marks (up level) b (over rest) ≡ over (bound_marks level b rest)
  moved_bound up over m level (Constant c) rest = sym (m.some level rest)
  moved_bound up over m level (Input i) rest = sym (m.some level rest)
  moved_bound up over m level (SumOf bs) rest =
      ap (λ (k : ℕ). joined_marks plus_between k bs (over rest)) (sym (m.next level))
      ∙ moved_joined up over m plus_between (suc level) bs rest
  moved_bound up over m level (ProductOf bs) rest =
      ap (λ (k : ℕ). factors_marks k Nothing bs (over rest)) (sym (m.next level))
      ∙ moved_factors up over m (suc level) Nothing bs rest
  moved_bound up over m level (MaximumOf bs) rest =
      ap (λ (k : ℕ). Some (up level) ∷ joined_marks comma_between k bs (None ∷ over rest)) (sym (m.next level))
      ∙ ap (λ (ms : Marks). Some (up level) ∷ joined_marks comma_between (up (suc level)) bs ms) (sym (m.none rest))
      ∙ ap (λ (ms : Marks). Some (up level) ∷ ms) (moved_joined up over m comma_between (suc level) bs (None ∷ rest))
      ∙ sym (m.some level (joined_marks comma_between (suc level) bs (None ∷ rest)))
  moved_bound up over m level (PowerOf c e) rest =
      ap (λ (k : ℕ). Some (up level) ∷ None ∷ exponent_marks (is_leaf e) (bound_marks k e) (over rest))
      (sym (m.next level))
      ∙ ap (λ (ms : Marks). Some (up level) ∷ None ∷ ms)
      (moved_exponent up over m (is_leaf e) (bound_marks (up (suc level)) e) (bound_marks (suc level) e)
      (λ r. moved_bound up over m (suc level) e r) rest)
      ∙ ap (λ (ms : Marks). Some (up level) ∷ ms)
      (sym (m.none (exponent_marks (is_leaf e) (bound_marks (suc level) e) rest)))
      ∙ sym (m.some level (None ∷ exponent_marks (is_leaf e) (bound_marks (suc level) e) rest))

  -- the changed marks of parts that a separator joins are those at the changed level
  pub moved_joined : (up : ℕ → ℕ) (over : Marks → Marks) → Moves up over → (separator : List Piece) (level : ℕ)
      (bs : Parts) (rest : Marks)
      → joined_marks separator (up level) bs (over rest) ≡ over (joined_marks separator level bs rest)
  moved_joined up over m separator level NoParts rest = refl
  moved_joined up over m separator level (Part b bs) rest =
      ap (bound_marks (up level) b) (moved_more up over m separator level bs rest)
      ∙ moved_bound up over m level b (more_marks separator level bs rest)

  pub moved_more : (up : ℕ → ℕ) (over : Marks → Marks) → Moves up over → (separator : List Piece) (level : ℕ)
      (bs : Parts) (rest : Marks)
      → more_marks separator (up level) bs (over rest) ≡ over (more_marks separator level bs rest)
  moved_more up over m separator level NoParts rest = refl
  moved_more up over m separator level (Part b bs) rest =
      ap (λ (ms : Marks). unmarked separator (bound_marks (up level) b ms))
      (moved_more up over m separator level bs rest)
      ∙ ap (unmarked separator) (moved_bound up over m level b (more_marks separator level bs rest))
      ∙ moved_separator up over m separator (bound_marks level b (more_marks separator level bs rest))

  -- the changed marks of factors are those at the changed level
  pub moved_factors : (up : ℕ → ℕ) (over : Marks → Marks) → Moves up over → (level : ℕ) (before : Before)
      (bs : Parts) (rest : Marks)
      → factors_marks (up level) before bs (over rest) ≡ over (factors_marks level before bs rest)
  moved_factors up over m level before NoParts rest = moved_run up over m level before rest
  moved_factors up over m level before (Part (Input i) bs) rest =
      go (goes_on before i) refl (λ w. moved_factors up over m level w bs rest)
    where
      go : (v : Bool) → goes_on before i ≡ v
          → ((w : Before) → factors_marks (up level) w bs (over rest) ≡ over (factors_marks level w bs rest))
          → factors_marks (up level) before (Part (Input i) bs) (over rest)
          ≡ over (factors_marks level before (Part (Input i) bs) rest)
      go true e ih =
          input_factor (up level) before i bs (over rest) true e
          ∙ ih (run_with before i)
          ∙ ap over (sym (input_factor level before i bs rest true e))
      go false e ih =
          input_factor (up level) before i bs (over rest) false e
          ∙ ap (λ (ms : Marks). ended_marks (up level) before (times_marks before ms)) (ih (Run i 1))
          ∙ ap (ended_marks (up level) before) (moved_times up over m before (factors_marks level (Run i 1) bs rest))
          ∙ moved_run up over m level before (times_marks before (factors_marks level (Run i 1) bs rest))
          ∙ ap over (sym (input_factor level before i bs rest false e))
  moved_factors up over m level before (Part c cs) rest =
      let inner = factor_marks (is_sum c) level (bound_marks level c) (factors_marks level Other cs rest) in
      other_factor (up level) before c cs (over rest) refl
      ∙ ap (λ (ms : Marks). ended_marks (up level) before (times_marks before
      (factor_marks (is_sum c) (up level) (bound_marks (up level) c) ms))) (moved_factors up over m level Other cs rest)
      ∙ ap (λ (ms : Marks). ended_marks (up level) before (times_marks before ms))
      (moved_factor up over m (is_sum c) level (bound_marks (up level) c) (bound_marks level c)
      (λ r. moved_bound up over m level c r) (factors_marks level Other cs rest))
      ∙ ap (ended_marks (up level) before) (moved_times up over m before inner)
      ∙ moved_run up over m level before (times_marks before inner)
      ∙ ap over (sym (other_factor level before c cs rest refl))

-- the changed marks of parts with a separator after each are those at the changed level
pub moved_each : (up : ℕ → ℕ) (over : Marks → Marks) → Moves up over → (separator : List Piece) (level : ℕ)
    (bs : Parts) (rest : Marks)
    → each_marks separator (up level) bs (over rest) ≡ over (each_marks separator level bs rest)
moved_each up over m separator level NoParts rest = refl
moved_each up over m separator level (Part b bs) rest =
    ap (λ (ms : Marks). bound_marks (up level) b (unmarked separator ms)) (moved_each up over m separator level bs rest)
    ∙ ap (bound_marks (up level) b) (moved_separator up over m separator (each_marks separator level bs rest))
    ∙ moved_bound up over m level b (unmarked separator (each_marks separator level bs rest))

-- appending other marks is such a function, which changes no level
pub behind : (ys : Marks) → Moves (λ level. level) (λ ms. ms ++ ys)
behind ys = record { none = λ rest. refl; some = λ level rest. refl; next = λ level. refl }

-- raising marks by one level is such a function
pub deeper : Moves suc raised
deeper = record { none = λ rest. refl; some = λ level rest. refl; next = λ level. refl }

-- the marks of an open bracket, with others appended
pub bracket_behind : (ys : Marks) (level : ℕ) (bracket : Bracket) (rest : Marks)
    → bracket_marks level bracket (rest ++ ys) ≡ bracket_marks level bracket rest ++ ys
bracket_behind ys level (Arguments bs) rest =
    ap (λ (ms : Marks). Some level ∷ ms) (moved_each (λ level. level) (λ ms. ms ++ ys) (behind ys) comma_between (suc level) bs rest)
bracket_behind ys level (Exponent c) rest = refl
bracket_behind ys level Factor rest = refl

-- the marks of terms and of factors, with others appended
pub factors_behind : (ys : Marks) (level : ℕ) (fs : Parts) (rest : Marks)
    → factors_marks level Nothing fs (rest ++ ys) ≡ factors_marks level Nothing fs rest ++ ys
factors_behind ys level fs rest = moved_factors (λ level. level) (λ ms. ms ++ ys) (behind ys) level Nothing fs rest

pub star_behind : (ys : Marks) (fs : Parts) (rest : Marks) → star_marks fs (rest ++ ys) ≡ star_marks fs rest ++ ys
star_behind ys fs rest = moved_star (λ level. level) (λ ms. ms ++ ys) (behind ys) fs rest

pub each_behind : (ys : Marks) (level : ℕ) (ts : Parts) (rest : Marks)
    → each_marks plus_between level ts (rest ++ ys) ≡ each_marks plus_between level ts rest ++ ys
each_behind ys level ts rest = moved_each (λ level. level) (λ ms. ms ++ ys) (behind ys) plus_between level ts rest

-- the marks of the pieces around a bound, with others appended
pub outer_behind : (ys : Marks) (outer : Outer) (rest : Marks) → outer_marks outer (rest ++ ys) ≡ outer_marks outer rest ++ ys
outer_behind ys Whole rest = refl
outer_behind ys (Inside bracket ts fs outer) rest =
    ap (λ (ms : Marks). outer_marks outer (each_marks plus_between high ts (factors_marks low Nothing fs (star_marks fs ms))))
    (bracket_behind ys low bracket rest)
    ∙ ap (λ (ms : Marks). outer_marks outer (each_marks plus_between high ts (factors_marks low Nothing fs ms)))
    (star_behind ys fs (bracket_marks low bracket rest))
    ∙ ap (λ (ms : Marks). outer_marks outer (each_marks plus_between high ts ms))
    (factors_behind ys low fs (star_marks fs (bracket_marks low bracket rest)))
    ∙ ap (outer_marks outer) (each_behind ys high ts (factors_marks low Nothing fs (star_marks fs (bracket_marks low bracket rest))))
    ∙ outer_behind ys outer (each_marks plus_between high ts (factors_marks low Nothing fs (star_marks fs (bracket_marks low bracket rest))))
  where
    high : ℕ
    high = level_behind (levels_above outer) (sum_node outer ts) 0

    low : ℕ
    low = level_behind (levels_above outer) (sum_node outer ts) (product_node_round bracket fs)

-- the marks before the current term, with others appended
pub term_behind : (outer : Outer) (level : ℕ) (ts : Parts) (xs ys : Marks)
    → outer_marks outer (each_marks plus_between level ts (xs ++ ys)) ≡ outer_marks outer (each_marks plus_between level ts xs) ++ ys
term_behind outer level ts xs ys = ap (outer_marks outer) (each_behind ys level ts xs) ∙ outer_behind ys outer (each_marks plus_between level ts xs)

-- raising marks from the end of a list on raises the marks appended to it
raised_behind : (xs ys : Marks) → raised_from (length xs) (xs ++ ys) ≡ xs ++ raised ys
raised_behind [] ys = refl
raised_behind (x ∷ xs) ys = ap (λ (ms : Marks). x ∷ ms) (raised_behind xs ys)

-- raising the marks of the current term
pub term_raised : (outer : Outer) (level : ℕ) (ts : Parts) (xs : Marks)
    → raised_from (length (outer_marks outer (each_marks plus_between level ts []))) (outer_marks outer (each_marks plus_between level ts xs))
    ≡ outer_marks outer (each_marks plus_between level ts (raised xs))
term_raised outer level ts xs =
    let before = outer_marks outer (each_marks plus_between level ts []) in
    ap (raised_from (length before)) (term_behind outer level ts [] xs)
    ∙ raised_behind before xs
    ∙ sym (term_behind outer level ts [] (raised xs))
