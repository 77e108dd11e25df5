-- Each step of a guard keeps the limits: the guard is within them after the step exactly if it was before and it is
-- quiet (it shows no fault at the next token).
use Rattle.std.proofs.Common.{◌≡◌, ℕ, suc, ◌+◌, ◌≤◌, true, false, not, ◌&&◌, ◌↔◌, is_some, List}
use Rattle.std.proofs.Common.{length, Option, Some, None, refl, ap, sym, subst, ◌∙◌, arith}
use Rattle.std.specs.Prelude.{⊤}
use Rattle.expr_text.specs.model.Programs.{Name}
use Rattle.expr_text.specs.model.Limits.{variable_limit, atom_limit}
use Rattle.expr_text.specs.Pieces as inner
use Rattle.expr_text.specs.Trees.{Sum}
use Rattle.expr_text.specs.Terms.{with_sum}
use Rattle.expr_text.specs.GrammarStates as expression
use Rattle.expr_text.specs.Steps as expression_steps
use Rattle.expr_text.specs.Guards.{Atom, Always, Compared, Atoms, count_of, with_atoms}
use Rattle.expr_text.specs.GuardGrammarStates as guards
use Rattle.expr_text.specs.GuardGrammarStates.{Conjoined, NoAtoms, JointAfter, GuardGrammarState, LeftSide, RightSide, atoms_with}
use Rattle.expr_text.specs.GuardGrammarStates.{truth_of}
use Rattle.expr_text.specs.StateNames.{names_with_state, with_conjoined, goes_on_with, operates}
use Rattle.expr_text.proofs.Stability.{extended, sum_extends}
use Rattle.expr_text.proofs.StateSteps.{token_ended, ended_there, names_ended}
use Rattle.expr_text.proofs.StateSteps.{IsAlways, truth_is_one}
use Rattle.its_text.specs.Pieces.{Piece, In}
use Rattle.its_text.specs.Numbering.{atoms_of_cost}
use Rattle.its_text.specs.StateFaults.{is_operating, ends_expression}
use Rattle.its_text.specs.Spelling.{IsAtomWithin, AreAtomsWithin}
use Rattle.expr_text.proofs.NamesRead.{Extends, atoms_are_read}
use Rattle.its_text.proofs.ValidRules.{at_most_one}
use Rattle.its_text.proofs.RoomLaws.{contrary, passes_not, and_false, atoms_stay}
use Rattle.its_text.proofs.KeptStates.{AreConjoined, conjoined_count, IsLeftKept, IsRightKept}
use Rattle.its_text.proofs.KeptStates.{IsGuardKept, IsRightExpanded, IsAtomExpanded, IsGuardQuiet}
use Rattle.its_text.proofs.ExpressionRoom.{goes_on, goes_off, room_for_token, room_for_piece, some_begun}
use Rattle.its_text.proofs.GuardRoom.{chosen_second, chosen_first, room_in_left, room_for_atom}

-- a piece is rejected, or leads to a guard that keeps the limits exactly if the one before does and is quiet
abbrev GuardTurns : ℕ → List Name → GuardGrammarState → inner.Piece → Option Piece → Option GuardGrammarState → Type 0
GuardTurns others names g p behind None = ⊤
GuardTurns others names g p behind (Some k) =
    IsGuardKept others names k behind ↔ (IsGuardKept others names g (Some (In p)) × IsGuardQuiet others names g (Some (In p)) behind)

module _ (cost : Option Sum) (names : List Name) where
  -- The number of atoms that the cost counts as.
  abbrev others : ℕ
  others = atoms_of_cost cost

  -- A step within an atom's left side that continues it keeps the limits exactly if the guard is quiet.
  left_goes_on : (c : Conjoined) (e f : expression.GrammarState) (p : inner.Piece) (behind : Option Piece)
      → expression_steps.step e p ≡ Some f → GuardTurns others names (LeftSide c e) p behind (Some (LeftSide c f))
  left_goes_on c e f p behind same =
      let few = room_for_atom cost c e f p same in
      let tokens = room_for_token e f p same in
      let variables = room_in_left names c e f p behind same in (
        λ h.
            let x = few.0 h.few in
            let y = tokens.0 h.tokens in
            let z = variables.0 h.variables in (
              record { atoms = h.atoms; few = x.0; tokens = y.0; variables = z.0 },
              record { atom = tt; few = x.1; going = λ k. (z.1, y.1) },
            ),
        λ h.
            let g = h.1.going (goes_on e f p same) in
            record {
              atoms = h.0.atoms;
              few = few.1 (h.0.few, h.1.few);
              tokens = tokens.1 (h.0.tokens, g.1);
              variables = variables.1 (h.0.variables, g.0);
            },
      )

  -- A step within an atom's right side that continues it keeps the limits exactly if the guard is quiet.
  right_goes_on : (c : Conjoined) (l : Sum) (sign : inner.Sign) (e f : expression.GrammarState) (p : inner.Piece)
      (behind : Option Piece) → expression_steps.step e p ≡ Some f
      → GuardTurns others names (RightSide c l sign e) p behind (Some (RightSide c l sign f))
  right_goes_on c l sign e f p behind same =
      let tokens = room_for_token e f p same in
      let variables = room_for_piece (with_sum (with_conjoined names c) l) e f p behind same in
      let on = goes_on e f p same in (
        λ h.
            let y = tokens.0 h.tokens in
            let z = variables.0 h.variables in (
              record { atoms = h.atoms; few = h.few; left = h.left; tokens = y.0; variables = z.0 },
              record {
                atom = λ ends. contrary (goes_on_with e p) on (passes_not (goes_on_with e p) ends);
                few = refl;
                going = λ k. (z.1, y.1);
              },
            ),
        λ h.
            let g = h.1.going on in
            record {
              atoms = h.0.atoms;
              few = h.0.few;
              left = h.0.left;
              tokens = tokens.1 (h.0.tokens, g.1);
              variables = variables.1 (h.0.variables, g.0);
            },
      )

  -- a relation ends the left side
  related : (c : Conjoined) (e : expression.GrammarState) (sign : inner.Sign) (behind : Option Piece) (l : Sum)
      → expression_steps.finish e ≡ Some l → expression_steps.step e (inner.Related sign) ≡ None
      → GuardTurns others names (LeftSide c e) (inner.Related sign) behind (Some (RightSide c l sign expression.beginning))
  related c e sign behind l same stop_kind =
      let some = some_begun e (ended_there e l same) in
      let tokens = token_ended e l same in
      let named = ap length (names_ended (with_conjoined names c) e l same) in
      let none = and_false (is_some (truth_of e)) in
      let second = chosen_second _ (with_conjoined names c) (names_with_state (with_conjoined names c) e) none in
      let before = ap length second in (
        λ h. (
          record {
            atoms = h.atoms;
            few = (let few = h.few in omega (arith, few, some));
            tokens = (let few = h.left in omega (arith, few, tokens));
            variables = (let few = h.variables in omega (arith, few, named, before));
          },
          record {
            atom = tt;
            few = and_false _;
            going = λ k. contrary (goes_on_with e (inner.Related sign)) k (goes_off e (inner.Related sign) stop_kind);
          },
        ),
        λ h.
            record {
              atoms = h.0.atoms;
              few = (let few = h.0.few in omega (arith, few, some));
              left = (let few = h.0.tokens in omega (arith, few, tokens));
              tokens = omega arith;
              variables = (let few = h.0.variables in omega (arith, few, named, before));
            },
      )

  -- The atoms, which have ended, are within the limits.
  pub record AreEnded (atoms : Atoms) : Type 0 where
    pub few : count_of atoms + others ≤ atom_limit
    pub within : AreAtomsWithin (with_atoms names atoms) atoms
    pub variables : length (with_atoms names atoms) ≤ variable_limit

  -- With the atom that always holds, there is one more atom.
  always_count : (c : Conjoined) (a : Atom) → count_of (atoms_with c a) ≡ suc (conjoined_count c)
  always_count NoAtoms a = refl
  always_count (JointAfter atoms joint) a = refl

  always_names : (c : Conjoined) (a : Atom) → IsAlways a → with_atoms names (atoms_with c a) ≡ with_conjoined names c
  always_names NoAtoms (Always t) is = refl
  always_names (JointAfter atoms joint) (Always t) is = refl
  always_names c (Compared l sign r) is = absurd is

  always_within : (c : Conjoined) (a : Atom) → IsAlways a
      → AreAtomsWithin (with_atoms names (atoms_with c a)) (atoms_with c a) ↔ AreConjoined (with_conjoined names c) c
  always_within NoAtoms (Always t) is = (λ h. tt, λ h. tt)
  always_within (JointAfter atoms joint) (Always t) is = (λ h. h.0, λ h. (h, tt))
  always_within c (Compared l sign r) is = absurd is

  truth_ends : (c : Conjoined) (e : expression.GrammarState) (a : Atom) (next : Option Piece) → truth_of e ≡ Some a
      → is_operating next ≡ false → AreEnded (atoms_with c a) ↔ IsLeftKept others names c e next
  truth_ends c e a next same operates =
      let one = truth_is_one e a same in
      let test : (is_some (truth_of e) && not (is_operating next)) ≡ true
      = ap (λ o. is_some o && not (is_operating next)) same ∙ ap not operates in
      let named =
      ap length
      (always_names c a one.1 ∙ sym
      (chosen_first (is_some (truth_of e) && not (is_operating next)) (with_conjoined names c)
      (names_with_state (with_conjoined names c) e) test)) in
      let counts = always_count c a in
      let within = always_within c a one.1 in
      let tokens = one.0 in (
        λ h.
            record {
              atoms = within.0 h.within;
              few = (let few = h.few in omega (arith, few, counts, tokens));
              tokens = omega (arith, tokens);
              variables = subst (λ n. n ≤ variable_limit) named h.variables;
            },
        λ h.
            record {
              few = (let few = h.few in omega (arith, few, counts, tokens));
              within = within.1 h.atoms;
              variables = subst (λ n. n ≤ variable_limit) (sym named) h.variables;
            },
      )

  -- the variables of two expressions and a relation after other atoms
  compared_names : (c : Conjoined) (l : Sum) (sign : inner.Sign) (r : Sum)
      → with_atoms names (atoms_with c (Compared l sign r)) ≡ with_sum (with_sum (with_conjoined names c) l) r
  compared_names NoAtoms l sign r = refl
  compared_names (JointAfter atoms joint) l sign r = refl

  compared_within : (c : Conjoined) (l : Sum) (sign : inner.Sign) (r : Sum)
      → AreAtomsWithin (with_atoms names (atoms_with c (Compared l sign r))) (atoms_with c (Compared l sign r))
      ↔ (AreConjoined (with_conjoined names c) c × IsAtomWithin (with_sum (with_sum (with_conjoined names c) l) r)
      (Compared l sign r))
  compared_within NoAtoms l sign r = (λ h. (tt, h), λ h. h.1)
  compared_within (JointAfter atoms joint) l sign r =
      let last = with_sum (with_sum (with_atoms names atoms) l) r in
      let more : Extends (with_atoms names atoms) last
      = extended (with_atoms names atoms) (with_sum (with_atoms names atoms) l) last
      (sum_extends (with_atoms names atoms) l) (sum_extends (with_sum (with_atoms names atoms) l) r) in
      let stay = atoms_stay (with_atoms names atoms) last more atoms (atoms_are_read names atoms) in
      (λ h. (stay.1 h.0, h.1), λ h. (stay.0 h.0, h.1))

  compared_ends : (c : Conjoined) (l : Sum) (sign : inner.Sign) (e : expression.GrammarState) (r : Sum)
      → expression_steps.finish e ≡ Some r
      → AreEnded (atoms_with c (Compared l sign r))
      ↔ (IsRightKept others names c l e × IsRightExpanded (with_sum (with_conjoined names c) l) l sign (Some r))
  compared_ends c l sign e r same =
      let tokens = token_ended e r same in
      let named = ap length (compared_names c l sign r ∙ names_ended (with_sum (with_conjoined names c) l) e r same) in
      let counts = always_count c (Compared l sign r) in
      let within = compared_within c l sign r in (
        λ h.
            let k = within.0 h.within in (
              record {
                atoms = k.0;
                few = (let few = h.few in omega (arith, few, counts));
                left = k.1.0;
                tokens = (let few = k.1.1 in omega (arith, few, tokens));
                variables = subst (λ n. n ≤ variable_limit) named h.variables;
              },
              k.1.2,
            ),
        λ h.
            record {
              few = (let few = h.0.few in omega (arith, few, counts));
              within = within.1 (h.0.atoms, (h.0.left, (let few = h.0.tokens in omega (arith, few, tokens)), h.1));
              variables = subst (λ n. n ≤ variable_limit) (sym named) h.0.variables;
            },
      )

  -- A property of a value holds of an equal one.
  some_is : {X : Type 0} (P : X → Type 0) (x y : X) → Some x ≡ Some y → P x → P y
  some_is P x y e h = subst P (let same : x ≡ y = cc in same) h

  left_ends : (c : Conjoined) (e : expression.GrammarState) (atoms : Atoms) (next : Option Piece) (o : Option Atom)
      → truth_of e ≡ o → guards.ended c o ≡ Some atoms → is_operating next ≡ false
      → AreEnded atoms ↔ (IsLeftKept others names c e next × ⊤)
  left_ends c e atoms next None same is operates = cc
  left_ends c e atoms next (Some a) same is operates =
      let ends = truth_ends c e a next same operates in
      some_is (λ found. AreEnded found ↔ (IsLeftKept others names c e next × ⊤)) (atoms_with c a) atoms is
      (λ h. (ends.0 h, tt), λ h. ends.1 h.0)

  right_ends : (c : Conjoined) (l : Sum) (sign : inner.Sign) (e : expression.GrammarState) (atoms : Atoms)
      (next : Option Piece) (o : Option Sum) → expression_steps.finish e ≡ o
      → guards.ended c (guards.compared l sign o) ≡ Some atoms → ends_expression e next ≡ true
      → AreEnded atoms ↔ (IsRightKept others names c l e × IsAtomExpanded names (RightSide c l sign e) next)
  right_ends c l sign e atoms next None same is stop_kind = cc
  right_ends c l sign e atoms next (Some r) same is stop_kind =
      let ends = compared_ends c l sign e r same in
      some_is (λ found. AreEnded found ↔ (IsRightKept others names c l e × IsAtomExpanded names (RightSide c l sign e) next))
      (atoms_with c (Compared l sign r)) atoms is (
        λ h.
            let k = ends.0 h in
            (k.0, λ _. subst (IsRightExpanded (with_sum (with_conjoined names c) l) l sign) (sym same) k.1),
        λ h. ends.1 (h.0, subst (IsRightExpanded (with_sum (with_conjoined names c) l) l sign) same (h.1 stop_kind)),
      )

  -- atoms that end are within the limits exactly if the guard was, and the last can be expanded
  pub guard_ends : (g : GuardGrammarState) (atoms : Atoms) (next : Option Piece) → guards.finish g ≡ Some atoms
      → is_operating next ≡ false → ends_expression (guards.expression_in g) next ≡ true
      → AreEnded atoms ↔ (IsGuardKept others names g next × IsAtomExpanded names g next)
  guard_ends (LeftSide c e) atoms next same operates stop_kind = left_ends c e atoms next (truth_of e) refl same operates
  guard_ends (RightSide c l sign e) atoms next same operates stop_kind =
      right_ends c l sign e atoms next (expression_steps.finish e) refl same stop_kind

  -- The state in which the next atom must follow is within the limits exactly if the atoms before it are.
  atom_wanted : (atoms : Atoms) (joint : inner.Joint) (behind : Option Piece)
      → IsLeftKept others names (JointAfter atoms joint) expression.beginning behind ↔ AreEnded atoms
  atom_wanted atoms joint behind = (
    λ h. record { few = (let few = h.few in omega (arith, few)); within = h.atoms; variables = h.variables },
    λ h. record {
      atoms = h.within;
      few = (let few = h.few in omega (arith, few));
      tokens = omega arith;
      variables = h.variables;
    },
  )

  joined : (g : GuardGrammarState) (joint : inner.Joint) (behind : Option Piece) (o : Option Atoms) → guards.finish g ≡ o
      → expression_steps.step (guards.expression_in g) (inner.Joining joint) ≡ None
      → GuardTurns others names g (inner.Joining joint) behind (guards.joined joint o)
  joined g joint behind None same stop_kind = tt
  joined g joint behind (Some atoms) same stop_kind =
      let wanted = atom_wanted atoms joint behind in
      let ends = guard_ends g atoms (Some (In (inner.Joining joint))) same refl
      (ap not (goes_off (guards.expression_in g) (inner.Joining joint) stop_kind)) in (
        λ h.
            let k = ends.0 (wanted.0 h) in (
              k.0,
              record {
                atom = k.1;
                few = and_false _;
                going = λ on. contrary (goes_on_with (guards.expression_in g) (inner.Joining joint)) on
                    (goes_off (guards.expression_in g) (inner.Joining joint) stop_kind);
              },
            ),
        λ h. wanted.1 (ends.1 (h.0, h.1.atom)),
      )

  relates : (c : Conjoined) (e : expression.GrammarState) (sign : inner.Sign) (behind : Option Piece) (o : Option Sum)
      → expression_steps.finish e ≡ o → expression_steps.step e (inner.Related sign) ≡ None
      → GuardTurns others names (LeftSide c e) (inner.Related sign) behind (guards.related c sign o)
  relates c e sign behind None same stop_kind = tt
  relates c e sign behind (Some l) same stop_kind = related c e sign behind l same stop_kind

  -- Each step of a guard within its atoms keeps the limits exactly if the guard is quiet.
  behind_turns : (g : GuardGrammarState) (p : inner.Piece) (behind : Option Piece)
      → expression_steps.step (guards.expression_in g) p ≡ None → GuardTurns others names g p behind (guards.step_behind g p)
  behind_turns (LeftSide c e) (inner.Related sign) behind stop_kind =
      relates c e sign behind (expression_steps.finish e) refl stop_kind
  behind_turns (RightSide c l sign e) (inner.Related other) behind stop_kind = tt
  behind_turns (LeftSide c e) (inner.Joining joint) behind stop_kind =
      joined (LeftSide c e) joint behind (guards.finish (LeftSide c e)) refl stop_kind
  behind_turns (RightSide c l sign e) (inner.Joining joint) behind stop_kind =
      joined (RightSide c l sign e) joint behind (guards.finish (RightSide c l sign e)) refl stop_kind
  behind_turns (LeftSide c e) (inner.Word n) behind stop_kind = tt
  behind_turns (LeftSide c e) (inner.Digits ds) behind stop_kind = tt
  behind_turns (LeftSide c e) inner.Open behind stop_kind = tt
  behind_turns (LeftSide c e) inner.Close behind stop_kind = tt
  behind_turns (LeftSide c e) inner.Plus behind stop_kind = tt
  behind_turns (LeftSide c e) inner.Minus behind stop_kind = tt
  behind_turns (LeftSide c e) inner.Times behind stop_kind = tt
  behind_turns (LeftSide c e) inner.Caret behind stop_kind = tt
  behind_turns (RightSide c l sign e) (inner.Word n) behind stop_kind = tt
  behind_turns (RightSide c l sign e) (inner.Digits ds) behind stop_kind = tt
  behind_turns (RightSide c l sign e) inner.Open behind stop_kind = tt
  behind_turns (RightSide c l sign e) inner.Close behind stop_kind = tt
  behind_turns (RightSide c l sign e) inner.Plus behind stop_kind = tt
  behind_turns (RightSide c l sign e) inner.Minus behind stop_kind = tt
  behind_turns (RightSide c l sign e) inner.Times behind stop_kind = tt
  behind_turns (RightSide c l sign e) inner.Caret behind stop_kind = tt

  within_turns : (g : GuardGrammarState) (p : inner.Piece) (behind : Option Piece) (o : Option expression.GrammarState)
      → expression_steps.step (guards.expression_in g) p ≡ o → GuardTurns others names g p behind (guards.within g o p)
  within_turns (LeftSide c e) p behind (Some f) same = left_goes_on c e f p behind same
  within_turns (RightSide c l sign e) p behind (Some f) same = right_goes_on c l sign e f p behind same
  within_turns (LeftSide c e) p behind None same = behind_turns (LeftSide c e) p behind same
  within_turns (RightSide c l sign e) p behind None same = behind_turns (RightSide c l sign e) p behind same

  -- along each step a guard is within the limits exactly if it was before, and it is quiet
  pub guard_turns : (g k : GuardGrammarState) (p : inner.Piece) (behind : Option Piece) → guards.step g p ≡ Some k
      → IsGuardKept others names k behind ↔ (IsGuardKept others names g (Some (In p)) × IsGuardQuiet others names g (Some (In p)) behind)
  guard_turns g k p behind same =
      subst (GuardTurns others names g p behind) same
      (within_turns g p behind (expression_steps.step (guards.expression_in g) p) refl)

  -- An empty guard is within the limits if there aren't too many variables before it.
  pub guard_begins : (next : Option Piece) → length names ≤ variable_limit → IsGuardKept others names guards.no_atoms next
  guard_begins next few =
      let one = at_most_one cost in
      record { atoms = tt; few = omega (arith, one); tokens = omega arith; variables = few }
