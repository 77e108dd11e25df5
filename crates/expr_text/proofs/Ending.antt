-- Which pieces don't continue an expression.
use Rattle.std.specs.Prelude.{◌≡◌, ℕ, zero, suc, List, [], ◌∷◌, Option, Some, None, ⊤, refl}
use Rattle.std.proofs.Common.{◌∙◌, ap, subst}
use Rattle.its_model.specs.model.Programs.{Name}
use Rattle.expr_text.specs.Pieces.{Piece, Word, Close, Sign, Related, Joint, Joining}
use Rattle.expr_text.specs.Trees.{Sum, Number, Named, Bracketed}
use Rattle.expr_text.specs.GrammarStates.{Summed, NoSum, PlusAfter, MinusAfter, Factored, NoProduct, TimesAfter, Level}
use Rattle.expr_text.specs.GrammarStates.{Operand, Wanted, BaseRead, CaretRead, ExponentRead, GrammarState, empty_level, beginning}
use Rattle.expr_text.specs.Steps.{step_from, step, finish_from, finish}
use Rattle.expr_text.specs.Guards.{Atom, Atoms}
use Rattle.expr_text.specs.GuardGrammarStates as guards
use Rattle.expr_text.specs.GuardGrammarStates.{Conjoined, GuardGrammarState, LeftSide, RightSide, JointAfter}

related_from : (outer : List Level) (level : Level) (operand : Operand) (sign : Sign) → step_from outer level operand (Related sign) ≡ None
related_from outer level Wanted sign = refl
related_from outer level (BaseRead b) sign = refl
related_from outer level (CaretRead b) sign = refl
related_from outer level (ExponentRead b ds) sign = refl

-- a relation ends an expression
pub related_ends : (e : GrammarState) (sign : Sign) → step e (Related sign) ≡ None
related_ends e sign = related_from e.outer e.level e.operand sign

joining_from : (outer : List Level) (level : Level) (operand : Operand) (joint : Joint) → step_from outer level operand (Joining joint) ≡ None
joining_from outer level Wanted joint = refl
joining_from outer level (BaseRead b) joint = refl
joining_from outer level (CaretRead b) joint = refl
joining_from outer level (ExponentRead b ds) joint = refl

-- a conjunction sign ends an expression
pub joining_ends : (e : GrammarState) (joint : Joint) → step e (Joining joint) ≡ None
joining_ends e joint = joining_from e.outer e.level e.operand joint

-- after a left side that can end, a relation is accepted, and the right side begins
pub related_step : (c : Conjoined) (e : GrammarState) (l : Sum) (sign : Sign) → finish e ≡ Some l → guards.step (LeftSide c e) (Related sign) ≡ Some (RightSide c l sign beginning)
related_step c e l sign same = ap (λ o. guards.within (LeftSide c e) o (Related sign)) (related_ends e sign) ∙ ap (λ o. guards.related c sign o) same

-- after atoms that can end, a conjunction sign is accepted, and the next atom begins
pub joining_step : (g : GuardGrammarState) (atoms : Atoms) (joint : Joint) → guards.finish g ≡ Some atoms → guards.step g (Joining joint) ≡ Some (LeftSide (JointAfter atoms joint) beginning)
joining_step (LeftSide c e) atoms joint same = ap (λ o. guards.within (LeftSide c e) o (Joining joint)) (joining_ends e joint) ∙ ap (λ o. guards.joined joint o) same
joining_step (RightSide c l sign e) atoms joint same = ap (λ o. guards.within (RightSide c l sign e) o (Joining joint)) (joining_ends e joint) ∙ ap (λ o. guards.joined joint o) same

-- a name doesn't continue an expression that can end, nor does a closing bracket if none is open
abbrev pub Stops : Piece → List Level → Level → Operand → Option Sum → Type 0
Stops p outer level operand None = ⊤
Stops p outer level operand (Some s) = step_from outer level operand p ≡ None

word_stops : (name : Name) (outer : List Level) (level : Level) (operand : Operand) → Stops (Word name) outer level operand (finish_from outer level operand)
word_stops name [] level Wanted = tt
word_stops name [] level (BaseRead b) = refl
word_stops name [] level (CaretRead b) = tt
word_stops name [] level (ExponentRead b ds) = refl
word_stops name (l ∷ outer) level operand = tt

close_stops : (outer : List Level) (level : Level) (operand : Operand) → Stops Close outer level operand (finish_from outer level operand)
close_stops [] level Wanted = tt
close_stops [] level (BaseRead b) = refl
close_stops [] level (CaretRead b) = tt
close_stops [] level (ExponentRead b ds) = refl
close_stops (l ∷ outer) level operand = tt

-- no name continues an expression that can end
pub word_ends : (e : GrammarState) (s : Sum) (name : Name) → finish e ≡ Some s → step e (Word name) ≡ None
word_ends e s name same = subst (λ o. Stops (Word name) e.outer e.level e.operand o) same (word_stops name e.outer e.level e.operand)

-- no closing bracket continues an expression that can end
pub close_ends : (e : GrammarState) (s : Sum) → finish e ≡ Some s → step e Close ≡ None
close_ends e s same = subst (λ o. Stops Close e.outer e.level e.operand o) same (close_stops e.outer e.level e.operand)

-- a name or a closing bracket doesn't continue the word of the atom that always holds
abbrev pub TruthStops : Piece → List Level → Level → Operand → Option Atom → Type 0
TruthStops p outer level operand None = ⊤
TruthStops p outer level operand (Some a) = step_from outer level operand p ≡ None

truth_word_stops : (p : Piece) (name : Name) (level : Level) (o : Option Atom) → step_from [] level (BaseRead (Named name)) p ≡ None → TruthStops p [] level (BaseRead (Named name)) o
truth_word_stops p name level None same = tt
truth_word_stops p name level (Some a) same = same

truth_stops : (p : Piece) (behind : (level : Level) (name : Name) → step_from [] level (BaseRead (Named name)) p ≡ None)
    → (outer : List Level) (sum : Summed) (factors : Factored) (n : ℕ) (operand : Operand)
    → TruthStops p outer (record { sum = sum; product = factors; minuses = n }) operand (guards.truth_in outer (record { sum = sum; product = factors; minuses = n }) operand)
truth_stops p behind [] NoSum NoProduct zero (BaseRead (Named name)) = truth_word_stops p name empty_level (guards.truth_named name) (behind empty_level name)
truth_stops p behind [] NoSum NoProduct zero (BaseRead (Number ds)) = tt
truth_stops p behind [] NoSum NoProduct zero (BaseRead (Bracketed s)) = tt
truth_stops p behind [] NoSum NoProduct zero Wanted = tt
truth_stops p behind [] NoSum NoProduct zero (CaretRead b) = tt
truth_stops p behind [] NoSum NoProduct zero (ExponentRead b ds) = tt
truth_stops p behind [] NoSum NoProduct (suc n) operand = tt
truth_stops p behind [] NoSum (TimesAfter q) n operand = tt
truth_stops p behind [] (PlusAfter s) factors n operand = tt
truth_stops p behind [] (MinusAfter s) factors n operand = tt
truth_stops p behind (l ∷ outer) sum factors n operand = tt

-- a name or a closing bracket doesn't continue a guard that can end
abbrev pub GuardStops : Piece → GuardGrammarState → Option Atoms → Type 0
GuardStops p g None = ⊤
GuardStops p g (Some atoms) = step (guards.expression_in g) p ≡ None

left_stops : (p : Piece) (c : Conjoined) (e : GrammarState) (o : Option Atom) → TruthStops p e.outer e.level e.operand o → GuardStops p (LeftSide c e) (guards.ended c o)
left_stops p c e None w = tt
left_stops p c e (Some a) w = w

right_stops : (p : Piece) (c : Conjoined) (l : Sum) (sign : Sign) (e : GrammarState) (o : Option Sum) → Stops p e.outer e.level e.operand o → GuardStops p (RightSide c l sign e) (guards.ended c (guards.compared l sign o))
right_stops p c l sign e None w = tt
right_stops p c l sign e (Some s) w = w

word_guard_stops : (name : Name) (g : GuardGrammarState) → GuardStops (Word name) g (guards.finish g)
word_guard_stops name (LeftSide c e) = left_stops (Word name) c e (guards.truth_of e) (truth_stops (Word name) (λ level other. refl) e.outer e.level.sum e.level.product e.level.minuses e.operand)
word_guard_stops name (RightSide c l sign e) = right_stops (Word name) c l sign e (finish e) (word_stops name e.outer e.level e.operand)

close_guard_stops : (g : GuardGrammarState) → GuardStops Close g (guards.finish g)
close_guard_stops (LeftSide c e) = left_stops Close c e (guards.truth_of e) (truth_stops Close (λ level other. refl) e.outer e.level.sum e.level.product e.level.minuses e.operand)
close_guard_stops (RightSide c l sign e) = right_stops Close c l sign e (finish e) (close_stops e.outer e.level e.operand)

-- a piece that continues neither the expression nor the guard is rejected
within_none : (g : GuardGrammarState) (p : Piece) → guards.step_behind g p ≡ None → step (guards.expression_in g) p ≡ None → guards.step g p ≡ None
within_none (LeftSide c e) p behind same = ap (λ o. guards.within (LeftSide c e) o p) same ∙ behind
within_none (RightSide c l sign e) p behind same = ap (λ o. guards.within (RightSide c l sign e) o p) same ∙ behind

word_behind_none : (g : GuardGrammarState) (name : Name) → guards.step_behind g (Word name) ≡ None
word_behind_none (LeftSide c e) name = refl
word_behind_none (RightSide c l sign e) name = refl

close_behind_none : (g : GuardGrammarState) → guards.step_behind g Close ≡ None
close_behind_none (LeftSide c e) = refl
close_behind_none (RightSide c l sign e) = refl

-- no name continues a guard that can end
pub word_ends_guard : (g : GuardGrammarState) (atoms : Atoms) (name : Name) → guards.finish g ≡ Some atoms → guards.step g (Word name) ≡ None
word_ends_guard g atoms name same = within_none g (Word name) (word_behind_none g name) (subst (λ o. GuardStops (Word name) g o) same (word_guard_stops name g))

-- no closing bracket continues a guard that can end
pub close_ends_guard : (g : GuardGrammarState) (atoms : Atoms) → guards.finish g ≡ Some atoms → guards.step g Close ≡ None
close_ends_guard g atoms same = within_none g Close (close_behind_none g) (subst (λ o. GuardStops Close g o) same (close_guard_stops g))
