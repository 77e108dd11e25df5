-- The pieces of the new state of a guard are those of the old one and the piece just read.
use Rattle.std.specs.Prelude.{◌≡◌, ℕ, zero, suc, Bool, true, false, if◌then◌else◌, codes, List, [], ◌∷◌, Option, Some}
use Rattle.std.specs.Prelude.{None, ⊤, refl}
use Rattle.std.proofs.Common.{sym, ◌∙◌, ap}
use Rattle.its_model.specs.model.Programs.{Name}
use Rattle.its_model.specs.text_core.Names.{is_same}
use Rattle.its_model.proofs.text_core.NameLaws.{same_equal}
use Rattle.expr_text.specs.Pieces.{Sign, Joint, Piece, Word, Digits, Open, Close, Plus, Minus, Times, Caret, Related}
use Rattle.expr_text.specs.Pieces.{Joining}
use Rattle.expr_text.specs.Trees.{Sum, Number, Named, Bracketed, sum_behind}
use Rattle.expr_text.specs.GrammarStates.{Summed, NoSum, PlusAfter, MinusAfter, Factored, NoProduct, TimesAfter, Level}
use Rattle.expr_text.specs.GrammarStates.{Operand, Wanted, BaseRead, CaretRead, ExponentRead, GrammarState, behind_state}
use Rattle.expr_text.specs.Steps as inner
use Rattle.expr_text.specs.Guards.{Capitals, Smalls, Atom, Always, Atoms, atom_behind, atoms_behind}
use Rattle.expr_text.specs.GuardGrammarStates.{Conjoined, NoAtoms, JointAfter, GuardGrammarState, LeftSide, RightSide}
use Rattle.expr_text.specs.GuardGrammarStates.{conjoined_behind, guard_behind, atoms_with, truth_named, truth_in, truth_of}
use Rattle.expr_text.specs.GuardGrammarStates.{compared, ended, finish, joined, related, step_behind, within, expression_in}
use Rattle.expr_text.specs.GuardGrammarStates.{step}
use Rattle.expr_text.proofs.StepLaws.{step_adds, finish_written, Adds, IsWritten}

module _ {P : Type 0} (into : Piece → P) where
  -- The pieces of the state after a piece are those before it and this one.
  abbrev pub GuardAdds : List P → GuardGrammarState → Piece → Option GuardGrammarState → Type 0
  GuardAdds before g p None = ⊤
  GuardAdds before g p (Some h) = guard_behind into h before ≡ into p ∷ guard_behind into g before

  -- the atoms that end here consist of the pieces read
  abbrev pub AreWritten : List P → GuardGrammarState → Option Atoms → Type 0
  AreWritten before g None = ⊤
  AreWritten before g (Some atoms) = atoms_behind into atoms before ≡ guard_behind into g before

  -- the atom that ends here consists of the pieces read
  abbrev pub AtomWritten : List P → List P → Option Atom → Type 0
  AtomWritten before written None = ⊤
  AtomWritten before written (Some a) = atom_behind into a before ≡ written

  truth_named_written : (name : Name) (before : List P) → AtomWritten before (into (Word name) ∷ before) (truth_named name)
  truth_named_written name before = capitals (is_same name (codes "TRUE")) refl
    where
      smalls : (v : Bool) → is_same name (codes "true") ≡ v → AtomWritten before (into (Word name) ∷ before) (if v then Some (Always Smalls) else None)
      smalls true same = ap (λ n. into (Word n) ∷ before) (sym (same_equal name (codes "true") same))
      smalls false other = tt

      capitals : (v : Bool) → is_same name (codes "TRUE") ≡ v →
          AtomWritten before (into (Word name) ∷ before) (if v then Some (Always Capitals) else if is_same name (codes "true") then Some (Always Smalls) else None)
      capitals true same = ap (λ n. into (Word n) ∷ before) (sym (same_equal name (codes "TRUE") same))
      capitals false other = smalls (is_same name (codes "true")) refl

  truth_written : (f : GrammarState) (before : List P) → AtomWritten before (behind_state into f before) (truth_of f)
  truth_written f before = all f.outer f.level.sum f.level.product f.level.minuses f.operand
    where
      all : (outer : List Level) (sum : Summed) (product : Factored) (n : ℕ) (operand : Operand) →
          AtomWritten before (behind_state into (record { outer = outer; level = record { sum = sum; product = product; minuses = n }; operand = operand }) before)
          (truth_in outer (record { sum = sum; product = product; minuses = n }) operand)
      all [] NoSum NoProduct zero (BaseRead (Named name)) = truth_named_written name before
      all [] NoSum NoProduct zero (BaseRead (Number ds)) = tt
      all [] NoSum NoProduct zero (BaseRead (Bracketed s)) = tt
      all [] NoSum NoProduct zero Wanted = tt
      all [] NoSum NoProduct zero (CaretRead b) = tt
      all [] NoSum NoProduct zero (ExponentRead b ds) = tt
      all [] NoSum NoProduct (suc n) operand = tt
      all [] NoSum (TimesAfter p) n operand = tt
      all [] (PlusAfter s) product n operand = tt
      all [] (MinusAfter s) product n operand = tt
      all (l ∷ outer) sum product n operand = tt

  -- the pieces of the atoms with one more are those of the atoms before it, and its own
  with_written : (c : Conjoined) (a : Atom) (before : List P) → atoms_behind into (atoms_with c a) before ≡ atom_behind into a (conjoined_behind into c before)
  with_written NoAtoms a before = refl
  with_written (JointAfter atoms joint) a before = refl

  ended_written : (c : Conjoined) (o : Option Atom) (before written : List P) → AtomWritten (conjoined_behind into c before) written o → (g : GuardGrammarState) → written ≡ guard_behind into g before → AreWritten before g (ended c o)
  ended_written c None before written w g e = tt
  ended_written c (Some a) before written w g e = with_written c a before ∙ (w ∙ e)

  compared_written : (l : Sum) (sign : Sign) (o : Option Sum) (e : GrammarState) (before : List P) → IsWritten into (into (Related sign) ∷ sum_behind into l before) e o
      → AtomWritten before (behind_state into e (into (Related sign) ∷ sum_behind into l before)) (compared l sign o)
  compared_written l sign None e before w = tt
  compared_written l sign (Some r) e before w = w

  -- a guard that ends consists of the pieces read
  pub guard_finish_written : (g : GuardGrammarState) (before : List P) → AreWritten before g (finish g)
  guard_finish_written (LeftSide c e) before = ended_written c (truth_of e) before _ (truth_written e (conjoined_behind into c before)) (LeftSide c e) refl
  guard_finish_written (RightSide c l sign e) before =
      ended_written c (compared l sign (inner.finish e)) before _
      (compared_written l sign (inner.finish e) e (conjoined_behind into c before) (finish_written into e (into (Related sign) ∷ sum_behind into l (conjoined_behind into c before))))
      (RightSide c l sign e) refl

  joined_adds : (joint : Joint) (g : GuardGrammarState) (o : Option Atoms) (before : List P) → AreWritten before g o → GuardAdds before g (Joining joint) (joined joint o)
  joined_adds joint g None before w = tt
  joined_adds joint g (Some atoms) before w = ap (λ written. into (Joining joint) ∷ written) w

  related_adds : (c : Conjoined) (sign : Sign) (e : GrammarState) (o : Option Sum) (before : List P) → IsWritten into (conjoined_behind into c before) e o → GuardAdds before (LeftSide c e) (Related sign) (related c sign o)
  related_adds c sign e None before w = tt
  related_adds c sign e (Some l) before w = ap (λ written. into (Related sign) ∷ written) w

  step_behind_adds : (g : GuardGrammarState) (p : Piece) (before : List P) → GuardAdds before g p (step_behind g p)
  step_behind_adds (LeftSide c e) (Related sign) before = related_adds c sign e (inner.finish e) before (finish_written into e (conjoined_behind into c before))
  step_behind_adds (RightSide c l sign e) (Related other) before = tt
  step_behind_adds (LeftSide c e) (Joining joint) before = joined_adds joint (LeftSide c e) (finish (LeftSide c e)) before (guard_finish_written (LeftSide c e) before)
  step_behind_adds (RightSide c l sign e) (Joining joint) before = joined_adds joint (RightSide c l sign e) (finish (RightSide c l sign e)) before (guard_finish_written (RightSide c l sign e) before)
  step_behind_adds (LeftSide c e) (Word name) before = tt
  step_behind_adds (LeftSide c e) (Digits ds) before = tt
  step_behind_adds (LeftSide c e) Open before = tt
  step_behind_adds (LeftSide c e) Close before = tt
  step_behind_adds (LeftSide c e) Plus before = tt
  step_behind_adds (LeftSide c e) Minus before = tt
  step_behind_adds (LeftSide c e) Times before = tt
  step_behind_adds (LeftSide c e) Caret before = tt
  step_behind_adds (RightSide c l sign e) (Word name) before = tt
  step_behind_adds (RightSide c l sign e) (Digits ds) before = tt
  step_behind_adds (RightSide c l sign e) Open before = tt
  step_behind_adds (RightSide c l sign e) Close before = tt
  step_behind_adds (RightSide c l sign e) Plus before = tt
  step_behind_adds (RightSide c l sign e) Minus before = tt
  step_behind_adds (RightSide c l sign e) Times before = tt
  step_behind_adds (RightSide c l sign e) Caret before = tt

  within_adds : (g : GuardGrammarState) (o : Option GrammarState) (p : Piece) (before : List P)
      → ((base : List P) → Adds into base (expression_in g) p o) → GuardAdds before g p (within g o p)
  within_adds (LeftSide c e) (Some more) p before w = w (conjoined_behind into c before)
  within_adds (RightSide c l sign e) (Some more) p before w = w (into (Related sign) ∷ sum_behind into l (conjoined_behind into c before))
  within_adds (LeftSide c e) None p before w = step_behind_adds (LeftSide c e) p before
  within_adds (RightSide c l sign e) None p before w = step_behind_adds (RightSide c l sign e) p before

  -- the pieces of the state after a piece are those before it and this one
  pub guard_step_adds : (g : GuardGrammarState) (p : Piece) (before : List P) → GuardAdds before g p (step g p)
  guard_step_adds g p before = within_adds g (inner.step (expression_in g) p) p before (λ base. step_adds into (expression_in g) p base)
