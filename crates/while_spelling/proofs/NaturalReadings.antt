-- Programs that are read have no literal below 0, since digits write none.
use Rattle.std.proofs.Common.{ℕ, List, sym, subst}
use Rattle.std.specs.List.{AllByRecursion}
use Rattle.expr_text.specs.Trees.{Sum, Alone, Added, Subtracted, Product, Single, Multiplied, Factor, Plain, Raised}
use Rattle.expr_text.specs.Trees.{Negated, Base, Number, Named, Bracketed}
use Rattle.expr_text.specs.Terms.{sum_term, product_term, factor_term, base_term}
use Rattle.expr_text.specs.Guards.{Always, Compared, Atoms, First, Joined, atom_term, atoms_terms}
use Rattle.expr_text.specs.Guards.{Atom as WrittenAtom}
use Rattle.while_model.specs.model.Programs.{Name, Atom}
use Rattle.while_model.specs.Statements.{Statements}
use Rattle.while_front.proofs.PointLists.{all_append}
use Rattle.while_text.specs.declared.piece.Piece.{Piece}
use Rattle.while_text.specs.Reading.{Source}
use Rattle.while_laws.specs.SpelledPrograms.{SpellTest, SpellStatements, nothing, assignment, choice, skip, loop, branch}
use Rattle.while_laws.specs.SpelledPrograms.{branch_else}
use Rattle.while_laws.specs.ProgramLaws.{IsTextOf}
use Rattle.while_laws.proofs.ProgramsAccepted.{programs_read}
use Rattle.while_spelling.specs.Natural.{IsNaturalTerm, IsNaturalAtom, AreNatural}

module _ (names : List Name) where
  mutual
    -- an expression that is written
    sum_natural : (s : Sum) → IsNaturalTerm (sum_term names s)
    sum_natural (Alone p) = product_natural p
    sum_natural (Added s p) = (sum_natural s, product_natural p)
    sum_natural (Subtracted s p) = (sum_natural s, product_natural p)

    product_natural : (p : Product) → IsNaturalTerm (product_term names p)
    product_natural (Single f) = factor_natural f
    product_natural (Multiplied p f) = (product_natural p, factor_natural f)

    factor_natural : (f : Factor) → IsNaturalTerm (factor_term names f)
    factor_natural (Plain b) = base_natural b
    factor_natural (Raised b digits) = base_natural b
    factor_natural (Negated f) = factor_natural f

    base_natural : (b : Base) → IsNaturalTerm (base_term names b)
    base_natural (Number digits) = tt
    base_natural (Named name) = tt
    base_natural (Bracketed s) = sum_natural s

  -- atoms that are written
  atom_natural : (a : WrittenAtom) → IsNaturalAtom (atom_term names a)
  atom_natural (Always t) = tt
  atom_natural (Compared l sign r) = (sum_natural l, sum_natural r)

  atoms_natural : (atoms : Atoms) → AllByRecursion IsNaturalAtom (atoms_terms names atoms)
  atoms_natural (First a) = (atom_natural a, tt)
  atoms_natural (Joined atoms joint a) =
      all_append IsNaturalAtom (atoms_terms names atoms) (atom_term names a) (atoms_natural atoms) (atom_natural a)

  module _ (text : List ℕ) where
    test_natural : (test : List Atom) (ps : List Piece) → SpellTest text names test ps
        → AllByRecursion IsNaturalAtom test
    test_natural test ps (atoms, spelled, same) = subst (AllByRecursion IsNaturalAtom) (sym same) (atoms_natural atoms)

    -- statements that tokens spell
    statements_natural : {here : Statements} {at : List ℕ} {ps : List Piece} → SpellStatements text names here at ps
        → AreNatural here
    statements_natural nothing = tt
    statements_natural (assignment name becomes end value e n b s f rest) = (sum_natural e, statements_natural rest)
    statements_natural (choice name becomes any end n b a f rest) = (tt, statements_natural rest)
    statements_natural (skip word end w f rest) = (tt, statements_natural rest)
    statements_natural (loop word opening closing begin end tests body w o t c b inner f rest) =
        (test_natural _ tests t, statements_natural inner, statements_natural rest)
    statements_natural (branch word opening closing begin end tests body w o t c b inner f rest) =
        (test_natural _ tests t, statements_natural inner, tt, statements_natural rest)
    statements_natural
        (branch_else word opening closing begin end second first last tests body others w o t c b inner f s p other l rest) =
        (test_natural _ tests t, statements_natural inner, statements_natural other, statements_natural rest)

pub read_natural : (text : List ℕ) (source : Source) → IsTextOf text source → AreNatural source.program
read_natural text source is =
    let spelled = programs_read.spelled text source is in statements_natural source.names text spelled.program
