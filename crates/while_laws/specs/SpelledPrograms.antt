-- How the tokens of a text spell the statements and the programs of the while language.
use Rattle.std.specs.Prelude.{◌≡◌, ℕ, List, [], ◌∷◌, ◌++◌}
use Rattle.text_core.specs.Names.{position_of}
use Rattle.expr_text.specs.Guards.{Atoms, atoms_terms}
use Rattle.expr_text.specs.Terms.{sum_term}
use Rattle.expr_text.specs.Trees.{Sum}
use Rattle.while_text.specs.model.Programs.{Name, Atom}
use Rattle.while_text.specs.while_model.Statements.{Assign, Choose, Skip, Statements, Nothing, Simple, While, If}
use Rattle.while_text.specs.while_model.Statements.{IsNonempty}
use Rattle.while_text.specs.declared.piece.Sort.TheVariants as sorts
use Rattle.while_text.specs.declared.piece.Piece.{Piece}
use Rattle.while_text.specs.Drafts.{bytes_of}
use Rattle.while_text.specs.Reading.{Source}
use Rattle.while_laws.specs.Spelled.{SpellSum, SpellAtoms}

module _ (text : List ℕ) where
  -- The tokens of a text spell names and the `;` after them: a name and `;`, or a name, `,` and further names.
  pub data SpellNames : List Name → List Piece → Type 0 where
    one_name : (name end : Piece) → name.sort ≡ sorts.Name → end.sort ≡ sorts.Semicolon
        → SpellNames (bytes_of text name ∷ []) (name ∷ end ∷ [])
    name_more : (name comma : Piece) {names : List Name} {ps : List Piece} → name.sort ≡ sorts.Name
        → comma.sort ≡ sorts.Comma → SpellNames names ps
        → SpellNames (bytes_of text name ∷ names) (name ∷ comma ∷ ps)

  module _ (names : List Name) where
    -- The tokens spell a test over variables with these names.
    abbrev pub SpellTest : List Atom → List Piece → Type 0
    SpellTest test ps = (atoms : Atoms) × SpellAtoms text atoms ps × (test ≡ atoms_terms names atoms)

    -- The tokens spell statements over variables with these names, which begin at these positions, as do those in
    -- blocks among them: no tokens spell no statements; otherwise the tokens of a first statement come before those
    -- of the others, and it is `x := e;`, `x := ?;`, `skip;`, `while (test) { block }`, `if (test) { block }` or
    -- `if (test) { block } else { other }`.
    pub data SpellStatements : Statements → List ℕ → List Piece → Type 0 where
      nothing : SpellStatements Nothing [] []
      assignment : (name becomes end : Piece) (value : List Piece) (e : Sum) {rest : Statements} {at : List ℕ}
          {ps : List Piece} → name.sort ≡ sorts.Name → becomes.sort ≡ sorts.Becomes → SpellSum text e value
          → end.sort ≡ sorts.Semicolon → SpellStatements rest at ps
          → SpellStatements (Simple (Assign (position_of (bytes_of text name) names) (sum_term names e)) rest)
          (name.at ∷ at) (name ∷ becomes ∷ (value ++ end ∷ ps))
      choice : (name becomes any end : Piece) {rest : Statements} {at : List ℕ} {ps : List Piece}
          → name.sort ≡ sorts.Name → becomes.sort ≡ sorts.Becomes → any.sort ≡ sorts.Question
          → end.sort ≡ sorts.Semicolon → SpellStatements rest at ps
          → SpellStatements (Simple (Choose (position_of (bytes_of text name) names)) rest) (name.at ∷ at)
          (name ∷ becomes ∷ any ∷ end ∷ ps)
      skip : (word end : Piece) {rest : Statements} {at : List ℕ} {ps : List Piece} → word.sort ≡ sorts.Skip
          → end.sort ≡ sorts.Semicolon → SpellStatements rest at ps
          → SpellStatements (Simple Skip rest) (word.at ∷ at) (word ∷ end ∷ ps)
      loop : (word opening closing begin end : Piece) (tests body : List Piece) {test : List Atom}
          {block rest : Statements}
          {inner at : List ℕ} {ps : List Piece} → word.sort ≡ sorts.While → opening.sort ≡ sorts.Open
          → SpellTest test tests → closing.sort ≡ sorts.Close → begin.sort ≡ sorts.BlockOpen
          → SpellStatements block inner body → end.sort ≡ sorts.BlockClose → SpellStatements rest at ps
          → SpellStatements (While test block rest) (word.at ∷ (inner ++ at))
          (word ∷ opening ∷ (tests ++ closing ∷ begin ∷ (body ++ end ∷ ps)))
      branch : (word opening closing begin end : Piece) (tests body : List Piece) {test : List Atom}
          {block rest : Statements}
          {inner at : List ℕ} {ps : List Piece} → word.sort ≡ sorts.If → opening.sort ≡ sorts.Open
          → SpellTest test tests → closing.sort ≡ sorts.Close → begin.sort ≡ sorts.BlockOpen
          → SpellStatements block inner body → end.sort ≡ sorts.BlockClose → SpellStatements rest at ps
          → SpellStatements (If test block Nothing rest) (word.at ∷ (inner ++ at))
          (word ∷ opening ∷ (tests ++ closing ∷ begin ∷ (body ++ end ∷ ps)))
      branch_else : (word opening closing begin end second begin_other end_other : Piece)
          (tests body others : List Piece)
          {test : List Atom} {block other rest : Statements} {inner outer at : List ℕ} {ps : List Piece}
          → word.sort ≡ sorts.If → opening.sort ≡ sorts.Open → SpellTest test tests → closing.sort ≡ sorts.Close
          → begin.sort ≡ sorts.BlockOpen → SpellStatements block inner body → end.sort ≡ sorts.BlockClose
          → second.sort ≡ sorts.Else → begin_other.sort ≡ sorts.BlockOpen → SpellStatements other outer others
          → end_other.sort ≡ sorts.BlockClose → SpellStatements rest at ps
          → SpellStatements (If test block other rest) (word.at ∷ (inner ++ (outer ++ at)))
          (word ∷ opening ∷ (tests ++ closing ∷ begin ∷ (body ++ end ∷ second ∷ begin_other
          ∷ (others ++ end_other ∷ ps))))

-- The tokens of a text spell a program: `input`, the names of its inputs, and its statements, at least one.
pub record SpellProgram (text : List ℕ) (source : Source) (ps : List Piece) : Type 0 where
  pub word : Piece
  pub inputs : List Piece
  pub statements : List Piece
  pub whole : ps ≡ word ∷ (inputs ++ statements)
  pub word_is : word.sort ≡ sorts.Input
  pub names : SpellNames text source.names inputs
  pub program : SpellStatements text source.names source.program source.at statements
  pub nonempty : IsNonempty source.program
