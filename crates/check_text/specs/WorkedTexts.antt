-- Worked values of the texts of verdicts.
use Rattle.std.specs.Prelude.{◌≡◌, ◌≢◌, List, [], ◌∷◌, codes}
use Rattle.std.specs.List.{flat_map}
use Rattle.model.specs.Bounds.{Constant, Input}
use Rattle.model.specs.Facts.{Fact, Time, Size, Cost}
use Rattle.cert_types.specs.cert_rules.GapChecks.{WrongShape, MoveOff, FloorOff, NotKept, Unbalanced, LosesNothing}
use Rattle.cert_types.specs.cert_rules.Reasons.{Shape, NotEmpty, Reached, NotZero, Move, Floor, SideBoundUp, SideBoundLow}
use Rattle.cert_types.specs.cert_rules.Reasons.{MissingTime, MissingSize, Nonlinear, Large, NotWeaker}
use Rattle.cert_text.specs.cert_lexer.declared.kind.ProofKind.TheVariants.{Syntax, NumberTooLarge, TooDeep}
use Rattle.cert_text.specs.cert_lexer.declared.kind.ProofKind.TheVariants.{BadReference, Limit}
use Rattle.cert_text.specs.Worked.{counting, gap_with}
use Rattle.check_text.specs.Texts.{accepted_text, fact_line, reason_text, fault_text, refused_node_text}
use Rattle.check_text.specs.Texts.{refused_gap_text}
use Rattle.check_text.specs.Texts.{proof_kind_text, proof_refusal_text}

-- a fact of each kind
abbrev pub one_of_each : List Fact
one_of_each = Time 0 (Constant 1) ∷ Size 0 1 (Input 0) ∷ Cost 12 (Constant 5) ∷ []

-- the text of facts and a gap, and of none; another order of facts has another text
pub record FactsAreWorkedOut : Type 0 where
  pub each : accepted_text counting one_of_each (gap_with [] ∷ [])
      ≡ codes "accepted\ntime 0: 1\nsize 0.1: A\ncost 12: 5\ngap 2\n"
  pub none : accepted_text counting [] [] ≡ codes "accepted\n"
  pub order : flat_map (fact_line (codes "A" ∷ [])) (Time 1 (Constant 1) ∷ Time 2 (Constant 2) ∷ [])
      ≢ flat_map (fact_line (codes "A" ∷ [])) (Time 2 (Constant 2) ∷ Time 1 (Constant 1) ∷ [])

-- why nodes aren't accepted
pub record ReasonsAreWorkedOut : Type 0 where
  pub shape : reason_text Shape ≡ codes "shape"
  pub empty : reason_text NotEmpty ≡ codes "empty"
  pub reached : reason_text Reached ≡ codes "reached"
  pub zero : reason_text NotZero ≡ codes "zero"
  pub move : reason_text (Move 12) ≡ codes "move 12"
  pub floor : reason_text Floor ≡ codes "floor"
  pub up : reason_text (SideBoundUp 3 1) ≡ codes "arm 3.1 up"
  pub low : reason_text (SideBoundLow 3 1) ≡ codes "arm 3.1 low"
  pub cost : reason_text (SideBoundUp 3 0) ≡ codes "arm 3.0 up"
  pub time : reason_text (MissingTime 4) ≡ codes "missing time 4"
  pub size : reason_text (MissingSize 4 2) ≡ codes "missing size 4.2"
  pub nonlinear : reason_text (Nonlinear 4 2) ≡ codes "bent 4.2"
  pub large : reason_text (Large 4097) ≡ codes "large 4097"
  pub weaker : reason_text NotWeaker ≡ codes "weaker"
  pub node : refused_node_text 1 20 Shape ≡ codes "no lemma 1 node 20: shape\n"
  pub which : refused_node_text 1 20 Shape ≢ refused_node_text 20 1 Shape

-- why gaps don't hold, and the faults of texts; place 0 is that of the constant
pub record FaultsAreWorkedOut : Type 0 where
  pub shape : fault_text counting.symbols WrongShape ≡ codes "shape"
  pub move : fault_text counting.symbols (MoveOff 2) ≡ codes "move 2"
  pub floor : fault_text counting.symbols FloorOff ≡ codes "floor"
  pub kept : fault_text counting.symbols (NotKept 2) ≡ codes "kept 2"
  pub balance : fault_text counting.symbols (Unbalanced 1 1) ≡ codes "balance l1.1"
  pub constant : fault_text counting.symbols (Unbalanced 0 0) ≡ codes "balance l0.0"
  pub nothing : fault_text counting.symbols LosesNothing ≡ codes "nothing"
  pub gap : refused_gap_text counting 3 (Unbalanced 1 1) ≡ codes "no gap 3: balance l1.1\n"
  pub refused : proof_refusal_text (record { kind = NumberTooLarge; at = 28 })
      ≡ codes "proof refused at 28: NumberTooLarge\n"
  pub syntax : proof_kind_text Syntax ≡ codes "Syntax"
  pub deep : proof_kind_text TooDeep ≡ codes "TooDeep"
  pub reference : proof_kind_text BadReference ≡ codes "BadReference"
  pub limit : proof_kind_text Limit ≡ codes "Limit"

-- all worked values of verdicts
pub record AnswersAreWorkedOut : Type 0 where
  pub facts : FactsAreWorkedOut
  pub reasons : ReasonsAreWorkedOut
  pub faults : FaultsAreWorkedOut
