-- Which proof files of a program have a text that is read: their references exist, no list that needs an element is
-- empty, and they are within the limits.
use Rattle.std.specs.Prelude.{◌≡◌, ℕ, suc, ◌≤◌, ◌<◌, List, [], ◌∷◌, length, All, nat_abs, Some, ⊤}
use Rattle.its_model.specs.model.Programs.{Program, Rule, rule_at, arity_of}
use Rattle.its_model.specs.model.Bounds.{Bound}
use Rattle.cert_types.specs.bound_expr.Numbers.{ReadsBelow}
use Rattle.cert_types.specs.bound_expr.Tidy.{IsTidy}
use Rattle.bound_text.specs.Texts.{IsWithin}
use Rattle.cert_types.specs.rule_forms.linear_forms.Limits.{point_limit}
use Rattle.cert_types.specs.cert_rules.AcceptsPlain.{IsRule}
use Rattle.cert_types.specs.cert_rules.Limits.{IsInLimit, AreInLimit, IsFormInLimit}
use Rattle.cert_types.specs.cert_rules.Nodes.{ResultVariable, SideBound, Linear, Poly, LocalBound, Member, SymbolForm, RankNode}
use Rattle.cert_types.specs.cert_rules.Nodes.{CostBy, EmptyCost, NeverCost, SideBoundCost}
use Rattle.cert_types.specs.cert_rules.Nodes.{Proof, Cite, Start, Empty, Unreached, Never, Rank, Spread, Cycle}
use Rattle.cert_types.specs.cert_rules.Nodes.{Weaken, CostBound, Proofs, NoProof, AndProof}
use Rattle.cert_types.specs.cert_rules.Gaps.{ScaledPoint, SymbolPlace, Gap, ProofFile}
use Rattle.cert_text.specs.Texts.{text_of}

-- the greatest level of a node, number of lemmas and number of gaps that are read
abbrev pub level_limit : ℕ
level_limit = 64

abbrev pub lemma_limit : ℕ
lemma_limit = 100000

abbrev pub gap_limit : ℕ
gap_limit = 1000

-- the rule exists, and its target has the place
pub record IsResultVariableOf (p : Program) (s : ResultVariable) : Type 0 where
  pub rule : Rule
  pub numbered : rule_at p s.rule ≡ Some rule
  pub least : 1 ≤ s.place
  pub most : s.place ≤ arity_of p rule.target

-- the symbol exists, and has the place
pub record IsPlaceOf (p : Program) (s : SymbolPlace) : Type 0 where
  pub symbol : s.symbol < length p.symbols
  pub least : 1 ≤ s.place
  pub most : s.place ≤ arity_of p s.symbol

-- the numbers of a side bound are at most 2^56 in absolute value
abbrev pub IsSideBoundWithin : SideBound → Type 0
IsSideBoundWithin (Linear den form multipliers) = IsInLimit den × IsFormInLimit form × AreInLimit multipliers
IsSideBoundWithin Poly = ⊤

-- the numbers of both side bounds are at most 2^56 in absolute value
pub record IsLocalWithin (l : LocalBound) : Type 0 where
  pub up : IsSideBoundWithin l.up
  pub low : IsSideBoundWithin l.low

-- the local bound is within the limits, and its place exists
pub record IsMemberWithin (p : Program) (m : Member) : Type 0 where
  pub result_variable : IsResultVariableOf p m.result_variable
  pub local : IsLocalWithin m.local

-- the symbol of the form exists, and the numbers of the form are at most 2^56 in absolute value
pub record IsSymbolFormWithin (p : Program) (f : SymbolForm) : Type 0 where
  pub symbol : f.symbol < length p.symbols
  pub form : IsFormInLimit f.form

-- the list is not empty
abbrev pub HasOne : {X : Type 0} → List X → Type 0
HasOne xs = 1 ≤ length xs

-- a ranking node is within the limits: its rules and symbols exist, it has at least one form and at least one list of
-- multipliers, and its numbers are at most 2^56 in absolute value
pub record IsRankWithin (p : Program) (n : RankNode) : Type 0 where
  pub rule : IsRule p n.rule
  pub set : All (IsRule p) n.set
  pub den : IsInLimit n.den
  pub some_form : HasOne n.forms
  pub forms : All (IsSymbolFormWithin p) n.forms
  pub some_move : HasOne n.moves
  pub moves : All AreInLimit n.moves
  pub floor : AreInLimit n.floor

-- the numbers with which a cost is shown are at most 2^56 in absolute value
abbrev pub IsCostByWithin : CostBy → Type 0
IsCostByWithin (EmptyCost multipliers) = AreInLimit multipliers
IsCostByWithin NeverCost = ⊤
IsCostByWithin (SideBoundCost side_bound) = IsSideBoundWithin side_bound

-- a bound is tidy, over the start arguments, and within the limits of a bound's text
pub record IsBoundWithin (p : Program) (b : Bound) : Type 0 where
  pub tidy : IsTidy b
  pub listed : ReadsBelow (length p.start_names) b
  pub within : IsWithin b

-- the contents of a node are within the limits, after this many lemmas: it cites an earlier lemma, counted from 1, and
-- its rules, symbols and places exist
abbrev pub SaysWithin : Program → ℕ → Proof → Type 0
SaysWithin p earlier (Cite lemma) = (1 ≤ lemma) × (lemma ≤ earlier)
SaysWithin p earlier Start = ⊤
SaysWithin p earlier (Empty rule multipliers) = IsRule p rule × AreInLimit multipliers
SaysWithin p earlier (Unreached rule uses) = IsRule p rule
SaysWithin p earlier (Never child) = ⊤
SaysWithin p earlier (Rank node uses) = IsRankWithin p node
SaysWithin p earlier (Spread member uses) = IsMemberWithin p member
SaysWithin p earlier (Cycle members uses) = HasOne members × All (IsMemberWithin p) members
SaysWithin p earlier (Weaken child b) = IsBoundWithin p b
SaysWithin p earlier (CostBound node uses) = IsRule p node.rule × IsCostByWithin node.by

-- a node at this level, without its premises, is within the limits
abbrev pub IsNodeWithin : Program → ℕ → ℕ → Proof → Type 0
IsNodeWithin p earlier level proof = (level ≤ level_limit) × SaysWithin p earlier proof

abbrev mutual
  -- a node at this level, with all of its premises, which are one level deeper, is within the limits
  pub IsProofWithin : Program → ℕ → ℕ → Proof → Type 0
  IsProofWithin p earlier level (Cite lemma) = IsNodeWithin p earlier level (Cite lemma)
  IsProofWithin p earlier level Start = IsNodeWithin p earlier level Start
  IsProofWithin p earlier level (Empty rule multipliers) = IsNodeWithin p earlier level (Empty rule multipliers)
  IsProofWithin p earlier level (Unreached rule uses) =
      IsNodeWithin p earlier level (Unreached rule uses) × AreProofsWithin p earlier (suc level) uses
  IsProofWithin p earlier level (Never child) =
      IsNodeWithin p earlier level (Never child) × IsProofWithin p earlier (suc level) child
  IsProofWithin p earlier level (Rank node uses) =
      IsNodeWithin p earlier level (Rank node uses) × AreProofsWithin p earlier (suc level) uses
  IsProofWithin p earlier level (Spread member uses) =
      IsNodeWithin p earlier level (Spread member uses) × AreProofsWithin p earlier (suc level) uses
  IsProofWithin p earlier level (Cycle members uses) =
      IsNodeWithin p earlier level (Cycle members uses) × AreProofsWithin p earlier (suc level) uses
  IsProofWithin p earlier level (Weaken child b) =
      IsNodeWithin p earlier level (Weaken child b) × IsProofWithin p earlier (suc level) child
  IsProofWithin p earlier level (CostBound node uses) =
      IsNodeWithin p earlier level (CostBound node uses) × AreProofsWithin p earlier (suc level) uses

  -- each of these nodes at this level, with its premises, is within the limits
  pub AreProofsWithin : Program → ℕ → ℕ → Proofs → Type 0
  AreProofsWithin p earlier level NoProof = ⊤
  AreProofsWithin p earlier level (AndProof proof uses) =
      IsProofWithin p earlier level proof × AreProofsWithin p earlier level uses

-- each lemma is within the limits, at level 1 and after the lemmas before it
abbrev pub AreLemmasWithin : Program → ℕ → List Proof → Type 0
AreLemmasWithin p earlier [] = ⊤
AreLemmasWithin p earlier (lemma ∷ lemmas) =
    IsProofWithin p earlier 1 lemma × AreLemmasWithin p (suc earlier) lemmas

-- the numbers of a scaled point are at most 2^45 in absolute value
pub record IsPointWithin (z : ScaledPoint) : Type 0 where
  pub parts : All (λ x. nat_abs x ≤ point_limit) z.parts
  pub den : z.den ≤ point_limit

-- a gap is within the limits: its rules and places exist, and it has at least one move and at least one kept point
pub record IsGapWithin (p : Program) (g : Gap) : Type 0 where
  pub rule : IsRule p g.rule
  pub set : All (IsRule p) g.set
  pub shut : All (IsPlaceOf p) g.shut
  pub some_move : HasOne g.moves
  pub moves : All IsPointWithin g.moves
  pub floor : IsPointWithin g.floor
  pub some_kept : HasOne g.kept
  pub kept : All IsPointWithin g.kept

-- a file is within the limits: its lemmas and gaps are, and there aren't too many
pub record IsFileWithin (p : Program) (f : ProofFile) : Type 0 where
  pub lemmas : AreLemmasWithin p 0 f.lemmas
  pub few_lemmas : length f.lemmas ≤ lemma_limit
  pub gaps : All (IsGapWithin p) f.gaps
  pub few_gaps : length f.gaps ≤ gap_limit

-- the bytes are the text of a file within the limits
pub record IsTextWithin (p : Program) (bytes : List ℕ) (f : ProofFile) : Type 0 where
  pub text : text_of p f ≡ bytes
  pub within : IsFileWithin p f
