-- The text of a proof file: one line for each lemma and for each gap, between a first line and a last one.
use Rattle.std.specs.Prelude.{ℕ, Bool, true, false, ◌||◌, if◌then◌else◌, List, [], ◌∷◌, ◌++◌, map, Option, Some, None}
use Rattle.std.specs.Prelude.{slice_get, codes, decimal}
use Rattle.std.specs.Fmt.{signed_decimal}
use Rattle.bound_text.specs.Texts.{text_of as text_of_bound}
use Rattle.cert_types.specs.rule_forms.linear_forms.Forms.{Form}
use Rattle.cert_types.specs.cert_rules.Nodes.{ResultVariable, SideBound, Linear, Poly, LocalBound, Member, SymbolForm, RankNode}
use Rattle.cert_types.specs.cert_rules.Nodes.{CostBy, EmptyCost, NeverCost, SideBoundCost}
use Rattle.cert_types.specs.cert_rules.Nodes.{Proof, Cite, Start, Empty, Unreached, Never, Rank, Spread, Cycle}
use Rattle.cert_types.specs.cert_rules.Nodes.{Weaken, CostBound, Proofs, NoProof, AndProof}
use Rattle.cert_types.specs.cert_rules.Gaps.{ScaledPoint, SymbolPlace, Gap, ProofFile}
use Rattle.its_model.specs.model.Programs.{Name, Symbol, Program}
use Rattle.cert_text.specs.Lists.{joined, bracketed, listed, numbers_text, ending_in}

-- the name of a symbol, if there is one
abbrev pub name_in : Option Symbol → Name
name_in None = []
name_in (Some s) = s.name

-- the name of the symbol with a number
abbrev pub name_at : Program → ℕ → Name
name_at p symbol = name_in (slice_get p.symbols symbol)

-- a rule and a place
abbrev pub result_variable_text : ResultVariable → List ℕ
result_variable_text s = decimal s.rule ++ (codes "." ++ decimal s.place)

-- the coefficients of a form, then its constant
abbrev pub form_numbers : Form → List ℕ
form_numbers f = ending_in f.coefs (signed_decimal f.constant)

-- the part of a ranking function at a symbol
abbrev pub form_text : Program → SymbolForm → List ℕ
form_text p f = name_at p f.symbol ++ (codes " " ++ form_numbers f.form)

-- one side of a local bound
abbrev pub side_bound_text : SideBound → List ℕ
side_bound_text Poly = codes "poly"
side_bound_text (Linear den form multipliers) =
    codes "lin " ++ (decimal den ++ (codes " " ++ (form_numbers form ++ (codes " " ++ numbers_text multipliers))))

-- both sides of a local bound
abbrev pub local_text : LocalBound → List ℕ
local_text l = codes "up " ++ (side_bound_text l.up ++ (codes " low " ++ side_bound_text l.low))

-- a rule and a place with their local bound
abbrev pub member_text : Member → List ℕ
member_text m = result_variable_text m.result_variable ++ (codes " " ++ local_text m.local)

-- how a cost is shown
abbrev pub cost_by_text : CostBy → List ℕ
cost_by_text (EmptyCost multipliers) = codes "empty " ++ numbers_text multipliers
cost_by_text NeverCost = codes "never"
cost_by_text (SideBoundCost side_bound) = side_bound_text side_bound

-- the rule, the set and the denominator of a ranking node
abbrev pub rank_head : RankNode → List ℕ
rank_head n =
    codes "rank " ++ (decimal n.rule ++ (codes " set " ++ (numbers_text n.set ++ (codes " den " ++ decimal n.den))))

-- the forms and the multipliers of a ranking node
abbrev pub rank_rest : Program → RankNode → List ℕ
rank_rest p n =
    codes " forms " ++ (listed (map (form_text p) n.forms) ++ (codes " moves " ++ (listed (map numbers_text n.moves)
    ++ (codes " floor " ++ numbers_text n.floor))))

-- a ranking node without its premises
abbrev pub rank_text : Program → RankNode → List ℕ
rank_text p n = rank_head n ++ rank_rest p n

abbrev mutual
  -- a node with all of its premises
  pub node_text : Program → Proof → List ℕ
  node_text p (Cite lemma) = codes "cite " ++ decimal lemma
  node_text p Start = codes "start"
  node_text p (Empty rule multipliers) = codes "empty " ++ (decimal rule ++ (codes " " ++ numbers_text multipliers))
  node_text p (Unreached rule uses) = codes "unreached " ++ (decimal rule ++ uses_text p uses)
  node_text p (Never child) = codes "never (" ++ (node_text p child ++ codes ")")
  node_text p (Rank node uses) = rank_text p node ++ uses_text p uses
  node_text p (Spread member uses) = codes "spread " ++ (member_text member ++ uses_text p uses)
  node_text p (Cycle members uses) = codes "cycle " ++ (listed (map member_text members) ++ uses_text p uses)
  node_text p (Weaken child b) =
      codes "weaken (" ++ (node_text p child ++ (codes ") to " ++ text_of_bound p.start_names b))
  node_text p (CostBound node uses) =
      codes "cost " ++ (decimal node.rule ++ (codes " " ++ (cost_by_text node.by ++ uses_text p uses)))

  -- the premises of a node in braces, with a semicolon and a blank between them
  pub uses_text : Program → Proofs → List ℕ
  uses_text p NoProof = codes " uses {}"
  uses_text p (AndProof proof uses) = codes " uses {" ++ (node_text p proof ++ (more_uses_text p uses ++ codes "}"))

  -- premises with a semicolon and a blank before each
  pub more_uses_text : Program → Proofs → List ℕ
  more_uses_text p NoProof = []
  more_uses_text p (AndProof proof uses) = codes "; " ++ (node_text p proof ++ more_uses_text p uses)

-- whether some node of a derivation is on a cost
abbrev mutual
  pub has_cost : Proof → Bool
  has_cost (Cite lemma) = false
  has_cost Start = false
  has_cost (Empty rule multipliers) = false
  has_cost (Unreached rule uses) = have_cost uses
  has_cost (Never child) = has_cost child
  has_cost (Rank node uses) = have_cost uses
  has_cost (Spread member uses) = have_cost uses
  has_cost (Cycle members uses) = have_cost uses
  has_cost (Weaken child b) = has_cost child
  has_cost (CostBound node uses) = true

  -- whether some node of these derivations is on a cost
  pub have_cost : Proofs → Bool
  have_cost NoProof = false
  have_cost (AndProof proof uses) = has_cost proof || have_cost uses

-- whether some node of these lemmas is on a cost
abbrev pub some_has_cost : List Proof → Bool
some_has_cost [] = false
some_has_cost (lemma ∷ lemmas) = has_cost lemma || some_has_cost lemmas

-- the first line, with version 2 if there are nodes on costs, else 1
abbrev pub first_line : List Proof → List ℕ
first_line lemmas = if some_has_cost lemmas then codes "koat-proof 2\n" else codes "koat-proof 1\n"

-- a line for each lemma
abbrev pub lemma_lines : Program → List Proof → List ℕ
lemma_lines p [] = []
lemma_lines p (lemma ∷ lemmas) = codes "lemma " ++ (node_text p lemma ++ (codes "\n" ++ lemma_lines p lemmas))

-- a scaled point: its parts, then its denominator
abbrev pub point_text : ScaledPoint → List ℕ
point_text z = ending_in z.parts (decimal z.den)

-- a place of a symbol
abbrev pub symbol_place_text : Program → SymbolPlace → List ℕ
symbol_place_text p s = name_at p s.symbol ++ (codes "." ++ decimal s.place)

-- the rule, the set and the shut places of a gap
abbrev pub gap_head : Program → Gap → List ℕ
gap_head p g =
    decimal g.rule ++ (codes " set " ++ (numbers_text g.set
    ++ (codes " shut " ++ bracketed (joined (codes " ") (map (symbol_place_text p) g.shut)))))

-- the moves, the floor and the kept points of a gap
abbrev pub gap_points : Gap → List ℕ
gap_points g =
    codes " moves " ++ (listed (map point_text g.moves) ++ (codes " floor " ++ (point_text g.floor
    ++ (codes " kept " ++ listed (map point_text g.kept)))))

-- a gap after its first word
abbrev pub gap_text : Program → Gap → List ℕ
gap_text p g = gap_head p g ++ gap_points g

-- a line for each gap
abbrev pub gap_lines : Program → List Gap → List ℕ
gap_lines p [] = []
gap_lines p (gap ∷ gaps) = codes "gap " ++ (gap_text p gap ++ (codes "\n" ++ gap_lines p gaps))

-- the text of a proof file, with the names of a program
unfoldable pub text_of : Program → ProofFile → List ℕ
text_of p f = first_line f.lemmas ++ (lemma_lines p f.lemmas ++ (gap_lines p f.gaps ++ codes "end\n"))
