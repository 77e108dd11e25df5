-- Worked values of small proof files and their texts, and of which files are within the limits.
use Rattle.std.specs.Prelude.{◌≡◌, ℕ, zero, suc, ◌+◌, ◌^◌, ◌-◌, ◌≤◌, List, [], ◌∷◌, ◌++◌, length, All, ℤ, pos, negsuc}
use Rattle.std.specs.Prelude.{None, codes}
use Rattle.its_model.specs.model.Terms.{Term, Literal, Variable, Subtraction}
use Rattle.its_model.specs.model.Programs.{AtLeast, Atom, Compare, Rule, Program}
use Rattle.its_model.specs.model.Bounds.{Bound, Constant, Input, SumOf, ProductOf, PowerOf, Parts, NoParts, Part}
use Rattle.cert_types.specs.bound_expr.Measure.{node_count, depth_of}
use Rattle.cert_types.specs.rule_forms.linear_forms.Forms.{Form}
use Rattle.cert_types.specs.cert_rules.Nodes.{Linear, Poly, Member, SymbolForm}
use Rattle.cert_types.specs.cert_rules.Nodes.{EmptyCost, NeverCost, SideBoundCost}
use Rattle.cert_types.specs.cert_rules.Nodes.{Proof, Cite, Start, Empty, Unreached, Never, Rank, Spread, Cycle}
use Rattle.cert_types.specs.cert_rules.Nodes.{Weaken, CostBound, Proofs, NoProof, AndProof}
use Rattle.cert_types.specs.cert_rules.Gaps.{ScaledPoint, SymbolPlace, Gap, ProofFile}
use Rattle.cert_text.specs.Texts.{text_of}
use Rattle.cert_text.specs.Spelled.{IsFileWithin, AreLemmasWithin, IsProofWithin, IsSideBoundWithin, IsPointWithin}
use Rattle.cert_text.specs.Spelled.{IsPlaceOf, IsGapWithin, IsBoundWithin}

-- a rule from a symbol to l1 with one variable, A
abbrev pub rule_from : ℕ → Term → List Atom → Rule
rule_from source update guard = record {
  source = source;
  target = 1;
  left = 1;
  free = 0;
  names = codes "A" ∷ [];
  updates = update ∷ [];
  guard = guard;
  cost = None;
}

-- l0(A) -> l1(A), and l1(A) -> l1(A - 1) where A >= 1
abbrev pub counting : Program
counting = record {
  symbols = record { name = codes "l0"; arity = 1 } ∷ record { name = codes "l1"; arity = 1 } ∷ [];
  start = 0;
  start_names = codes "A" ∷ [];
  rules = rule_from 0 (Variable 0) []
      ∷ rule_from 1 (Subtraction (Variable 0) (Literal (pos 1)))
      (Compare (Variable 0) AtLeast (Literal (pos 1)) ∷ [])
      ∷ [];
}

-- a form with one coefficient, and such a form at a symbol
abbrev pub form : ℤ → ℤ → Form
form coef constant = record { coefs = coef ∷ []; constant = constant }

abbrev pub at_symbol : ℕ → ℤ → ℤ → SymbolForm
at_symbol symbol coef constant = record { symbol = symbol; form = form coef constant }

-- a place with an upper and a lower side bound over the denominator 1, each with its multipliers
abbrev pub member : ℕ → Form → List ℕ → Form → List ℕ → Member
member rule up above low below = record {
  result_variable = record { rule = rule; place = 1 };
  local = record { up = Linear 1 up above; low = Linear 1 low below };
}

-- one derivation as the only premise
abbrev pub only : Proof → Proofs
only proof = AndProof proof NoProof

-- the nodes that the first rule occurs once, that the second one occurs at most A times, and that after both the place
-- is at most A
abbrev pub rank_enter : Proof
rank_enter =
    Rank
    (record {
      rule = 1;
      set = 1 ∷ [];
      den = 1;
      forms = at_symbol 0 (pos 0) (pos 1) ∷ at_symbol 1 (pos 0) (pos 0) ∷ [];
      moves = [] ∷ [];
      floor = [];
    })
    (only Start)

abbrev pub rank_loop : Proof
rank_loop =
    Rank
    (record {
      rule = 2;
      set = 1 ∷ 2 ∷ [];
      den = 1;
      forms = at_symbol 0 (pos 1) (pos 0) ∷ at_symbol 1 (pos 1) (pos 0) ∷ [];
      moves = [] ∷ (0 ∷ []) ∷ [];
      floor = 1 ∷ [];
    })
    (only Start)

abbrev pub size_enter : Proof
size_enter = Spread (member 1 (form (pos 1) (pos 0)) [] (form (negsuc 0) (pos 0)) []) (only Start)

abbrev pub size_loop : Proof
size_loop =
    Cycle (member 2 (form (pos 1) (pos 0)) (0 ∷ []) (form (pos 0) (pos 0)) (1 ∷ []) ∷ []) (only (Cite 3))

-- a file of lemmas alone, and a file of one lemma
abbrev pub file_of_lemmas : List Proof → ProofFile
file_of_lemmas lemmas = record { lemmas = lemmas; gaps = [] }

-- lines with a line feed after each
abbrev pub lines_text : List (List ℕ) → List ℕ
lines_text [] = []
lines_text (line ∷ lines) = line ++ (codes "\n" ++ lines_text lines)

-- these lines, between the first and the last, are the text of a file
abbrev pub HasLines : ProofFile → List (List ℕ) → Type 0
HasLines f lines = text_of counting f ≡ lines_text lines

-- this line is that of a lemma, in a file without costs
abbrev pub HasLine : Proof → List ℕ → Type 0
HasLine lemma line =
    HasLines (file_of_lemmas (lemma ∷ [])) (codes "koat-proof 1" ∷ (codes "lemma " ++ line) ∷ codes "end" ∷ [])

-- the line of a lemma in a file with costs
abbrev pub HasCostLine : Proof → List ℕ → Type 0
HasCostLine lemma line =
    HasLines (file_of_lemmas (lemma ∷ [])) (codes "koat-proof 2" ∷ (codes "lemma " ++ line) ∷ codes "end" ∷ [])

-- a point in one unknown
abbrev pub point : ℤ → ℕ → ScaledPoint
point part den = record { parts = part ∷ []; den = den }

-- a gap of the second rule over itself, with these shut places
abbrev pub gap_with : List SymbolPlace → Gap
gap_with shut = record {
  rule = 2;
  set = 2 ∷ [];
  shut = shut;
  moves = point (pos 1) 1 ∷ [];
  floor = point (pos 0) 0;
  kept = point (pos 1) 1 ∷ [];
}

-- a gap with a move of two parts and another one, and a kept point that differs from both
abbrev pub gap_apart : Gap
gap_apart =
    record (gap_with []) {
      moves = record { parts = pos 1 ∷ pos 2 ∷ []; den = 3 } ∷ point (pos 4) 5 ∷ [];
      floor = point (pos 6) 7;
      kept = point (pos 8) 9 ∷ [];
    }

-- a node with an upper side bound whose form has two coefficients, and a node with two places
abbrev pub spread_two : Proof
spread_two =
    Spread
    (record {
      result_variable = record { rule = 1; place = 1 };
      local = record {
        up = Linear 2 (record { coefs = pos 3 ∷ pos 4 ∷ []; constant = pos 5 }) (6 ∷ 7 ∷ []);
        low = Poly;
      };
    })
    NoProof

abbrev pub cycle_two : Proof
cycle_two =
    Cycle
    (record { result_variable = record { rule = 1; place = 1 }; local = record { up = Poly; low = Poly } }
    ∷ record { result_variable = record { rule = 2; place = 1 }; local = record { up = Poly; low = Poly } }
    ∷ [])
    NoProof

-- a list of two parts
abbrev pub two_parts : Bound → Bound → Parts
two_parts a b = Part a (Part b NoParts)

-- the texts of small files
pub record TextsAreWorkedOut : Type 0 where
  -- an empty file, and the file of a loop with all its times and sizes
  pub nothing_at_all : HasLines (file_of_lemmas []) (codes "koat-proof 1" ∷ codes "end" ∷ [])
  pub loop : HasLines (file_of_lemmas (rank_enter ∷ rank_loop ∷ size_enter ∷ size_loop ∷ []))
      (codes "koat-proof 1"
      ∷ codes "lemma rank 1 set [1] den 1 forms [l0 [0 1]; l1 [0 0]] moves [[]] floor [] uses {start}"
      ∷ codes "lemma rank 2 set [1 2] den 1 forms [l0 [1 0]; l1 [1 0]] moves [[]; [0]] floor [1] uses {start}"
      ∷ codes "lemma spread 1.1 up lin 1 [1 0] [] low lin 1 [-1 0] [] uses {start}"
      ∷ codes "lemma cycle [2.1 up lin 1 [1 0] [0] low lin 1 [0 0] [1]] uses {cite 3}"
      ∷ codes "end"
      ∷ [])
  -- each further kind of node
  pub empty : HasLine (Empty 2 (3 ∷ 10 ∷ [])) (codes "empty 2 [3 10]")
  pub unreached : HasLine (Unreached 2 NoProof) (codes "unreached 2 uses {}")
  pub uses : HasLine (Unreached 2 (AndProof (Cite 1) (AndProof Start NoProof)))
      (codes "unreached 2 uses {cite 1; start}")
  pub never : HasLine (Never (Cite 1)) (codes "never (cite 1)")
  pub poly : HasLine
      (Spread (record {
        result_variable = record { rule = 1; place = 1 };
        local = record { up = Poly; low = Poly };
      }) NoProof)
      (codes "spread 1.1 up poly low poly uses {}")
  -- the elements of a list keep their order: the coefficients of a form and then its constant, multipliers, and the
  -- members of a cycle
  pub form_of_two : HasLine spread_two (codes "spread 1.1 up lin 2 [3 4 5] [6 7] low poly uses {}")
  pub two_members : HasLine cycle_two (codes "cycle [1.1 up poly low poly; 2.1 up poly low poly] uses {}")
  -- a bound follows the node that it weakens, and an exponent is in brackets unless it is a number or a variable
  pub sum : HasLine (Weaken rank_loop (SumOf (two_parts (Input 0) (Constant 7))))
      (codes "weaken (rank 2 set [1 2] den 1 forms [l0 [1 0]; l1 [1 0]] moves [[]; [0]] floor [1] "
      ++ codes "uses {start}) to A + 7")
  pub exponent : HasLine (Weaken Start (PowerOf 2 (ProductOf (two_parts (Constant 2) (Input 0)))))
      (codes "weaken (start) to 2^(2*A)")
  pub factor : HasLine (Weaken Start (ProductOf (two_parts (PowerOf 2 (Constant 2)) (Input 0))))
      (codes "weaken (start) to 2^2*A")
  -- a node on a cost at any position gives the first line the version 2
  pub side_bound : HasCostLine
      (CostBound (record { rule = 1; by = SideBoundCost (Linear 1 (form (pos 1) (pos 0)) (0 ∷ [])) })
      (AndProof Start (AndProof (Cite 1) NoProof)))
      (codes "cost 1 lin 1 [1 0] [0] uses {start; cite 1}")
  pub no_point : HasCostLine (CostBound (record { rule = 1; by = EmptyCost (1 ∷ []) }) NoProof)
      (codes "cost 1 empty [1] uses {}")
  pub never_run : HasCostLine (Never (CostBound (record { rule = 1; by = NeverCost }) (only (Cite 2))))
      (codes "never (cost 1 never uses {cite 2})")
  -- gaps come after the lemmas
  pub gaps : HasLines
      (record {
        lemmas = Start ∷ [];
        gaps = gap_with []
            ∷ gap_with (record { symbol = 0; place = 1 } ∷ record { symbol = 1; place = 1 } ∷ [])
            ∷ [];
      })
      (codes "koat-proof 1"
      ∷ codes "lemma start"
      ∷ codes "gap 2 set [2] shut [] moves [[1 1]] floor [0 0] kept [[1 1]]"
      ∷ codes "gap 2 set [2] shut [l0.1 l1.1] moves [[1 1]] floor [0 0] kept [[1 1]]"
      ∷ codes "end"
      ∷ [])
  -- the moves, the floor and the kept points of a gap come in this order, and of each point its parts, then its
  -- denominator
  pub gap_points : HasLines (record { lemmas = []; gaps = gap_apart ∷ [] })
      (codes "koat-proof 1"
      ∷ codes "gap 2 set [2] shut [] moves [[1 2 3]; [4 5]] floor [6 7] kept [[8 9]]"
      ∷ codes "end"
      ∷ [])

-- n nodes, each the only premise of the one before
abbrev pub nested : ℕ → Proof
nested zero = Start
nested (suc n) = Never (nested n)

-- a derivation is within the limits as a lemma after this many others
abbrev pub IsLemma : ℕ → Proof → Type 0
IsLemma earlier proof = IsProofWithin counting earlier 1 proof

-- a power of a base
abbrev pub power : ℕ → Bound
power base = PowerOf base (Input 0)

-- files that are within the limits, and files that aren't
pub record LimitsAreWorkedOut : Type 0 where
  pub loop : IsFileWithin counting (file_of_lemmas (rank_enter ∷ rank_loop ∷ size_enter ∷ size_loop ∷ []))
  -- an earlier lemma may be cited, but not the lemma itself, or lemma 0
  pub earlier : IsLemma 1 (Cite 1)
  pub itself : ¬ (IsLemma 0 (Cite 1))
  pub lemma_zero : ¬ (IsLemma 1 (Cite 0))
  -- 64 levels are within the limits, and 65 aren't
  pub levels : IsLemma 0 (nested 63)
  pub one_deeper : ¬ (IsLemma 0 (nested 64))
  -- 100,000 lemmas and 1,000 gaps are within the limits, and one more of each isn't
  pub lemmas : (lemmas : List Proof) → AreLemmasWithin counting 0 lemmas → length lemmas ≤ 100000
      → IsFileWithin counting (file_of_lemmas lemmas)
  pub too_many_lemmas : (lemmas : List Proof) → length lemmas ≡ 100001
      → ¬ (IsFileWithin counting (file_of_lemmas lemmas))
  pub gaps : (gaps : List Gap) → All (IsGapWithin counting) gaps → length gaps ≤ 1000
      → IsFileWithin counting (record { lemmas = []; gaps = gaps })
  pub too_many_gaps : (gaps : List Gap) → length gaps ≡ 1001
      → ¬ (IsFileWithin counting (record { lemmas = []; gaps = gaps }))
  -- rules are numbered from 1
  pub rule_zero : ¬ (IsLemma 0 (Unreached 0 NoProof))
  pub last_rule : IsLemma 0 (Unreached 2 NoProof)
  pub rule_behind : ¬ (IsLemma 0 (Unreached 3 NoProof))
  -- the numbers of a lemma are at most 2^56
  pub large : IsLemma 0 (Empty 1 ((2 ^ 56) ∷ []))
  pub too_large : ¬ (IsLemma 0 (Empty 1 ((2 ^ 56 + 1) ∷ [])))
  pub negative : IsSideBoundWithin (Linear 1 (form (negsuc (2 ^ 56 - 1)) (pos 0)) [])
  pub too_negative : ¬ (IsSideBoundWithin (Linear 1 (form (negsuc (2 ^ 56)) (pos 0)) []))
  -- the numbers of a gap's points are at most 2^45, and its places exist
  pub large_point : IsPointWithin (point (pos (2 ^ 45)) (2 ^ 45))
  pub too_large_point : ¬ (IsPointWithin (point (pos (2 ^ 45 + 1)) 1))
  pub too_large_den : ¬ (IsPointWithin (point (pos 1) (2 ^ 45 + 1)))
  pub place : IsPlaceOf counting (record { symbol = 1; place = 1 })
  pub place_zero : ¬ (IsPlaceOf counting (record { symbol = 1; place = 0 }))
  pub place_behind : ¬ (IsPlaceOf counting (record { symbol = 1; place = 2 }))
  pub no_symbol : ¬ (IsPlaceOf counting (record { symbol = 2; place = 1 }))
  -- a loop has at least one member
  pub no_member : ¬ (IsLemma 0 (Cycle [] NoProof))
  -- the bounds of a `weaken` node are tidy, and over the start arguments
  pub bound : IsLemma 0 (Weaken Start (power 2))
  pub small_base : ¬ (IsLemma 0 (Weaken Start (power 1)))
  -- a bound has at most 4,096 nodes and 200 levels
  pub too_many_nodes : (b : Bound) → node_count b ≡ 4097 → ¬ (IsBoundWithin counting b)
  pub too_many_levels : (b : Bound) → depth_of b ≡ 201 → ¬ (IsBoundWithin counting b)
  pub no_input : ¬ (IsLemma 0 (Weaken Start (Input 1)))

-- the worked texts and limits together
pub record TextsAndLimitsAreWorkedOut : Type 0 where
  pub texts : TextsAreWorkedOut
  pub limits : LimitsAreWorkedOut
