-- A short notation for nodes and bounds, and the first reason of a node of a program.
use Rattle.std.specs.Prelude.{ℕ, List, [], ◌∷◌, map, ℤ, pos, neg_ℤ, Option}
use Rattle.cert_program.specs.model.Bounds.{Bound, SumOf, ProductOf, MaximumOf, Parts, NoParts, Part}
use Rattle.cert_program.specs.model.Facts.{Fact}
use Rattle.cert_program.specs.model.Programs.{Program}
use Rattle.cert_program.specs.linear_forms.Forms.{Form}
use Rattle.cert_program.specs.cert_rules.Nodes.{SideBound, Linear, Poly, Member, SymbolForm, Proof, Cite, Start, Rank}
use Rattle.cert_program.specs.cert_rules.Nodes.{Proofs, NoProof}
use Rattle.cert_program.specs.cert_rules.Nodes.{AndProof}
use Rattle.cert_program.specs.cert_rules.Reasons.{Reason}
use Rattle.cert_program.specs.Setting.{setting_of}
use Rattle.cert_program.specs.cert_rules.Deciding.{first_reason}

-- a number below 0
abbrev pub minus : ℕ → ℤ
minus n = neg_ℤ (pos n)

-- the coefficients of one place, and of two
abbrev pub one : ℤ → List ℤ
one a = a ∷ []

abbrev pub two : ℤ → ℤ → List ℤ
two a b = a ∷ b ∷ []

abbrev pub form : List ℤ → ℤ → Form
form coefs constant = record { coefs = coefs; constant = constant }

-- a ranking function's form at a symbol
abbrev pub at_symbol : ℕ → List ℤ → ℤ → SymbolForm
at_symbol symbol coefs constant = record { symbol = symbol; form = form coefs constant }

-- a ranking node: the rule, the set, the denominator, the forms, the multipliers of the set and of the floor
abbrev pub rank : ℕ → List ℕ → ℕ → List SymbolForm → List (List ℕ) → List ℕ → Proofs → Proof
rank rule set den forms moves floor uses =
    Rank (record { rule = rule; set = set; den = den; forms = forms; moves = moves; floor = floor }) uses

-- a side bound over the denominator 1
abbrev pub side_bound : List ℤ → ℤ → List ℕ → SideBound
side_bound coefs constant multipliers = Linear 1 (form coefs constant) multipliers

-- a member: a place after a rule with both side bounds
abbrev pub member : ℕ → ℕ → SideBound → SideBound → Member
member rule place up low = record {
  result_variable = record { rule = rule; place = place };
  local = record { up = up; low = low };
}

-- a member whose new value is a form without a constant: the form is one side bound, and its negation the other
abbrev pub equal_to : ℕ → ℕ → List ℤ → List ℕ → Member
equal_to rule place coefs multipliers =
    member rule place (side_bound coefs (pos 0) multipliers) (side_bound (map neg_ℤ coefs) (pos 0) multipliers)

-- a place with the update's own polynomial on both sides
abbrev pub nonlinear : ℕ → ℕ → Member
nonlinear rule place = member rule place Poly Poly

-- premises: the virtual entry; and lemmas by their numbers
abbrev pub entered : Proofs
entered = AndProof Start NoProof

abbrev pub cited : List ℕ → Proofs
cited [] = NoProof
cited (n ∷ ns) = AndProof (Cite n) (cited ns)

-- a sum, a product and a maximum
abbrev pub parts_of : List Bound → Parts
parts_of [] = NoParts
parts_of (b ∷ bs) = Part b (parts_of bs)

abbrev pub sum : List Bound → Bound
sum bs = SumOf (parts_of bs)

abbrev pub product : List Bound → Bound
product bs = ProductOf (parts_of bs)

abbrev pub maximum : List Bound → Bound
maximum bs = MaximumOf (parts_of bs)

-- the first reason of a node of a program, after lemmas with these facts
abbrev pub first_reason_in : Program → List (List Fact) → Proof → Option Reason
first_reason_in p past proof = first_reason (setting_of p) past proof

-- the facts of one lemma that states this fact
abbrev pub only : Fact → List (List Fact)
only fact = (fact ∷ []) ∷ []
