-- The code's state of reading a proof file, as plain data.
use Rattle.std.specs.Prelude.{List, [], ◌∷◌, map}
use Rattle.cert_types.specs.Views.{side_bound_of, cost_by_of, form_of, member_of, proof_of, result_variable_of}
use Rattle.cert_types.specs.AnswerViews.{gap_of, scaled_of, shut_of}
use Rattle.cert_types.specs.bound_expr.Views.{bound_of}
use Rattle.cert_types.specs.rule_forms.linear_forms.Forms.{Form}
use Rattle.cert_lexer.specs.Packed.{inners_of}
use Rattle.cert_text.specs.declared.draft.Affine.{Affine}
use Rattle.cert_text.specs.declared.draft.Draft as code
use Rattle.cert_text.specs.declared.parsed_so_far.OpenNode.{OpenNode}
use Rattle.cert_text.specs.declared.parsed_so_far.ParsedSoFar.{ParsedSoFar}
use Rattle.cert_text.specs.declared.text.ProofReading.{ProofReading}
use Rattle.cert_text.specs.Reading.{Progress}
use Rattle.cert_text.specs.Remembered.{Draft, Outer, Whole, Inside, State}

-- a form of the code
abbrev pub affine_of : Affine → Form
affine_of f = record { coefs = f.coefs.items; constant = f.constant }

-- the parts of a node or a gap read so far
abbrev pub draft_of : code.Draft → Draft
draft_of d = record {
  rule = d.rule;
  set = d.set.items;
  den = d.den;
  numbers = d.numbers.items;
  integers = d.integers.items;
  forms = map form_of d.forms.items;
  moves = map (λ m. m.items) d.moves.items;
  form = affine_of d.form;
  side_bound = side_bound_of d.side_bound;
  up = side_bound_of d.up;
  result_variable = result_variable_of d.result_variable;
  members = map member_of d.members.items;
  by = cost_by_of d.by;
  uses = map proof_of d.uses.items;
  shut = map shut_of d.shut.items;
  points = map scaled_of d.points.items;
  gap_moves = map scaled_of d.gap_moves.items;
  floor = scaled_of d.floor;
}

-- the nodes around the innermost one, inside others; the code's list has the outermost first
abbrev pub outer_from : Outer → List OpenNode → Outer
outer_from outer [] = outer
outer_from outer (x ∷ xs) = outer_from (Inside (draft_of x.draft) (map proof_of x.used.items) outer) xs

abbrev pub outer_of : List OpenNode → Outer
outer_of xs = outer_from Whole xs

-- the plain state of a reader of the code
abbrev pub own_of : ParsedSoFar → State
own_of k = record {
  coming = k.coming;
  priced = k.priced;
  paid = k.paid;
  in_gap = k.in_gap;
  lemmas = map proof_of k.lemmas.items;
  gaps = map gap_of k.gaps.items;
  levels = k.levels;
  node = proof_of k.node;
  used = map proof_of k.used.items;
  outer = outer_of k.outer.items;
  draft = draft_of k.draft;
  number = k.number;
  negative = k.negative;
  symbol = k.symbol;
  pieces = inners_of k.pieces;
  bound = bound_of k.bound;
}

-- the plain progress of a reading of the code
abbrev pub progress_of : ProofReading → Progress
progress_of r = record { kept = own_of r.kept; broken = r.broken }
