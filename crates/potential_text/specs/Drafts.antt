-- What has been made of lines up to a piece.
use Rattle.std.specs.Prelude.{ℕ, Bool, true, false, List, [], ◌∷◌, ◌++◌, take, drop, Option, Some, None, slice_get}
use Rattle.text_grammar.specs.text_core.Names.{position_of}
use Rattle.its_model.specs.model.Programs.{Name}
use Rattle.signed_bounds.specs.Bounds.{Signed, Constant, PositivePart}
use Rattle.potential_types.specs.potential_nodes.Certificates.{OneRow, TwoRows, ZeroRow}
use Rattle.potential_types.specs.potential_nodes.SignedNodes.{SignedLemma}
use Rattle.claim_types.specs.program_claims.Claims.{Claim}
use Rattle.lexing_laws.specs.Lasts.{last_of}
use Rattle.potential_text.specs.declared.action.Role.{Role}
use Rattle.potential_text.specs.declared.action.Role.TheVariants as roles
use Rattle.potential_text.specs.declared.action.Opener.{Opener}
use Rattle.potential_text.specs.declared.action.LemmaKind.{LemmaKind}
use Rattle.potential_text.specs.declared.action.ClaimKind.{ClaimKind}
use Rattle.potential_text.specs.declared.action.Action.{Action}
use Rattle.potential_text.specs.declared.action.Action.TheVariants as actions
use Rattle.potential_text.specs.declared.action.TheConstants.{ACTIONS}
use Rattle.potential_text.specs.declared.numbers.Numbers.{Numbers}
use Rattle.potential_text.specs.declared.piece.Sort.{Sort}
use Rattle.potential_text.specs.declared.piece.Sort.TheVariants.{Number}
use Rattle.potential_text.specs.declared.piece.Piece.{Piece}
use Rattle.potential_text.specs.Numbers.{no_numbers, in_32, index_of, signed_size, with_field, with_node, bound_begun}
use Rattle.potential_text.specs.Numbers.{line_ended, with_minus, without_minus}
use Rattle.potential_text.specs.Polynomials.{Terms, no_terms, with_factor, with_monomial, without_monomials}
use Rattle.potential_text.specs.Certificates.{Certificates, no_certificates, with_summand, certificate_ended}
use Rattle.potential_text.specs.Certificates.{without_first, without_second}
use Rattle.potential_text.specs.Bounds.{Parts, no_parts, with_bound, with_opened, first_part, closed, without_parts}
use Rattle.potential_text.specs.Items.{Items, no_items, with_fact, with_function, functions_ended, with_keeps, with_gain}
use Rattle.potential_text.specs.Items.{with_cited, with_form, with_floor, with_by_each, with_move, with_payment}
use Rattle.potential_text.specs.Items.{with_charge, with_phase_move, with_counted, made_node, made_claim}

-- what the next piece is; the numbers, the polynomial, the certificates and the bound that are being read; the line that
-- is being read; and the lemmas and the claims that were read
pub record Draft : Type 0 where
  pub role : Role
  pub numbers : Numbers
  pub terms : Terms
  pub certificates : Certificates
  pub bound : Parts
  pub items : Items
  pub lemmas : List SignedLemma
  pub claims : List Claim

-- nothing has been read
abbrev pub begun : Draft
begun = record {
  role = roles.Plain;
  numbers = no_numbers;
  terms = no_terms;
  certificates = no_certificates;
  bound = no_parts;
  items = no_items;
  lemmas = [];
  claims = [];
}

-- the bytes of a piece of a text
abbrev pub name_bytes : List ℕ → Piece → Name
name_bytes text p = take p.len (drop p.at text)

-- the number of a piece, 0 for what is none
abbrev pub number_in : Sort → ℕ
number_in (Number n) = n
number_in _ = 0

-- the symbol of a function is read, by its name
abbrev pub symbol_read : List Name → Name → Draft → Draft
symbol_read names name d = record d { numbers = record (d.numbers) { symbol = in_32 (position_of name names) } }

-- a piece is read in a role
abbrev pub read_in : Role → List Name → List ℕ → Piece → Draft → Draft
read_in roles.Plain names text p d = d
read_in roles.LineWord names text p d = d
read_in roles.Symbol names text p d = symbol_read names (name_bytes text p) d
read_in (roles.Number field) names text p d = record d { numbers = with_field field (number_in p.sort) d.numbers }
read_in roles.Factor names text p d = record d { terms = with_factor (index_of (number_in p.sort)) d.terms }
read_in roles.Listed names text p d = record d { items = with_fact (in_32 (number_in p.sort)) d.items }
read_in roles.Constant names text p d = record d { bound = with_bound (Constant (number_in p.sort)) d.bound }
read_in roles.BoundWord names text p d = d

-- a piece is counted, and its role is over
abbrev pub counted : Draft → Draft
counted d = record d { role = roles.Plain; numbers = with_node d.role d.numbers }

-- a piece is read, in the role that the mark before it gave it
abbrev pub taken : List Name → List ℕ → Piece → Draft → Draft
taken names text p d = read_in d.role names text p (counted d)

-- a monomial was read
abbrev pub monomial_read : Draft → Draft
monomial_read d =
    record d { numbers = without_minus d.numbers; terms = with_monomial (signed_size d.numbers) d.terms }

-- a summand was read: of a row, of two rows, and of a variable and a row with its opposite
abbrev pub one_row_read : Draft → Draft
one_row_read d =
    record d { certificates = with_summand (OneRow d.numbers.size d.numbers.row) d.certificates }

abbrev pub two_rows_read : Draft → Draft
two_rows_read d =
    record d { certificates = with_summand (TwoRows d.numbers.size d.numbers.row d.numbers.other) d.certificates }

abbrev pub zero_row_read : Draft → Draft
zero_row_read d = record d {
  numbers = without_minus d.numbers;
  certificates = with_summand (ZeroRow (signed_size d.numbers) d.numbers.row d.numbers.other d.numbers.variable)
      d.certificates;
}

-- the function of a symbol was read
abbrev pub function_read : Draft → Draft
function_read d = record d {
  terms = without_monomials d.terms;
  items = with_function d.numbers.symbol d.terms.monomials d.items;
}

-- the gain of a move or the amount of a payment, and the polynomial and the certificate of a lemma was read
abbrev pub gain_read : Draft → Draft
gain_read d = record d { terms = without_monomials d.terms; items = with_gain d.terms.monomials d.items }

abbrev pub form_read : Draft → Draft
form_read d = record d { terms = without_monomials d.terms; items = with_form d.terms.monomials d.items }

abbrev pub floor_read : Draft → Draft
floor_read d = record d {
  certificates = without_second d.certificates;
  items = with_floor d.certificates.second d.items;
}

-- a move, a payment, a charge, a move of two phases, and a counted rule was read
abbrev pub move_read : Draft → Draft
move_read d = record d {
  certificates = without_second d.certificates;
  items = with_move d.numbers.step d.certificates.second d.items;
}

abbrev pub payment_read : Draft → Draft
payment_read d = record d {
  certificates = without_second (without_first d.certificates);
  items = with_payment d.numbers.step d.certificates.first d.certificates.second d.items;
}

abbrev pub charge_read : Draft → Draft
charge_read d = record d {
  terms = without_monomials d.terms;
  items = with_charge d.numbers.step d.terms.monomials d.items;
}

abbrev pub phase_move_read : Draft → Draft
phase_move_read d = record d {
  certificates = without_second (without_first d.certificates);
  items = with_phase_move d.numbers.step d.certificates.first d.certificates.second d.items;
}

abbrev pub counted_read : Draft → Draft
counted_read d = record d {
  certificates = without_second d.certificates;
  items = with_counted d.numbers.step d.certificates.second d.items;
}

-- a bound was read that is the positive part of a polynomial; the parts of a bound begin, and end
abbrev pub part_read : Draft → Draft
part_read d = record d {
  terms = without_monomials d.terms;
  bound = with_bound (PositivePart d.terms.monomials) d.bound;
}

abbrev pub bound_opened : Opener → Draft → Draft
bound_opened kind d = record d { bound = with_opened kind d.numbers.base d.bound }

abbrev pub bound_closed : Draft → Draft
bound_closed d = record d { bound = closed d.numbers.divisor (last_of d.bound.opened) d.bound }

-- the bound of the line that is being read
abbrev pub bound_in : Draft → Signed
bound_in d = first_part d.bound.parts

-- a lemma and a claim was read
abbrev pub lemma_read : LemmaKind → Draft → Draft
lemma_read kind d = record d {
  numbers = line_ended d.numbers;
  bound = without_parts d.bound;
  items = no_items;
  lemmas = d.lemmas ++ record { node = made_node kind d.numbers d.items; bound = bound_in d } ∷ [];
}

abbrev pub claim_read : ClaimKind → Draft → Draft
claim_read kind d = record d {
  numbers = line_ended d.numbers;
  bound = without_parts d.bound;
  items = no_items;
  claims = d.claims ++ made_claim kind d.numbers d.items (bound_in d) ∷ [];
}

-- the effect of an action that only takes note of something
abbrev pub noted : Action → Draft → Draft
noted (actions.Comes role) d = record d { role = role }
noted actions.Negative d = record d { numbers = with_minus d.numbers }
noted actions.CertificateRead d = record d { certificates = certificate_ended d.certificates }
noted actions.FunctionsRead d = record d { items = functions_ended d.items }
noted actions.Keeps d = record d { items = with_keeps true d.items }
noted actions.Resets d = record d { items = with_keeps false d.items }
noted actions.GainRead d = gain_read d
noted actions.CitedRead d = record d { items = with_cited (Some d.numbers.first) d.items }
noted actions.FormRead d = form_read d
noted actions.FloorRead d = floor_read d
noted actions.ByOne d = record d { items = with_by_each false d.items }
noted actions.ByEach d = record d { items = with_by_each true d.items }
noted actions.BoundBegins d = record d { numbers = bound_begun d.numbers }
noted _ d = d

-- the effect of an action
abbrev pub acted : Action → Draft → Draft
acted actions.MonomialRead d = monomial_read d
acted actions.OneRowRead d = one_row_read d
acted actions.TwoRowsRead d = two_rows_read d
acted actions.ZeroRowRead d = zero_row_read d
acted actions.FunctionRead d = function_read d
acted actions.MoveRead d = move_read d
acted actions.PaymentRead d = payment_read d
acted actions.ChargeRead d = charge_read d
acted actions.PhaseMoveRead d = phase_move_read d
acted actions.CountedRead d = counted_read d
acted actions.PartRead d = part_read d
acted (actions.Opens kind) d = bound_opened kind d
acted actions.Closes d = bound_closed d
acted (actions.LemmaRead kind) d = lemma_read kind d
acted (actions.ClaimRead kind) d = claim_read kind d
acted action d = noted action d

-- the effect of the action of a mark, if it has one
abbrev pub acted_if : Option Action → Draft → Draft
acted_if None d = d
acted_if (Some action) d = acted action d

abbrev pub done : ℕ → Draft → Draft
done mark d = acted_if (slice_get ACTIONS mark) d
