-- What the code remembers of lines as plain data.
use Rattle.std.specs.Prelude.{map}
use Rattle.poly_terms.specs.Views.{poly_of, monomials_of}
use Rattle.signed_bounds.specs.Views.{signeds_of}
use Rattle.potential_types.specs.Views.{function_of, move_of, payment_of, charge_of, phase_move_of, counted_of, lemma_of}
use Rattle.potential_types.specs.Views.{summands_of}
use Rattle.claim_types.specs.Views.{claims_of}
use Rattle.potential_text.specs.declared.polynomials.Terms as code_terms
use Rattle.potential_text.specs.declared.certificates.Certificates as code_certificates
use Rattle.potential_text.specs.declared.bounds.Opened as code_opened
use Rattle.potential_text.specs.declared.bounds.Parts as code_parts
use Rattle.potential_text.specs.declared.items.Items as code_items
use Rattle.potential_text.specs.declared.draft.Draft as code_draft
use Rattle.potential_text.specs.declared.lines.LinesReading.{LinesReading}
use Rattle.potential_text.specs.Polynomials.{Terms}
use Rattle.potential_text.specs.Certificates.{Certificates}
use Rattle.potential_text.specs.Bounds.{Opened, Parts}
use Rattle.potential_text.specs.Items.{Items}
use Rattle.potential_text.specs.Drafts.{Draft}
use Rattle.potential_text.specs.Reading.{Progress}

-- the polynomial that is being read
abbrev pub terms_of : code_terms.Terms → Terms
terms_of t = record { vars = t.vars.items; monomials = monomials_of t.monomials.items }

-- the certificates that are being read
abbrev pub proofs_of : code_certificates.Certificates → Certificates
proofs_of c = record {
  summands = summands_of c.summands.items;
  first = summands_of c.first.items;
  second = summands_of c.second.items;
}

-- the bound that is being read
abbrev pub opened_of : code_opened.Opened → Opened
opened_of o = record { kind = o.kind; base = o.base; before = signeds_of o.before.items }

abbrev pub parts_read : code_parts.Parts → Parts
parts_read p = record { parts = signeds_of p.parts.items; opened = map opened_of p.opened.items }

-- the line that is being read
abbrev pub items_of : code_items.Items → Items
items_of i = record {
  functions = map function_of i.functions.items;
  firsts = map function_of i.firsts.items;
  keeps = i.keeps;
  gain = poly_of i.gain;
  cited = i.cited;
  moves = map move_of i.moves.items;
  payments = map payment_of i.payments.items;
  charges = map charge_of i.charges.items;
  phase_moves = map phase_move_of i.phase_moves.items;
  counted = map counted_of i.counted.items;
  form = poly_of i.form;
  floor = summands_of i.floor.items;
  facts = i.facts.items;
  by_each = i.by_each;
}

-- what has been made
abbrev pub draft_of : code_draft.Draft → Draft
draft_of d = record {
  role = d.role;
  numbers = d.numbers;
  terms = terms_of d.terms;
  certificates = proofs_of d.certificates;
  bound = parts_read d.bound;
  items = items_of d.items;
  lemmas = map lemma_of d.lemmas.items;
  claims = claims_of d.claims.items;
}

-- how far reading has come
abbrev pub progress_of : LinesReading → Progress
progress_of s = record { draft = draft_of s.draft; broken = s.broken }
