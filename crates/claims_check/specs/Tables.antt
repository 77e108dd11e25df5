-- What is looked up for each claim.
use Rattle.std.specs.Prelude.{◌≡◌, ◌<◌, ℕ, suc, Bool, true, false, List, [], length, map, Vec, Option, Some, None}
use Rattle.std.specs.Prelude.{slice_get}
use Rattle.std.specs.declared.alloc.Global.{Global}
use Rattle.its_model.specs.Valid.{IsValid}
use Rattle.its_model.specs.Views.{program_of}
use Rattle.signed_bounds.specs.Bounds.{Signed, Constant}
use Rattle.potential_types.specs.Views.{charge_of, fact_view}
use Rattle.never_rules.specs.Never.{TellNever}
use Rattle.program_claims.specs.Copies.{copies_of, cost_charges}
use Rattle.claims_check.specs.declared.evidence.Evidence.{Evidence}
use Rattle.claims_check.specs.declared.known.Known.{Known}
use Rattle.claims_check.specs.declared.tables.Tables.{Tables}
use Rattle.claims_check.specs.declared.stating.Prepared.{Prepared}
use Rattle.claims_check.specs.Below.{positions}
use Rattle.claims_check.specs.Views.{evidence_of}

-- both programs are valid, and the one above is the one that the section spells
pub record IsWhole (e : Evidence) : Type 0 where
  pub program : IsValid (program_of e.program.now)
  pub above : program_of e.above.now ≡ (evidence_of e).above
  pub valid : IsValid (program_of e.above.now)

-- the items of a list, if there is one, else none
abbrev pub items_in : Option (Vec ℕ Global) → List ℕ
items_in None = []
items_in (Some v) = v.items

-- the list at a position of a table, empty past its end
abbrev pub list_at : List (Vec ℕ Global) → ℕ → List ℕ
list_at lists key = items_in (slice_get lists key)

-- the list at each number of a rule has the numbers of the rules that have this rule below them
pub record AreCopies (below : List ℕ) (lists : List (Vec ℕ Global)) : Type 0 where
  pub each : (rule : ℕ) → rule < length lists → list_at lists rule ≡ positions rule 1 below

-- each rule of the program has a list, those of its copies; the flags are those of the facts; and the charges are those
-- of all costs above
pub record AreTables (e : Evidence) (t : Tables) : Type 0 where
  pub counted : length t.copies.items ≡ suc (length e.program.now.rules.items)
  pub copies : (rule : ℕ) → rule < length t.copies.items
      → list_at t.copies.items rule ≡ copies_of (evidence_of e).above (evidence_of e).projection rule
  pub never : TellNever (map fact_view e.facts.now) t.never.items
  pub costs : map charge_of t.costs.items ≡ cost_charges 1 (evidence_of e).above.rules

-- evidence is whole, and the tables are its own
pub record IsPrepared (p : Prepared) : Type 0 where
  pub whole : IsWhole p.evidence
  pub tables : AreTables p.evidence p.tables.now

-- the flags are those of the facts
abbrev pub IsKnown : Known → Type 0
IsKnown k = TellNever (map fact_view k.facts.now) k.never.now

-- the bound 0, where a test says yes
abbrev pub zero_bound_if : Bool → Option Signed
zero_bound_if false = None
zero_bound_if true = Some (Constant 0)
