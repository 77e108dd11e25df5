-- The links between symbols.
use Rattle.std.specs.Prelude.{ℕ, suc, ◌<◌, List, [], ◌∷◌, ◌++◌, All, Bool, false, if◌then◌else◌, ◌==◌, ◌&&◌, ◌||◌}
use Rattle.std.specs.Prelude.{Option, Some, None, slice_index, slice_index_or, slice_set}
use Rattle.model.specs.Programs as plain
use Rattle.its_model.specs.declared.program.Rule.{Rule}
use Rattle.its_model.specs.Views.{rule_of}

-- The link of a rule: from its source to its target.
abbrev pub ends_of : plain.Rule → ℕ × ℕ
ends_of r = (r.source, r.target)

-- The link of a rule of the code.
abbrev pub link_of : Rule → ℕ × ℕ
link_of r = ends_of (rule_of r)

-- Each rule leads from a symbol below the number to another below it.
abbrev pub LeadBelow : ℕ → List Rule → Type 0
LeadBelow n rules = All (λ (r : Rule). (r.source < n) × (r.target < n)) rules

-- The links whose flag is true; the first link's flag has this number.
abbrev pub kept_links : List Bool → ℕ → List (ℕ × ℕ) → List (ℕ × ℕ)
kept_links allowed i [] = []
kept_links allowed i (l ∷ links) = (if slice_index_or allowed i false then l ∷ [] else [])
    ++ kept_links allowed (suc i) links

-- The flags after those of a list of numbers were made false.
abbrev pub all_cut : List ℕ → List Bool → List Bool
all_cut [] allowed = allowed
all_cut (t ∷ cut) allowed = all_cut cut (slice_set allowed t false)

-- The virtual entry and each rule, paired with the symbol that it leads to.
abbrev pub arrivals_from : ℕ → List (ℕ × ℕ) → List (ℕ × ℕ)
arrivals_from i [] = []
arrivals_from i (l ∷ links) = (l.1, i) ∷ arrivals_from (suc i) links

abbrev pub arrivals : ℕ → List (ℕ × ℕ) → List (ℕ × ℕ)
arrivals start links = (start, 0) ∷ arrivals_from 1 links

-- Whether the rule with this number and link is in the set of a rule; `seen` marks the symbols from which its source is
-- reached by untimed rules.
abbrev pub is_member : List Bool → List Bool → ℕ → ℕ → ℕ × ℕ → Bool
is_member untimed seen rule t link = (t == rule) || (slice_index_or untimed t false && slice_index_or seen link.1 false)

-- The numbers of the rules in the set, counted from this number on.
abbrev pub members_from : List Bool → List Bool → ℕ → ℕ → List (ℕ × ℕ) → List ℕ
members_from untimed seen rule t [] = []
members_from untimed seen rule t (l ∷ links) = (if is_member untimed seen rule t l then t ∷ [] else [])
    ++ members_from untimed seen rule (suc t) links

-- The leader of both ends of a link, or none if they have different ones.
abbrev pub shared_leader : List ℕ → ℕ × ℕ → Option ℕ
shared_leader leaders link = if slice_index leaders link.0 == slice_index leaders link.1
    then Some (slice_index leaders link.0) else None
