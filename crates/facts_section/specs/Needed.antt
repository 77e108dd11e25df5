-- The facts of a symbol that are needed: the strongest on each difference, and where these are many, without those that
-- others imply.
use Rattle.std.specs.Prelude.{ℕ, ◌&&◌, nat_eq, nat_le, length, not, if◌then◌else◌, List, [], ◌∷◌, ◌++◌, filter, Bool}
use Rattle.std.specs.Prelude.{◌+ℤ◌, int_lt, int_le}
use Rattle.std.specs.List.{list_any}
use Rattle.refined_programs.specs.model.Programs.{Program}
use Rattle.location_facts.specs.declared.fact.LocFact.{LocFact}
use Rattle.location_facts.specs.Rows.{facts_at}

-- a fact is weaker than another one on the same difference
abbrev pub is_weaker : LocFact → LocFact → Bool
is_weaker f g = nat_eq f.plus g.plus && nat_eq f.minus g.minus && int_lt f.least g.least

-- the facts of a list that are weaker than none of it
abbrev pub strongest_among : List LocFact → List LocFact
strongest_among facts = filter (λ f. not (list_any (is_weaker f) facts)) facts

-- the strongest facts of a symbol
abbrev pub strongest : List LocFact → ℕ → List LocFact
strongest kept s = strongest_among (facts_at s kept)

-- a fact h completes a fact g, which adds the same place as f, to f: what g takes off is what h adds, h takes off what f
-- does, and the bounds of g and h add up to at least that of f
abbrev pub completes : LocFact → LocFact → LocFact → Bool
completes f g h = nat_eq g.minus h.plus && nat_eq h.minus f.minus && int_le f.least (g.least +ℤ h.least)

-- a fact follows from two facts of a list
abbrev pub is_implied : LocFact → List LocFact → Bool
is_implied f facts = list_any (λ g. nat_eq g.plus f.plus && list_any (completes f g) facts) facts

-- facts that are left so far, and those of a list that are left after them: one that follows from two others, which are
-- left or still to come, is dropped
abbrev pub without_implied : List LocFact → List LocFact → List LocFact
without_implied left [] = left
without_implied left (f ∷ facts) =
    if is_implied f (left ++ facts) then without_implied left facts else without_implied (left ++ f ∷ []) facts

-- of at most 32 facts all are needed, and of more those that others don't imply: so guards have room for them
abbrev pub needed_among : List LocFact → List LocFact
needed_among facts = if nat_le (length facts) 32 then facts else without_implied [] facts

-- the facts of a symbol that are needed; the start symbol has none
abbrev pub needed_facts : Program → List LocFact → ℕ → List LocFact
needed_facts p kept s = if nat_eq s p.start then [] else needed_among (strongest kept s)
