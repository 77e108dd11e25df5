use Rattle.std.proofs.Common.{◌≡◌, ℕ, ◌+◌, Option, Some, None, length, subst, rules}
use Rattle.std.specs.Prelude.{MatchOption, ⊤, vec_len}
use Rattle.bound_text.specs.declared.state.Opened.{Opened}
use Rattle.bound_text.proofs.ViewLaws.{rounds_popped, outer_popped}
use Rattle.bound_text.proofs.brackets.Brackets.close.Goals as goal

-- if no bracket was closed, none was open
none_there : (r : Option Opened) (n m : ℕ) → MatchOption r ((n ≡ 0) × (m ≡ 0)) (λ _. m + 1 ≡ n) → MatchOption r (n ≡ 0) (λ _. ⊤)
none_there None n m h = h.0
none_there (Some x) n m h = tt

pub invariant_of-self : goal.invariant_of-self
invariant_of-self c = record { counted = rounds_popped c.pop.result c.args.self.now.opened.items c.pop.new.self.items c.pop.ensures.items c.args.self.now.counted }

pub returns : goal.returns
returns c =
    let len : vec_len c.args.self.now.opened ≡ length c.args.self.now.opened.items = search rules in
    outer_popped c.pop.result c.args.self.now.opened.items c.pop.new.self.items c.pop.ensures.items
    (subst (λ (n : ℕ). MatchOption c.pop.result (n ≡ 0) (λ _. ⊤)) len
    (none_there c.pop.result (vec_len c.args.self.now.opened) (vec_len c.pop.new.self) c.pop.ensures.cases))
