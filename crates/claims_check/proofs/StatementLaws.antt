-- What claims state, from what is found for them.
use Rattle.std.proofs.Common.{◌≡◌, ◌∙◌, ◌≤◌, ◌<◌, ℕ, zero, suc, Bool, true, false, cond, List, [], ◌∷◌, length, map}
use Rattle.std.proofs.Common.{Option, Some, None, Result, refl, sym, ap, subst, arith}
use Rattle.std.specs.Prelude.{slice_get, MatchResult}
use Rattle.model.specs.Terms.{Term}
use Rattle.model.specs.Programs.{Rule, rule_at}
use Rattle.model.specs.Polynomials.{Polynomial}
use Rattle.refinement.specs.Sections.{Copy}
use Rattle.its_model.specs.declared.program.Rule as code_rule
use Rattle.its_model.specs.declared.program.Program as code_program
use Rattle.its_model.specs.Views.{rule_of, program_of}
use Rattle.program_claims.specs.Claims.{Stated, AtSymbol}
use Rattle.program_claims.specs.Copies.{copies_of, update_at}
use Rattle.program_claims.specs.Evidence.{Evidence}
use Rattle.program_claims.specs.Heads.{are_heads_there}
use Rattle.program_claims.specs.SymbolFacts.{has_copy, have_facts_below}
use Rattle.program_claims.specs.Verdicts.{Verdict, Accepted, Refused, NoCopy, NoFact, verdict_map}
use Rattle.program_claims.specs.Acceptance.{are_copies_within, head_reason, symbol_stated}
use Rattle.claims_check.specs.Views.{IsRefusal}
use Rattle.claims_check.specs.Places.{PlaceClaim, place_reason}
use Rattle.claims_check.specs.declared.reason.ClaimFault.{ClaimFault}
use Rattle.claims_check.proofs.VerdictLaws.{refusal-of, refusal-map}

-- an answer for a verdict is one for an equal verdict
pub answer-same : {A B : Type 0} (result : Result B ClaimFault) (f : B → A) (v w : Verdict A) → v ≡ w
    → MatchResult result (λ b. v ≡ Accepted (f b)) (λ fault. IsRefusal v fault)
    → MatchResult result (λ b. w ≡ Accepted (f b)) (λ fault. IsRefusal w fault)
answer-same result f v w e h =
    subst (λ (u : Verdict _). MatchResult result (λ b. u ≡ Accepted (f b)) (λ fault. IsRefusal u fault)) e h

-- what is accepted, or refused, of a function of a verdict
pub mapped-accepted : {A B : Type 0} (f : A → B) (v : Verdict A) (w : Verdict B) (b : A) → w ≡ verdict_map f v
    → v ≡ Accepted b → w ≡ Accepted (f b)
mapped-accepted f v w b e h = e ∙ ap (verdict_map f) h

pub mapped-refused : {A B : Type 0} (f : A → B) (v : Verdict A) (w : Verdict B) (fault : ClaimFault)
    → w ≡ verdict_map f v
    → IsRefusal v fault → IsRefusal w fault
mapped-refused f v w fault e h = refusal-of w (verdict_map f v) fault e (refusal-map f v fault h)

-- a rule that is found by its number is there
get-there : (rs : List code_rule.Rule) (i : ℕ) (r : Rule) → Some r ≡ slice_get (map rule_of rs) i → i < length rs
get-there [] i r h = cc
get-there (q ∷ rs) zero r h = omega arith
get-there (q ∷ rs) (suc i) r h = let low = get-there rs i r h in omega (arith, low)

pub rule-there : (p : code_program.Program) (n : ℕ) (r : Rule) → Some r ≡ rule_at (program_of p) n
    → n ≤ length p.rules.items
rule-there p zero r h = omega arith
rule-there p (suc t) r h = let low = get-there p.rules.items t r h in omega (arith, low)

pub update-there : (p : code_program.Program) (n place : ℕ) (u : Term)
    → Some u ≡ update_at (rule_at (program_of p) n) place → n ≤ length p.rules.items
update-there p n place u h = go (rule_at (program_of p) n) refl h where
  go : (o : Option Rule) → rule_at (program_of p) n ≡ o → Some u ≡ update_at o place → n ≤ length p.rules.items
  go None e k = cc
  go (Some r) e k = rule-there p n r (sym e)

module _ (e : Evidence) (c : PlaceClaim) (form : Polynomial) where
  -- the reason of a claim on a place, by what facts are found
  pub place-high : (test : Bool) → test ≡ are_copies_within e c.rule c.place c.numbers c.bound form → test ≡ true
      → None ≡ place_reason e c form
  place-high test h k =
      ap (λ (v : Bool). cond v None (Some (head_reason (are_heads_there e.facts form c.place
      (copies_of e.above e.projection c.rule) c.numbers)))) (sym k ∙ h)

  pub place-low : (test there : Bool) → test ≡ are_copies_within e c.rule c.place c.numbers c.bound form → test ≡ false
      → there ≡ are_heads_there e.facts form c.place (copies_of e.above e.projection c.rule) c.numbers
      → Some (head_reason there) ≡ place_reason e c form
  place-low test there h k l =
      ap (λ (v : Bool). Some (head_reason v)) l
      ∙ ap (λ (v : Bool). cond v None (Some (head_reason (are_heads_there e.facts form c.place
      (copies_of e.above e.projection c.rule) c.numbers)))) (sym k ∙ h)

module _ (symbol : ℕ) (f : Term) (copies : List Copy) where
  -- what a claim on a symbol states, by what its copies have
  abbrev by-tests : Bool → Bool → Verdict Stated
  by-tests a b = cond a (cond b (Accepted (AtSymbol symbol f)) (Refused NoFact)) (Refused NoCopy)

  pub symbol-absent : (a : Bool) → a ≡ has_copy symbol copies → a ≡ false
      → symbol_stated symbol f copies ≡ Refused NoCopy
  symbol-absent a h k = ap (λ (v : Bool). by-tests v (have_facts_below symbol f copies)) (sym h ∙ k)

  pub symbol-unmet : (a b : Bool) → a ≡ has_copy symbol copies → a ≡ true → b ≡ have_facts_below symbol f copies
      → b ≡ false
      → symbol_stated symbol f copies ≡ Refused NoFact
  symbol-unmet a b h k l m =
      ap (λ (v : Bool). by-tests v (have_facts_below symbol f copies)) (sym h ∙ k)
      ∙ ap (λ (v : Bool). by-tests true v) (sym l ∙ m)

  pub symbol-met : (a b : Bool) → a ≡ has_copy symbol copies → a ≡ true → b ≡ have_facts_below symbol f copies
      → b ≡ true
      → symbol_stated symbol f copies ≡ Accepted (AtSymbol symbol f)
  symbol-met a b h k l m =
      ap (λ (v : Bool). by-tests v (have_facts_below symbol f copies)) (sym h ∙ k)
      ∙ ap (λ (v : Bool). by-tests true v) (sym l ∙ m)
