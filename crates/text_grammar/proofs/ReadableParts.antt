-- A grammar can be parsed if its test holds at each class of pieces, at the end and at the sample pieces; so the test
-- is computed class by class.
use Rattle.std.proofs.Common.{◌≡◌, ℕ, zero, suc, Bool, true, false, ◌&&◌, refl}
use Rattle.std.specs.Prelude.{◌==◌, ⊤}
use Rattle.text_grammar.specs.Grammars.{Grammar}
use Rattle.text_grammar.specs.Sounding.{each_below, is_flagged, follows, completed, agrees, is_readable}

-- a statement holds of each number below a limit
abbrev pub Below : ℕ → (ℕ → Type 0) → Type 0
Below zero P = ⊤
Below (suc n) P = P n × Below n P

-- two tests that are true are true together
both_true : (a b : Bool) → a ≡ true → b ≡ true → a && b ≡ true
both_true true b h k = k
both_true false b h k = cc

-- a test that is true of each number below a limit is true of all of them together
each_is_true : (n : ℕ) (test : ℕ → Bool) → Below n (λ k. test k ≡ true) → each_below n test ≡ true
each_is_true zero test h = refl
each_is_true (suc n) test (h, more) = both_true (test n) (each_below n test) h (each_is_true n test more)

-- a grammar whose parts pass their tests can be parsed
pub readable_by : {P : Type 0} (g : Grammar P) → Below (suc g.classes) (λ c. agrees g c ≡ true)
    → is_flagged (follows g g.classes) 0 ≡ true → is_flagged (completed g) 0 ≡ true
    → each_below g.classes (λ c. g.class_of (g.sample c) == c) ≡ true → is_readable g ≡ true
readable_by g h ends completes sampled =
    let a = each_is_true (suc g.classes) (agrees g) h in
    let b = both_true (each_below (suc g.classes) (agrees g)) _ a ends in
    let d = both_true (each_below (suc g.classes) (agrees g) && is_flagged (follows g g.classes) 0) _ b completes in
    both_true _ _ d sampled
