-- No fault is shown before a text's floor, so a refusal before the floor is the answer.
use Rattle.std.proofs.Common.{◌≡◌, ℕ, ◌≤◌, ◌<◌, List, [], ◌∷◌, Some, ap, inl, inr, arith}
use Rattle.text_core.specs.Tokens.{Token, pieces, AreInOrder}
use Rattle.text_core.specs.Readers.{Fault, reached}
use Rattle.text_core.specs.Faults.{Among, next_at}
use Rattle.text_core.specs.Reading.{Refused, Going, run}
use Rattle.text_core.proofs.FirstFaults.{Ahead, nowhere_ahead}
use Rattle.text_core.proofs.Stopping.{next_behind, settled}
use Rattle.text_grammar.specs.Grammars.{Event, Read, Did}
use Rattle.text_grammar.specs.Leads.{Lead, Matches, Passes, Stuck}
use Rattle.text_grammar.specs.Texts.{Text, ParserState, did, stepped, lead_at, shown_by, reader, IsLawful}
use Rattle.text_grammar.proofs.ReaderLaws.{reader_laws}

module _ {P T K : Type 0} (x : Text P T K) (lawful : IsLawful x) where
  -- marks don't decrease the floor
  floor_marks : (ms : List ℕ) (es : List (Event P)) (at : ℕ) → x.floor es at ≤ x.floor (did es ms) at
  floor_marks [] es at = omega arith
  floor_marks (m ∷ ms) es at = let a = lawful.floor_did es m at in let b = floor_marks ms (Did m ∷ es) at in omega (arith, a, b)

  -- each fault to come from a state is at or after the state's floor
  pub ahead_floor : (rest : List (Token P)) (n from : ℕ) (done : List (Token P)) (f : ParserState P) (y : Fault K) → AreInOrder from rest n → Ahead (reader x) n done (Some f) rest y
      → x.floor f.events (next_at n rest) ≤ y.at
  ahead_floor [] n from done f y o (inl a) = absurd a
  ahead_floor [] n from done f y o (inr b) = let e : n ≡ y.at = ap (λ (z : Fault K). z.at) b.1 in let l = lawful.floor_next f.events n in omega (arith, e, l)
  ahead_floor (t ∷ rest) n from done f y o (inl (inr b)) = let e : t.at ≡ y.at = ap (λ (z : Fault K). z.at) b.1 in let l = lawful.floor_next f.events t.at in omega (arith, e, l)
  ahead_floor (t ∷ rest) n from done f y o (inl (inl a)) = go (lead_at x f t.piece) a
    where
      go : (l : Lead) → Among y (shown_by x f.events t l) → x.floor f.events t.at ≤ y.at
      go (Matches ms more) a = let b = floor_marks ms f.events t.at in let c = lawful.floor_shown (did f.events ms) t y a in omega (arith, b, c)
      go (Passes ms) a = absurd a
      go Stuck a = absurd a
  ahead_floor (t ∷ rest) n from done f y o (inr a) = go (lead_at x f t.piece) a (λ g b. ahead_floor rest n t.upto (t ∷ done) g y o.2 b)
    where
      go : (l : Lead) → Ahead (reader x) n (t ∷ done) (stepped f.events t.piece l) rest y
          → ((g : ParserState P) → Ahead (reader x) n (t ∷ done) (Some g) rest y → x.floor g.events (next_at n rest) ≤ y.at) → x.floor f.events t.at ≤ y.at
      go (Matches ms more) a ih =
          let b = floor_marks ms f.events t.at in
          let c = lawful.floor_read (did f.events ms) t (next_at n rest) o.1 (next_behind rest n t.upto o.2) in
          let d = ih (record { events = Read t.piece ∷ did f.events ms; expected = more }) a in
          omega (arith, b, c, d)
      go (Passes ms) a ih = absurd (nowhere_ahead (reader x) (reader_laws x lawful) rest n (t ∷ done) y a)
      go Stuck a ih = absurd (nowhere_ahead (reader x) (reader_laws x lawful) rest n (t ∷ done) y a)

  -- a refusal before the floor is the answer
  pub floor_settles : (n from : ℕ) (done : List (Token P)) (rest : List (Token P)) (f : ParserState P) (y : Fault K) → reached (reader x) (pieces done) ≡ Some f → AreInOrder from rest n
      → y.at < x.floor f.events (next_at n rest) → run (reader x) n (Going (Some y) done f) rest ≡ Refused y
  floor_settles n from done rest f y e o before =
      settled (reader x) (reader_laws x lawful) n done rest f y e (λ z a. let l = ahead_floor rest n from done f z o a in omega (arith, before, l))
