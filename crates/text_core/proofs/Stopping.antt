-- Reading can stop once no fault that is still to come is before the first one shown.
use Rattle.std.proofs.Common.{◌≡◌, ℕ, ◌≤◌, ◌<◌, List, [], ◌∷◌, Option, Some, None, refl, ap, sym, inl, inr, arith}
use Rattle.text_core.specs.Tokens.{Token, pieces, AreInOrder}
use Rattle.text_core.specs.Readers.{Fault, Reader, onto, reached}
use Rattle.text_core.specs.Faults.{next_at, NotAfter}
use Rattle.text_core.specs.Reading.{Answer, Parsed, Refused, Going, run}
use Rattle.text_core.specs.Laws.{Laws}
use Rattle.text_core.specs.Stopping.{last_at, IsBehind, ShowsBehind, ShowsNext}
use Rattle.text_core.proofs.FirstFaults.{Ahead, IsRest, same_first, run_is}

-- the next of some tokens in order isn't before the position where they begin
pub next_behind : {P : Type 0} (rest : List (Token P)) (n from : ℕ) → AreInOrder from rest n → from ≤ next_at n rest
next_behind [] n from h = h
next_behind (t ∷ rest) n from h = h.0

-- if the last token ends at or before a position, it ends at or before each greater one
behind_on : {P : Type 0} (done : List (Token P)) (from to : ℕ) → IsBehind done from → from ≤ to → IsBehind done to
behind_on [] from to l h = tt
behind_on (t ∷ done) from to l h = (l.0, (let k = l.1 in omega (arith, h, k)))

-- the last token's first byte is at or before the position at which it ends
pub last_before : {P : Type 0} (done : List (Token P)) (from : ℕ) → IsBehind done from → last_at done ≤ from
last_before [] from l = omega arith
last_before (t ∷ done) from l = let a = l.0 in let b = l.1 in omega (arith, a, b)

module _ {P T F K : Type 0} (r : Reader P T F K) where
  -- if each fault is shown at the next token, all faults to come are at or after this position
  pub ahead_next : ShowsNext r → (rest : List (Token P)) (n from : ℕ) (done : List (Token P)) (o : Option F) (x : Fault K) → AreInOrder from rest n → Ahead r n done o rest x → from ≤ x.at
  ahead_next s [] n from done None x h a = absurd a
  ahead_next s [] n from done (Some f) x h (inl a) = let e = s.each n done f [] x a in omega (arith, e, h)
  ahead_next s [] n from done (Some f) x h (inr b) = let e : n ≡ x.at = ap (λ (y : Fault K). y.at) b.1 in omega (arith, e, h)
  ahead_next s (t ∷ rest) n from done None x h a = absurd a
  ahead_next s (t ∷ rest) n from done (Some f) x h (inl (inl a)) = let e = s.each n done f (t ∷ rest) x a in let g = h.0 in omega (arith, e, g)
  ahead_next s (t ∷ rest) n from done (Some f) x h (inl (inr b)) = let e : t.at ≡ x.at = ap (λ (y : Fault K). y.at) b.1 in let g = h.0 in omega (arith, e, g)
  ahead_next s (t ∷ rest) n from done (Some f) x h (inr a) =
      let e = ahead_next s rest n t.upto (t ∷ done) (r.step f t.piece) x h.2 a in let g = h.0 in let k = h.1 in omega (arith, e, g, k)

  -- if states show no fault before the last token's first byte, all faults to come are at or after that byte
  pub ahead_behind : ShowsBehind r → (rest : List (Token P)) (n from : ℕ) (done : List (Token P)) (o : Option F) (x : Fault K) → IsBehind done from → AreInOrder from rest n → Ahead r n done o rest x → last_at done ≤ x.at
  ahead_behind s [] n from done None x l h a = absurd a
  ahead_behind s [] n from done (Some f) x l h (inl a) = s.each n done f [] x (behind_on done from n l h) a
  ahead_behind s [] n from done (Some f) x l h (inr b) = let e : n ≡ x.at = ap (λ (y : Fault K). y.at) b.1 in let k = last_before done from l in omega (arith, e, h, k)
  ahead_behind s (t ∷ rest) n from done None x l h a = absurd a
  ahead_behind s (t ∷ rest) n from done (Some f) x l h (inl (inl a)) = s.each n done f (t ∷ rest) x (behind_on done from t.at l h.0) a
  ahead_behind s (t ∷ rest) n from done (Some f) x l h (inl (inr b)) = let e : t.at ≡ x.at = ap (λ (y : Fault K). y.at) b.1 in let g = h.0 in let k = last_before done from l in omega (arith, e, g, k)
  ahead_behind s (t ∷ rest) n from done (Some f) x l h (inr a) =
      let g = h.0 in let k = last_before done from l in
      let e = ahead_behind s rest n t.upto (t ∷ done) (r.step f t.piece) x (h.1, omega arith) h.2 a in omega (arith, e, g, k)

  -- if each fault to come is after the fault so far, that fault is the answer
  pub settled : Laws r → (n : ℕ) (done rest : List (Token P)) (f : F) (x : Fault K) → reached r (pieces done) ≡ Some f → ((y : Fault K) → Ahead r n done (Some f) rest y → x.at < y.at)
      → run r n (Going (Some x) done f) rest ≡ Refused x
  settled laws n done rest f x e behind = go (run r n (Going (Some x) done f) rest) (run_is r laws rest n done f (Some x) e)
    where
      go : (a : Answer T K) → IsRest r laws (Some x) (Ahead r n done (Some f) rest) (pieces (onto done rest)) a → a ≡ Refused x
      go (Parsed t) h = let k = h.0 in cc
      go (Refused z) (inl k, least) = let s : x ≡ z = cc in ap Refused (sym s)
      go (Refused z) (inr a, least) = let b = behind z a in let p = (least x (inl refl)).position in absurd (omega (arith, b, p))

  -- if states show no fault before the last token's first byte, a fault before that byte is the answer
  pub stops_early : Laws r → ShowsBehind r → (n from : ℕ) (done rest : List (Token P)) (f : F) (x : Fault K) → reached r (pieces done) ≡ Some f → IsBehind done from → AreInOrder from rest n → x.at < last_at done
      → run r n (Going (Some x) done f) rest ≡ Refused x
  stops_early laws s n from done rest f x e l h before = settled laws n done rest f x e (λ y a. let k = ahead_behind s rest n from done (Some f) y l h a in omega (arith, before, k))

  -- the first of the faults to come is the answer
  pub first_ahead : Laws r → (n : ℕ) (done rest : List (Token P)) (f : F) (x : Fault K) → reached r (pieces done) ≡ Some f
      → Ahead r n done (Some f) rest x → ((y : Fault K) → Ahead r n done (Some f) rest y → NotAfter r x y) → run r n (Going None done f) rest ≡ Refused x
  first_ahead laws n done rest f x e is least = go (run r n (Going None done f) rest) (run_is r laws rest n done f None e)
    where
      go : (a : Answer T K) → IsRest r laws None (Ahead r n done (Some f) rest) (pieces (onto done rest)) a → a ≡ Refused x
      go (Parsed t) h = absurd (h.1 x is)
      go (Refused z) (inl k, before) = cc
      go (Refused z) (inr a, before) = ap Refused (same_first r laws z x (before x (inr is)) (least z a))
