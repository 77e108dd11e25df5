-- If the first state is unique, and each state has one next state, the last state is unique.
use Rattle.std.proofs.Common.{◌≡◌, ◌⊎◌, inl, inr, ℕ, zero, suc, ◌+◌, sym, subst, arith}
use Rattle.bound_fixpoint.proofs.Cases.{either}

module _ {A : Type 0} (Begins : A → Type 0) (Follows : A → A → Type 0) (begin_one : (a b : A) → Begins a → Begins b → a
    ≡ b) (next_one : (old a b : A) → Follows old a → Follows old b → a ≡ b) where
  -- the state after this many steps
  abbrev pub IsAfter : ℕ → A → Type 0
  IsAfter zero c = Begins c
  IsAfter (suc n) c = (old : A) × IsAfter n old × Follows old c

  after_one : (n : ℕ) (a b : A) → IsAfter n a → IsAfter n b → a ≡ b
  after_one zero a b h k = begin_one a b h k
  after_one (suc n) a b h k =
      let before = after_one n h.0 k.0 h.1 k.1 in
      next_one k.0 a b (subst (λ (c : A). Follows c a) before h.2) k.2

  -- after a state that is its own next one, all states are that one
  pub after_last : (n : ℕ) (a : A) → IsAfter n a → Follows a a → (k m : ℕ) → m ≡ k + n → (b : A) → IsAfter m b
      → b ≡ a
  after_last n a h closed zero m e b there =
      let same : m ≡ n = omega (arith, e) in
      after_one n b a (subst (λ (i : ℕ). IsAfter i b) same there) h
  after_last n a h closed (suc k) zero e b there = absurd (omega (arith, e))
  after_last n a h closed (suc k) (suc m) e b there =
      let before = after_last n a h closed k m (omega (arith, e)) there.0 there.1 in
      next_one a b a (subst (λ (c : A). Follows c b) before there.2) closed

  order : (m n : ℕ) → ((d : ℕ) × (n ≡ d + m)) ⊎ ((d : ℕ) × (m ≡ d + n))
  order zero n = inl (n, omega arith)
  order (suc m) zero = inr (suc m, omega arith)
  order (suc m) (suc n) = either (order m n) (λ l. inl (l.0, omega (arith, l.1))) (λ l. inr (l.0, omega (arith, l.1)))

  -- the last element is unique
  pub last_after_one : (m n : ℕ) (a b : A) → IsAfter m a → Follows a a → IsAfter n b → Follows b b → a ≡ b
  last_after_one m n a b h closed k done =
      either (order m n) (λ l. sym (after_last m a h closed l.0 n l.1 b k))
      (λ l. after_last n b k done l.0 m l.1 a h)
