-- The requests of the words after a command.
use Rattle.std.proofs.Common.{◌≡◌, ◌≢◌, ℕ, List, [], ◌∷◌, ◌++◌, Option, Some, None, MatchOption, ◌+◌, sym, ◌∙◌, ap}
use Rattle.std.proofs.Common.{subst, take, drop, length, true, false, refl}
use Rattle.std.specs.Prelude.{nat_eq}
use Rattle.std.specs.Cmp.Lexicographic.{pointwise, same_text, other_text}
use Rattle.std.proofs.lemmas.List.{take-append-drop}
use Rattle.command_line.specs.declared.request.Request as declared
use Rattle.command_line.specs.declared.command.Command.{Command}
use Rattle.command_line.specs.Lines.{Word, Words, AreWordsWith}
use Rattle.command_line.specs.Requests.{Request, word_of, command_of, IsRequestWith, HasRequest}
use Rattle.command_line.specs.Steps.{IsRequestOfCommand, HaveNoRequest}
use Rattle.command_line.specs.Views.{request_of}
use Rattle.command_line.proofs.OneWay.{one_line, one_command, request_by, one_by}
use Rattle.command_line.proofs.Firsts.{gives_along}

-- stripping a prefix gives nothing if the word doesn't begin with it
pub prefix_absent : (w p : List ℕ) → pointwise nat_eq (take (length p) w) p ≡ false → (rest : List ℕ) → w ≢ p ++ rest
prefix_absent w p h rest e = other_text (take (length p) w) p (sym h) (ap (take (length p)) e ∙ take_first p rest)
  where
    take_first : (ps rest : List ℕ) → take (length ps) (ps ++ rest) ≡ ps
    take_first [] rest = refl
    take_first (p ∷ ps) rest = ap (λ (qs : List ℕ). p ∷ qs) (take_first ps rest)

-- a word that begins with these bytes is these bytes followed by the stripped rest
pub prefix_present : (w p x : List ℕ) → pointwise nat_eq (take (length p) w) p ≡ true → x ≡ drop (length p) w
    → w ≡ p ++ x
prefix_present w p x h e =
    let first : take (length p) w ≡ p = same_text (take (length p) w) p (sym h) in
    let all : take (length p) w ++ drop (length p) w ≡ w = take-append-drop (length p) w in
    cc

-- a property of the stripped rest of a word, if the word begins with the prefix
pub stripped : {X : Type 0} (r : Option X) (f : X → List ℕ) (w p : List ℕ)
    → MatchOption r (pointwise nat_eq (take (length p) w) p ≡ false)
    (λ x. (pointwise nat_eq (take (length p) w) p ≡ true) × (f x ≡ drop (length p) w)
    × (length (f x) + length p ≡ length w))
    → MatchOption r ((rest : List ℕ) → w ≢ p ++ rest) (λ x. w ≡ p ++ f x)
stripped None f w p h = prefix_absent w p h
stripped (Some x) f w p h = prefix_present w p (f x) h.0 h.1

-- the empty list of words has no request
pub none_of_none : (q : Request) → ¬ (HasRequest [] q)
none_of_none q h = let e : [] ≡ word_of (command_of q) ∷ h.others = h.command in cc

-- words that don't begin with a command have no request
pub none_without_command : (words : Words) (first : Word) (others : Words) → words ≡ first ∷ others
    → ((c : Command) → first ≢ word_of c) → (q : Request) → ¬ (HasRequest words q)
none_without_command words first others e none q h =
    let same : first ≡ word_of (command_of q) = cc (e, h.command) in
    none (command_of q) same

-- if the words after the command give no values and positionals, there is no request
pub none_given : (words : Words) (first : Word) (others : Words) → words ≡ first ∷ others
    → ((v p : Words) → ¬ (AreWordsWith others v p))
    → (q : Request) → ¬ (HasRequest words q)
none_given words first others e none q h =
    let same : others ≡ h.others = cc (e, h.command) in
    none h.values h.positionals (gives_along _ _ _ _ _ _ same refl refl h.gives)

-- the request is that of the given values and positionals
pub request_found : (words : Words) (first : Word) (others vs ps : Words) (c : Command) (r : Option declared.Request)
    → words ≡ first ∷ others → first ≡ word_of c → AreWordsWith others vs ps
    → MatchOption r (HaveNoRequest c vs ps) (λ q. IsRequestOfCommand c vs ps (request_of q))
    → MatchOption r ((q : Request) → ¬ (HasRequest words q)) (λ q. HasRequest words (request_of q))
request_found words first others vs ps c None e f g none = go
  where
    go : (q : Request) → ¬ (HasRequest words q)
    go q h =
        let same : h.others ≡ others = cc (e, h.command) in
        let heads : word_of (command_of q) ≡ word_of c = cc (e, f, h.command) in
        let line = one_line others h.values h.positionals vs ps (gives_along _ _ _ _ _ _ (sym same) refl refl h.gives)
        g in
        none q (record {
          command_is = one_command (command_of q) c heads;
          parts = subst (λ (ws : Words). IsRequestWith q ws ps) line.0
              (subst (λ (ws : Words). IsRequestWith q h.values ws) line.1 h.parts);
        })
request_found words first others vs ps c (Some q) e f g a = record {
  others = others;
  values = vs;
  positionals = ps;
  command = e ∙ ap (λ (w : Word). w ∷ others) (f ∙ ap word_of (sym a.command_is));
  gives = g;
  parts = a.parts;
}

-- a command has no request with these values and positionals if its only possible one isn't a request
pub none_by : (c : Command) (vs ps : Words) → ¬ (IsRequestWith (request_by c vs ps) vs ps) → HaveNoRequest c vs ps
none_by c vs ps none q a =
    none (subst (λ (r : Request). IsRequestWith r vs ps)
    (one_by q vs ps a.parts ∙ ap (λ (d : Command). request_by d vs ps) a.command_is) a.parts)
