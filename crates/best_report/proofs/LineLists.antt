-- Lists of lines to which one is added.
use Rattle.std.proofs.Common.{◌≡◌, ◌∙◌, ◌++◌, ◌+◌, ◌<◌, ℕ, List, [], ◌∷◌, map, length, get_or, drop, sym, ap, subst}
use Rattle.std.proofs.Common.{append_assoc}
use Rattle.std.proofs.lemmas.List.{drop_more, map-append}
use Rattle.std.specs.List.{AllByRecursion}
use Rattle.best_report.specs.declared.line.Line as code
use Rattle.best_report.specs.declared.subject.Subject.{Subject}
use Rattle.best_report.specs.Lines.{Line, line_of}

-- a property of all items of a list, and of one more
pub each-more : {A B : Type 0} (P : B → Type 0) (f : A → B) (xs ys : List A) (x : A) → ys ≡ xs ++ x ∷ []
    → AllByRecursion P (map f xs) → P (f x) → AllByRecursion P (map f ys)
each-more {A} {B} P f xs ys x e all one =
    subst (λ (zs : List B). AllByRecursion P zs) (sym (ap (map f) e ∙ map-append f xs (x ∷ []))) (go (map f xs) all)
  where
    go : (zs : List B) → AllByRecursion P zs → AllByRecursion P (zs ++ f x ∷ [])
    go [] h = (one, tt)
    go (z ∷ zs) (h, hs) = (h, go zs hs)

-- the subjects of lines
abbrev pub subjects : List Line → List Subject
subjects lines = map (λ l. l.subject) lines

-- the subjects of lines and of one more, and those that are left behind it
pub subjects-more : (xs ys : List code.Line) (x : code.Line) (ws : List Subject) (i : ℕ) (w : Subject)
    → ys ≡ xs ++ x ∷ [] → x.subject ≡ w → i < length ws → w ≡ get_or ws i w
    → subjects (map line_of xs) ++ drop i ws ≡ ws → subjects (map line_of ys) ++ drop (i + 1) ws ≡ ws
subjects-more xs ys x ws i w e s low is h =
    let left : drop i ws ≡ w ∷ drop (i + 1) ws = drop_more ws i w low ∙ ap (λ (v : Subject). v ∷ drop (i + 1) ws) (sym is) in
    ap (λ (zs : List code.Line). subjects (map line_of zs) ++ drop (i + 1) ws) e
    ∙ (ap (λ (zs : List Line). subjects zs ++ drop (i + 1) ws) (map-append line_of xs (x ∷ []))
    ∙ (ap (λ (zs : List Subject). zs ++ drop (i + 1) ws) (map-append (λ l. l.subject) (map line_of xs) (line_of x ∷ []))
    ∙ (append_assoc (subjects (map line_of xs)) (x.subject ∷ []) (drop (i + 1) ws)
    ∙ (ap (λ (v : Subject). subjects (map line_of xs) ++ v ∷ drop (i + 1) ws) s
    ∙ (ap (λ (zs : List Subject). subjects (map line_of xs) ++ zs) (sym left) ∙ h)))))
