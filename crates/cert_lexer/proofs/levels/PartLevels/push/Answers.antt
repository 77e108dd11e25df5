use Rattle.std.proofs.Common.{◌≡◌, ℕ, Option, ◌∷◌, ◌++◌, [], ap, sym, ◌∙◌, arith}
use Rattle.cert_lexer.proofs.ShallowLaws.{held_skip, held_deep, held_more, capped_deep, capped_shallow, capped_none}
use Rattle.cert_lexer.proofs.levels.PartLevels.push.Goals as goal

pub returns-then-self : goal.returns-then-self
returns-then-self c = λ marks m e h.
    held_skip c.args.self.now.levels.items marks m c.args.self.now.deep c.if-self.true h

pub returns-in-Some : goal.returns-in-Some
returns-in-Some c = λ marks m e h.
    let over = c.if-level-gt-BOUND_LEVELS.true in
    held_deep c.args.self.now.levels.items marks m c.args.self.now.deep c.if-self.false
    (capped_deep c.in-Some.level m (sym c.in-Some.is ∙ e) (omega (arith, over))) h

pub returns-in_ok-push-in-Some-2 : goal.returns-in_ok-push-in-Some-2
returns-in_ok-push-in-Some-2 c = λ marks m e h.
    let within = c.if-level-gt-BOUND_LEVELS.false in
    let same : c.in-Some.level ≡ c.in-Some-2.level = cc (c.in-Some.is, c.in-Some-2.is) in
    let t = capped_shallow c.in-Some-2.level m (sym c.in-Some-2.is ∙ e) (omega (arith, within, same)) in
    held_more c.args.self.now.levels.items c.push.new.self.items marks m c.args.self.now.deep c.if-self.false t.0
    (c.in_ok-push-in-Some-2.ensures.items ∙ ap (λ (x : Option ℕ). c.args.self.now.levels.items ++ x ∷ []) t.1) h

pub returns-in_ok-push-in-None : goal.returns-in_ok-push-in-None
returns-in_ok-push-in-None c = λ marks m e h.
    let t = capped_none m (sym c.in-None.is ∙ e) in
    held_more c.args.self.now.levels.items c.push-in-None.new.self.items marks m c.args.self.now.deep c.if-self.false t.0
    (c.in_ok-push-in-None.ensures.items ∙ ap (λ (x : Option ℕ). c.args.self.now.levels.items ++ x ∷ []) t.1) h
