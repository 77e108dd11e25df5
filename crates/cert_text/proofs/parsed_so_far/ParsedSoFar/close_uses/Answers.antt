use Rattle.std.proofs.Common.{◌≡◌, List, ap, ◌∙◌, map}
use Rattle.cert_types.specs.cert_rules.Nodes.{Proof}
use Rattle.cert_types.specs.Views.{proof_of}
use Rattle.cert_text.specs.ParsedSoFar.{draft_of, outer_of, own_of}
use Rattle.cert_text.proofs.KeptLaws.{closes, outer_of-push}
use Rattle.cert_text.proofs.parsed_so_far.ParsedSoFar.close_uses.Goals as goal

pub returns-in-Some : goal.returns-in-Some
returns-in-Some c =
    let x = c.in-Some.field-0 in
    let rests : draft_of c.resting_on.result ≡ record (draft_of x.draft) { uses = map proof_of c.replace-uses.result.items } =
    c.resting_on.ensures in
    let taken : map proof_of c.replace-uses.result.items ≡ map proof_of c.args.self.now.used.items =
    ap (λ v. map proof_of v.items) c.replace-uses.ensures.value in
    let left : map proof_of c.replace-uses.new.dest.items ≡ map proof_of x.used.items =
    ap (λ v. map proof_of v.items) c.replace-uses.ensures.after in
    closes (own_of c.args.self.now) (draft_of x.draft) (map proof_of x.used.items)
    (outer_of c.args.self.now.outer.items) (draft_of c.resting_on.result) (map proof_of c.replace-uses.new.dest.items)
    (outer_of c.pop.new.self.items) (ap outer_of c.in-Some.ensures.items ∙ outer_of-push c.pop.new.self.items x)
    (rests ∙ ap (λ (us : List Proof). record (draft_of x.draft) { uses = us }) taken) left
