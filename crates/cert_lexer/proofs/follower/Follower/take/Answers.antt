use Rattle.std.proofs.Common.{Option, refl, ap, sym, ◌∙◌}
use Rattle.bound_text.specs.Printing.{piece_of}
use Rattle.cert_lexer.specs.declared.outline.Frame.{Frame}
use Rattle.cert_lexer.specs.Outlines.{innermost_frame, lead}
use Rattle.cert_lexer.specs.Representation.{frames_in}
use Rattle.cert_lexer.proofs.FollowerLaws.{represents_after_piece, state_kept_at_rejection}
use Rattle.cert_lexer.proofs.follower.Follower.take.Goals as goal

pub returns-in_ok-follow-in-Some : goal.returns-in_ok-follow-in-Some
returns-in_ok-follow-in-Some c = λ f s.
    represents_after_piece f (piece_of c.args.piece) c.args.self.now c.follow.new.self c.take.new.self
    (innermost_frame (frames_in c.args.self.now.outline)) c.in-Some.lead s refl
    (sym c.in-Some.is ∙ c.lead.ensures ∙ ap (λ (o : Option Frame). lead o c.args.self.now.outline.innermost
    (piece_of c.args.piece)) c.round-round.ensures) c.in_ok-follow-in-Some.ensures.frames
    c.in_ok-follow-in-Some.ensures.innermost c.in_ok-take-in-Some.ensures

pub returns-in-None : goal.returns-in-None
returns-in-None c = λ f s. (
  state_kept_at_rejection f (piece_of c.args.piece) c.args.self.now c.round-round.result s c.round-round.ensures
      (sym c.in-None.is ∙ c.lead.ensures),
  s,
)
