-- The words have one request each.
use Rattle.headline.proofs.Words.{words_have_requests}
use Rattle.headline.proofs.words_have_requests.Goals as goal

pub returns : goal.returns
returns c = words_have_requests
