use Rattle.check_potentials.proofs.lemmas.refusal_given.Goals as goal

pub lemma_refusal-requires-clause-known : goal.lemma_refusal-requires-clause-known
lemma_refusal-requires-clause-known c = record { tell = c.requires.tell; all = c.requires.all }
