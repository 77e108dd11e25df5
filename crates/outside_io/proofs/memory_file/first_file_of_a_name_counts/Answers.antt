use Rattle.outside_io.proofs.MemoryFileLemmas.{first_counts}
use Rattle.outside_io.proofs.memory_file.first_file_of_a_name_counts.Goals as goal

pub returns : goal.returns
returns c = first_counts
