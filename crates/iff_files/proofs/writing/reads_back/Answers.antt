use Rattle.iff_files.proofs.ReadSaves as saves
use Rattle.iff_files.proofs.writing.reads_back.Goals as goal

pub returns : goal.returns
returns c = saves.reads_back
