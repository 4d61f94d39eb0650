-- `size_bytes`: the two low bytes of F, then Sx and Sy.
use Rattle.file.specs.Bytes.{two_bytes}
use Rattle.writing.proofs.size_bytes.Goals as goal

pub returns : goal.returns
unfolding two_bytes
returns c = rw c.to_le_bytes-c.ensures
