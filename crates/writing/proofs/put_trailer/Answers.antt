-- `put_trailer`: start, sizes and tag, one behind the other.
use mathlib.Core.Path.{◌∙◌}
use Rattle.writing.proofs.Bytes.{start_is, trailer_sets}
use Rattle.writing.proofs.put_trailer.Goals as goal

pub returns : goal.returns
returns c =
    let a = c.args in
    let start = c.to_le_bytes.ensures ∙ start_is a.start in
    rw (c.put-3.ensures, c.put-2.ensures, c.put.ensures, c.size_bytes.ensures, start)
    (trailer_sets a.target.now a.at a.start a.count a.torus.sx a.torus.sy)
