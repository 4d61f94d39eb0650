-- `put_file`: the three runs of stores leave the file's bytes.
use Rattle.writing.proofs.Flows.{file_sets}
use Rattle.writing.proofs.put_file.Goals as goal

pub returns : goal.returns
returns c =
    rw (c.put_trailer.ensures, c.put_records.ensures, c.put.ensures, c.flows-count.ensures.value, c.torus.ensures.sizes.0, c.torus.ensures.sizes.1)
    (file_sets c.args.state.now c.args.notes.now c.args.target.now c.requires.1)
