-- `record_numbers`: the period's third byte is the last one.
use Rattle.writing.proofs.Bytes.{record_is}
use Rattle.writing.proofs.record_numbers.Goals as goal

pub returns : goal.returns
returns c = record_is c.args.f c.requires
