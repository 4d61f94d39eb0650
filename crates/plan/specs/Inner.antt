-- What inner functions ask of a trailer. No call's promise names it.
use Rattle.std.specs.Prelude.{◌≡◌, ℕ, ◌+◌, ◌-◌, ◌*◌, ◌≤◌}
use Rattle.flow.specs.Plan.{most_flows}
use Rattle.flow.specs.Ranges.{SizeOk}
use Rattle.file.specs.declared.Trailer.{Trailer}
use Rattle.file.specs.Layout.{record_size, trailer_size}

-- a trailer that fits a file of the given length
pub record Framed (t : Trailer) (len : ℕ) : Type 0 where
  pub sx_ok : SizeOk t.sx
  pub sy_ok : SizeOk t.sy
  pub count_least : 1 ≤ t.count
  pub count_most : t.count ≤ most_flows
  pub ends : t.start + record_size * t.count ≡ len - trailer_size
