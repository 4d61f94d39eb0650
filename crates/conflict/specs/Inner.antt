-- What inner functions ask of two flows, and how large a spread can be. No call's promise names these.
use Rattle.std.specs.Prelude.{ℕ}
use Rattle.flow.specs.declared.Flow.{Flow}
use Rattle.flow.specs.Ranges.{FlowOk}

-- two flows of one plan, as far as their conflict goes
pub record Pair (sx sy : ℕ) (f g : Flow) : Type 0 where
  pub own : FlowOk sx sy f
  pub other : FlowOk sx sy g

-- no spread is larger: fewer than 16 rows, of at most 16 columns each
abbrev pub most_spread : ℕ
most_spread = 256
