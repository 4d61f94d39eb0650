-- What the table's functions ask: how much room its parts take at most, and a wait that fits.
use Rattle.std.specs.Prelude.{◌≡◌, ℕ, ◌≤◌}
use Rattle.flow.specs.declared.Flow.{Flow}
use Rattle.flow.specs.Plan.{most_period}
use Rattle.window.specs.Window.{Window}
use Rattle.std.specs.Prelude.{Some}
use Rattle.window.specs.Window.{most_window}

-- the digits of a 32-bit number
abbrev pub most_digits : ℕ
most_digits = 10

-- a space and a number
abbrev pub most_field : ℕ
most_field = 11

abbrev pub most_line : ℕ
most_line = 64

-- a header and 256 lines
abbrev pub most_table : ℕ
most_table = 16448

-- P is in its range, and so is T if there is one
pub record WaitFits (f : Flow) (window : Window) : Type 0 where
  pub period_least : 1 ≤ f.period
  pub period_most : f.period ≤ most_period
  pub window_fits : (T : ℕ) → window ≡ Some T → (1 ≤ T) × (T ≤ most_window)
