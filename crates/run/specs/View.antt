-- The state that a packet book has: every word of it is the book's (01, The packet book).
use Rattle.std.specs.Prelude.{List, [], ◌∷◌, ℕ, length, Some, None}
use Rattle.laws.specs.Bounded.{tabulate}
use Rattle.laws.specs.Grid.{grid}
use Rattle.flow.specs.Plan.{Plan}
use Rattle.place.specs.Place.{Place, W, N}
use Rattle.book.specs.Line.{Line, entry_of}
use Rattle.book.specs.Book.{Book, bucket_at, waiting_of, entered_of}
use Rattle.book.specs.Cycle.{lines_in}
use Rattle.state.specs.Register.{Register, packet_with}
use Rattle.state.specs.declared.Tally.{Tally}
use Rattle.state.specs.declared.Cell.{Cell}
use Rattle.state.specs.State.{State}

-- a line as a register has it: flow, serial, entry cycle, deflections D
abbrev pub packet_of : Line → Register
packet_of l = Some (packet_with l.flow l.serial (entry_of l.stage) l.D)

-- a register with these lines placed in it; no two lines share a place
abbrev pub holding : List Line → Register
holding [] = None
holding (l ∷ ls) = packet_of l

-- a register holds the line placed there or is empty
unfoldable pub register_of : Book → Place → Register
register_of b at = holding (lines_in b at)

abbrev pub cell_of : Book → (x y : ℕ) → Cell
cell_of b x y = record { west = register_of b (W x y); north = register_of b (N x y) }

-- tokens and count, entered (the flow's lines with an entry), waiting
abbrev pub tally_of : Book → ℕ → Tally
tally_of b f = record { bucket = bucket_at b f; entered = entered_of b f; waiting = waiting_of b f }

unfoldable pub book_state : Plan → Book → State
book_state p b =
    record {
      plan = p;
      clock = b.clock;
      tallies = tabulate (length p.flows) (tally_of b);
      cells = grid p.sx p.sy (cell_of b);
    }
