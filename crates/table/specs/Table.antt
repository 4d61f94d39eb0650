-- What the program prints for a plan file (01, Cases on both sides, at the end).
use Rattle.std.specs.Prelude.{List, [], ◌∷◌, ◌++◌, ℕ, length}
use Rattle.laws.specs.Count.{join_below}
use Rattle.flow.specs.declared.Flow.{Flow}
use Rattle.flow.specs.declared.Port.{Port}
use Rattle.flow.specs.declared.Port.TheVariants.{East, South}
use Rattle.flow.specs.Offsets.{port_of}
use Rattle.flow.specs.Plan.{Plan, flow_at}
use Rattle.refusal.specs.Answer.{Answer, Done, Refused}
use Rattle.file.specs.Layout.{plan_of}
use Rattle.plan.specs.Refusals.{plan_answer}
use Rattle.window.specs.Window.{Window}
use Rattle.std.specs.Prelude.{Some, None}
use Rattle.window.specs.Window.{window_of, lone_wait}
use Rattle.flight.specs.Flight.{flight_bound}
use Rattle.table.specs.Decimal.{decimal}

-- the end of a line
abbrev pub newline : List ℕ
newline = 10 ∷ []

-- a space and a number
abbrev pub field : ℕ → List ℕ
field n = (32 ∷ []) ++ decimal n

-- a space and `-`
abbrev pub no_field : List ℕ
no_field = 32 ∷ 45 ∷ []

-- a space and the port, `E` or `S`
abbrev pub port_field : Port → List ℕ
port_field East = 32 ∷ 69 ∷ []
port_field South = 32 ∷ 83 ∷ []

-- what T gives, or `-` on 14
abbrev pub window_field : (given : ℕ → ℕ) → Window → List ℕ
window_field given (Some T) = field (given T)
window_field given None = no_field

-- number, port, T, flight bound, lone wait
unfoldable pub row : ℕ → Flow → Port → Window → ℕ → List ℕ
row f flow port window flight =
    decimal f ++ port_field port ++ window_field (λ T. T) window ++ field flight ++ window_field (lone_wait flow) window ++ newline

-- the line of flow number f
unfoldable pub line : Plan → ℕ → List ℕ
line p f =
    let flow = flow_at p f in
    row f flow (port_of p.sx flow) (window_of p f) (flight_bound p flow)

-- "flow port window flight wait"
abbrev pub header : List ℕ
header =
    102 ∷ 108 ∷ 111 ∷ 119 ∷ 32 ∷ 112 ∷ 111 ∷ 114 ∷ 116 ∷ 32 ∷ 119 ∷ 105 ∷ 110 ∷ 100 ∷ 111 ∷ 119 ∷ 32
    ∷ 102 ∷ 108 ∷ 105 ∷ 103 ∷ 104 ∷ 116 ∷ 32 ∷ 119 ∷ 97 ∷ 105 ∷ 116 ∷ newline

-- "refused", number, place
abbrev pub refused_line : ℕ → ℕ → List ℕ
refused_line number place = (114 ∷ 101 ∷ 102 ∷ 117 ∷ 115 ∷ 101 ∷ 100 ∷ []) ++ field number ++ field place ++ newline

abbrev pub table_by : Answer → Plan → List ℕ
table_by (Done v) p = header ++ join_below (length p.flows) (line p)
table_by (Refused number place) p = refused_line number place

-- the table of a plan file; a refused file prints one line and no header
unfoldable pub table_of : List ℕ → List ℕ
table_of file = table_by (plan_answer file) (plan_of file)
