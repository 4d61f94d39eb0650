-- What the packet book promises after every list of calls (01, The packet book, its end; 02, U8).
use Rattle.std.specs.Prelude.{Bool, true, ◌&&◌, ◌≡◌, ℕ, ◌+◌, ◌-◌, ◌*◌, ◌≤◌, ◌<◌, eqb, Some}
use mathlib.Core.List.{List, Memᴰ as Mem}
use Rattle.laws.specs.Count.{count}
use Rattle.flow.specs.declared.Flow.{Flow}
use Rattle.flow.specs.Offsets.{ΔY}
use Rattle.flow.specs.Plan.{Plan, flow_at}
use Rattle.window.specs.Window.{window_of}
use Rattle.flight.specs.Flight.{travel, most_deflections}
use Rattle.place.specs.Place.{Place, column_of, row_of}
use Rattle.book.specs.Line.{Stage, waiting, placed, left, Line, is_left, stands_in}
use Rattle.book.specs.Book.{Book}
use Rattle.router.specs.Delivery.{Delivery}
use Rattle.book.specs.Cycle.{delivery_of}

-- offer + (q+1)×(P+T−1) − 1
abbrev pub deadline : Plan → Line → (T : ℕ) → ℕ
deadline p l T = l.offer + (l.q + 1) * ((flow_at p l.flow).period + T - 1) - 1

-- the entry is at most the deadline, or the line is waiting and the clock isn't past that cycle
abbrev pub EntersBy : (deadline clock : ℕ) → Stage → Type 0
EntersBy deadline clock waiting = clock ≤ deadline
EntersBy deadline clock (placed e at) = e ≤ deadline
EntersBy deadline clock (left e t x y) = e ≤ deadline

-- a line with an exit left at (xd, yd) with exit = entry+ΔX+ΔY+D×Sx; an entered line without one has one place, a register of
-- the torus, and the clock isn't past that cycle
abbrev pub Flies : Plan → Flow → (D clock : ℕ) → Stage → Type 0
Flies p f D clock waiting = Unit {0}
Flies p f D clock (placed e at) = (column_of at < p.sx) × (row_of at < p.sy) × (clock ≤ e + travel p.sx p.sy f D)
Flies p f D clock (left e t x y) = (x ≡ f.xd) × (y ≡ f.yd) × (t ≡ e + travel p.sx p.sy f D)

-- two deliveries of the same five words
abbrev pub same_words : Delivery → Delivery → Bool
same_words d e =
    eqb d.flow e.flow && eqb d.serial e.serial && eqb d.entry e.entry && eqb d.exit e.exit && eqb d.D e.D

-- the book and all that was delivered
pub record Promises (p : Plan) (b : Book) (delivered : List Delivery) : Type 0 where
  -- where a line's flow has a window T, it enters in time
  pub enters_by : (l : Line) → Mem l b.lines → (T : ℕ) → window_of p l.flow ≡ Some T → EntersBy (deadline p l T) b.clock l.stage
  -- every D is at most ΔY of its flow
  pub deflections_most : (l : Line) → Mem l b.lines → l.D ≤ ΔY p.sy (flow_at p l.flow)
  -- 02, U8: "at most the number of turning rows among the ΔY rows south of the source, for destination column xd"
  pub deflections_turning : (l : Line) → Mem l b.lines → l.D ≤ most_deflections p (flow_at p l.flow)
  pub flies : (l : Line) → Mem l b.lines → Flies p (flow_at p l.flow) l.D b.clock l.stage
  -- each line with an exit was delivered once, and nothing else was delivered
  pub delivered_once : (l : Line) → Mem l b.lines → is_left l.stage ≡ true → count (λ d. same_words d (delivery_of l)) delivered ≡ 1
  pub delivered_only : (d : Delivery) → Mem d delivered → (l : Line) × Mem l b.lines × (is_left l.stage ≡ true) × (d ≡ delivery_of l)
  -- no two lines share a place
  pub apart : (at : Place) → count (λ (l : Line). stands_in at l.stage) b.lines ≤ 1
