-- One cycle on the state of a book is the book's step, register by register and tally by tally (01, One cycle). Rests on Outputs.
use mathlib.Core.Bool.{Bool, true, false, ◌&&◌}
use mathlib.Core.Path.{◌≡◌, refl, sym, ap, ◌∙◌}
use Prim.Native.Nat.{ℕ, ◌+◌, ◌-◌, ◌<◌}
use native.Mathlib.Omega.{arith}
use lib.ListN.{length}
use Rattle.laws.specs.Count.{one}
use Rattle.laws.proofs.Count.{count_map, count_sum}
use Rattle.laws.proofs.Grid.{tabulate_same, grid_same}
use Rattle.flow.specs.declared.Port.{Port}
use Rattle.flow.specs.Plan.{Plan}
use Rattle.place.specs.Place.{Place, W, N, column_of, row_of}
use Rattle.router.specs.Links.{reach, Output, feeder}
use Rattle.router.specs.Rule.{via}
use Rattle.router.proofs.Links.{feeder_on, reach_feeder}
use Rattle.book.specs.Line.{Line, is_waiting}
use Rattle.book.specs.Book.{Book, of_flow, waits_for, waiting_of}
use Rattle.book.specs.Cycle.{enters, move, stepped}
use Rattle.book.proofs.Moves.{goes, Turn, keeps, stays, comes, turn}
use Rattle.book.proofs.Queue.{goes_count, entered_step}
use Rattle.book.proofs.Spans.{bucket_step}
use Rattle.book.proofs.Sends.{arrivals}
use Rattle.book.proofs.Kept.{Kept}
use Rattle.cycle.specs.Step.{carried, next_register, next_cell, next_tally, step_state}
use Rattle.run.specs.View.{holding, register_of, cell_of, tally_of, book_state}
use Rattle.run.proofs.View.{tally_at_lem, enters_agree}
use Rattle.run.proofs.Outputs.{carries}

module _ (p : Plan) (b : Book) (k : Kept p b) where
  -- the register that an output reaches
  reached : (x y : ℕ) (o : Port) → x < p.sx → y < p.sy → carried (book_state p b) x y (via o) ≡ register_of (stepped p b) (reach p x y o)
  unfolding register_of
  reached x y o l m = carries p b k x y (via o) l m ∙ sym (ap holding (arrivals p b k.lawful x y o l m))

  -- so every register, by the output that feeds it
  next_register_lem : (at : Place) → column_of at < p.sx → row_of at < p.sy → next_register (book_state p b) at ≡ register_of (stepped p b) at
  unfolding next_register book_state
  next_register_lem at column row =
      let o : Output = feeder p at in
      let on = feeder_on p at column row in
      reached o.x o.y o.port on.0 on.1 ∙ ap (register_of (stepped p b)) (reach_feeder p at column row)

  next_cell_lem : (x y : ℕ) → x < p.sx → y < p.sy → next_cell (book_state p b) x y ≡ cell_of (stepped p b) x y
  next_cell_lem x y l m = λ i. record { west = next_register_lem (W x y) l m i; north = next_register_lem (N x y) l m i }

  -- a flow that enters has one waiting line less
  waiting_step : (f : ℕ) → waiting_of b f ≡ waiting_of (stepped p b) f + one (enters p b f)
  waiting_step f =
      count_sum (waits_for f) (λ l. waits_for f (move p b l)) (λ l. of_flow f l && goes p b l) b.lines (λ l m. sums (of_flow f l) l (turn p b l))
      ∙ rw (← (count_map (waits_for f) (move p b) b.lines), goes_count b k.lawful.queued p f)
    where
      sums : (s : Bool) (l : Line) → Turn p b l → one (s && is_waiting l.stage) ≡ one (s && is_waiting (move p b l).stage) + one (s && goes p b l)
      sums false l t = refl
      sums true l (keeps w w' e g) = rw (g, w, w')
      sums true l (stays w w' g) = rw (g, w, w')
      sums true l (comes w w' e g) = rw (g, w, w')

  -- a flow's tally after the step
  next_tally_lem : (f : ℕ) → f < length p.flows → next_tally (book_state p b) f ≡ tally_of (stepped p b) f
  unfolding next_tally book_state
  next_tally_lem f l =
      let bucket = bucket_step p b f l in
      let entered = entered_step b k.lawful.queued p f in
      let waits : waiting_of (stepped p b) f ≡ waiting_of b f - one (enters p b f) = omega (arith, waiting_step f) in
      rw (enters_agree p b k.lawful.plan f, tally_at_lem p b f l) (sym (λ i. record { bucket = bucket i; entered = entered i; waiting = waits i }))

  -- the state of the book after its step
  pub step_follows : step_state (book_state p b) ≡ book_state p (stepped p b)
  unfolding step_state book_state
  step_follows =
      let tallies = tabulate_same (length p.flows) (next_tally (book_state p b)) (tally_of (stepped p b)) next_tally_lem in
      let cells = grid_same p.sx p.sy (next_cell (book_state p b)) (cell_of (stepped p b)) next_cell_lem in
      λ i. record { plan = p; clock = b.clock + 1; tallies = tallies i; cells = cells i }
