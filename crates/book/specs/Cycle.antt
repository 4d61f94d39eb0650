-- A step of the packet book: rules 1 to 5 of 01's One cycle, all from the old places and buckets.
use Rattle.std.specs.Prelude.{Bool, false, cond, not, ◌&&◌, List, [], ◌∷◌, map, ℕ, ◌+◌, ltb, length}
use Rattle.std.proofs.Math.Option.{Option, none, some}
use Rattle.laws.specs.Bounded.{tabulate}
use Rattle.laws.specs.Count.{one, any, keep, join_below}
use Rattle.flow.specs.declared.Flow.{Flow}
use Rattle.flow.specs.Plan.{Plan, flow_at}
use Rattle.bucket.specs.Regulator.{after_cycle}
use Rattle.place.specs.Place.{Place, W, N, column_of, row_of}
use Rattle.router.specs.Links.{reach}
use Rattle.router.specs.Rule.{Seen, View, deflects, Way, via, leave, way_from, way_in}
use Rattle.router.specs.Rule as Rule
use Rattle.router.specs.Delivery.{Delivery, delivery_with}
use Rattle.book.specs.Line.{Stage, waiting, placed, left, Line, stands_in, left_at, entry_of, exit_of}
use Rattle.book.specs.Book.{Book, bucket_at, waits_for}

-- the lines placed in a register
abbrev pub lines_in : Book → Place → List Line
lines_in b at = keep (λ l. stands_in at l.stage) b.lines

-- the flow of the first of these lines; no two lines share a place
abbrev pub first_flow : Plan → List Line → Option Flow
first_flow p [] = none
first_flow p (l ∷ ls) = some (flow_at p l.flow)

-- the flow of the packet in a register, where there is one
unfoldable pub holds : Plan → Book → Place → Option Flow
holds p b at = first_flow p (lines_in b at)

-- what the router in column x and row y sees
abbrev pub seen : Plan → Book → (x y : ℕ) → Seen
seen p b x y = record { west = holds p b (W x y); north = holds p b (N x y) }

-- what rule 3 is fed
abbrev pub view : Plan → Book → View
view p b =
    record { waits = λ f. any (waits_for f) b.lines; token = λ f. ltb 0 (bucket_at b f).tokens; seen = seen p b }

-- rules 1 and 2 for a packet of flow f in a register
abbrev pub output : Plan → Book → Flow → Place → Way
output p b f at = way_from (seen p b (column_of at) (row_of at)) at f

-- rule 3 for flow number f
abbrev pub enters : Plan → Book → ℕ → Bool
enters p b f = Rule.enters p (view p b) f

-- each deflection adds 1 to its line's D
abbrev pub is_deflected : Plan → Book → Stage → Bool
is_deflected p b waiting = false
is_deflected p b (placed e at) = deflects (seen p b (column_of at) (row_of at)) at
is_deflected p b (left e t x y) = false

-- a packet with entry e that takes a way out of the router in column x and row y in cycle c
unfoldable pub sent : Plan → (c e x y : ℕ) → Way → Stage
sent p c e x y (via o) = placed e (reach p x y o)
sent p c e x y leave = left e c x y

-- no waiting line of the flow has a lower serial
unfoldable pub lowest : Book → Line → Bool
lowest b l = not (any (λ m. waits_for l.flow m && ltb m.serial l.serial) b.lines)

-- where a line stands after the step
abbrev pub move_stage : Plan → Book → Line → Stage → Stage
move_stage p b l waiting =
    let φ : Flow = flow_at p l.flow in
    cond (enters p b l.flow && lowest b l)
    (sent p b.clock b.clock φ.xs φ.ys (way_in p l.flow))
    waiting
move_stage p b l (placed e at) =
    sent p b.clock e (column_of at) (row_of at) (output p b (flow_at p l.flow) at)
move_stage p b l (left e t x y) = left e t x y

abbrev pub move : Plan → Book → Line → Line
move p b l =
    record {
      flow = l.flow;
      serial = l.serial;
      offer = l.offer;
      q = l.q;
      D = l.D + one (is_deflected p b l.stage);
      stage = move_stage p b l l.stage;
    }

-- rules 1 to 3 for every line, rule 4 for every bucket, then clock + 1
abbrev pub stepped : Plan → Book → Book
stepped p b =
    record {
      clock = b.clock + 1;
      buckets = tabulate (length p.flows) (λ f. after_cycle (flow_at p f).burst (flow_at p f).period (enters p b f) (bucket_at b f));
      lines = map (move p b) b.lines;
    }

abbrev pub delivery_of : Line → Delivery
delivery_of l = delivery_with l.flow l.serial (entry_of l.stage) (exit_of l.stage) l.D

-- the lines that left in cycle c, routers by row then column
abbrev pub exits_of : Plan → ℕ → List Line → List Line
exits_of p c ls = join_below p.sy (λ y. join_below p.sx (λ x. keep (λ l. left_at c x y l.stage) ls))

-- the deliveries of a step
unfoldable pub deliveries : Plan → Book → List Delivery
deliveries p b = map delivery_of (exits_of p b.clock (stepped p b).lines)
