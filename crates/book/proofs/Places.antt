-- No two lines share a place: a register is reached by one output of one router, and an output carries one packet. Rests on Sends.
use mathlib.Core.Bool.{Bool, true}
use mathlib.Core.List.{[], ◌∷◌, Memᴰ as Mem}
use mathlib.Core.Logic.{inl, inr}
use mathlib.Core.Path.{◌≡◌, subst}
use Prim.Native.Nat.{ℕ, ◌+◌, ◌≤◌, ◌<◌}
use native.Mathlib.Omega.{arith}
use lib.ListN.{length, length-map}
use Rattle.laws.specs.Count.{any}
use Rattle.laws.proofs.Cases.{test}
use Rattle.laws.proofs.Count.{any_true, none_count, count_append}
use Rattle.laws.proofs.Keep.{length_keep}
use Rattle.flow.specs.Plan.{Plan, flow_at}
use Rattle.place.specs.Place.{Place, column_of, row_of}
use Rattle.book.specs.Line.{Line, stands_in, entry_of}
use Rattle.book.specs.Book.{Book, offered, offered_line}
use Rattle.book.specs.Cycle.{lines_in, move, stepped}
use Rattle.router.specs.Links.{Output, feeder}
use Rattle.router.specs.Rule.{via}
use Rattle.router.proofs.Links.{feeder_on, reach_feeder}
use Rattle.router.proofs.Path.{placed_on}
use Rattle.book.proofs.Traced.{most_by, stands_path, Traced, line_ok, traced_step}
use Rattle.book.proofs.Spans.{Lawful}
use Rattle.book.proofs.Held.{Apart}
use Rattle.book.proofs.Outputs.{outgoing, one_output}
use Rattle.book.proofs.Sends.{arrivals}

module _ (p : Plan) (b : Book) (law : Lawful p b) (apart : Apart b) where
  -- at most one line comes to a register of the torus
  reached : (at : Place) → (column_of at < p.sx) × (row_of at < p.sy) → length (lines_in (stepped p b) at) ≤ 1
  reached at on =
      let o : Output = feeder p at in
      let from = feeder_on p at on.0 on.1 in
      subst (λ (here : Place). length (lines_in (stepped p b) here) ≤ 1) (reach_feeder p at on.0 on.1)
      (rw (arrivals p b law o.x o.y o.port from.0 from.1, length-map (outgoing p b o.x o.y (via o.port)) (move p b))
      (one_output p b o.x o.y apart law.queued (via o.port)))

  pub apart_step : Apart (stepped p b)
  apart_step at =
      elim (test (any there (stepped p b).lines)) [
        | inr nobody ↦ omega (arith, none_count there (stepped p b).lines nobody)
        | inl some ↦
            let z = any_true there (stepped p b).lines some in
            omega (arith, length_keep there (stepped p b).lines, reached at (on z.0 z.1 z.2))
      ]
    where
      there : Line → Bool
      there l = stands_in at l.stage

      after : Traced p (stepped p b)
      after = traced_step p law.plan b law.traced

      on : (l : Line) → Mem l (stepped p b).lines → there l ≡ true → (column_of at < p.sx) × (row_of at < p.sy)
      on l m h =
          let φ = flow_at p l.flow in
          placed_on p φ (most_by p φ) (line_ok p law.plan (stepped p b) after l m) (b.clock + 1) l.D (entry_of l.stage) at
          (stands_path p φ (b.clock + 1) l.D at l.stage (after.sound l m) h)

pub apart_offer : (b : Book) → Apart b → (f : ℕ) → Apart (offered b f)
apart_offer b apart f at = omega (arith, apart at, count_append (λ (l : Line). stands_in at l.stage) b.lines (offered_line b f ∷ []))
