-- The cases of the table hold of the definitions.
use mathlib.Core.List.Memᴰ.{head as here}
use mathlib.Core.List.Memᴰ.{tail as there}
use mathlib.Core.List.{List, [], ◌∷◌, Memᴰ as Mem}
use mathlib.Core.Path.{◌≡◌, refl, sym, ap, subst, ◌∙◌}
use Prim.Native.Nat.{ℕ, ◌+◌, ◌-◌, ◌≤◌}
use native.Mathlib.Nat.{div-one}
use native.Mathlib.Omega.{arith}
use lib.ListN.{drop}
use Rattle.laws.specs.Bounded as Bounded
use Rattle.torus.specs.Axis as Axis
use Rattle.flow.specs.Limits as Limits
use Rattle.flow.specs.Plan.{Plan}
use Rattle.bucket.specs.Regulator as Regulator
use Rattle.bucket.specs.Curve as Curve
use Rattle.refusal.specs.Answer.{Refused}
use Rattle.file.specs.Bytes as Bytes
use Rattle.file.specs.Layout as Layout
use Rattle.plan.specs.Refusals as Refusals
use Rattle.plan.specs.Written as Written
use Rattle.plan.specs.Written.{plan_bytes}
use Rattle.std.specs.Prelude.{None}
use Rattle.turning.specs.Turning as Turning
use Rattle.conflict.specs.Conflict as Conflict
use Rattle.window.specs.Window as Window
use Rattle.window.specs.Window.{interference, window_of, burst_window_of}
use Rattle.window.proofs.BurstWindows.{burst_one, burst_none}
use Rattle.bounds.specs.Bounds as Bounds
use Rattle.bounds.specs.Bounds.{window_answer, window_by, burst_answer}
use Rattle.router.specs.Links as Links
use Rattle.router.specs.Rule as Rule
use Rattle.book.specs.Cycle.{holds, sent, lowest, deliveries}
use Rattle.book.specs.Feed.{refusal, feed}
use Rattle.book.specs.Cases.{Case, Says, starred, across, bursting, filled, along, turned}

-- with a rival in every cycle I(t) is t
in_every_cycle : ((t : ℕ) → 1 ≤ t → interference (across 1 1) 0 t ≡ t) × ((t : ℕ) → 1 ≤ t → interference filled 1 t ≡ t)
unfolding Bounded.sum_below Axis.offset Turning.is_turning Turning.rows_south Curve.ceiling Curve.curve Conflict.conflict Conflict.conflict_by
    Conflict.conflict_east Conflict.conflict_south Window.share Window.share_of Window.interference
in_every_cycle = (λ t some. omega (arith, div-one (t - 1 + 0)), λ t some. omega (arith, div-one (t - 1 + 0)))

-- so there is no window for any packet
none_left : (p : Plan) (f k : ℕ) → 1 ≤ k → ((t : ℕ) → 1 ≤ t → interference p f t ≡ t) → burst_window_of p f k ≡ None
none_left p f k some full = burst_none p f k (λ t l m. omega (arith, full t l))

-- what the window call on the plan's file answers for flow 0 is read off the plan's window
abbrev Reads : Plan → Type 0
Reads p = window_answer (plan_bytes [] p) 0 ≡ window_by 0 (window_of p 0)

-- and what the burst call answers off the burst's, or it is refused with 20 or 12
abbrev ReadsBurst : Plan → (f k : ℕ) → Type 0
ReadsBurst p f k = burst_answer (plan_bytes [] p) f k ≡ window_by f (burst_window_of p f k)

abbrev Refuses : Plan → (f k number : ℕ) → Type 0
Refuses p f k number = burst_answer (plan_bytes [] p) f k ≡ Refused number 0

abbrev Windows : Type 0
Windows = Reads (across 10 1) × (Reads (across 2 3) × (Reads (across 1 1) × (Reads along × Reads turned)))

abbrev Bursts : Type 0
Bursts = ReadsBurst (bursting 10 1) 0 1 × (ReadsBurst (bursting 10 1) 0 3 × (ReadsBurst (bursting 2 3) 0 3 × ReadsBurst filled 1 3))

abbrev Refusing : Type 0
Refusing =
    Refuses (bursting 10 1) 0 0 20 × (Refuses (bursting 10 1) 0 4 20 × (Refuses (bursting 10 1) 1 2 20
    × (Refuses (bursting 10 1) 2 0 12 × Refuses filled 1 4 20)))

reads : Windows × (Bursts × Refusing)
unfolding Bounded.all_below Bounded.tabulate Bytes.little_endian2 Bytes.little_endian4 Bytes.two_bytes Bytes.four_bytes Layout.tagged
    Layout.trailer_of Layout.period_at Layout.flow_from Layout.plan_of Refusals.header_number Refusals.trailer_number Refusals.record_number
    Refusals.first_refused Refusals.flow_number Refusals.plan_answer Written.record_bytes Written.records_bytes Written.trailer_bytes
    Written.plan_bytes Bounds.asked Bounds.window_answer Bounds.burst_answer
reads = ((refl, (refl, (refl, (refl, refl)))), ((refl, (refl, (refl, refl))), (refl, (refl, (refl, (refl, refl))))))

-- every row of a table holds
abbrev AllHold : List Case → Type 0
AllHold [] = Unit
AllHold (c ∷ cs) = Says c × AllHold cs

each : (cs : List Case) → AllHold cs → (c : Case) → Mem c cs → Says c
each [] all c m = elim m [ ]
each (d ∷ cs) all c (here e) = subst Says (sym e) all.0
each (d ∷ cs) all c (there m) = each cs all.1 c m

rows : AllHold starred
unfolding Bounded.tabulate Bounded.first_below Bounded.sum_below Axis.offset Axis.next Regulator.after_count Regulator.after_cycle Links.reach
    Curve.ceiling Curve.curve Turning.is_turning Turning.rows_south Conflict.conflict Conflict.conflict_by Conflict.conflict_east
    Conflict.conflict_south Window.share Window.share_of Window.interference Window.least_from Window.least_that Window.window_of Window.burst_window_of Rule.turns_south
    Rule.is_open Rule.ready Rule.enters holds sent lowest deliveries refusal feed
    Limits.offer_number Limits.step_number
rows = (refl, ((refl, refl), ((refl, refl), (refl, ((refl, refl), ((refl, refl), ((refl, refl), windows)))))))
  where
    found : Bursts
    found = reads.1.0

    out : Refusing
    out = reads.1.1

    none : burst_answer (plan_bytes [] filled) 1 3 ≡ Refused 14 1
    none = found.1.1.1 ∙ ap (window_by 1) (none_left filled 1 3 (omega arith) in_every_cycle.1)

    pinged : AllHold (drop 26 starred)
    pinged =
        let last : AllHold (drop 33 starred) = (none, (out.1.1.1.1, ((refl, refl), ((refl, refl), tt)))) in
        (found.0, (found.1.0, (found.1.1.0, (out.0, (out.1.0, (out.1.1.0, (out.1.1.1.0, last)))))))

    wide : AllHold (drop 20 starred)
    wide = (reads.0.1.1.1.1, (refl, (refl, (refl, (refl, (refl, pinged))))))

    later : AllHold (drop 12 starred)
    later = (refl, (refl, (refl, ((refl, refl), (refl, (refl, (refl, (refl, wide))))))))

    refused : window_answer (plan_bytes [] (across 1 1)) 0 ≡ Refused 14 0
    refused = reads.0.1.1.0 ∙ ap (window_by 0) (sym (burst_one (across 1 1) 0) ∙ none_left (across 1 1) 0 1 (omega arith) in_every_cycle.0)

    windows : AllHold (drop 7 starred)
    windows = (reads.0.0, (reads.0.1.0, (refused, (refl, (reads.0.1.1.1.0, later)))))

pub starred_hold : (c : Case) → Mem c starred → Says c
starred_hold = each starred rows
