-- The limits of offers and steps, and the numbers with which the two are refused (01, State memory; When a call says no).
use Rattle.std.specs.Prelude.{cond, ℕ, ◌*◌, ltb, leb, eqb, length}
use Rattle.flow.specs.declared.Offerer.{Offerer}
use Rattle.flow.specs.declared.Offerer.TheVariants.{Sonar, Generator}
use Rattle.flow.specs.Plan.{Plan}

-- a flow's most waiting packets
abbrev pub most_waiting : ℕ
most_waiting = 65535

-- so many waiting packets of a flow stop the trial generator
abbrev pub most_trial : ℕ
most_trial = 255

-- the clock of the last state
abbrev pub last_clock : ℕ
last_clock = 4294967295

-- the words of an exit
abbrev pub exit_size : ℕ
exit_size = 5

-- a step asks for 5×Sx×Sy words of delivery memory
abbrev pub room_for : Plan → ℕ
room_for p = exit_size * (p.sx * p.sy)

-- an answer's value has 32 bits: the most exits that it counts
abbrev pub most_exits : ℕ
most_exits = 4294967295

-- many steps in one call use at most the first 5×4,294,967,295 words of delivery memory, so that an answer counts their exits
unfoldable pub most_delivered : ℕ
most_delivered = exit_size * most_exits

-- what they use of so many lent words
unfoldable pub used_room : (room : ℕ) → ℕ
used_room room = cond (ltb room most_delivered) room most_delivered

-- an offer's limit: with so many packets of the flow waiting, it is refused with this number
pub record Limit : Type 0 where
  pub waiting : ℕ
  pub number : ℕ

-- an offer's limit: so many packets of the flow already waiting, and the number of its full queue. 13: 65,535 already waiting.
-- 02, U6: the generator "gets its own offer call, which stops at 255 waiting in that flow, by either call; the sonar's call still stops
-- at 65,535"; "The generator's full queue is 18, checked after 12."
abbrev pub limit_of : Offerer → Limit
limit_of Sonar = record { waiting = most_waiting; number = 13 }
limit_of Generator = record { waiting = most_trial; number = 18 }

-- an offer to flow number f, of which so many packets wait. 12: flow number F or more; then its full queue; else 0
unfoldable pub offer_number : Offerer → Plan → (f waiting : ℕ) → ℕ
offer_number who p f waiting =
    let limit : Limit = limit_of who in
    cond (leb (length p.flows) f) 12 (cond (leb limit.waiting waiting) limit.number 0)

-- a step lent so many words of delivery memory. 10: under 5×Sx×Sy words; 11: clock is 4,294,967,295; else 0
unfoldable pub step_number : Plan → (room clock : ℕ) → ℕ
step_number p room clock = cond (ltb room (room_for p)) 10 (cond (eqb clock last_clock) 11 0)
