-- The numbers of the causes for which a call says no (01, When a call says no; 02's later requests).
use Rattle.std.specs.Prelude.{ℕ}
use Rattle.refusal.specs.declared.Cause.{Cause}
use Rattle.refusal.specs.declared.Cause.TheVariants.{FileLength, Tag, TorusSize, FlowCount, Start, OffTorus, NoRate, StateShort, NoState, DeliveryShort, LastClock, NotInPlan, QueueFull, NoWindow, TargetShort, RecordsShort, KeptRange, TrialFull, ReasonsShort, BurstRange}

-- 01 has 1 to 15: file under 12 or over 65,536 bytes; no tag; Sx or Sy outside 1..16; count 0 or over 256; start doesn't match length;
-- coordinate off the torus; P or σ zero; state memory too short; words form no state; delivery memory too short; last clock; flow number
-- F or more; 65,535 already waiting; no window; target too short. 02 adds 16: fewer records than flows; 17: L outside 1..16; 18: 255
-- already waiting, of the trial generator; 19: a reason list shorter than the flow count; 20: k outside 1 to σ
abbrev pub cause_number : Cause → ℕ
cause_number FileLength = 1
cause_number Tag = 2
cause_number TorusSize = 3
cause_number FlowCount = 4
cause_number Start = 5
cause_number OffTorus = 6
cause_number NoRate = 7
cause_number StateShort = 8
cause_number NoState = 9
cause_number DeliveryShort = 10
cause_number LastClock = 11
cause_number NotInPlan = 12
cause_number QueueFull = 13
cause_number NoWindow = 14
cause_number TargetShort = 15
cause_number RecordsShort = 16
cause_number KeptRange = 17
cause_number TrialFull = 18
cause_number ReasonsShort = 19
cause_number BurstRange = 20
