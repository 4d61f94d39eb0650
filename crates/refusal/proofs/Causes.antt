-- No cause has number 0, which stands for none. Rests on specs/Cause.
use Prim.Native.Nat.{◌≤◌}
use native.Mathlib.Omega.{arith}
use Rattle.refusal.specs.declared.Cause.{Cause}
use Rattle.refusal.specs.declared.Cause.TheVariants.{FileLength, Tag, TorusSize, FlowCount, Start, OffTorus, NoRate, StateShort, NoState, DeliveryShort, LastClock, NotInPlan, QueueFull, NoWindow, TargetShort, RecordsShort, KeptRange, TrialFull, ReasonsShort, BurstRange}
use Rattle.refusal.specs.Cause.{cause_number}

pub cause_some : (c : Cause) → 1 ≤ cause_number c
cause_some FileLength = omega arith
cause_some Tag = omega arith
cause_some TorusSize = omega arith
cause_some FlowCount = omega arith
cause_some Start = omega arith
cause_some OffTorus = omega arith
cause_some NoRate = omega arith
cause_some StateShort = omega arith
cause_some NoState = omega arith
cause_some DeliveryShort = omega arith
cause_some LastClock = omega arith
cause_some NotInPlan = omega arith
cause_some QueueFull = omega arith
cause_some NoWindow = omega arith
cause_some TargetShort = omega arith
cause_some RecordsShort = omega arith
cause_some KeptRange = omega arith
cause_some TrialFull = omega arith
cause_some ReasonsShort = omega arith
cause_some BurstRange = omega arith
