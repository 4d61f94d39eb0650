-- What an inner function asks of an answer: a small refusal number. No call's answer rests on it.
use Rattle.std.specs.Prelude.{ℕ, ◌≤◌}
use Rattle.refusal.specs.Answer.{Answer, Done, Refused}

-- the answer has no larger refusal number
abbrev pub NumberMost : ℕ → Answer → Type 0
NumberMost m (Done v) = Unit
NumberMost m (Refused number place) = number ≤ m
