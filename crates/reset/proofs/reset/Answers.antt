-- `reset`: a refused file changes nothing; of an accepted one the size decides 8, or the reset state is written.
use mathlib.Core.Path.{◌≡◌, ◌∙◌}
use borrow.Author.Tests.{lt-ltb, le-ltb}
use Rattle.std.specs.Prelude.{Result, Ok, Err, IsErrAnd}
use Rattle.refusal.specs.declared.Refusal.{Refusal}
use Rattle.refusal.specs.Cause.{cause_number}
use Rattle.refusal.specs.Answer.{Done, Refused, told}
use Rattle.file.specs.Layout.{plan_of}
use Rattle.plan.specs.Refusals.{plan_answer}
use Rattle.plan.proofs.Accepted.{done_trailed}
use Rattle.state.specs.Layout.{plan_size}
use Rattle.state.specs.Outcome.{unless_refused}
use Rattle.state.specs.Reset.{reset_on}
use Rattle.reset.proofs.Fresh.{size_is}
use Rattle.reset.proofs.reset.Goals as goal
use Rattle.reset.proofs.reset.Goals.{After-trailer, After-size}

-- a refusal handed on
told_refusal : (e : Refusal) (r : Result Unit Refusal) → IsErrAnd r (λ refusal. refusal ≡ e) → told r ≡ Refused (cause_number e.cause) e.place
told_refusal e (Ok v) m = absurd m
told_refusal e (Err refusal) m = rw m

accepted : (c : goal.After-trailer) → plan_answer c.args.file.now ≡ Done 0
accepted c = rw c.in_ok-plan.ensures.file at c.trailer.ensures.accepted

-- the size is that of its plan's state
sized : (c : goal.After-size) → plan_size (plan_of c.args.file.now) ≡ c.size.result
sized c = rw (← c.in_ok-plan.ensures.file) (size_is _ ∙ rw (← c.torus.ensures.value.0, ← c.torus.ensures.value.1, ← c.trailer.ensures.value, c.size.ensures))

pub returns-in_err-plan : goal.returns-in_err-plan
unfolding reset_on unless_refused
returns-in_err-plan c = rw (← c.in_err-plan.ensures.answer, told_refusal c.in_err-plan.field-0.0 _ c.from_residual.ensures.1)

pub size-requires : goal.size-requires
size-requires c = rw (← c.trailer.ensures.value) at (done_trailed _ 0 c.trailer.ensures.accepted).frame.count_most

pub returns-then-state-size : goal.returns-then-state-size
unfolding reset_on unless_refused
returns-then-state-size c =
    rw (accepted (goal.at.returns-then-state-size c).After-trailer, sized (goal.at.returns-then-state-size c).After-size, lt-ltb _ _ c.if-state-size.true, c.into.ensures)

pub put_reset-requires : goal.put_reset-requires
put_reset-requires c = rw (c.in_ok-plan.ensures.file, sized (goal.at.put_reset-requires c).After-size) c.if-state-size.false

pub returns : goal.returns
unfolding reset_on unless_refused
returns c =
    rw (
      accepted (goal.at.returns c).After-trailer,
      sized (goal.at.returns c).After-size,
      le-ltb _ _ c.if-state-size.false,
      c.put_reset.ensures,
      c.in_ok-plan.ensures.file,
    )
