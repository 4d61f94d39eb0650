-- `offer`: a refusal by the state's number or the offer's, or one more waiting.
use mathlib.Core.Path.{◌≡◌, sym, ◌∙◌}
use mathlib.Core.List.{List}
use Prim.Native.Nat.{ℕ, ◌<◌}
use Rattle.flow.specs.declared.Offerer.{Offerer}
use Rattle.flow.specs.Limits.{offer_number}
use Rattle.flow.proofs.Limits.{offer_passes}
use Rattle.state.specs.Read.{count_in, state_of}
use Rattle.state.proofs.View.{counted}
use Rattle.state.proofs.Forms.{state_facts}
use Rattle.state.proofs.Over.{unless_passes}
use Rattle.state.proofs.Causes.{cause_refuses}
use Rattle.cycle.specs.Offer.{offer_on}
use Rattle.offer.proofs.offer.Goals as goal

-- the flow is one of the plan where 12 isn't given
named : (who : Offerer) (w : List ℕ) (f waiting : ℕ) → offer_number who (state_of w).plan f waiting ≡ 0 → f < count_in w
named who w f waiting e = rw (counted w) at (offer_passes who (state_of w).plan f waiting e).0

pub returns-in_err-check_state : goal.returns-in_err-check_state
unfolding offer_on
returns-in_err-check_state c = cause_refuses _ _ _ _ _ _ c.in_err-check_state.ensures c.from_residual.ensures.1

pub of-requires : goal.of-requires
of-requires c = state_facts _ (sym c.in_ok-check_state.ensures)

pub returns-in_err-check_offer : goal.returns-in_err-check_offer
unfolding offer_on
returns-in_err-check_offer c =
    cause_refuses _ _ _ _ _ _ (c.in_err-check_offer.ensures ∙ rw c.of.ensures) c.from_residual-in_err-check_offer.ensures.1
    ∙ unless_passes _ _ _ (sym c.in_ok-check_state.ensures)

pub wait_more-requires : goal.wait_more-requires
wait_more-requires c =
    record {
      facts = state_facts _ (sym c.in_ok-check_state.ensures);
      below = named _ _ _ _ (sym (rw c.of.ensures at c.in_ok-check_offer.ensures));
    }

pub returns : goal.returns
unfolding offer_on
returns c =
    let no = sym (rw c.of.ensures at c.in_ok-check_offer.ensures) in
    rw c.wait_more.ensures (unless_passes _ _ _ no ∙ unless_passes _ _ _ (sym c.in_ok-check_state.ensures))
