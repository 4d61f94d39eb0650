-- What many steps keep on their way: a state, and exits that lie in the delivery memory. No check lies between them, since a step keeps a
-- state. Rests on Keeps, Deliveries and specs/Progress.
use mathlib.Core.Path.{◌≡◌, refl, ap}
use Prim.Native.Nat.{ℕ, zero, suc, ◌-◌, ◌*◌, ◌≤◌}
use native.Mathlib.Omega.{arith}
use lib.ListN.{length, length-append}
use Rattle.laws.specs.Turns.{turns}
use Rattle.laws.proofs.Turns.{turns_keep}
use Rattle.flow.specs.Limits.{exit_size}
use Rattle.flow.proofs.Limits.{step_passes}
use Rattle.router.proofs.Delivery.{words_length}
use Rattle.state.specs.State.{State}
use Rattle.cycle.specs.Step.{step_state, deliveries}
use Rattle.cycle.specs.Progress.{Progress, begun, next_number, advanced, advance, progress}
use Rattle.cycle.proofs.Offer.{Sound}
use Rattle.cycle.proofs.Keeps.{step_sound}
use Rattle.cycle.proofs.Deliveries.{exits_fit}

-- a step that the table lets run, and one that it refuses
module _ (room : ℕ) (r : Progress) where
  pub advance_runs : next_number room r ≡ 0 → advance room r ≡ advanced 0 r
  unfolding advance
  advance_runs e = ap (λ n. advanced n r) e

  pub advance_ends : (next_number room r ≡ 0 → ⊥) → advance room r ≡ r
  unfolding advance
  advance_ends e = of (next_number room r) e
    where
      of : (n : ℕ) → (n ≡ 0 → ⊥) → advanced n r ≡ r
      of zero h = absurd (h refl)
      of (suc n) h = refl

-- what each step that runs keeps, all of them do
pub progress_keeps : (room : ℕ) (Ok : Progress → Type 0) → ((r : Progress) → next_number room r ≡ 0 → Ok r → Ok (advanced 0 r))
    → (r : Progress) → Ok r → (n : ℕ) → Ok (turns n (λ i. advance room) r)
unfolding advance
progress_keeps room Ok keeps r ok n = turns_keep n (λ i. advance room) Ok (λ i now l h. by now h (next_number room now) refl) n r (omega arith) ok
  where
    by : (now : Progress) → Ok now → (m : ℕ) → next_number room now ≡ m → Ok (advanced m now)
    by now h zero e = keeps now e h
    by now h (suc m) e = h

-- the plan stays
pub progress_plan : (room : ℕ) (s : State) (n : ℕ) → (progress room s n).state.plan ≡ s.plan
unfolding step_state
progress_plan room s n = progress_keeps room (λ (r : Progress). r.state.plan ≡ s.plan) (λ r e h. h) (begun s) refl n

-- a sound state, and exits that lie in the delivery memory
pub record ProgressOk (room : ℕ) (r : Progress) : Type 0 where
  pub sound : Sound r.state
  pub fits : exit_size * length r.delivered ≤ room

module _ (room : ℕ) where
  pub begun_ok : (s : State) → Sound s → ProgressOk room (begun s)
  begun_ok s sound = record { sound = sound; fits = omega arith }

  pub advanced_ok : (r : Progress) → next_number room r ≡ 0 → ProgressOk room r → ProgressOk room (advanced 0 r)
  advanced_ok r e ok =
      let s = r.state in
      let passes = step_passes s.plan (room - exit_size * length r.delivered) s.clock e in
      record {
        sound = step_sound s ok.sound;
        fits = omega (arith, ok.fits, passes.room_fits, exits_fit s, words_length (deliveries s), length-append r.delivered (deliveries s));
      }

  pub progress_ok : (s : State) → Sound s → (n : ℕ) → ProgressOk room (progress room s n)
  progress_ok s sound n = progress_keeps room (ProgressOk room) advanced_ok (begun s) (begun_ok s sound) n
