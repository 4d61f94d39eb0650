-- The front of the delivery memory is all that the steps use. Rests on the laws of many steps.
use mathlib.Core.List.{List, [], ◌++◌, append-nil}
use mathlib.Core.Path.{◌≡◌, sym, ap, subst, ◌∙◌}
use Prim.Native.Nat.{ℕ, ◌≤◌, min}
use native.Mathlib.Omega.{arith}
use lib.ListN.{length, take, drop, drop_of_length-le}
use lib.Seq.{take_all}
use native.Mathlib.Decide.{dec_lt}
use Rattle.flow.specs.Limits.{most_delivered, used_room}
use Rattle.flow.proofs.Limits.{used_length}
use Rattle.router.specs.Delivery.{words_of}
use Rattle.router.proofs.Delivery.{words_length}
use Rattle.state.specs.Read.{state_of}
use Rattle.state.specs.Forms.{state_number}
use Rattle.state.proofs.Over.{over_front}
use Rattle.cycle.specs.Progress.{Progress, progress, Reached}
use Rattle.cycle.proofs.Offer.{words_sound}
use Rattle.cycle.proofs.Progress.{progress_ok}

module _ (w d : List ℕ) (cycles exits : ℕ) (w' : List ℕ) where
  abbrev reached : Progress
  reached = progress (used_room (length d)) (state_of w) cycles

  of_most : state_number w ≡ 0 → (front : List ℕ)
      → Reached w (take most_delivered d) (progress (length (take most_delivered d)) (state_of w) cycles) exits w' front
      → Reached w d reached exits w' (front ++ drop most_delivered d)
  of_most formed front r =
      let same = ap (λ room. progress room (state_of w) cycles) (used_length d) in
      let l = subst (λ q. Reached w (take most_delivered d) q exits w' front) same r in
      let ok = progress_ok (used_room (length d)) (state_of w) (words_sound w formed) cycles in
      let few = words_length reached.delivered in
      record {
        exits_are = l.exits_are;
        words_are = l.words_are;
        delivery_is = rw l.delivery_is (over_front (words_of reached.delivered) d most_delivered (omega (arith, ok.fits, used_length d)));
      }

  -- a front of that length, and the rest as it was
  pub front_most : (m : ℕ) → m ≡ most_delivered → state_number w ≡ 0 → (front : List ℕ)
      → Reached w (take m d) (progress (length (take m d)) (state_of w) cycles) exits w' front → Reached w d reached exits w' (front ++ drop m d)
  front_most m e formed front =
      subst (λ k. Reached w (take k d) (progress (length (take k d)) (state_of w) cycles) exits w' front → Reached w d reached exits w' (front ++ drop k d))
      (sym e) (of_most formed front)

  -- or all, where there is no more
  pub all_reached : length d ≤ most_delivered → (d' : List ℕ)
      → Reached w d (progress (length d) (state_of w) cycles) exits w' d' → Reached w d reached exits w' d'
  all_reached few d' r =
      let same : length d ≡ used_room (length d) = sym (ap length (take_all most_delivered d few)) ∙ used_length d in
      subst (λ room. Reached w d (progress room (state_of w) cycles) exits w' d') same r

  -- the front that is used
  pub front_reached : (m : ℕ) → m ≡ min (length d) most_delivered → state_number w ≡ 0 → (front : List ℕ)
      → Reached w (take m d) (progress (length (take m d)) (state_of w) cycles) exits w' front → Reached w d reached exits w' (front ++ drop m d)
  front_reached m e formed front r =
      elim (dec_lt most_delivered (length d)) [
        | yes l ↦ front_most m (omega arith) formed front r
        | no l ↦
            let all : take m d ≡ d = take_all m d (omega arith) in
            let none : drop m d ≡ [] = drop_of_length-le d {i = m} (omega arith) in
            rw (none, append-nil) (all_reached (omega arith) front (rw all at r))
      ]
