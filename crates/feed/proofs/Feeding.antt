-- Feeding recent flights one by one, and after any step or many of them. Rests on the laws of an accepted feeding, of a cycle and of what
-- it delivers.
use mathlib.Core.Bool.{false, false≢true}
use mathlib.Core.List.{List, [], ◌∷◌}
use mathlib.Core.Path.{◌≡◌, refl, sym, ap, subst, ◌∙◌}
use Prim.Native.Nat.{ℕ, ◌≤◌}
use lib.ListN.{length, length-set}
use Rattle.laws.specs.Count.{any}
use Rattle.laws.proofs.Cases.{never, or_false}
use Rattle.laws.proofs.Count.{any_true, any_append}
use Rattle.flow.specs.Plan.{Plan}
use Rattle.flow.specs.Limits.{used_room}
use Rattle.refusal.specs.Answer.{Answer, Done}
use Rattle.router.specs.Delivery.{Delivery, words_of}
use Rattle.state.specs.State.{State}
use Rattle.state.specs.Read.{plan_in, state_of}
use Rattle.state.specs.Forms.{state_number}
use Rattle.state.specs.Outcome.{Outcome, outcome}
use Rattle.state.proofs.View.{view_plan}
use Rattle.state.proofs.Formed.{StateOk, state_fits}
use Rattle.cycle.specs.Step.{step_state, deliveries}
use Rattle.cycle.specs.Steps.{steps_on}
use Rattle.cycle.specs.Progress.{Progress, begun, advanced, progress}
use Rattle.cycle.proofs.Offer.{Sound, words_sound, over_forms, over_read}
use Rattle.cycle.proofs.Keeps.{step_sound, step_done, step_forms, step_plan}
use Rattle.cycle.proofs.Progress.{progress_keeps}
use Rattle.cycle.proofs.Steps.{reached, steps_accepted}
use Rattle.recent.specs.declared.Recent.{Recent}
use Rattle.recent.specs.Recent.{most_kept}
use Rattle.delivery.specs.Groups.{groups_of, strange}
use Rattle.feed.specs.Feed.{fed_one, fed_all, feed_on}
use Rattle.delivery.proofs.Groups.{Genuine, genuine_known, groups_words}
use Rattle.delivery.proofs.Genuine.{delivery_genuine, step_delivers}
use Rattle.feed.proofs.Accepted.{Accepted, feed_done, feed_accepts}
use Rattle.feed.specs.Feeding.{in_turn, EachAccepted, EveryFeeding, EveryStep, EverySteps}

-- a delivery changes no count of records
one_length : (last : ℕ) (d : Delivery) (records : List Recent) → length (fed_one last d records) ≡ length records
unfolding fed_one
one_length last d records = length-set records d.flow _

module _ (words : List ℕ) (formed : state_number words ≡ 0) (last : ℕ) where
  abbrev p : Plan
  p = plan_in words

  -- a delivery by a call of its own
  fed_alone : (d : Delivery) (records : List Recent) → Accepted p (d ∷ []) (length records) last
      → feed_on words (words_of (d ∷ [])) last records ≡ outcome (Done 0) (fed_one last d records)
  fed_alone d records a =
      let one = groups_words (d ∷ []) in
      feed_accepts words (words_of (d ∷ [])) last records formed (rw one a)
      ∙ ap (λ (ds : List Delivery). outcome (Done 0) (fed_all last ds records)) one

  in_turn_lem : (ds : List Delivery) (records : List Recent) → Accepted p ds (length records) last
      → (EachAccepted words last ds records) × (fed_all last ds records ≡ in_turn words last ds records)
  in_turn_lem [] records a = (tt, refl)
  in_turn_lem (d ∷ ds) records a =
      let parts = or_false (strange p d) (any (strange p) ds) a.known in
      let first = fed_alone d records (record { enough = a.enough; some = a.some; few = a.few; known = rw parts.0 }) in
      let others : Accepted p ds (length (fed_one last d records)) last =
      record { enough = rw (one_length last d records) a.enough; some = a.some; few = a.few; known = parts.1 } in
      let later = in_turn_lem ds (fed_one last d records) others in
      rw first ((refl, later.0), later.1)

pub every_feeding : EveryFeeding
every_feeding words deliveries last records e =
    let done = feed_done words deliveries last records 0 e in
    let all = in_turn_lem words done.0 last (groups_of deliveries) records done.1 in
    record { each = all.0; same = rw (feed_accepts words deliveries last records done.0 done.1) all.1 }

-- what a call left: words that form a state of the plan, and deliveries of which none is strange to it
module _ (p : Plan) (after deliveries : List ℕ) (ds : List Delivery) (formed : state_number after ≡ 0) (plan : plan_in after ≡ p)
    (words : deliveries ≡ words_of ds) (known : any (strange p) ds ≡ false) where
  fed_after : (last : ℕ) (records : List Recent) → 1 ≤ last → last ≤ most_kept → length p.flows ≤ length records
      → (feed_on after deliveries last records).answer ≡ Done 0
  fed_after last records some few enough =
      ap (λ (o : Outcome Answer (List Recent)). o.answer)
      (feed_accepts after deliveries last records formed
      (record { enough = rw plan enough; some = some; few = few; known = rw (plan, words, groups_words ds) known }))

-- a cycle's deliveries are none of them strange
none_strange : (p : Plan) (s : State) → StateOk s → s.plan ≡ p → any (strange p) (deliveries s) ≡ false
none_strange p s ok same =
    never _ (λ e.
    let found = any_true (strange p) (deliveries s) e in
    let real = subst (λ q. Genuine q found.0) same (delivery_genuine s ok found.0 found.1) in
    false≢true (sym (genuine_known p found.0 real) ∙ found.2))

pub every_step : EveryStep
every_step words delivery exits e last records some few enough =
    let formed = (step_done words delivery exits e).formed in
    let known = none_strange (plan_in words) (state_of words) (state_fits words formed) (view_plan words) in
    fed_after (plan_in words) _ _ (deliveries (state_of words)) (step_forms words delivery exits e) (step_plan words delivery exits e)
    (step_delivers words delivery exits e) known last records some few enough

-- nor are those of many
record Known (p : Plan) (r : Progress) : Type 0 where
  sound : Sound r.state
  plan : r.state.plan ≡ p
  known : any (strange p) r.delivered ≡ false

known_more : (p : Plan) (r : Progress) → Known p r → Known p (advanced 0 r)
unfolding step_state
known_more p r k =
    record {
      sound = step_sound r.state k.sound;
      plan = k.plan;
      known = rw (any_append (strange p) r.delivered (deliveries r.state), k.known) (none_strange p r.state k.sound.fits k.plan);
    }

known_all : (w : List ℕ) → state_number w ≡ 0 → (room n : ℕ) → Known (plan_in w) (progress room (state_of w) n)
known_all w formed room n =
    progress_keeps room (Known (plan_in w)) (λ r e k. known_more (plan_in w) r k) (begun (state_of w))
    (record { sound = words_sound w formed; plan = view_plan w; known = refl }) n

pub every_steps : EverySteps
every_steps words delivery cycles exits e last records some few enough =
    let done = steps_accepted words delivery cycles exits e in
    let r = reached words delivery cycles in
    let all = known_all words done.formed (used_room (length delivery)) cycles in
    let after = (steps_on words delivery cycles).memory.state in
    let formed : state_number after ≡ 0 = rw done.words_are (over_forms r.state all.sound words) in
    let read : state_of after ≡ r.state = rw done.words_are (over_read r.state all.sound words) in
    let plan : plan_in after ≡ plan_in words = sym (view_plan after) ∙ ap (λ (s : State). s.plan) read ∙ all.plan in
    fed_after (plan_in words) after _ r.delivered formed plan done.delivers all.known last records some few enough
