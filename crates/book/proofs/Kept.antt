-- What every list of calls keeps: the paths, queues, buckets, places and paces of the book, and the bounds of its numbers.
-- Rests on the files that keep each of them through an offer and a step.
use mathlib.Core.Bool.{Bool, true}
use mathlib.Core.List.{List, [], ◌∷◌}
use mathlib.Core.Logic.{◌≢◌}
use mathlib.Core.Path.{◌≡◌, refl, ap, ◌∙◌}
use Prim.Native.Nat.{ℕ, zero, suc, ◌+◌, ◌-◌, ◌*◌, ◌≤◌, ◌<◌}
use native.Mathlib.Nat.{le_trans}
use native.Mathlib.Decide.{ℕ_discrete}
use native.Mathlib.Omega.{arith}
use borrow.Author.Tests.{ne_eqb}
use lib.ListN.{length, get_or}
use Rattle.laws.specs.Count.{count}
use Rattle.laws.proofs.Cases.{and_true}
use Rattle.laws.proofs.Turns.{turns_along, turns_keep}
use Rattle.laws.proofs.Count.{one_most, count_map, count_append, count_mono}
use Rattle.flow.specs.declared.Offerer.{Offerer}
use Rattle.flow.specs.declared.Offerer.TheVariants.{Sonar}
use Rattle.flow.specs.Plan.{Plan, flow_at}
use Rattle.flow.specs.Ranges.{PlanOk}
use Rattle.window.specs.Window.{interference}
use Rattle.router.specs.Delivery.{Delivery}
use Rattle.router.specs.Reasons.{reason_words}
use Rattle.book.specs.Line.{Line, is_waiting}
use Rattle.book.specs.Book.{Book, of_flow, waits_for, waiting_of, entered_of, start, offered, offered_first, offered_line}
use Rattle.book.specs.Cycle.{view, enters, move, stepped, deliveries}
use Rattle.flow.specs.Limits.{exit_size, last_clock, most_waiting, used_room, step_number}
use Rattle.flow.proofs.Limits.{offer_passes, step_passes}
use Rattle.refusal.specs.Answer.{Answer, Done, Refused}
use Rattle.plan.specs.Set.{set_number}
use Rattle.plan.proofs.Refusals.{answer_done, or_else_done, first_done}
use Rattle.book.specs.Feed.{Call, offer, offer_set, step, step_reasons, steps, refusal, Fed, added, ran, advanced, advance, ran_many, accepted}
use Rattle.book.specs.Feed.{judged, feed, run_from, run}
use Rattle.book.proofs.Moves.{turn, waited}
use Rattle.book.proofs.Queue.{set_keeps, entered_step, entered_offer}
use Rattle.book.proofs.Spans.{Lawful, lawful_start, lawful_offer, lawful_step}
use Rattle.book.proofs.Held.{Apart}
use Rattle.book.proofs.Places.{apart_step, apart_offer}
use Rattle.book.proofs.Pace.{Pace, pace_start, pace_offer, pace_step}
use Rattle.book.proofs.Deliveries.{gone, step_delivered}

pub record Kept (p : Plan) (b : Book) : Type 0 where
  pub lawful : Lawful p b
  pub apart : Apart b
  pub pace : (f : ℕ) → f < length p.flows → (T H : ℕ) → suc H ≡ (flow_at p f).period + T → interference p f T < T → Pace p b f T H
  pub clock_most : b.clock ≤ last_clock
  pub waiting_most : (f : ℕ) → waiting_of b f ≤ most_waiting
  pub entered_most : (f : ℕ) → entered_of b f ≤ b.clock

-- a flow of the plan with room in its queue
abbrev pub Room : Plan → Book → (f : ℕ) → Type 0
Room p b f = (f < length p.flows) × (waiting_of b f < most_waiting)

-- what each step of many keeps, all of them do
pub many_keep : (p : Plan) (b : Book) (room : ℕ) (Q : Fed → Type 0) → Q (added b)
    → ((so : Fed) → Q so → so.book.clock ≢ last_clock → Q (advanced p 0 so)) → (cycles : ℕ) → Q (ran_many p b room cycles)
unfolding advance
many_keep p b room Q first more cycles =
    turns_keep cycles (λ i. advance p (used_room room)) Q (λ i so l q. by so q (left so) (step_number p (left so) so.book.clock) refl)
    cycles (added b) (omega arith) first
  where
    left : Fed → ℕ
    left so = used_room room - exit_size * length so.delivered

    by : (so : Fed) → Q so → (words n : ℕ) → step_number p words so.book.clock ≡ n → Q (advanced p n so)
    by so q words zero e = more so q (step_passes p words so.book.clock e).clock_other
    by so q words (suc n) e = q

-- their answer counts what they deliver, and they tell no reasons
pub many_reply : (p : Plan) (b : Book) (room cycles : ℕ) → let all = ran_many p b room cycles in
    (all.reply ≡ Done (length all.delivered)) × (all.reasons ≡ [])
many_reply p b room cycles =
    many_keep p b room (λ (so : Fed). (so.reply ≡ Done (length so.delivered)) × (so.reasons ≡ [])) (refl, refl) (λ so q e. (refl, refl)) cycles

-- a call is refused, or it is an offer to a flow of the plan with room in its queue, a set of such offers, each counting the ones
-- before it, a step before the last clock, whatever it tells of reasons, or many steps
pub feed_cases : (p : Plan) (b : Book) (Q : Fed → Type 0)
    → ((n place : ℕ) → Q (record { book = b; reply = Refused n place; delivered = []; reasons = [] }))
    → ((who : Offerer) (f : ℕ) → Room p b f → Q (accepted p b (offer who f)))
    → ((flows : List ℕ) → ((k : ℕ) → k < length flows → Room p (offered_first b flows k) (get_or flows k 0)) → Q (accepted p b (offer_set flows)))
    → ((reasons : List ℕ) → b.clock ≢ last_clock → Q (ran p b reasons))
    → ((room cycles : ℕ) → Q (ran_many p b room cycles)) → (c : Call) → Q (feed p b c)
unfolding feed refusal set_number
feed_cases p b Q refuses offers sets runs many c = by c (refusal p b c) refl
  where
    by : (c : Call) (a : Answer) → refusal p b c ≡ a → Q (judged p b c a)
    by c (Refused n place) e = refuses n place
    by (offer who f) (Done v) e = offers who f (offer_passes who p f (waiting_of b f) (answer_done _ _ _ e))
    by (offer_set flows) (Done v) e =
        sets flows (λ k l. let f = get_or flows k 0 in offer_passes Sonar p f (waiting_of (offered_first b flows k) f) (first_done _ _ _ e k l))
    by (step room) (Done v) e = runs [] (step_passes p room b.clock (answer_done _ _ _ e)).clock_other
    by (steps room cycles) (Done v) e = many room cycles
    by (step_reasons room told) (Done v) e =
        runs (reason_words p (view p b)) (step_passes p room b.clock (answer_done _ _ _ (or_else_done _ _ _ e).1)).clock_other

module _ (p : Plan) where
  pub kept_start : PlanOk p → Kept p (start p)
  kept_start ok =
      record {
        lawful = lawful_start p ok;
        apart = λ at. omega arith;
        pace = λ f l T H sum window. pace_start p f l T H sum window (lawful_start p ok);
        clock_most = omega arith;
        waiting_most = λ f. omega arith;
        entered_most = λ f. omega arith;
      }

  module _ (b : Book) (k : Kept p b) where
    kept_offer : (f : ℕ) → Room p b f → Kept p (offered b f)
    kept_offer f r =
        record {
          lawful = lawful_offer p b k.lawful f r.0;
          apart = apart_offer b k.apart f;
          pace = λ g l T H sum window. pace_offer p g l T H sum window b k.lawful (k.pace g l T H sum window) f;
          clock_most = k.clock_most;
          waiting_most = more;
          entered_most = λ g. rw (entered_offer b f g) (k.entered_most g);
        }
      where
        more : (g : ℕ) → waiting_of (offered b f) g ≤ most_waiting
        more g =
            let split = count_append (waits_for g) b.lines (offered_line b f ∷ []) in
            elim (ℕ_discrete f g) [
              | yes e ↦ omega (arith, split, one_most (waits_for g (offered_line b f)), ap (waiting_of b) e, r.1)
              | no e ↦ rw (split, ne_eqb f g e) (omega (arith, k.waiting_most g))
            ]

    kept_step : b.clock ≢ last_clock → Kept p (stepped p b)
    kept_step early =
        record {
          lawful = lawful_step p b k.lawful;
          apart = apart_step p b k.lawful k.apart;
          pace = λ g l T H sum window. pace_step p g l T H sum window b k.lawful (k.pace g l T H sum window);
          clock_most = omega (arith, k.clock_most);
          waiting_most = fewer;
          entered_most = λ f. omega (arith, entered_step b k.lawful.queued p f, one_most (enters p b f), k.entered_most f);
        }
      where
        waited_for : (f : ℕ) (l : Line) → waits_for f (move p b l) ≡ true → waits_for f l ≡ true
        waited_for f l t =
            let h = and_true (of_flow f l) (is_waiting (move p b l).stage) t in rw h.0 (waited p b l (turn p b l) h.1)

        fewer : (f : ℕ) → waiting_of (stepped p b) f ≤ most_waiting
        fewer f =
            rw (count_map (waits_for f) (move p b) b.lines)
            (le_trans (count_mono (λ l. waits_for f (move p b l)) (waits_for f) b.lines (λ l m t. waited_for f l t)) (k.waiting_most f))

  module _ (b : Book) (k : Kept p b) where
    kept_set : (flows : List ℕ) → ((i : ℕ) → i < length flows → Room p (offered_first b flows i) (get_or flows i 0))
        → Kept p (offered_first b flows (length flows))
    kept_set flows rooms =
        turns_along (length flows) _ b (Kept p) (λ i l now. kept_offer _ now (get_or flows i 0) (rooms i l)) k

    pub kept_many : (room cycles : ℕ) → Kept p (ran_many p b room cycles).book
    kept_many room cycles = many_keep p b room (λ (so : Fed). Kept p so.book) k (λ so now early. kept_step so.book now early) cycles

    pub kept_feed : (c : Call) → Kept p (feed p b c).book
    kept_feed c =
        feed_cases p b (λ (fed : Fed). Kept p fed.book) (λ n place. k) (λ who f room. kept_offer b k f room) kept_set
        (λ reasons early. kept_step b k early) kept_many c

    -- an offer lets nothing leave, nor does a set of them
    offered_leaves : (r : Delivery → Bool) (now : Book) (f : ℕ) → count (gone r) (offered now f).lines ≡ count (gone r) now.lines
    offered_leaves r now f = omega (arith, count_append (gone r) now.lines (offered_line now f ∷ []))

    set_leaves : (r : Delivery → Bool) (flows : List ℕ) (n : ℕ) → count (gone r) (offered_first b flows n).lines ≡ count (gone r) b.lines
    set_leaves r flows n =
        set_keeps b flows (λ (now : Book). count (gone r) now.lines ≡ count (gone r) b.lines) (λ now f e. offered_leaves r now f ∙ e) n refl

    -- what many steps deliver is what they let leave
    many_delivered : (r : Delivery → Bool) (room cycles : ℕ) → let all = ran_many p b room cycles in
        count (gone r) all.book.lines ≡ count (gone r) b.lines + count r all.delivered
    many_delivered r room cycles =
        (many_keep p b room (λ (so : Fed). Kept p so.book × (count (gone r) so.book.lines ≡ count (gone r) b.lines + count r so.delivered))
        (k, omega arith)
        (λ so q early. (
          kept_step so.book q.0 early,
          omega (arith, step_delivered p so.book q.0.lawful r, q.1, count_append r so.delivered (deliveries p so.book)),
        ))
        cycles).1

    -- what a call delivers is what it lets leave
    feed_delivered : (r : Delivery → Bool) (c : Call) → count (gone r) (feed p b c).book.lines ≡ count (gone r) b.lines + count r (feed p b c).delivered
    feed_delivered r c =
        feed_cases p b (λ (fed : Fed). count (gone r) fed.book.lines ≡ count (gone r) b.lines + count r fed.delivered)
        (λ n place. omega arith)
        (λ who f room. omega (arith, offered_leaves r b f))
        (λ flows rooms. omega (arith, set_leaves r flows (length flows)))
        (λ reasons early. step_delivered p b k.lawful r)
        (λ room cycles. many_delivered r room cycles)
        c

  -- what each accepted offer and each step keeps, every list of calls keeps
  module _ (Q : Book → Type 0) (offers : (b : Book) → Kept p b → (f : ℕ) → Q b → Q (offered b f))
      (cycles : (b : Book) → Kept p b → Q b → Q (stepped p b)) where
    along_feed : (b : Book) → Kept p b → Q b → (c : Call) → Q (feed p b c).book
    along_feed b k q c =
        feed_cases p b (λ (fed : Fed). Q fed.book) (λ n place. q) (λ who f room. offers b k f q)
        (λ flows rooms.
        (turns_along (length flows) _ b (λ (now : Book). Kept p now × Q now)
        (λ i l h. (kept_offer _ h.0 (get_or flows i 0) (rooms i l), offers _ h.0 (get_or flows i 0) h.1)) (k, q)).1)
        (λ reasons early. cycles b k q)
        (λ room n.
        (many_keep p b room (λ (so : Fed). Kept p so.book × Q so.book) (k, q)
        (λ so h early. (kept_step so.book h.0 early, cycles so.book h.0 h.1)) n).1)
        c

    pub along : (cs : List Call) (b : Book) → Kept p b → Q b → Q (run_from p b cs).book
    along [] b k q = q
    along (c ∷ cs) b k q = along cs (feed p b c).book (kept_feed b k c) (along_feed b k q c)

  pub kept_from : (cs : List Call) (b : Book) → Kept p b → Kept p (run_from p b cs).book
  kept_from [] b k = k
  kept_from (c ∷ cs) b k = kept_from cs (feed p b c).book (kept_feed b k c)

  delivered_from : (r : Delivery → Bool) (cs : List Call) (b : Book) → Kept p b
      → count (gone r) (run_from p b cs).book.lines ≡ count (gone r) b.lines + count r (run_from p b cs).delivered
  delivered_from r [] b k = omega arith
  delivered_from r (c ∷ cs) b k =
      let later = delivered_from r cs (feed p b c).book (kept_feed b k c) in
      omega (arith, feed_delivered b k r c, count_append r (feed p b c).delivered (run_from p (feed p b c).book cs).delivered)

  -- after every list from the start
  pub kept_run : PlanOk p → (cs : List Call) → Kept p (run p cs).book
  kept_run ok cs = kept_from cs (start p) (kept_start ok)

  pub delivered_run : PlanOk p → (r : Delivery → Bool) (cs : List Call) → count (gone r) (run p cs).book.lines ≡ count r (run p cs).delivered
  delivered_run ok r cs = omega (arith, delivered_from r cs (start p) (kept_start ok))
