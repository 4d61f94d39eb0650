-- The packets that calls accept, by their own answers, are the lines that the book gets. Rests on List and Lines.
use mathlib.Core.List.{List, [], ◌∷◌}
use mathlib.Core.Logic.{inl, inr}
use mathlib.Core.Path.{◌≡◌, refl, sym, ap, subst, ◌∙◌}
use Prim.Native.Nat.{ℕ, ◌+◌}
use native.Mathlib.Nat.{add-zero}
use native.Mathlib.Omega.{arith}
use lib.Dec.{ltb, eqb}
use lib.ListN.{length, drop}
use lib.Seq.{take_all}
use Rattle.laws.specs.Count.{one, count}
use Rattle.laws.proofs.Cases.{test}
use Rattle.flow.specs.Plan.{Plan}
use Rattle.refusal.specs.Answer.{Answer, Done, Refused}
use Rattle.book.specs.Book.{Book, total_of, offered_first}
use Rattle.book.specs.Feed.{Call, refusal, Fed, ran_many, judged, feed, run_from}
use Rattle.book.specs.Feed as Feed
use Rattle.book.proofs.Queue.{total_split, total_offer, total_step}
use Rattle.book.proofs.Kept.{Kept, many_keep}
use Rattle.state.specs.Outcome.{Outcome}
use Rattle.state.specs.Layout.{plan_size}
use Rattle.run.specs.Calls.{Whole, Asked, offer, offer_set, step, step_reasons, steps, write, recent, reset, Item}
use Rattle.run.specs.Calls.{offers_of, if_accepted, accepted_of}
use Rattle.run.specs.List.{Role, feeds, between, resets, role, too_little, role_in, IsList, fed_as, fed, due}
use Rattle.run.proofs.Memory.{image}
use Rattle.run.proofs.List.{does, keeps}
use Rattle.run.proofs.Lines.{set_entered, set_waiting}
use Rattle.run.proofs.Parts.{run_parts}

-- how many lines of flow f a role offers to the book
abbrev call_offers : (f : ℕ) → Call → ℕ
call_offers f (Feed.offer who flow) = one (eqb flow f)
call_offers f (Feed.offer_set flows) = count (λ g. eqb g f) flows
call_offers f (Feed.step room) = 0
call_offers f (Feed.step_reasons room told) = 0
call_offers f (Feed.steps room cycles) = 0

abbrev role_offers : (f : ℕ) → Role → ℕ
role_offers f (feeds call other) = call_offers f call
role_offers f (between tells other) = 0
role_offers f resets = 0

role_offers_lem : (f : ℕ) (c : Asked) → offers_of f c ≡ role_offers f (role c)
role_offers_lem f (offer who flow) = refl
role_offers_lem f (offer_set flows) = refl
role_offers_lem f (step delivery) = refl
role_offers_lem f (step_reasons delivery reasons) = refl
role_offers_lem f (steps delivery cycles) = refl
role_offers_lem f (write notes target) = refl
role_offers_lem f (recent deliveries last records) = refl
role_offers_lem f (reset file) = refl

accepts_none : (n : ℕ) (a : Answer) → n ≡ n + if_accepted a 0
accepts_none n (Done v) = sym (add-zero n)
accepts_none n (Refused number place) = sym (add-zero n)

module _ (p : Plan) (f : ℕ) where
  set_total : (b : Book) (flows : List ℕ) → total_of (offered_first b flows (length flows)) f ≡ total_of b f + count (λ g. eqb g f) flows
  set_total b flows =
      let n = length flows in
      let all = ap (count (λ g. eqb g f)) (take_all n flows (omega arith)) in
      omega (arith, total_split (offered_first b flows n) f, total_split b f, set_entered b flows f n, set_waiting b flows f n (omega arith), all)

  -- by its reply the book adds all of them or none
  fed_total : (b : Book) (c : Call) → let now = feed p b c in total_of now.book f ≡ total_of b f + if_accepted now.reply (call_offers f c)
  unfolding feed
  fed_total b c = by c (refusal p b c)
    where
      by : (c : Call) (a : Answer) → let now = judged p b c a in total_of now.book f ≡ total_of b f + if_accepted now.reply (call_offers f c)
      by c (Refused n place) = sym (add-zero _)
      by (Feed.offer who g) (Done v) = total_offer b g f
      by (Feed.offer_set flows) (Done v) = set_total b flows
      by (Feed.step room) (Done v) = total_step p b f ∙ sym (add-zero _)
      by (Feed.step_reasons room told) (Done v) = total_step p b f ∙ sym (add-zero _)
      by (Feed.steps room cycles) (Done v) =
          many_keep p b room (λ (so : Fed). total_of so.book f ≡ total_of b f) refl (λ so q early. total_step p so.book f ∙ q) cycles
          ∙ accepts_none (total_of b f) (ran_many p b room cycles).reply

  module _ (words : List ℕ) where
    abbrev tail : List ℕ
    tail = drop (plan_size p) words

    role_total : (b : Book) (i : Item) (r : Role)
        → total_of (run_from p b (fed_as r)).book f ≡ total_of b f + if_accepted (due p b words i r).answer (role_offers f r)
    role_total b i (feeds call other) = fed_total b call
    role_total b i (between tells other) = accepts_none _ (tells p b).answer
    role_total b i resets = accepts_none _ (due p b words i resets).answer

    -- lent too little, a call accepts none
    little_total : (b : Book) (i : Item) (r : Role) → let r' = too_little r in
        total_of (run_from p b (fed_as r')).book f ≡ total_of b f + if_accepted (due p b words i r').answer (role_offers f r)
    little_total b i (feeds call other) = sym (add-zero _)
    little_total b i (between tells other) = sym (add-zero _)
    little_total b i resets = accepts_none _ (due p b words i resets).answer

    item_total : (b : Book) (i : Item) → let r = role_in p i in
        total_of (run_from p b (fed_as r)).book f ≡ total_of b f + if_accepted (due p b words i r).answer (offers_of f i.asked)
    item_total b i =
        rw (role_offers_lem f i.asked)
        (elim (test (ltb i.lent_words (plan_size p))) [
          | inl few ↦ rw few (little_total b i (role i.asked))
          | inr all ↦ rw all (role_total b i (role i.asked))
        ])

    -- after a list, the flow has as many lines more as were accepted
    pub accepted_total : (is : List Item) (b : Book) → Kept p b → IsList (image p b tail) is
        → total_of (run_from p b (fed p is)).book f ≡ total_of b f + accepted_of f (image p b tail) is
    accepted_total [] b k l = sym (add-zero _)
    accepted_total (i ∷ is) b k l =
        let r = role_in p i in
        let now : Book = (run_from p b (fed_as r)).book in
        let d = does p words b k i l.0 in
        let rest = accepted_total is now (keeps p words b k r) (subst (λ (o : Outcome Answer Whole). IsList o.memory.state is) d l.1) in
        let answer = ap (λ (o : Outcome Answer Whole). if_accepted o.answer (offers_of f i.asked)) d in
        let later = ap (λ (o : Outcome Answer Whole). accepted_of f o.memory.state is) d in
        ap (λ (c : Book). total_of c f) (run_parts p b (fed_as r) (fed p is)) ∙ omega (arith, rest, item_total b i, answer, later)
