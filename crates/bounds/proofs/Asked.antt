-- Laws of a call on a flow of a plan file: a refusal is every call's refusal, and without one the call answers its own value.
use mathlib.Core.Bool.{Bool, true, false, cond}
use mathlib.Core.List.{List}
use mathlib.Core.Logic.{inl, inr}
use mathlib.Core.Path.{◌≡◌, refl, sym}
use Prim.Native.Nat.{ℕ, ◌<◌, ◌≤◌}
use borrow.Author.Tests.{ltb-true, lt-ltb, le-ltb}
use lib.Dec.{ltb}
use lib.ListN.{length}
use Rattle.laws.proofs.Cases.{test}
use Rattle.refusal.specs.Answer.{Answer, Done, Refused}
use Rattle.file.specs.Layout.{plan_of}
use Rattle.plan.specs.Refusals.{refused_or, plan_answer}
use Rattle.plan.proofs.Refusals.{refused_done}
use Rattle.bounds.specs.Bounds.{asked}

-- the plan's refusal
pub asked_first : (file : List ℕ) (f n place : ℕ) (a : Answer) → Refused n place ≡ plan_answer file → Refused n place ≡ asked file f a
unfolding asked
asked_first file f n place a e = rw (← e)

-- no flow of an accepted file
pub asked_beyond : (file : List ℕ) (f : ℕ) (a : Answer) → Done 0 ≡ plan_answer file → length (plan_of file).flows ≤ f
    → Refused 12 0 ≡ asked file f a
unfolding asked
asked_beyond file f a e h = rw (← e, le-ltb f _ h)

-- one of them
pub asked_own : (file : List ℕ) (f : ℕ) (a : Answer) → Done 0 ≡ plan_answer file → f < length (plan_of file).flows → a ≡ asked file f a
unfolding asked
asked_own file f a e h = rw (← e, lt-ltb f _ h)

-- the refusal of a plan or of a flow number does not depend on what would be answered
refused_first : (plan : Answer) (b : Bool) (n place : ℕ) (a : Answer)
    → refused_or plan (cond b (Done 0) (Refused 12 0)) ≡ Refused n place → refused_or plan (cond b a (Refused 12 0)) ≡ Refused n place
refused_first (Refused m q) b n place a e = e
refused_first (Done v) false n place a e = e
refused_first (Done v) true n place a e = absurd (refused_done n place 0 (sym e))

pub asked_refused : (file : List ℕ) (f n place : ℕ) (a : Answer) → asked file f (Done 0) ≡ Refused n place → asked file f a ≡ Refused n place
unfolding asked
asked_refused file f n place a e = refused_first (plan_answer file) (ltb f (length (plan_of file).flows)) n place a e

-- a flow of an accepted file
pub record Known (file : List ℕ) (f : ℕ) : Type 0 where
  pub value : ℕ
  pub done : plan_answer file ≡ Done value
  pub below : f < length (plan_of file).flows
  pub answers : (a : Answer) → asked file f a ≡ a

pub asked_done : (file : List ℕ) (f v : ℕ) → asked file f (Done 0) ≡ Done v → Known file f
unfolding asked
asked_done file f v e = go (plan_answer file) refl e
  where
    go : (plan : Answer) → plan_answer file ≡ plan
        → refused_or plan (cond (ltb f (length (plan_of file).flows)) (Done 0) (Refused 12 0)) ≡ Done v → Known file f
    go (Refused n place) p q = absurd (refused_done n place v q)
    go (Done w) p q =
        elim (test (ltb f (length (plan_of file).flows))) [
          | inl below ↦ record { value = w; done = p; below = ltb-true _ _ below; answers = λ a. rw (p, below) }
          | inr above ↦ absurd (refused_done 12 0 v (rw above at q))
        ]
