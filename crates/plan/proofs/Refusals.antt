-- Laws of answers: a refusal comes first, and the first refused place is the one answered. Rests on specs/Refusals.
use mathlib.Core.Logic.{inl, inr}
use mathlib.Core.Path.{◌≡◌, refl, sym, ap, ◌∙◌}
use Prim.Native.Nat.{ℕ, zero, suc, ◌+◌, ◌<◌}
use native.Mathlib.Nat.{eq-or-lt_of_le, le_of_suc-le-suc}
use native.Mathlib.Numerals.{add-one}
use native.Mathlib.Omega.{arith}
use Rattle.refusal.specs.declared.Cause.{Cause}
use Rattle.refusal.specs.Cause.{cause_number}
use Rattle.refusal.specs.Answer.{Answer, Done, Refused}
use Rattle.refusal.proofs.Causes.{cause_some}
use Rattle.plan.specs.Refusals.{answer_by, refused_or, first_refused}

-- a refusal is no accepted answer
pub refused_done : (n place v : ℕ) → Refused n place ≡ Done v → ⊥
refused_done n place v e = let z : ◌≡◌ {A = ℕ} 0 1 = cc in omega arith

pub answer_refused : (n place : ℕ) → (n ≡ 0 → ⊥) → Refused n place ≡ answer_by n place
answer_refused zero place h = absurd (h refl)
answer_refused (suc n) place h = refl

pub cause_answer : (c : Cause) (place : ℕ) → Refused (cause_number c) place ≡ answer_by (cause_number c) place
cause_answer c place = let some = cause_some c in answer_refused (cause_number c) place (λ none. omega arith)

pub answer_done : (n place v : ℕ) → answer_by n place ≡ Done v → n ≡ 0
answer_done zero place v e = refl
answer_done (suc n) place v e = absurd (refused_done (suc n) place v e)

pub answer_at : (n place m at : ℕ) → answer_by n place ≡ Refused m at → (n ≡ m) × (at ≡ place) × (m ≡ 0 → ⊥)
answer_at zero place m at e = absurd (refused_done m at 0 (sym e))
answer_at (suc n) place m at e =
    let same : suc n ≡ m = cc in
    (same, cc, λ none. omega arith)

-- a call whose parts are all accepted
pub or_else_done : (a later : Answer) (v : ℕ) → refused_or a later ≡ Done v → (w : ℕ) × (a ≡ Done w) × (later ≡ Done v)
or_else_done (Done w) later v e = (w, refl, e)
or_else_done (Refused n place) later v e = absurd (refused_done n place v e)

module _ (number : ℕ → ℕ) where
  pub first_none : first_refused number 0 ≡ Done 0
  unfolding first_refused
  first_none = refl

  pub first_more : (n : ℕ) → first_refused number n ≡ Done 0 → number n ≡ 0 → first_refused number (n + 1) ≡ Done 0
  unfolding first_refused
  first_more n earlier here = rw (add-one, earlier, here)

  pub first_at : (n i : ℕ) → i < n → first_refused number i ≡ Done 0 → (number i ≡ 0 → ⊥) → Refused (number i) i ≡ first_refused number n
  unfolding first_refused
  first_at zero i l earlier here = absurd (omega arith)
  first_at (suc n) i l earlier here =
      elim (eq-or-lt_of_le (le_of_suc-le-suc l)) [
        | inl same ↦ rw (← same, earlier) (answer_refused (number i) i here)
        | inr below ↦ rw (← (first_at n i below earlier here))
      ]

  pub cause_first : (n i : ℕ) (c : Cause) → i < n → first_refused number i ≡ Done 0 → cause_number c ≡ number i
      → Refused (cause_number c) i ≡ first_refused number n
  cause_first n i c l earlier is = rw is (first_at n i l earlier (λ none. let some = cause_some c in omega (arith, is, none)))

  -- none is refused where every number is 0
  pub first_all : (n : ℕ) → ((i : ℕ) → i < n → number i ≡ 0) → first_refused number n ≡ Done 0
  unfolding first_refused
  first_all zero h = refl
  first_all (suc n) h = rw (first_all n (λ i l. h i (omega arith)), h n (omega arith))

  -- where none is refused, every number is 0
  pub first_done : (n v : ℕ) → first_refused number n ≡ Done v → (i : ℕ) → i < n → number i ≡ 0
  unfolding first_refused
  first_done zero v e i l = absurd (omega arith)
  first_done (suc n) v e i l =
      let parts = or_else_done (first_refused number n) (answer_by (number n) n) v e in
      elim (eq-or-lt_of_le (le_of_suc-le-suc l)) [
        | inl same ↦ rw same (answer_done (number n) n v parts.2)
        | inr below ↦ first_done n parts.0 parts.1 i below
      ]

  -- the place that is answered has that number, and those before it have 0
  pub record FirstAt (n m at : ℕ) : Type 0 where
    pub below : at < n
    pub here : number at ≡ m
    pub some : m ≡ 0 → ⊥
    pub earlier : (i : ℕ) → i < at → number i ≡ 0

  pub first_refused_lem : (n m at : ℕ) → first_refused number n ≡ Refused m at → FirstAt n m at
  unfolding first_refused
  first_refused_lem zero m at e = absurd (refused_done m at 0 (sym e))
  first_refused_lem (suc n) m at e = by (first_refused number n) refl e (first_refused_lem n m at)
    where
      by : (a : Answer) → first_refused number n ≡ a → refused_or a (answer_by (number n) n) ≡ Refused m at
          → (first_refused number n ≡ Refused m at → FirstAt n m at) → FirstAt (suc n) m at
      by (Done v) q d found =
          let last = answer_at (number n) n m at d in
          record { below = omega arith; here = ap number last.1 ∙ last.0; some = last.2; earlier = λ i l. first_done n v q i (omega arith) }
      by (Refused k place) q d found =
          let f = found (q ∙ d) in
          record { below = omega (arith, f.below); here = f.here; some = f.some; earlier = f.earlier }

-- numbers that agree as long as none is refused
pub first_same : (number other : ℕ → ℕ) (n : ℕ) → ((i : ℕ) → i < n → ((j : ℕ) → j < i → other j ≡ 0) → number i ≡ other i)
    → first_refused number n ≡ first_refused other n
unfolding first_refused
first_same number other zero same = refl
first_same number other (suc n) same = by (first_refused other n) refl (first_same number other n (λ i l. same i (omega arith)))
  where
    by : (a : Answer) → first_refused other n ≡ a → first_refused number n ≡ first_refused other n
        → refused_or (first_refused number n) (answer_by (number n) n) ≡ refused_or (first_refused other n) (answer_by (other n) n)
    by (Done v) e earlier = rw (earlier, same n (omega arith) (first_done other n v e))
    by (Refused m at) e earlier = rw (earlier, e)
