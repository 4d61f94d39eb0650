-- What a branch of the code tells of a test: the sets that `search` is handed where a definition goes by tests.
use mathlib.Core.Bool.{Bool, true, false, cond, not, ◌&&◌, ◌||◌}
use Prim.Native.Nat.{ℕ, suc}
use native.Mathlib.Decide.{ℕ_discrete}
use native.Mathlib.Omega.{arith}
use lib.Dec.{eqb}
use mathlib.Core.Path.{◌≡◌, refl, sym, ◌∙◌}
use mathlib.Core.Logic.{◌⊎◌, inl, inr}
use borrow.Author.Rules.{rules}
use borrow.Author.Tests.{lt-ltb, le-ltb, le-leb, lt-leb, eq-eqb, ne_eqb, eqb-true, not-true, not-false}

pub ruleset tests = (lt-ltb, le-ltb, le-leb, lt-leb, eq-eqb, ne_eqb)

pub ruleset cases = (rules, tests)

-- the value of a definition, by what a call ensures and the branch on `!r`
pub told_not : {r v : Bool} → r ≡ v → not r ≡ true → v ≡ false
told_not {r} e t = sym e ∙ not-true r t

pub told_not' : {r v : Bool} → r ≡ v → not r ≡ false → v ≡ true
told_not' {r} e t = sym e ∙ not-false r t

pub test : (b : Bool) → (b ≡ true) ⊎ (b ≡ false)
test true = inl refl
test false = inr refl

pub never : (b : Bool) → (b ≡ true → ⊥) → b ≡ false
never b h = elim (test b) [ inl t ↦ absurd (h t) | inr t ↦ t ]

pub and_true : (a b : Bool) → a && b ≡ true → (a ≡ true) × (b ≡ true)
and_true true b e = (refl, e)
and_true false b e =
    let z : ◌≡◌ {A = ℕ} 0 1 = cc in
    absurd (omega arith)

pub or_false : (a b : Bool) → a || b ≡ false → (a ≡ false) × (b ≡ false)
or_false false b e = (refl, e)
or_false true b e =
    let z : ◌≡◌ {A = ℕ} 0 1 = cc in
    absurd (omega arith)

-- two pairs of numbers
pub eqb_both : (a b c d : ℕ) → eqb a b && eqb c d ≡ true → (a ≡ b) × (c ≡ d)
eqb_both a b c d e = let t = and_true (eqb a b) (eqb c d) e in (eqb-true a b t.0, eqb-true c d t.1)

pub both_eqb : (a b c d : ℕ) → a ≡ b → c ≡ d → eqb a b && eqb c d ≡ true
both_eqb a b c d e f = rw (eq-eqb a b e, eq-eqb c d f)

-- a number by tests is 0: the first test failed, and the rest is 0
pub passed : (b : Bool) (n rest : ℕ) → cond b (suc n) rest ≡ 0 → (b ≡ false) × (rest ≡ 0)
passed true n rest e = absurd (omega arith)
passed false n rest e = (refl, e)

pub eqb_swap : (m n : ℕ) → eqb m n ≡ eqb n m
eqb_swap m n = elim (ℕ_discrete m n) [ yes e ↦ rw (eq-eqb m n e, eq-eqb n m (sym e)) | no e ↦ rw (ne_eqb m n e, ne_eqb n m (λ h. e (sym h))) ]
