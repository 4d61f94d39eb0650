-- Laws of offsets and neighbours for every size and all places below it. Rests on specs/Axis; above it only the starred cases,
-- which compute, open that.
use mathlib.Core.Path.{◌≡◌, refl, sym}
use mathlib.Core.Logic.{◌⊎◌, inl, inr, ◌≢◌}
use Prim.Native.Nat.{ℕ, ◌+◌, ◌-◌, ◌*◌, ◌%◌, ◌≤◌, ◌<◌}
use native.Mathlib.Nat.{mod-eq_of_lt, mod-lt, add-mod_right, add-mul-mod_self_right}
use native.Mathlib.Decide.{dec_le, ℕ_discrete}
use native.Mathlib.Omega.{arith}
use borrow.Author.Tests.{eq-eqb, ne_eqb, lt-ltb, le-ltb, le-leb, lt-leb}
use lib.Dec.{ltb, leb}
use Rattle.torus.specs.Axis.{offset, next, lap, previous}

-- one remainder and no branch: with a size more, the difference never passes below 0
pub offset_remainder : (size from to : ℕ) → (to + size - from) % size ≡ offset size from to
unfolding offset
offset_remainder size from to = refl

-- over the integers: (to − from) mod size is the one number below the size that is whole sizes away from to − from
pub offset_mod : (size from to d k l : ℕ) → from < size → d < size → d + from + k * size ≡ to + l * size → d ≡ offset size from to
offset_mod size from to d k l f below whole =
    let e : to + size - from + l * size ≡ d + (k + 1) * size = omega arith in
    rw (
      ← (offset_remainder size from to),
      ← (add-mul-mod_self_right (to + size - from) l size),
      e,
      add-mul-mod_self_right d (k + 1) size,
      mod-eq_of_lt {n = d} {m = size} below,
    )

-- `to` lies at or after `from`, or the way goes round the end once
pub offset_cases : (size from to : ℕ) → from < size → to < size
    → ((from ≤ to) × (offset size from to + from ≡ to)) ⊎ ((to < from) × (offset size from to + from ≡ to + size))
unfolding offset
offset_cases size from to f t =
    elim (dec_le from to) [
      | yes le ↦
          let e : to + size - from ≡ to - from + size = omega arith in
          inl (le, rw (e, add-mod_right, mod-eq_of_lt {n = to - from} {m = size} (omega arith)) (omega arith))
      | no gt ↦
          inr (omega arith, rw (mod-eq_of_lt {n = to + size - from} {m = size} (omega arith)) (omega arith))
    ]

pub offset_below : (size from to : ℕ) → from < size → to < size → offset size from to < size
unfolding offset
offset_below size from to f t = mod-lt _ (omega arith)

-- by a third place it is as far, or once round more
offset_by : (size from at to : ℕ) → from < size → at < size → to < size
    → (offset size from at + offset size at to ≡ offset size from to) ⊎ (offset size from at + offset size at to ≡ offset size from to + size)
offset_by size from at to f a t =
    elim (offset_cases size from at f a) [
      | inl h ↦ elim (offset_cases size at to a t) [
        | inl k ↦ elim (offset_cases size from to f t) [ inl w ↦ inl (omega arith) | inr w ↦ absurd (omega arith) ]
        | inr k ↦ elim (offset_cases size from to f t) [ inl w ↦ inr (omega arith) | inr w ↦ inl (omega arith) ]
      ]
      | inr h ↦ elim (offset_cases size at to a t) [
        | inl k ↦ elim (offset_cases size from to f t) [ inl w ↦ inr (omega arith) | inr w ↦ inl (omega arith) ]
        | inr k ↦ elim (offset_cases size from to f t) [ inl w ↦ absurd (omega arith) | inr w ↦ inr (omega arith) ]
      ]
    ]

-- a place lies on the way to another where the rest of the way from it doesn't go round
pub on_way_lem : (size from at to : ℕ) → from < size → at < size → to < size
    → ltb (offset size from at) (size - offset size at to) ≡ leb (offset size from at) (offset size from to)
on_way_lem size from at to f a t =
    let whole = offset_below size from to f t in
    let rest = offset_below size at to a t in
    elim (offset_by size from at to f a t) [
      | inl on ↦ rw (lt-ltb (offset size from at) (size - offset size at to) (omega arith), le-leb (offset size from at) (offset size from to) (omega arith))
      | inr off ↦ rw (le-ltb (offset size from at) (size - offset size at to) (omega arith), lt-leb (offset size from at) (offset size from to) (omega arith))
    ]

-- the place after the last is 0
pub next_cases : (size at : ℕ) → at < size
    → ((at + 1 ≡ size) × (next size at ≡ 0)) ⊎ ((at + 1 < size) × (next size at ≡ at + 1))
unfolding next
next_cases size at l =
    elim (ℕ_discrete (at + 1) size) [
      | yes e ↦ inl (e, rw (eq-eqb (at + 1) size e))
      | no e ↦ inr (omega arith, rw (ne_eqb (at + 1) size e))
    ]

-- the one number below the size that leads from `from` to `to`, going round at most once
pub offset_is : (size from to : ℕ) → from < size → to < size → (d : ℕ)
    → ((from ≤ to) × (d + from ≡ to)) ⊎ ((to < from) × (d + from ≡ to + size)) → d ≡ offset size from to
offset_is size from to f t d h =
    elim h [
      | inl ahead ↦ offset_mod size from to d 0 0 f (omega arith) (omega arith)
      | inr round ↦ offset_mod size from to d 0 1 f (omega arith) (omega arith)
    ]

-- no way to go: the same place
pub offset_same : (size at : ℕ) → at < size → offset size at at ≡ 0
offset_same size at l = sym (offset_is size at at l l 0 (inl (omega arith)))

pub offset_zero : (size from to : ℕ) → from < size → to < size → offset size from to ≡ 0 → from ≡ to
offset_zero size from to f t e = elim (offset_cases size from to f t) [ inl h ↦ omega arith | inr h ↦ absurd (omega arith) ]

-- no two places have the same offset
pub offset_one : (size from a b : ℕ) → from < size → a < size → b < size → offset size from a ≡ offset size from b → a ≡ b
offset_one size from a b f l m e =
    elim (offset_cases size from a f l) [
      | inl h ↦ elim (offset_cases size from b f m) [ inl k ↦ omega arith | inr k ↦ absurd (omega arith) ]
      | inr h ↦ elim (offset_cases size from b f m) [ inl k ↦ absurd (omega arith) | inr k ↦ omega arith ]
    ]

pub next_below : (size at : ℕ) → at < size → next size at < size
next_below size at l = elim (next_cases size at l) [ inl h ↦ omega arith | inr h ↦ omega arith ]

-- no two places have the same next
pub next_one : (size a b : ℕ) → a < size → b < size → next size a ≡ next size b → a ≡ b
next_one size a b l m e =
    elim (next_cases size a l) [
      | inl h ↦ elim (next_cases size b m) [ inl k ↦ omega arith | inr k ↦ absurd (omega arith) ]
      | inr h ↦ elim (next_cases size b m) [ inl k ↦ absurd (omega arith) | inr k ↦ omega arith ]
    ]

-- before 0 comes the last
pub previous_cases : (size at : ℕ) → ((at ≡ 0) × (previous size at ≡ size - 1)) ⊎ ((1 ≤ at) × (previous size at ≡ at - 1))
unfolding previous
previous_cases size at =
    elim (ℕ_discrete at 0) [ yes e ↦ inl (e, rw (eq-eqb at 0 e)) | no e ↦ inr (omega arith, rw (ne_eqb at 0 e)) ]

pub previous_below : (size at : ℕ) → at < size → previous size at < size
previous_below size at l = elim (previous_cases size at) [ inl h ↦ omega arith | inr h ↦ omega arith ]

-- the place next to the previous one, and the one before the next
pub next_previous : (size at : ℕ) → at < size → next size (previous size at) ≡ at
next_previous size at l =
    elim (previous_cases size at) [
      | inl h ↦ elim (next_cases size (previous size at) (previous_below size at l)) [ inl k ↦ omega arith | inr k ↦ absurd (omega arith) ]
      | inr h ↦ elim (next_cases size (previous size at) (previous_below size at l)) [ inl k ↦ absurd (omega arith) | inr k ↦ omega arith ]
    ]

-- one place on, the offset is one more, or the way is round
pub offset_next : (size from at : ℕ) → from < size → at < size
    → ((offset size from at + 1 < size) × (offset size from (next size at) ≡ offset size from at + 1))
    ⊎ ((offset size from at + 1 ≡ size) × (offset size from (next size at) ≡ 0))
offset_next size from at f l =
    let n = next_below size at l in
    elim (offset_cases size from at f l) [
      | inl h ↦ elim (next_cases size at l) [
        | inl k ↦ elim (offset_cases size from (next size at) f n) [ inl m ↦ inr (omega arith) | inr m ↦ inl (omega arith) ]
        | inr k ↦ elim (offset_cases size from (next size at) f n) [ inl m ↦ inl (omega arith) | inr m ↦ absurd (omega arith) ]
      ]
      | inr h ↦ elim (next_cases size at l) [
        | inl k ↦ absurd (omega arith)
        | inr k ↦ elim (offset_cases size from (next size at) f n) [ inl m ↦ inr (omega arith) | inr m ↦ inl (omega arith) ]
      ]
    ]

-- short of a place, the next one is one nearer
pub offset_on : (size from at to : ℕ) → from < size → at < size → to < size → offset size from at < offset size from to
    → offset size from (next size at) ≡ offset size from at + 1
offset_on size from at to f l m short =
    elim (offset_next size from at f l) [ inl h ↦ h.1 | inr h ↦ absurd (omega (arith, offset_below size from to f m)) ]

pub offset_short : (size from at to : ℕ) → from < size → at < size → to < size → offset size from at ≤ offset size from to → at ≢ to
    → offset size from at < offset size from to
offset_short size from at to f l m short other =
    let apart : offset size from at ≢ offset size from to = λ e. other (offset_one size from at to f l m e) in omega arith

-- the lap is the offset, but the size where that is 0
pub lap_cases : (size from to : ℕ)
    → ((offset size from to ≡ 0) × (lap size from to ≡ size)) ⊎ ((1 ≤ offset size from to) × (lap size from to ≡ offset size from to))
unfolding lap
lap_cases size from to =
    elim (ℕ_discrete (offset size from to) 0) [
      | yes e ↦ inl (e, rw (eq-eqb (offset size from to) 0 e))
      | no e ↦ inr (omega arith, rw (ne_eqb (offset size from to) 0 e))
    ]

pub lap_most : (size from to : ℕ) → from < size → to < size → lap size from to ≤ size
lap_most size from to f t =
    elim (lap_cases size from to) [ inl h ↦ omega arith | inr h ↦ omega (arith, offset_below size from to f t) ]

-- a lap is 1 after the start, and one more with each place until the start is met again
pub lap_first : (size from : ℕ) → from < size → lap size from (next size from) ≡ 1
lap_first size from f =
    let same = offset_same size from f in
    elim (offset_next size from from f f) [
      | inl h ↦ elim (lap_cases size from (next size from)) [ inl k ↦ absurd (omega arith) | inr k ↦ omega arith ]
      | inr h ↦ elim (lap_cases size from (next size from)) [ inl k ↦ omega arith | inr k ↦ absurd (omega arith) ]
    ]

pub lap_next : (size from at : ℕ) → from < size → at < size → (at ≡ from → ⊥) → lap size from (next size at) ≡ lap size from at + 1
lap_next size from at f l ne =
    let other : offset size from at ≢ 0 = λ e. ne (sym (offset_zero size from at f l e)) in
    elim (lap_cases size from at) [
      | inl m ↦ absurd (omega arith)
      | inr m ↦ elim (offset_next size from at f l) [
        | inl h ↦ elim (lap_cases size from (next size at)) [ inl k ↦ absurd (omega arith) | inr k ↦ omega arith ]
        | inr h ↦ elim (lap_cases size from (next size at)) [ inl k ↦ omega arith | inr k ↦ absurd (omega arith) ]
      ]
    ]

pub lap_whole : (size at : ℕ) → at < size → lap size at at ≡ size
lap_whole size at l =
    elim (lap_cases size at at) [ inl h ↦ h.1 | inr h ↦ absurd (omega (arith, offset_same size at l)) ]
