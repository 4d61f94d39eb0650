-- Where a flow g passes the source of f: after a fixed travel K, within the spread J of 01's windows, past a point of its way.
-- Rests on Path; the spread is that of the windows' conflict.
use mathlib.Core.Bool.{Bool, true, false, cond, ◌&&◌, and-false}
use mathlib.Core.Logic.{inl, inr}
use mathlib.Core.Path.{◌≡◌}
use Prim.Native.Nat.{ℕ, suc, ◌+◌, ◌-◌, ◌*◌, ◌≤◌, ◌<◌}
use native.Mathlib.Omega.{arith}
use borrow.Author.Tests.{lt-ltb, le-ltb, le-leb, ltb-true, leb-true}
use lib.Dec.{ltb, leb, eqb}
use Rattle.laws.proofs.Cases.{test, and_true}
use Rattle.torus.specs.Axis.{lap}
use Rattle.flow.specs.declared.Flow.{Flow}
use Rattle.flow.specs.declared.Port.{Port}
use Rattle.flow.specs.declared.Port.TheVariants.{East, South}
use Rattle.flow.specs.Offsets.{ΔX, ΔY, port_of, same_client}
use Rattle.flow.specs.Plan.{Plan}
use Rattle.turning.specs.Turning.{is_turning}
use Rattle.conflict.specs.Conflict.{Conflict}
use Rattle.std.specs.Prelude.{Some, None}
use Rattle.conflict.specs.Conflict.{rows_to, columns_to, laps, conflict_east, conflict_south, conflict_by, conflict}

-- g never meets f, or after K cycles and at most J more, when its progress is past the point
pub data Meeting : Type 0 where
  never : Meeting
  meets : (K J point : ℕ) → Meeting

-- a lap for each row turning for g among the first r rows of its way
abbrev pub laps_of : Plan → Flow → ℕ → ℕ
laps_of p g r = laps p.sx p.sy (is_turning p g.xd) g r

-- f's port is E: g is in f's row first, or comes to it later
abbrev pub meeting_east : Plan → Flow → Flow → Meeting
meeting_east p f g =
    let r : ℕ = rows_to p.sy f g in
    let j : ℕ = columns_to p.sx f g in
    let k : ℕ = lap p.sx g.xd f.xs in
    cond (eqb r 0)
    (cond (leb 1 j && leb j (ΔX p.sx g)) (meets j 0 j) never)
    (cond (leb r (ΔY p.sy g) && is_turning p g.xd f.ys) (meets (ΔX p.sx g + r + k) (laps_of p g (r - 1)) (r * suc p.sx + k)) never)

-- f's port is S: g comes down f's column
abbrev pub meeting_south : Plan → Flow → Flow → Meeting
meeting_south p f g =
    let r : ℕ = rows_to p.sy f g in
    cond (eqb g.xd f.xs && leb r (ΔY p.sy g)) (meets (ΔX p.sx g + r) (laps_of p g r) (r * suc p.sx + p.sx)) never

abbrev pub meeting_at : Plan → Flow → Flow → Port → Meeting
meeting_at p f g East = meeting_east p f g
meeting_at p f g South = meeting_south p f g

-- flows of one client meet at their entry
unfoldable pub meeting : Plan → Flow → Flow → Meeting
meeting p f g = cond (same_client f g) (meets 0 0 0) (meeting_at p f g (port_of p.sx f))

abbrev pub spread_of : Meeting → Conflict
spread_of never = None
spread_of (meets K J point) = Some J

-- the spread is the conflict's
pub meeting_conflict : (p : Plan) (f g : Flow) → spread_of (meeting p f g) ≡ conflict p f g
unfolding meeting conflict conflict_by conflict_east conflict_south
meeting_conflict p f g =
    elim (test (same_client f g)) [
      | inl same ↦ rw same
      | inr other ↦ elim (test (ltb 0 (ΔX p.sx f))) [
        | inl east ↦ elim (test (eqb (rows_to p.sy f g) 0)) [
          | inl row ↦ elim (test (leb 1 (columns_to p.sx f g) && leb (columns_to p.sx f g) (ΔX p.sx g))) [
            | inl t ↦ rw (other, east, row, t)
            | inr t ↦ rw (other, east, row, t)
          ]
          | inr row ↦ elim (test (leb (rows_to p.sy f g) (ΔY p.sy g) && is_turning p g.xd f.ys)) [
            | inl t ↦ rw (other, east, row, t)
            | inr t ↦ rw (other, east, row, t)
          ]
        ]
        | inr south ↦ elim (test (eqb g.xd f.xs && leb (rows_to p.sy f g) (ΔY p.sy g))) [
          | inl t ↦ rw (other, south, t)
          | inr t ↦ rw (other, south, t)
        ]
      ]
    ]

-- a packet with entry e and progress n has passed by clock c, not before cycle s
abbrev pub passed_by : Meeting → (s c e n : ℕ) → Bool
passed_by never s c e n = false
passed_by (meets K J point) s c e n = leb s (e + K + J) && ltb (e + K) c && ltb point n

pub passed_yes : (K J point s c e n : ℕ) → s ≤ e + K + J → e + K < c → point < n → passed_by (meets K J point) s c e n ≡ true
passed_yes K J point s c e n h k l = rw (le-leb s (e + K + J) h, lt-ltb (e + K) c k, lt-ltb point n l)

pub passed_no : (K J point s c e n : ℕ) → n ≤ point → passed_by (meets K J point) s c e n ≡ false
passed_no K J point s c e n l = rw (le-ltb point n l) (and-false (leb s (e + K + J) && ltb (e + K) c))

pub passed_parts : (K J point s c e n : ℕ) → passed_by (meets K J point) s c e n ≡ true → (s ≤ e + K + J) × (e + K < c) × (point < n)
passed_parts K J point s c e n h =
    let a = and_true _ _ h in
    let b = and_true _ _ a.0 in
    (leb-true s (e + K + J) b.0, ltb-true (e + K) c b.1, ltb-true point n a.1)

-- who has passed stays so, as the clock and the progress rise
pub passed_stays : (m : Meeting) (s c c' e n n' : ℕ) → c ≤ c' → n ≤ n' → passed_by m s c e n ≡ true → passed_by m s c' e n' ≡ true
passed_stays never s c c' e n n' h k t = t
passed_stays (meets K J point) s c c' e n n' h k t =
    let l = passed_parts K J point s c e n t in
    passed_yes K J point s c' e n' l.0 (omega arith) (omega arith)
