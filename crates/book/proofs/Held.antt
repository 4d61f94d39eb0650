-- The line in a register, and what its router sees of it. Rests on specs/Cycle.
use mathlib.Core.Bool.{true}
use mathlib.Core.List.Memᴰ.{head as here}
use mathlib.Core.List.{List, [], ◌∷◌, Memᴰ as Mem}
use mathlib.Core.Option.{Option, none, some, none-ne-some}
use mathlib.Core.Path.{◌≡◌, refl, sym, ap, subst}
use Prim.Native.Nat.{◌≤◌}
use Rattle.laws.specs.Count.{count}
use Rattle.laws.proofs.Keep.{kept, keep_one}
use Rattle.flow.specs.declared.Flow.{Flow}
use Rattle.flow.specs.Plan.{Plan, flow_at}
use Rattle.place.specs.Place.{Place}
use Rattle.book.specs.Line.{Line, stands_in}
use Rattle.book.specs.Book.{Book}
use Rattle.book.specs.Cycle.{lines_in, first_flow, holds}

-- no two lines share a place
abbrev pub Apart : Book → Type 0
Apart b = (at : Place) → count (λ (l : Line). stands_in at l.stage) b.lines ≤ 1

module _ (p : Plan) (b : Book) (at : Place) where
  -- who stands in a register: nobody, or a line of the flow that its router sees
  pub data Holder : Option Flow → Type 0 where
    no_line : lines_in b at ≡ [] → Holder none
    line_in : (l : Line) → Mem l b.lines → stands_in at l.stage ≡ true → Holder (some (flow_at p l.flow))

  pub held : Holder (holds p b at)
  unfolding holds
  held = pick (lines_in b at) refl
    where
      pick : (ls : List Line) → lines_in b at ≡ ls → Holder (first_flow p ls)
      pick [] e = no_line e
      pick (l ∷ ls) e =
          let k = kept (λ (z : Line). stands_in at z.stage) b.lines (subst (λ (zs : List Line). Mem l zs) (sym e) (here refl)) in
          line_in l k.0 k.1

  -- the line of a flow that its router sees
  pub held_line : (g : Flow) → holds p b at ≡ some g → (z : Line) × Mem z b.lines × (stands_in at z.stage ≡ true) × (flow_at p z.flow ≡ g)
  held_line g e = pick held e
    where
      pick : {o : Option Flow} → Holder o → o ≡ some g → (z : Line) × Mem z b.lines × (stands_in at z.stage ≡ true) × (flow_at p z.flow ≡ g)
      pick (no_line n) h = absurd (none-ne-some g h)
      pick (line_in l m s) h = (l, m, s, cc)

  -- of lines apart, a line that stands there is the one
  module _ (apart : Apart b) (l : Line) (m : Mem l b.lines) (s : stands_in at l.stage ≡ true) where
    pub lines_own : lines_in b at ≡ l ∷ []
    lines_own = keep_one (λ (z : Line). stands_in at z.stage) b.lines (apart at) l m s

    pub holds_own : holds p b at ≡ some (flow_at p l.flow)
    unfolding holds
    holds_own = ap (first_flow p) lines_own
