-- `with_room`: by the size of the torus, each with room for its routers. Rests on Next.
use mathlib.Core.Path.{refl}
use native.Mathlib.Omega.{arith}
use Rattle.state.specs.Inner.{most_routers}
use Rattle.cycle.proofs.Facts.{cells_most}
use Rattle.step.proofs.Next.{room_for, ran_in}
use Rattle.step.proofs.with_room.Goals as goal

pub f-requires : goal.f-requires
f-requires g c = c.requires.callable _ _ _ _ refl refl (room_for _ 16 c.if-routers-le16.true)

pub f-requires-then-routers-le64 : goal.f-requires-then-routers-le64
f-requires-then-routers-le64 g c = c.requires.callable _ _ _ _ refl refl (room_for _ 64 (omega (arith, c.if-routers-le64.true)))

pub f-requires-else-routers-le64 : goal.f-requires-else-routers-le64
f-requires-else-routers-le64 g c = c.requires.callable _ _ _ _ refl refl (room_for _ most_routers (cells_most _ c.requires.facts))

pub returns-then-routers-le16 : goal.returns-then-routers-le16
returns-then-routers-le16 g c = ran_in _ _ _ _ _ _ _ _ _ _ (room_for _ 16 c.if-routers-le16.true) c.f.ensures

pub returns-then-routers-le64 : goal.returns-then-routers-le64
returns-then-routers-le64 g c = ran_in _ _ _ _ _ _ _ _ _ _ (room_for _ 64 (omega (arith, c.if-routers-le64.true))) c.f-then-routers-le64.ensures

pub returns-else-routers-le64 : goal.returns-else-routers-le64
returns-else-routers-le64 g c = ran_in _ _ _ _ _ _ _ _ _ _ (room_for _ most_routers (cells_most _ c.requires.facts)) c.f-else-routers-le64.ensures
