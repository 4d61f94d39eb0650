-- The link register that feeds an input of a router (01, State memory: W before N).
use Rattle.std.specs.Prelude.{ℕ}
use Rattle.place.specs.Place.{Place, W, N}
use Rattle.place.specs.declared.Input.{Input}
use Rattle.place.specs.declared.Input.TheVariants.{West, North}

-- of the router in column x and row y
abbrev pub place_of : Input → (x y : ℕ) → Place
place_of West x y = W x y
place_of North x y = N x y
