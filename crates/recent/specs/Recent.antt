-- A flow's recent flights, and the record that tells of them (02, U1). Rests on lists alone.
use Rattle.std.specs.Prelude.{cond, List, [], ◌∷◌, ◌++◌, ℕ, ◌-◌, max, ltb, length, take, drop, replicate}
use Rattle.recent.specs.declared.Recent.{Recent}

-- L is 1 to 16, so a record has sixteen places for flights and sixteen for deflections
abbrev pub most_kept : ℕ
most_kept = 16

-- the last n entries of a list, or all where it has no more
abbrev pub last_of : (n : ℕ) → List ℕ → List ℕ
last_of n l = drop (length l - n) l

-- the largest entry; 0 of none
unfoldable pub largest : List ℕ → ℕ
largest [] = 0
largest (x ∷ l) = max x (largest l)

-- the kept ones stand oldest first, zeros behind
unfoldable pub laid_out : List ℕ → List ℕ
laid_out l = l ++ replicate (most_kept - length l) 0

-- the record of these kept ones tells how many it holds, the longest flight and the most deflections among them
unfoldable pub telling : (flights deflections : List ℕ) → Recent
telling flights deflections =
    record {
      held = length flights;
      longest = largest flights;
      most = largest deflections;
      flights = laid_out flights;
      deflections = laid_out deflections;
    }

-- a record that says it holds more than L is taken as empty
abbrev pub held_by : (last held : ℕ) → ℕ
held_by last held = cond {A = ℕ} (ltb last held) 0 held

-- the last L, where one more comes after those held: the oldest goes when L are held
unfoldable pub one_more : (last held : ℕ) → (kept : List ℕ) → (x : ℕ) → List ℕ
one_more last held kept x = last_of last (take held kept ++ (x ∷ []))

-- a flow's record after a delivery with this flight and D
unfoldable pub with_delivery : (last flight D : ℕ) → Recent → Recent
with_delivery last flight D r =
    let held = held_by last r.held in
    telling (one_more last held r.flights flight) (one_more last held r.deflections D)

-- a record of nothing
abbrev pub no_record : Recent
no_record = record { held = 0; longest = 0; most = 0; flights = replicate most_kept 0; deflections = replicate most_kept 0 }
